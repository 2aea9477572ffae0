-- What a step of a world answers, and what it leaves.
use Rattle.std.specs.Prelude.{◌≡◌, ◌⊎◌, List, Result, Ok, Err, IsOk, IsErr, [], ◌∷◌, slice_get}
use Rattle.engine.specs.Views.{EntryView}
use Rattle.server_session.specs.Session.{Setting}
use Rattle.world.specs.declared.kinds.Refused.{Refused}
use Rattle.world.specs.declared.kinds.Refused.TheVariants.{NoSuchConnection, WrongPeer, SessionsFull, Memory}
use Rattle.world.specs.World.{World, Event, ToClient, Cut, ClientLost, Seen, V1, V2, V3, step, WStep, taken_out, Reached}
use Rattle.world.specs.Good.{AllGood}

-- A cut and a client's loss take no memory, and nothing else that is refused does.
abbrev pub MayLack : Setting → World → Event → Type 0
MayLack S w (Cut c) = ⊥
MayLack S w (ClientLost c) = ⊥
MayLack S w e = IsOk (step S w e)

-- what want of memory leaves: the world as it was, though a ToClient may have taken bytes out
abbrev pub Leaves : World → Event → World → Type 0
Leaves w (ToClient c n) w2 = (w2 ≡ w) ⊎ (w2 ≡ taken_out w c n (slice_get w.conns c))
Leaves w e w2 = w2 ≡ w

-- a step that is done, and what is fitted then
pub record Succeeds (S : Setting) (w : World) (e : Event) (seen : Seen) (Now : World → Type 0)
    : Type 0 where
  -- the world that it leads to
  pub after : World
  pub steps : WStep S w e seen after
  pub good : AllGood S after
  pub now : Now after

-- a step that lacks memory, and what is fitted then
pub record Lacks (S : Setting) (w : World) (e : Event) (Now : World → Type 0) : Type 0 where
  pub may : MayLack S w e
  -- the world that it leaves
  pub after : World
  pub leaves : Leaves w e after
  pub now : Now after

-- the answer of a step, if the world fitted this one; and what is fitted then
abbrev pub Answers : Setting → World → Event → Result Seen Refused → (World → Type 0) → Type 0
Answers S w e (Ok seen) Now = Succeeds S w e seen Now
Answers S w e (Err NoSuchConnection) Now = (step S w e ≡ Err V1) × Now w
Answers S w e (Err WrongPeer) Now = (step S w e ≡ Err V2) × Now w
Answers S w e (Err SessionsFull) Now = (step S w e ≡ Err V3) × Now w
Answers S w e (Err Memory) Now = Lacks S w e Now

-- `step` of an object of which Fitted tells the worlds that it fits, before and after the call
abbrev pub Steps : Setting → Event → Result Seen Refused → (World → Type 0) → (World → Type 0)
    → Type 0
Steps S e result Before After = (brought : List EntryView) (w : World) → Reached S brought w
    → Before w → Answers S w e result After

-- one event leads from one world to another, or is refused and left out
abbrev pub Follows : Setting → World → Event → World → Type 0
Follows S w e w2 = ((seen : Seen) × WStep S w e seen w2) ⊎ (IsErr (step S w e) × (w2 ≡ w))

-- events in order, of which the refused are left out, lead from one world to another
abbrev pub Replays : Setting → World → List Event → World → Type 0
Replays S w [] w3 = w3 ≡ w
Replays S w (e ∷ es) w3 = (w2 : World) × Follows S w e w2 × Replays S w2 es w3
