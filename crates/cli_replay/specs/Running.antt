-- What the lines of a script do to a world, one after the other, and what is noted of them.
use Rattle.std.specs.Prelude.{◌≡◌, ◌&&◌, ℕ, Bool, true, false, List, [], ◌∷◌, ◌++◌, codes, Option, Some, None, option_map, Result, Ok, Err}
use Rattle.std.specs.Str.{bytes_eq}
use Rattle.std.specs.declared.alloc.AllocError.{AllocError}
use Rattle.engine.specs.Queries.{fixed_answer}
use Rattle.engine.specs.Views.{EntryView}
use Rattle.engine.specs.Welcomes.{under_own_name}
use Rattle.server_session.specs.Session.{Setting}
use Rattle.cli_scripts.specs.Views.{LineView}
use Rattle.cli_output.specs.Telling.{refused_line}
use Rattle.world.specs.declared.kinds.Refused.{Refused}
use Rattle.world.specs.declared.kinds.Refused.TheVariants.{NoSuchConnection, WrongPeer, SessionsFull, Memory}
use Rattle.world.specs.declared.kinds.Seen.{Seen as SeenTold}
use Rattle.world.specs.declared.world.World.{World as WorldHeld}
use Rattle.world.specs.World.{World, Event, V1, V2, V3, step, WStep, Reached}
use Rattle.world.specs.Views.{seen_of}
use Rattle.world.specs.Turns.{FitsWorld}
use Rattle.cli_replay.specs.declared.steps.Step.{Step}
use Rattle.cli_replay.specs.Events.{Came, moves, code_of, repeats, event_at}

-- the one user that is let in
abbrev pub lets_in : List ℕ → List ℕ → Bool
lets_in principal credentials =
    bytes_eq principal (codes "user") && bytes_eq credentials (codes "pass")

-- over a fixed table
abbrev pub serving : Setting
serving = record { run = fixed_answer; welcome = under_own_name lets_in }

-- an event of a world: a step, or a refusal that leaves all as it was
abbrev pub Takes : Setting → World → Event → Came → World → Type 0
Takes S w e (Ok seen) w2 = WStep S w e seen w2
Takes S w e (Err refusal) w2 = (step S w e ≡ Err refusal) × (w2 ≡ w)

-- an event, once
abbrev pub Once : Setting → World → Event → Option (List ℕ) → World → Type 0
Once S w e code w2 = (a : Came) × Takes S w e a w2 × (code ≡ code_of a)

-- an event again and again, each time moving something
pub data Moves (S : Setting) (e : Event) (w : World) : World → Type 0 where
  stays : Moves S e w w
  moves_on : (w2 w3 : World) (a : Came) → Moves S e w w2 → Takes S w2 e a w3 → moves a ≡ true
      → Moves S e w w3

-- and then once more, moving nothing
pub record Repeats (S : Setting) (w : World) (e : Event) (code : Option (List ℕ)) (last : World)
    : Type 0 where
  pub before : World
  pub came : Came
  pub moved : Moves S e w before
  pub took : Takes S before e came last
  pub still : moves came ≡ false
  pub noted : code ≡ code_of came

-- an event as often as a line says
abbrev pub Done : Bool → Setting → World → Event → Option (List ℕ) → World → Type 0
Done true S w e code w2 = Repeats S w e code w2
Done false S w e code w2 = Once S w e code w2

-- a line, and the code that is noted of it, if one is
abbrev pub Does : Setting → World → LineView → Option (List ℕ) → World → Type 0
Does S w l code w2 = Done (repeats l) S w (event_at w l) code w2

-- what is printed of a line with this number
abbrev pub line_of_note : ℕ → Option (List ℕ) → List ℕ
line_of_note n None = []
line_of_note n (Some code) = refused_line n code

-- numbered lines in order, and the text of what is noted of them
pub data Runs (S : Setting) (w : World) : List (ℕ × LineView) → List ℕ → World → Type 0 where
  starts : Runs S w [] [] w
  runs_on : (lines : List (ℕ × LineView)) (text : List ℕ) (w2 w3 : World) (n : ℕ) (l : LineView)
      (code : Option (List ℕ))
      → Runs S w lines text w2 → Does S w2 l code w3
      → Runs S w (lines ++ (n, l) ∷ []) (text ++ line_of_note n code) w3

-- A world that an object fits, which was reached in this way.
pub record Leads {E G : Type 0} (entries : E → List EntryView) (S : Setting) (gate : G)
    (brought : List EntryView) (Way : World → Type 0) (s : WorldHeld E G) : Type 0 where
  pub after : World
  pub way : Way after
  pub reached : Reached S brought after
  pub fits : FitsWorld entries s gate after

-- An answer leads to a world that the object fits; for want of memory it fits some world that was reached.
abbrev pub LeadsBy : {A E G : Type 0} → (E → List EntryView) → Setting → G → List EntryView
    → (A → World → Type 0) → Result A AllocError → WorldHeld E G → Type 0
LeadsBy entries S gate brought Way (Ok x) s = Leads entries S gate brought (Way x) s
LeadsBy entries S gate brought Way (Err e) s = Leads entries S gate brought (λ w. Unit {0}) s

-- the code in a step, if one is noted
abbrev pub code_in : Step → Option (List ℕ)
code_in s = option_map (λ t. t.now) s.code

-- a step tells what an event came to: the code that is noted of it, and whether something moved
abbrev pub IsStep : Came → Step → Type 0
IsStep a s = (code_in s ≡ code_of a) × (s.goes_on ≡ moves a)

-- the same, if a world answered so
abbrev pub Settles : Result SeenTold Refused → Step → Type 0
Settles (Ok seen) s = IsStep (Ok (seen_of seen)) s
Settles (Err NoSuchConnection) s = IsStep (Err V1) s
Settles (Err WrongPeer) s = IsStep (Err V2) s
Settles (Err SessionsFull) s = IsStep (Err V3) s
Settles (Err Memory) s = ⊥

-- the same of a step that may want memory, if the world did
abbrev pub SettlesBy : Result SeenTold Refused → Result Step AllocError → Type 0
SettlesBy answer (Ok s) = Settles answer s
SettlesBy answer (Err e) = answer ≡ Err Memory

-- an event with what a step tells of it
abbrev pub Stepped : Setting → World → Event → Step → World → Type 0
Stepped S w e s w2 = (a : Came) × Takes S w e a w2 × IsStep a s
