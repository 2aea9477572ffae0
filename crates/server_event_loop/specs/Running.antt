-- What a server among its connections has done.
use Rattle.std.specs.Prelude.{◌≡◌, ◌+◌, ◌*◌, ◌≤◌, ℕ, List, [], ◌∷◌, ◌++◌, map, length, Option, Some, None, Result, ◌==◌, if◌then◌else◌}
use Rattle.std.specs.List.{AllByRecursion}
use Rattle.engine.specs.declared.answer.Mode.{Mode as QueryMode}
use Rattle.engine.specs.Views.{WriteView, ParameterView, EntryView, AnswerView, QueryFault}
use Rattle.engine.specs.Welcomes.{Welcome}
use Rattle.server.specs.Serving.{Rest, find}
use Rattle.server.specs.Running.{Event, loses, after_event, after_events}
use Rattle.server_event_loop.specs.declared.line.Parting.{Parting}
use Rattle.server_event_loop.specs.declared.line.Parting.TheVariants.{Whole, Cut}
use Rattle.server_event_loop.specs.declared.limits.Limits.{Limits}
use Rattle.server_event_loop.specs.Peers.{Wire}
use Rattle.server_event_loop.specs.Moving.{Held, End, end_of}
use Rattle.server_event_loop.specs.Views.{new_held, Parts}
use Rattle.server_event_loop.specs.Turning.{Turns, Along}
use Rattle.server_event_loop.specs.Standing.{At, Told, Owed, IsSeated}

-- a session that was given up: its number, and its end
pub record Gone : Type 0 where
  pub conn : ℕ
  pub end : End

-- ends that a call made, of the session with this number
abbrev pub gone_with : ℕ → List End → List Gone
gone_with conn ends = map (λ e. record { conn = conn; end = e }) ends

-- the sessions that a call gave up: one at most
abbrev pub gone_by : {G : Type 0} → Event → Rest G → List Gone
gone_by (loses conn) r = gone_with conn (end_of (find conn r.sessions))
gone_by _ r = []

-- how often the session with a number was given up
abbrev pub times_gone : ℕ → List Gone → ℕ
times_gone conn [] = 0
times_gone conn (g ∷ gs) = (if g.conn == conn then 1 else 0) + times_gone conn gs

-- An end is told as it was: with its cause, and as whole exactly if all that the session had said was taken out before.
abbrev pub Tells : Parting → End → Type 0
Tells (Whole cause) e = e ≡ record { cause = cause; unsaid = [] }
Tells (Cut cause) e = (x : ℕ) × (xs : List ℕ) × (e ≡ record { cause = cause; unsaid = x ∷ xs })

-- each is told, in order, and nothing else
abbrev pub AreTold : List Told → List Gone → Type 0
AreTold [] [] = Unit {0}
AreTold (t ∷ ts) (g ∷ gs) = (t.conn ≡ g.conn) × Tells t.parting g.end × AreTold ts gs
AreTold _ _ = ⊥

-- more was told, if that is known
abbrev pub TellsMore : Option (List Told) → Option (List Told) → List Told → Type 0
TellsMore None new more = Unit {0}
TellsMore (Some xs) None more = ⊥
TellsMore (Some xs) (Some ys) more = ys ≡ xs ++ more

module _ {G : Type 0} (answer : List EntryView → List WriteView → List ℕ → List ParameterView
    → QueryMode → Result AnswerView QueryFault) (welcomes : G → Welcome) where
  -- over a list of calls, in order: the sessions that were given up
  abbrev pub gone_of : List Event → Rest G → List Gone
  gone_of [] r = []
  gone_of (e ∷ es) r = gone_by e r ++ gone_of es (after_event answer welcomes e r)

  -- From a server on, what had come and gone before, and what was told by then: by these calls, by opening sessions and by moves of their
  -- connections, it came to stand so. What is held of each connection is what those that have it hold, and each end was told.
  pub record Stands (r : Rest G) (before : ℕ → Wire) (earlier : Option (List Told))
      (calls : List Event) (a : At G) : Type 0 where
    pub held : ℕ → Held
    pub turns : Turns answer welcomes r before calls a.rest held a.wire
    pub seats : AllByRecursion (λ h. held h.conn ≡ h) a.seats
    pub closings : AllByRecursion (λ c. (held c.conn).going ≡ c.bytes) a.closings
    pub untouched : (k : ℕ) → a.rest.next ≤ k → held k ≡ new_held k
    pub made : List Told
    pub told : TellsMore earlier a.told made
    pub ends : AreTold made (gone_of calls r)

  -- From one standing to another: wherever the first was come to by some calls, the second is come to by these and so many more at most.
  pub record Leads (most : ℕ) (a b : At G) : Type 0 where
    pub seated : IsSeated a → IsSeated b
    pub from : (r : Rest G) (before : ℕ → Wire) (earlier : Option (List Told)) (calls : List Event)
        → IsSeated a → Stands r before earlier calls a
        → (more : List Event) × (length more ≤ most) × Stands r before earlier (calls ++ more) b

  -- The session of a connection was given up, and told. What is owed to its peer is the last of what is owed to any.
  pub record Ends (h : Held) (cs ds : List Owed) (r s : Rest G) (earlier later : Option (List Told))
      : Type 0 where
    pub parting : Parting
    pub owed : List ℕ
    pub parts : (w : ℕ → Wire) → Parts answer welcomes parting r s h owed w
    pub told : TellsMore earlier later (record { conn = h.conn; parting = parting } ∷ [])
    pub closings : ds ≡ cs ++ record { conn = h.conn; bytes = owed } ∷ []

  -- A run of a server with many connections, over these calls. It stands as the calls leave it. Of each connection, what its session took is
  -- what was read, in order, but for what is held; and what was written is what its session gave out, in order, but for what is held.
  -- What was told is, in order, each session that was given up, with the cause of its end.
  pub record Runs (r s : Rest G) (before after : ℕ → Wire) (earlier later : Option (List Told))
      : Type 0 where
    pub calls : List Event
    pub reaches : after_events answer welcomes calls r ≡ s
    pub held : ℕ → Held
    pub bytes : (conn : ℕ) → Along answer welcomes conn calls r (held conn) (before conn) (after conn)
    pub made : List Told
    pub told : TellsMore earlier later made
    pub ends : AreTold made (gone_of calls r)

-- the most calls of the server in a turn of a connection, with those that give its session up
abbrev pub turn_calls : Limits → ℕ
turn_calls limits = limits.reads * (limits.steps * 2) + 1 + 2

-- the most calls of the server in a round: of those that are let in, and of a turn of each
abbrev pub round_calls : Limits → ℕ
round_calls limits = 16 * 3 + 16 * turn_calls limits
