-- Turns of several connections, one after the other.
use Rattle.std.specs.Prelude.{◌≡◌, ◌==◌, ℕ, if◌then◌else◌, List, [], ◌∷◌, ◌++◌, Result}
use Rattle.std.specs.Io.KnownBytes.{Appends}
use Rattle.engine.specs.declared.answer.Mode.{Mode as QueryMode}
use Rattle.engine.specs.Views.{WriteView, ParameterView, EntryView, AnswerView, QueryFault}
use Rattle.engine.specs.Welcomes.{Welcome}
use Rattle.server.specs.Serving.{Rest}
use Rattle.server.specs.Running.{Event, opens, after_event}
use Rattle.server.specs.Past.{bytes_taken}
use Rattle.server_event_loop.specs.Peers.{Wire}
use Rattle.server_event_loop.specs.Moving.{Held, End, Moves, bytes_given}
use Rattle.server_event_loop.specs.Views.{new_held}

-- what is held of each connection, once this is held of one
abbrev pub holding : (ℕ → Held) → Held → ℕ → Held
holding held h k = if k == h.conn then h else held k

module _ {G : Type 0} (answer : List EntryView → List WriteView → List ℕ → List ParameterView
    → QueryMode → Result AnswerView QueryFault) (welcomes : G → Welcome) where
  -- From a server on, and from what had come and gone before: sessions were opened, and moves of any connections made, one after the
  -- other. These are the calls, the server after them, what is held of each connection, and what came and went of it by then.
  pub data Turns (r : Rest G) (before : ℕ → Wire) : List Event → Rest G → (ℕ → Held) → (ℕ → Wire)
      → Type 0 where
    begins : Turns r before [] r new_held before
    then_opens :
        {calls : List Event} {s : Rest G} {held : ℕ → Held} {after : ℕ → Wire}
        → Turns r before calls s held after
        → Turns r before (calls ++ opens ∷ []) (after_event answer welcomes opens s) held after
    then_moves :
        {calls : List Event} {s t : Rest G} {held : ℕ → Held} {mid after : ℕ → Wire} {most asks : ℕ}
        {ends : List End} {new : Held} (conn : ℕ) → Turns r before calls s held mid
        → (p : Moves answer welcomes most asks ends s t (held conn) new mid after)
        → Turns r before (calls ++ p.calls) t (holding held new) after

  -- Of a connection, over these calls: what its session took is what was read, in order, but for what is held; and what was written is what the
  -- session gave out, in order, but for what is held.
  pub record Along (conn : ℕ) (calls : List Event) (r : Rest G) (h : Held) (before after : Wire)
      : Type 0 where
    pub read : List ℕ
    pub sent : List ℕ
    pub heard : Appends before.heard after.heard read
    pub told : Appends before.told after.told sent
    pub fed : read ≡ bytes_taken answer welcomes conn calls r ++ h.unfed
    pub given : bytes_given answer welcomes conn calls r ≡ sent ++ h.going
