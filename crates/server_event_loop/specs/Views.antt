-- What contracts see of a connection's bytes.
use Rattle.std.specs.Prelude.{◌≡◌, ◌≢◌, ◌+◌, ◌≤◌, ℕ, List, [], ◌∷◌, ◌++◌, drop, take, length, Result}
use Rattle.std.specs.Io.KnownBytes.{Appends}
use Rattle.engine.specs.declared.answer.Mode.{Mode as QueryMode}
use Rattle.engine.specs.Views.{WriteView, ParameterView, EntryView, AnswerView, QueryFault}
use Rattle.engine.specs.Welcomes.{Welcome}
use Rattle.server.specs.Serving.{Rest}
use Rattle.server_event_loop.specs.declared.line.Line.{Line}
use Rattle.server_event_loop.specs.declared.line.Parting.{Parting}
use Rattle.server_event_loop.specs.declared.line.Parting.TheVariants.{Whole, Cut}
use Rattle.server_event_loop.specs.declared.seat.Seat.{Seat}
use Rattle.server_event_loop.specs.declared.closing.Closing.{Closing}
use Rattle.server_event_loop.specs.Peers.{Wire}
use Rattle.server_event_loop.specs.Moving.{Held, Moves}

-- what is held of a connection of which nothing has come
abbrev pub new_held : ℕ → Held
new_held conn = record { conn = conn; unfed = []; going = [] }

-- what a line holds
abbrev pub held_of : Line → Held
held_of l = record {
  conn = l.conn;
  unfed = drop l.fed (take l.read l.piece.items);
  going = l.going;
}

-- what is held of a connection whose session lives
abbrev pub seat_held : Seat → Held
seat_held s = held_of s.line

-- what is owed to the peer of a session that was given up
abbrev pub owed_of : Closing → List ℕ
owed_of c = c.going ++ c.behind

-- what is held once this is going
abbrev pub with_going : List ℕ → Held → Held
with_going going h = record { conn = h.conn; unfed = h.unfed; going = going }

module _ {G : Type 0} (answer : List EntryView → List WriteView → List ℕ → List ParameterView
    → QueryMode → Result AnswerView QueryFault) (welcomes : G → Welcome) where
  -- The session was given up, at the end of a move, and its end had this cause: all that it had said was taken out before, and is owed to its
  -- peer behind what was going; or some of it is gone.
  abbrev pub Parts : Parting → Rest G → Rest G → Held → List ℕ → (ℕ → Wire) → Type 0
  Parts (Whole cause) r s held owed w =
      Moves answer welcomes 2 0 (record { cause = cause; unsaid = [] } ∷ []) r s held
      (with_going owed held) w w
  Parts (Cut cause) r s held owed w =
      (x : ℕ) × (xs : List ℕ)
      × Moves answer welcomes 2 0 (record { cause = cause; unsaid = x ∷ xs } ∷ []) r s held
      (with_going owed held) w w

-- Bytes of a connection whose session was given up: of what is owed a front was sent; what came was dropped and counted. It was read or
-- written once at most, and no byte of another moved.
pub record Lingers (old new : Closing) (before after : ℕ → Wire) : Type 0 where
  pub dropped : List ℕ
  pub sent : List ℕ
  pub heard : Appends (before old.conn).heard (after old.conn).heard dropped
  pub told : Appends (before old.conn).told (after old.conn).told sent
  pub asked : (after old.conn).asked ≤ (before old.conn).asked + 1
  pub counted : new.drained ≡ old.drained + length dropped
  pub given : owed_of old ≡ sent ++ owed_of new
  pub same : new.conn ≡ old.conn
  pub others : (k : ℕ) → k ≢ old.conn → after k ≡ before k
