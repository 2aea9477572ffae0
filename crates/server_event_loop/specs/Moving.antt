-- How bytes move between the peer of a connection and its session.
use Rattle.std.specs.Prelude.{◌≡◌, ◌≢◌, ◌+◌, ◌≤◌, ℕ, ◌==◌, if◌then◌else◌, List, [], ◌∷◌, ◌++◌, length, Option, Some, None, Result}
use Rattle.std.specs.Io.KnownBytes.{Appends}
use Rattle.engine.specs.declared.answer.Mode.{Mode as QueryMode}
use Rattle.engine.specs.Views.{WriteView, ParameterView, EntryView, AnswerView, QueryFault}
use Rattle.engine.specs.Welcomes.{Welcome}
use Rattle.server_session.specs.declared.kinds.Cause.{Cause}
use Rattle.server.specs.Serving.{Live, Rest, cause_or, find, take_out_at}
use Rattle.server.specs.Running.{Event, feeds, works, takes, loses, after_event, after_events}
use Rattle.server.specs.Past.{bytes_taken}
use Rattle.server_event_loop.specs.Peers.{Wire}

-- what is held of a connection between its peer and its session
pub record Held : Type 0 where
  pub conn : ℕ
  -- read, and not fed
  pub unfed : List ℕ
  -- taken out, and not written
  pub going : List ℕ

-- how a session was given up: the cause of its end, and what it had said that wasn't taken out
pub record End : Type 0 where
  pub cause : Cause
  pub unsaid : List ℕ

-- a call on this connection, but none that opens it or puts a no-op
abbrev pub IsOn : ℕ → Event → Type 0
IsOn conn (feeds c piece) = c ≡ conn
IsOn conn (works c) = c ≡ conn
IsOn conn (takes c max) = c ≡ conn
IsOn conn (loses c) = c ≡ conn
IsOn conn _ = ⊥

-- such calls on this connection alone
abbrev pub AreOn : ℕ → List Event → Type 0
AreOn conn [] = Unit {0}
AreOn conn (e ∷ es) = IsOn conn e × AreOn conn es

-- the bytes that were taken out, if a session lives
abbrev pub out_of : {G : Type 0} → Option (List ℕ × Rest G) → List ℕ
out_of None = []
out_of (Some p) = p.0

-- what a call took out of a session
abbrev pub gave_by : {G : Type 0} → ℕ → Event → Rest G → List ℕ
gave_by conn (takes c max) r = if c == conn then out_of (take_out_at c max r) else []
gave_by conn _ r = []

-- how a session ends that is given up now; not at all if none lives
abbrev pub end_of : Option Live → List End
end_of None = []
end_of (Some s) = record { cause = cause_or s.kept.ended; unsaid = s.kept.unsent } ∷ []

-- how a call gave up a session
abbrev pub ends_by : {G : Type 0} → ℕ → Event → Rest G → List End
ends_by conn (loses c) r = if c == conn then end_of (find c r.sessions) else []
ends_by conn _ r = []

-- Bytes came and went, and the session wasn't called. It was read or written so often at most.
pub record Carries (asks : ℕ) (old new : Held) (before after : ℕ → Wire) : Type 0 where
  pub read : List ℕ
  pub sent : List ℕ
  pub heard : Appends (before old.conn).heard (after old.conn).heard read
  pub told : Appends (before old.conn).told (after old.conn).told sent
  pub asked : (after old.conn).asked ≤ (before old.conn).asked + asks
  pub fed : old.unfed ++ read ≡ new.unfed
  pub given : old.going ≡ sent ++ new.going
  pub same : new.conn ≡ old.conn
  pub others : (k : ℕ) → k ≢ old.conn → after k ≡ before k

module _ {G : Type 0} (answer : List EntryView → List WriteView → List ℕ → List ParameterView
    → QueryMode → Result AnswerView QueryFault) (welcomes : G → Welcome) where
  -- over a list of calls, in order: the bytes that were taken out of a session
  abbrev pub bytes_given : ℕ → List Event → Rest G → List ℕ
  bytes_given conn [] r = []
  bytes_given conn (e ∷ es) r =
      gave_by conn e r ++ bytes_given conn es (after_event answer welcomes e r)

  -- and how it was given up
  abbrev pub ends_of : ℕ → List Event → Rest G → List End
  ends_of conn [] r = []
  ends_of conn (e ∷ es) r = ends_by conn e r ++ ends_of conn es (after_event answer welcomes e r)

  -- A move: the server stands as some calls on one connection leave it, so many at most, by which its session was given up so. What the peer
  -- sent has been taken by the session, in order, but for what is held; what the session gave out has been sent, in order, but for what
  -- is held. The connection was read or written so often at most, and no byte of another moved.
  pub record Moves (most asks : ℕ) (ends : List End) (r s : Rest G) (old new : Held)
      (before after : ℕ → Wire) : Type 0 where
    pub calls : List Event
    pub own : AreOn old.conn calls
    pub few : length calls ≤ most
    pub ended : ends_of old.conn calls r ≡ ends
    pub reaches : after_events answer welcomes calls r ≡ s
    pub read : List ℕ
    pub sent : List ℕ
    pub heard : Appends (before old.conn).heard (after old.conn).heard read
    pub told : Appends (before old.conn).told (after old.conn).told sent
    pub asked : (after old.conn).asked ≤ (before old.conn).asked + asks
    pub fed : old.unfed ++ read ≡ bytes_taken answer welcomes old.conn calls r ++ new.unfed
    pub given : old.going ++ bytes_given old.conn calls r ≡ sent ++ new.going
    pub same : new.conn ≡ old.conn
    pub others : (k : ℕ) → k ≢ old.conn → after k ≡ before k
