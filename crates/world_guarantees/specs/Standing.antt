-- Facts that this library's clients may rely on, by the calls at both ends alone.
use Rattle.std.specs.Prelude.{◌≡◌, ◌⊎◌, ℕ, ◌<◌, ◌==◌, if◌then◌else◌, Option, Some, None, List, [], ◌∷◌, ◌++◌, length, slice_get}
use Rattle.wire.specs.declared.Wish.{Wish}
use Rattle.engine.specs.Views.{EntryView, Token}
use Rattle.engine.specs.Tokens.{under_token, TokensOnce}
use Rattle.engine.specs.Welcomes.{Welcome}
use Rattle.server_session.specs.Session.{Change}
use Rattle.server_session.specs.Rest.{work_kept}
use Rattle.server.specs.Serving.{Live, Rest, empty, find, setting}
use Rattle.server.specs.Running.{Event as Call, works, after_event, after_events}
use Rattle.client.specs.declared.Outcome.{Outcome}
use Rattle.client_tracking.specs.Attempts.{told_of}
use Rattle.client.specs.Verdicts.{Told}
use Rattle.world.specs.Connections.{Said}
use Rattle.world.specs.World.{said_by, IsLedger}
use Rattle.world.specs.Good.{Each, Often, ExactlyOnce, Never, AtMostOnce, often, entries, before, change_for, tellings_of}
use Rattle.world.specs.Turns.{Definition, setting_of}
use Rattle.world_guarantees.specs.Moments.{Moment, server_calls, run_of, attempt_of, ArePlayed}

-- A committed change is in the ledger exactly once. Without a token it is the one entry of its request since the server was made. With a token it is
-- the one entry of the whole ledger that has the token, and another caller may have committed it.
abbrev pub StandsOnce : ℕ → ℕ → List EntryView → List EntryView → Change → Token → Type 0
StandsOnce conn i since all its None = entries conn i since ≡ its ∷ []
StandsOnce conn i since all its (Some t) = under_token t all ≡ its.writes ∷ []

-- The change of a request is in the ledger this often: exactly once, never, or at most once. `since` are the entries since the server was made.
abbrev pub StandsSo : Often → ℕ → ℕ → List EntryView → List EntryView → Change → Type 0
StandsSo ExactlyOnce conn i since all its = StandsOnce conn i since all its its.token
StandsSo Never conn i since all its = entries conn i since ≡ []
StandsSo AtMostOnce conn i since all its =
    (entries conn i since ≡ []) ⊎ (entries conn i since ≡ its ∷ [])

-- The client reported what its session sent, except for the newest of it. Both lists have the newest first.
pub record TellsFront (said : List Said) (told : List Told) : Type 0 where
  pub later : List Said
  pub heard : List Said
  pub parts : said ≡ later ++ heard
  pub tells : told ≡ tellings_of heard

module _ {G : Type 0} (answer : Definition) (welcomes : G → Welcome) where
  -- The row or summary that a step of the session sends; none if there is no session.
  abbrev pub step_said : Option Live → Rest G → List Said
  step_said None r = []
  step_said (Some s) r =
      said_by (work_kept (setting answer welcomes r) s.conn r.ledger s.kept s.kept.ended).answer

  -- The row or summary that a call makes the session of a connection send.
  abbrev pub call_said : ℕ → Call → Rest G → List Said
  call_said conn (works c) r = if c == conn then step_said (find c r.sessions) r else []
  call_said conn _ r = []

  -- All rows and summaries that calls make it send, the newest first.
  abbrev pub all_said : ℕ → List Call → Rest G → List Said
  all_said conn [] r = []
  all_said conn (call ∷ calls) r =
      all_said conn calls (after_event answer welcomes call r) ++ call_said conn call r

  -- The change that a request of a client makes, by the summaries before its own. `all` is the ledger.
  abbrev pub change_of : G → Wish → ℕ → List Moment → Rest G → List EntryView → ℕ → Change
  change_of gate wish conn ms r all i = change_for (setting_of answer welcomes gate) all
      (slice_get (attempt_of wish conn ms).sent i) (before i (all_said conn (server_calls ms) r))

  -- The facts that the client of a connection relies on. `since` are the entries since the server was made, and `all` is the ledger.
  pub record Relies (gate : G) (wish : Wish) (conn : ℕ) (ms : List Moment) (r : Rest G)
      (since all : List EntryView) : Type 0 where
    -- The client reported exactly these rows and summaries of its session, in order, each with its meaning.
    pub told : TellsFront (all_said conn (server_calls ms) r) (run_of wish conn ms).told
    -- The change of a request is in the ledger as often as the client reports.
    pub stands : (i : ℕ) (o : Outcome) → told_of (attempt_of wish conn ms) i ≡ Some o
        → StandsSo (often (Some o)) conn i since all (change_of gate wish conn ms r all i)
    -- A request has at most one entry of its own, with its change, under a token too.
    pub own_entry : (i : ℕ)
        → StandsSo AtMostOnce conn i since all (change_of gate wish conn ms r all i)
    pub theirs : Each (λ e. e.conn ≡ conn → e.ordinal < length (attempt_of wish conn ms).sent) since

  -- The facts about the ledger after these calls.
  pub record IsTrue (gate : G) (ours : ℕ → Option Wish) (ledger : List EntryView)
      (ms : List Moment) (after : Rest G) : Type 0 where
    pub since : List EntryView
    pub grows : after.ledger ≡ ledger ++ since
    pub once : TokensOnce after.ledger
    -- Each client whose connection was opened relies on these facts.
    pub each : (conn : ℕ) (wish : Wish) → ours conn ≡ Some wish → conn < after.next
        → Relies gate wish conn ms (empty ledger gate) since after.ledger

  -- These facts hold after calls on a server and on these clients, if the server was made over a ledger.
  abbrev pub ClientsMayRely : G → (ℕ → Option Wish) → Type 0
  ClientsMayRely gate ours = (ledger : List EntryView) (ms : List Moment) → IsLedger ledger
      → ArePlayed answer welcomes ours ms (empty ledger gate)
      → IsTrue gate ours ledger ms
      (after_events answer welcomes (server_calls ms) (empty ledger gate))
