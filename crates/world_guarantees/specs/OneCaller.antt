-- The main law for one caller: the meaning of the fate of its attempts for the ledger.
use Rattle.std.specs.Prelude.{◌≡◌, ◌⊎◌, ◌≤◌, ℕ, false, Option, Some, None, List, [], ◌∷◌, ◌++◌, length, map, slice_get}
use Rattle.messages.specs.View.{RequestView}
use Rattle.engine.specs.Views.{EntryView}
use Rattle.engine.specs.Tokens.{under_token}
use Rattle.server_session.specs.Session.{Setting}
use Rattle.world.specs.Connections.{Connection}
use Rattle.world.specs.World.{World, ledger, Reached}
use Rattle.world.specs.Good.{Each, change}
use Rattle.client_tracking.specs.declared.Tells.{Tells}
use Rattle.client_tracking.specs.declared.Retry.{Retry}
use Rattle.client_tracking.specs.declared.Fate.{Fate}
use Rattle.client_tracking.specs.Fates.{fate_of}
use Rattle.client_tracking.specs.Attempts.{Made, tells, tells_in}
use Rattle.world_guarantees.specs.Attempts.{BeginsUnder, OthersStand}
use Rattle.world_guarantees.specs.Tied.{IsAt}

-- An attempt under the token is a connection of the world. If it reports Stands or Clash, its `commit` is the index of a COMMIT among its requests.
pub record IsMade (t : List ℕ) (w : World) (m : Made) : Type 0 where
  pub connection : Connection
  pub at : IsAt w m.conn connection m.attempt
  pub under : BeginsUnder t m.attempt.sent
  pub commits : (tells m ≡ Tells.Stands) ⊎ (tells m ≡ Tells.Clash) → slice_get m.attempt.sent m.commit ≡ Some RequestView.Commit

-- An attempt under the token, or no attempt: no connection was opened, or no request was submitted.
abbrev pub IsTry : List ℕ → World → Option Made → Type 0
IsTry t w None = Unit {0}
IsTry t w (Some m) = IsMade t w m

-- Exactly one entry of the whole ledger has the token. The entry has the writes of the last attempt's transaction.
pub record OneStands (S : Setting) (t : List ℕ) (w : World) (made : List (Option Made)) : Type 0 where
  pub before : List (Option Made)
  pub last : Made
  pub connection : Connection
  pub is_last : made ≡ before ++ Some last ∷ []
  pub here : slice_get w.conns last.conn ≡ Some connection
  pub commits : slice_get last.attempt.sent last.commit ≡ Some RequestView.Commit
  pub stands : under_token t (ledger w) ≡ (change S w connection last.commit).writes ∷ []

-- Exactly one entry of the whole ledger has the token. The entry has other writes than the last attempt's transaction. Another caller added it, or an
-- earlier attempt that read other data.
pub record OneClashes (S : Setting) (t : List ℕ) (w : World) (made : List (Option Made)) : Type 0 where
  pub before : List (Option Made)
  pub last : Made
  pub connection : Connection
  pub is_last : made ≡ before ++ Some last ∷ []
  pub here : slice_get w.conns last.conn ≡ Some connection
  pub commits : slice_get last.attempt.sent last.commit ≡ Some RequestView.Commit
  pub clashes : OthersStand t w (change S w connection last.commit).writes

-- No entry that was added since the server was made is of the attempt's connection.
abbrev pub AddsNone : World → Option Made → Type 0
AddsNone w None = Unit {0}
AddsNone w (Some m) = Each (λ e. e.conn ≡ m.conn → ⊥) w.since

-- None of the attempts added an entry.
abbrev pub NoneAdded : World → List (Option Made) → Type 0
NoneAdded w made = Each (AddsNone w) made

-- At most one entry of the whole ledger has the token.
abbrev pub AtMostOne : List ℕ → World → Type 0
AtMostOne t w = length (under_token t (ledger w)) ≤ 1

-- The meaning of each fate of these attempts for the ledger.
abbrev pub Means : Setting → List ℕ → World → List (Option Made) → Fate → Type 0
Means S t w made Fate.Stands = OneStands S t w made
Means S t w made Fate.Clash = OneClashes S t w made
Means S t w made Fate.Refused = NoneAdded w made
Means S t w made Fate.Absent = NoneAdded w made
Means S t w made Fate.Open = AtMostOne t w

-- In every reached world in which these attempts are connections, their fate means this for the ledger, under each `Retry`. Other callers may use the
-- token too.
abbrev pub OneCallerMayRely : Type 0
OneCallerMayRely =
    (S : Setting) (brought : List EntryView) (w : World) → Reached S brought w
    → (t : List ℕ) (made : List (Option Made)) → Each (IsTry t w) made
    → (again : Retry) (tries : ℕ) (f : Fate) → fate_of again false tries (map tells_in made) ≡ Some f
    → Means S t w made f
