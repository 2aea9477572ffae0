-- The meaning of a client's reports for the ledger, if it sends a transaction under a token. Other callers may use the token too.
use Rattle.std.specs.Prelude.{◌≡◌, ℕ, ◌<◌, true, Some, List, [], ◌∷◌, length, slice_get}
use Rattle.wire.specs.declared.Wish.{Wish}
use Rattle.messages.specs.View.{RequestView}
use Rattle.engine.specs.Views.{EntryView, WriteView}
use Rattle.engine.specs.Tokens.{under_token}
use Rattle.client.specs.declared.Outcome.{Outcome}
use Rattle.server_session.specs.Session.{Setting}
use Rattle.client_tracking.specs.Telling.{adds_nothing}
use Rattle.world.specs.Connections.{Ours, Connection}
use Rattle.world.specs.World.{World, ledger, Reached, WStep, Event, Seen}
use Rattle.world.specs.Good.{Each, outcome, change}

-- Each BEGIN among the requests has this token.
abbrev pub BeginsUnder : List ℕ → List RequestView → Type 0
BeginsUnder t [] = Unit {0}
BeginsUnder t (RequestView.Begin mode token ∷ qs) = (token ≡ Some t) × BeginsUnder t qs
BeginsUnder t (_ ∷ qs) = BeginsUnder t qs

-- An attempt is a connection of the world, by its number. Its client is one of this library, and it sent each BEGIN under the token.
pub record IsAttempt (t : List ℕ) (w : World) (c : ℕ) (k : Connection) : Type 0 where
  pub wish : Wish
  pub here : slice_get w.conns c ≡ Some k
  pub ours : k.peer ≡ Ours wish
  pub under : BeginsUnder t k.sent

-- Exactly one entry of the whole ledger has the token, and its writes are not these.
abbrev pub OthersStand : List ℕ → World → List WriteView → Type 0
OthersStand t w writes = (others : List WriteView) × (under_token t (ledger w) ≡ others ∷ []) × (others ≡ writes → ⊥)

-- If the client reports Committed for a COMMIT, exactly one entry of the whole ledger has the token. The entry has the writes of the transaction.
-- Another caller may have added it.
abbrev pub CommittedStands : Type 0
CommittedStands =
    (S : Setting) (brought : List EntryView) (w : World) → Reached S brought w → (t : List ℕ)
    → (c : ℕ) (k : Connection) → IsAttempt t w c k → (i : ℕ) → slice_get k.sent i ≡ Some RequestView.Commit
    → outcome k i ≡ Some Outcome.Committed
    → under_token t (ledger w) ≡ (change S w k i).writes ∷ []

-- If the client reports Refused for a COMMIT, exactly one entry of the whole ledger has the token. The entry has other writes than the transaction.
-- Another caller may have added it.
abbrev pub RefusedCommitClashes : Type 0
RefusedCommitClashes =
    (S : Setting) (brought : List EntryView) (w : World) → Reached S brought w → (t : List ℕ)
    → (c : ℕ) (k : Connection) → IsAttempt t w c k → (i : ℕ) → slice_get k.sent i ≡ Some RequestView.Commit
    → outcome k i ≡ Some Outcome.Refused
    → OthersStand t w (change S w k i).writes

-- The client reports for each request of the connection that it committed nothing.
abbrev pub NothingAdded : Connection → Type 0
NothingAdded k = (i : ℕ) → i < length k.sent → adds_nothing (outcome k i) ≡ true

-- If the client reports this of each request, no entry of the ledger is of its connection.
abbrev pub RefusedAddsNone : Type 0
RefusedAddsNone =
    (S : Setting) (brought : List EntryView) (w : World) → Reached S brought w
    → (c : ℕ) (k : Connection) (wish : Wish) → slice_get w.conns c ≡ Some k → k.peer ≡ Ours wish
    → NothingAdded k → Each (λ e. e.conn ≡ c → ⊥) w.since

-- If exactly one entry has a token, it is the only one after each further event too, with the same writes.
abbrev pub StaysKnown : Type 0
StaysKnown =
    (S : Setting) (brought : List EntryView) (w : World) → Reached S brought w
    → (e : Event) (seen : Seen) (w2 : World) → WStep S w e seen w2 → (t : List ℕ)
    → (writes : List WriteView) → under_token t (ledger w) ≡ writes ∷ [] → under_token t (ledger w2) ≡ writes ∷ []
