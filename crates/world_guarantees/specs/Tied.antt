-- An attempt as its caller sees it, and the connection of a world that it is.
use Rattle.std.specs.Prelude.{◌≡◌, ℕ, ◌<◌, true, Some, List, [], ◌∷◌, length, slice_get}
use Rattle.messages.specs.View.{RequestView}
use Rattle.engine.specs.Views.{EntryView}
use Rattle.engine.specs.Tokens.{under_token}
use Rattle.client.specs.declared.Outcome.{Outcome}
use Rattle.server_session.specs.Session.{Setting}
use Rattle.world.specs.Connections.{Ours, Connection, bytes_delivered}
use Rattle.world.specs.World.{World, Event, Seen, WStep, ledger, Reached}
use Rattle.world.specs.Good.{Each, outcome, change}
use Rattle.client_tracking.specs.Telling.{adds_nothing}
use Rattle.client_tracking.specs.Attempts.{Attempt, told_of}
use Rattle.world_guarantees.specs.Attempts.{BeginsUnder, OthersStand}

-- The connection with this number in the world is the attempt. Its client is one of this library, and it has the attempt's wish. It submitted the
-- same requests and took the same bytes, and it is lost if the attempt's client is.
pub record IsAt (w : World) (c : ℕ) (k : Connection) (a : Attempt) : Type 0 where
  pub here : slice_get w.conns c ≡ Some k
  pub ours : k.peer ≡ Ours a.wish
  pub sent : k.sent ≡ a.sent
  pub took : bytes_delivered k ≡ a.took
  pub lost : k.client_lost ≡ a.lost

-- If an attempt reports an outcome for a request, its connection has this outcome for it.
abbrev pub TellsOutcomes : Type 0
TellsOutcomes =
    (S : Setting) (brought : List EntryView) (w : World) → Reached S brought w
    → (c : ℕ) (k : Connection) (a : Attempt) → IsAt w c k a
    → (i : ℕ) (o : Outcome) → told_of a i ≡ Some o → outcome k i ≡ Some o

-- If an attempt reports Committed for its COMMIT, exactly one entry of the whole ledger has the token. The entry has the transaction's writes.
abbrev pub AttemptStands : Type 0
AttemptStands =
    (S : Setting) (brought : List EntryView) (w : World) → Reached S brought w → (t : List ℕ)
    → (c : ℕ) (k : Connection) (a : Attempt) → IsAt w c k a → BeginsUnder t a.sent
    → (i : ℕ) → slice_get a.sent i ≡ Some RequestView.Commit
    → told_of a i ≡ Some Outcome.Committed
    → under_token t (ledger w) ≡ (change S w k i).writes ∷ []

-- If an attempt reports Refused for its COMMIT, exactly one entry of the whole ledger has the token. The entry has other writes than the
-- transaction.
abbrev pub AttemptClashes : Type 0
AttemptClashes =
    (S : Setting) (brought : List EntryView) (w : World) → Reached S brought w → (t : List ℕ)
    → (c : ℕ) (k : Connection) (a : Attempt) → IsAt w c k a → BeginsUnder t a.sent
    → (i : ℕ) → slice_get a.sent i ≡ Some RequestView.Commit
    → told_of a i ≡ Some Outcome.Refused
    → OthersStand t w (change S w k i).writes

-- The attempt reports for each of its requests that it committed nothing.
abbrev pub IsRefused : Attempt → Type 0
IsRefused a = (i : ℕ) → i < length a.sent → adds_nothing (told_of a i) ≡ true

-- Such an attempt adds no entry to the ledger.
abbrev pub AttemptAddsNone : Type 0
AttemptAddsNone =
    (S : Setting) (brought : List EntryView) (w : World) → Reached S brought w
    → (c : ℕ) (k : Connection) (a : Attempt) → IsAt w c k a → IsRefused a
    → Each (λ e. e.conn ≡ c → ⊥) w.since

-- If an attempt's client is lost, the attempt is the same connection after each further event. The client sends and takes nothing more.
abbrev pub LostStays : Type 0
LostStays =
    (S : Setting) (brought : List EntryView) (w : World) → Reached S brought w
    → (c : ℕ) (k : Connection) (a : Attempt) → IsAt w c k a → a.lost ≡ true
    → (e : Event) (seen : Seen) (w2 : World) → WStep S w e seen w2
    → (k2 : Connection) × IsAt w2 c k2 a
