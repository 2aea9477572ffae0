-- What contracts see of an engine whose ledger is kept by a database.
use Rattle.std.specs.Prelude.{◌≡◌, ℕ, ◌+◌, ℤ, Bool, false, if◌then◌else◌, List, length, take, refl}
use Rattle.std.specs.Coded.{Coded, code_by, coded×, coded_ℕ, coded_ℤ, coded_bool}
use Rattle.sqlite.specs.Held.{Held, held_code, state}
use Rattle.sqlite.specs.Store.{Ghosts}
use Rattle.engine.specs.Views.{EntryView}
use Rattle.engine_sqlite.specs.Ledger.{HasLedger, LeavesEither}

-- the engine inside, the connection to the database, how many entries are known to be kept there, whether the engine has stopped, and the number of the opening
pub record Kept (E S : Type 0) : Type 0 where
  pub inner : E
  pub conn : Held S
  pub count : ℕ
  pub is_stopped : Bool
  pub opening : ℤ

abbrev pub kept_code : {E S : Type 0} → Coded E → Coded S → Coded (Kept E S)
kept_code {E} {S} inner store =
    code_by (E × (Held S × (ℕ × (Bool × ℤ))))
    (coded× inner (coded× (held_code store) (coded× coded_ℕ (coded× coded_bool coded_ℤ))))
    (λ l. (l.inner, (l.conn, (l.count, (l.is_stopped, l.opening)))))
    (λ p. record { inner = p.0; conn = p.1.0; count = p.1.1.0; is_stopped = p.1.1.1.0; opening = p.1.1.1.1 })
    (λ _. refl)

-- the ledger that the engine shows, by the entries of the engine inside
abbrev pub ledger_of : {E S : Type 0} → (E → List EntryView) → Kept E S → List EntryView
ledger_of entries l = take l.count (entries l.inner)

-- The database has the ledger that the engine shows. A crash leaves that or, if the engine has stopped, perhaps the one with the entry that it doesn't show.
pub record Endures {E S : Type 0} (entries : E → List EntryView) (g : Ghosts S) (l : Kept E S) : Type 0 where
  pub has : HasLedger (state g l.conn) (ledger_of entries l)
  pub left : LeavesEither (state g l.conn) (ledger_of entries l) (entries l.inner)

-- No transaction is open between two calls. The engine inside has the entries that are kept, and one more where the database failed as it was to commit. What is
-- kept endures.
pub record IsTied {E S : Type 0} (entries : E → List EntryView) (g : Ghosts S) (l : Kept E S) : Type 0 where
  pub idle : l.conn.in_transaction ≡ false
  pub counted : length (entries l.inner) ≡ (if l.is_stopped then l.count + 1 else l.count)
  pub endures : Endures entries g l
