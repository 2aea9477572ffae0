-- What an opening brings of the rows that a database shows.
use Rattle.std.specs.Prelude.{◌≡◌, ◌⊎◌, ℕ, suc, ℤ, pos, ◌+ℤ◌, List, [], ◌∷◌, ◌++◌, Ok, IsTrue, codes}
use Rattle.engine.specs.Views.{EntryView, WriteView}
use Rattle.engine_sqlite.specs.Ledger.{HoldsLedger}
use Rattle.engine_sqlite.specs.Spelled.{SpellsWrites}
use Rattle.engine_sqlite.specs.Table.{ledger_schema, no_schema}
use Rattle.sqlite.specs.Effect.{IsDatabase}
use Rattle.sqlite.specs.Held.{Held, state}
use Rattle.sqlite.specs.Order.{Row, column}
use Rattle.sqlite.specs.State.{State, Executes, HasCleanDisk, KeepsCommit, QueriesRow, Shown, Survives}
use Rattle.sqlite.specs.Store.{Ghosts}
use Rattle.sqlite.specs.Values.{or_null}
use Rattle.sqlite_value.specs.declared.value.Value.TheVariants.{Int, Text, Blob}

-- the text that makes the table of entries
abbrev pub table_text : List ℕ
table_text = codes "CREATE TABLE entry (number INTEGER PRIMARY KEY, opening INTEGER NOT NULL, connection INTEGER NOT NULL, ordinal INTEGER NOT NULL, token TEXT UNIQUE, writes BLOB NOT NULL) STRICT"

-- the text by which the rows are read
abbrev pub entries_text : List ℕ
entries_text = codes "SELECT number, opening, connection, ordinal, token, writes FROM entry ORDER BY number"

-- the text by which the last opening that added an entry is read
abbrev pub opening_text : List ℕ
opening_text = codes "SELECT coalesce(max(opening), 0) FROM entry"

-- the row that is shown has bytes that spell the writes
abbrev pub HasWrites : List WriteView → Row → Type 0
HasWrites ws shown = (bytes : List ℕ) × SpellsWrites ws bytes × (column shown 5 ≡ Blob bytes)

-- the row that is shown is this entry, of this number
pub record IsShownAs (number : ℕ) (e : EntryView) (shown : Row) : Type 0 where
  pub number_is : column shown 0 ≡ Int (pos number)
  pub conn_is : column shown 2 ≡ Int (pos e.conn)
  pub ordinal_is : column shown 3 ≡ Int (pos e.ordinal)
  pub token_is : column shown 4 ≡ or_null Text e.token
  pub writes : HasWrites e.writes shown

-- the rows that are shown are these entries, numbered from here on
abbrev pub AreShownAs : ℕ → List EntryView → List Row → Type 0
AreShownAs n [] [] = Unit {0}
AreShownAs n (e ∷ es) (row ∷ rows) = IsShownAs n e row × AreShownAs (suc n) es rows
AreShownAs n _ _ = ⊥

-- the row's entry was added
abbrev pub TakesRow : ℕ → Row → List EntryView → List EntryView → Type 0
TakesRow number row old new = (e : EntryView) × IsShownAs number e row × (new ≡ old ++ e ∷ [])

-- the entries are the rows that the database shows, each of them, in order
pub record Brings (old new : State) (es : List EntryView) : Type 0 where
  pub rows : List Row
  pub shown : Shown entries_text [] old new rows
  pub each : AreShownAs 1 es rows

-- the opening's number is one more than the last that the database shows
pub record Numbers (old new : State) (opening : ℤ) : Type 0 where
  pub answer : Row
  pub last : ℤ
  pub shown : QueriesRow opening_text [] old new (Ok answer)
  pub last_is : column answer 0 ≡ Int last
  pub next : opening ≡ last +ℤ pos 1

-- The database was made ready: it had the table of entries and nothing else, and is as it was, or it had nothing, and that table was made. A ledger that was
-- committed is there.
pub record IsReady {S : Type 0} (g : Ghosts S) (first made : Held S) : Type 0 where
  pub schema : (state g made).now.schema ≡ ledger_schema
  pub sound : IsTrue (state g made).is_open → IsDatabase (state g made).now
  pub settled : IsTrue (state g made).is_open → (state g made).now ≡ (state g made).committed
  pub created : (made ≡ first) ⊎ (((state g first).now.schema ≡ no_schema) × (count : ℕ) × Executes table_text [] (state g first) (state g made) (Ok count))
  pub finds : IsTrue (state g made).is_open → (es : List EntryView) → HoldsLedger (state g first).committed.trees es → HoldsLedger (state g made).now.trees es

-- from the one connection to the other the database was made ready, its rows were read as these entries, and the opening was numbered
pub record IsOpenedFrom {S : Type 0} (g : Ghosts S) (first last : Held S) (es : List EntryView) (opening : ℤ) : Type 0 where
  pub made : Held S
  pub read : Held S
  pub ready : IsReady g first made
  pub brings : Brings (state g made) (state g read) es
  pub numbered : Numbers (state g read) (state g last) opening

-- nothing was committed, and a crash leaves what it could leave before
pub record IsLeft (old new : State) : Type 0 where
  pub keeps : HasCleanDisk new → KeepsCommit old new
  pub survives : Survives old new (λ _. ⊥)
