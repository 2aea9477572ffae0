-- What a database has of a ledger, and what a crash leaves of it.
use Rattle.std.specs.Prelude.{◌≡◌, ◌⊎◌, ℕ, suc, ℤ, pos, List, [], ◌∷◌, IsPermutation, IsTrue}
use Rattle.engine.specs.Views.{EntryView}
use Rattle.engine_sqlite.specs.Spelled.{SpellsWrites}
use Rattle.engine_sqlite.specs.Table.{ledger_schema, row_of}
use Rattle.sqlite.specs.Order.{Row}
use Rattle.sqlite_catalog.specs.Listing.{IsSound}
use Rattle.sqlite.specs.State.{State, HasCleanDisk}
use Rattle.sqlite.specs.Tree.{Trees}

-- the row is this entry, of this number: of some opening, and with bytes that spell its writes
pub record IsRowOf (number : ℕ) (e : EntryView) (row : Row) : Type 0 where
  pub opening : ℤ
  pub bytes : List ℕ
  pub spelled : SpellsWrites e.writes bytes
  pub is : row ≡ row_of (pos number) opening (pos e.conn) (pos e.ordinal) e.token bytes

-- the rows are these entries, numbered from here on
abbrev pub AreRowsOf : ℕ → List EntryView → List Row → Type 0
AreRowsOf n [] [] = Unit {0}
AreRowsOf n (e ∷ es) (row ∷ rows) = IsRowOf n e row × AreRowsOf (suc n) es rows
AreRowsOf n _ _ = ⊥

-- The trees are a database with the table of entries and nothing else. That table, whose rows have no order, has a row for each of these, numbered from 1,
-- and no other.
pub record HoldsLedger (trees : Trees) (es : List EntryView) : Type 0 where
  pub sound : IsSound ledger_schema trees
  pub rows : List Row
  pub same : IsPermutation (trees 0) rows
  pub each : AreRowsOf 1 es rows

-- While it is open, the database has the table of entries and nothing else, and in it these entries. Nothing is said of one whose disk has told a lie.
pub record HasLedger (s : State) (es : List EntryView) : Type 0 where
  pub schema : HasCleanDisk s → IsTrue s.is_open → s.now.schema ≡ ledger_schema
  pub rows : HasCleanDisk s → IsTrue s.is_open → HoldsLedger s.now.trees es

-- whatever crash comes now, an open finds these entries
abbrev pub LeavesLedger : State → List EntryView → Type 0
LeavesLedger s es = HasCleanDisk s → (db : Trees) → s.may_leave db → HoldsLedger db es

-- whatever crash comes now, an open finds the ones or the others
abbrev pub LeavesEither : State → List EntryView → List EntryView → Type 0
LeavesEither s es others = HasCleanDisk s → (db : Trees) → s.may_leave db → HoldsLedger db es ⊎ HoldsLedger db others

-- the database has these entries, and so has what any crash leaves of it
pub record Lasts (s : State) (es : List EntryView) : Type 0 where
  pub has : HasLedger s es
  pub left : LeavesLedger s es

-- A table of entries is that of one ledger alone.
abbrev pub HasOneLedger : Type 0
HasOneLedger = (trees : Trees) (es others : List EntryView) → HoldsLedger trees es → HoldsLedger trees others → es ≡ others
