-- The table by which a database keeps a ledger, and what the text of an entry makes of it.
use Rattle.std.specs.Prelude.{◌≡◌, ℕ, ℤ, Bool, true, false, List, [], ◌∷◌, Some, codes}
use Rattle.engine.specs.Views.{Token}
use Rattle.sqlite.specs.Collation.TheVariants.{Binary}
use Rattle.sqlite.specs.Kind.{Kind}
use Rattle.sqlite.specs.Kind.TheVariants as kind
use Rattle.sqlite.specs.Order.{Row}
use Rattle.sqlite.specs.Effect.{IsDatabase}
use Rattle.sqlite.specs.Schema.{Schema}
use Rattle.sqlite.specs.State.{State}
use Rattle.sqlite.specs.Table.{Table}
use Rattle.sqlite.specs.Tree.{put_row}
use Rattle.sqlite.specs.Values.{or_null}
use Rattle.sqlite_schema.specs.declared.schema.Column.{Column}
use Rattle.sqlite_schema.specs.declared.schema.Index.{Index}
use Rattle.sqlite_value.specs.Keys.{plain}
use Rattle.sqlite_value.specs.declared.value.Value.TheVariants.{Null, Int, Text, Blob}

-- a column of the table: its name, its type, and whether it has to have a value
abbrev pub column_of : List ℕ → Kind → Bool → Column
column_of name kind not_null = record { name = name; kind = kind; is_strict = true; not_null = not_null; default = Null; collation = Binary }

-- the table of entries: a row for each, whose rowid is its number
abbrev pub entry_table : Table
entry_table = record {
  name = codes "entry";
  tree = 0;
  columns = column_of (codes "number") kind.Integer false
      ∷ column_of (codes "opening") kind.Integer true
      ∷ column_of (codes "connection") kind.Integer true
      ∷ column_of (codes "ordinal") kind.Integer true
      ∷ column_of (codes "token") kind.Text false
      ∷ column_of (codes "writes") kind.Blob true ∷ [];
  key = Some 0;
  primary = 0 ∷ [];
  uniques = (5 ∷ []) ∷ [];
  orders = plain ∷ [];
  checks = [];
  references = [];
  computed = [];
  stamps = record { places = []; terms = []; formats = [] };
  is_counted = false;
}

-- the index of its tokens
abbrev pub token_index : Index
token_index = record { name = codes "sqlite_autoindex_entry_1"; tree = 1; table = 0; columns = 5 ∷ []; order = plain; is_unique = true }

-- a database with the table of entries, the index of its tokens, and nothing else
abbrev pub ledger_schema : Schema
ledger_schema = record {
  tables = entry_table ∷ [];
  indexes = token_index ∷ [];
  views = [];
}

-- a database with nothing in it
abbrev pub no_schema : Schema
no_schema = record { tables = []; indexes = []; views = [] }

-- the text by which an entry is added
abbrev pub add_text : List ℕ
add_text = codes "INSERT INTO entry (number, opening, connection, ordinal, token, writes) VALUES (?1, ?2, ?3, ?4, ?5, ?6)"

-- the values that this text is given: the entry's number, the opening that added it, its connection, its ordinal, its token and the bytes of its writes
abbrev pub values_of : ℤ → ℤ → ℤ → ℤ → Token → List ℕ → Row
values_of number opening conn ordinal token bytes =
    Int number ∷ Int opening ∷ Int conn ∷ Int ordinal ∷ or_null Text token ∷ Blob bytes ∷ []

-- the row of these values as the table has it: its rowid, then its columns, if the number is left to the rowid
abbrev pub row_of : ℤ → ℤ → ℤ → ℤ → Token → List ℕ → Row
row_of number opening conn ordinal token bytes =
    Int number ∷ Null ∷ Int opening ∷ Int conn ∷ Int ordinal ∷ or_null Text token ∷ Blob bytes ∷ []

-- the row was put into the table of entries
pub record IsPut (row : Row) (old new : State) : Type 0 where
  pub schema : new.now.schema ≡ ledger_schema
  pub sound : IsDatabase new.now
  pub rows : new.now.trees 0 ≡ put_row row (old.now.trees 0)

-- what an opening looks at in a table: its name, tree and key, ..
pub record HasHead (t : Table) : Type 0 where
  pub name : t.name ≡ codes "entry"
  pub tree : t.tree ≡ 0
  pub key : t.key ≡ Some 0
  pub counted : t.is_counted ≡ false

-- .. the places of its keys, ..
pub record HasKeys (t : Table) : Type 0 where
  pub primary : t.primary ≡ 0 ∷ []
  pub uniques : t.uniques ≡ (5 ∷ []) ∷ []
  pub orders : t.orders ≡ plain ∷ []

-- .. and that it has no other rule
pub record HasNoRules (t : Table) : Type 0 where
  pub checks : t.checks ≡ []
  pub references : t.references ≡ []
  pub computed : t.computed ≡ []
  pub places : t.stamps.places ≡ []
  pub terms : t.stamps.terms ≡ []
  pub formats : t.stamps.formats ≡ []
