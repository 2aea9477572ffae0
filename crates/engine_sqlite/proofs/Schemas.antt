-- A database's tables are those of a ledger where each part of them is.
use Rattle.std.proofs.Common.{◌≡◌, refl, sym, ap, ◌∙◌, ℕ, Bool, true, false, List, [], ◌∷◌, codes}
use Rattle.engine_sqlite.specs.Table.{HasHead, HasKeys, HasNoRules, column_of, entry_table, ledger_schema, no_schema, token_index}
use Rattle.sqlite.specs.Collation.TheVariants.{Binary}
use Rattle.sqlite.specs.Kind.{Kind}
use Rattle.sqlite.specs.Schema.{Schema}
use Rattle.sqlite.specs.Table.{Table}
use Rattle.sqlite_schema.specs.declared.schema.Column.{Column}
use Rattle.sqlite_schema.specs.declared.schema.Index.{Index}
use Rattle.sqlite_value.specs.Keys.{plain}
use Rattle.sqlite_value.specs.declared.keys.Order.{Order}
use Rattle.sqlite_value.specs.declared.value.Value.TheVariants.{Null}

pub nothing_is : (s : Schema) → s.tables ≡ [] → s.indexes ≡ [] → s.views ≡ [] → s ≡ no_schema
nothing_is s tables indexes views =
    ap (λ (it : Schema). it) refl ∙ ap (λ ts. let r : Schema = record { tables = ts; indexes = s.indexes; views = s.views } in r) tables
    ∙ ap (λ is. let r : Schema = record { tables = []; indexes = is; views = s.views } in r) indexes ∙ ap (λ vs. let r : Schema = record { tables = []; indexes = []; views = vs } in r) views

pub ledger_is : (s : Schema) (t : Table) (i : Index) → s.tables ≡ t ∷ [] → s.indexes ≡ i ∷ [] → s.views ≡ [] → t ≡ entry_table → i ≡ token_index → s ≡ ledger_schema
ledger_is s t i tables indexes views table index =
    ap (λ ts. let r : Schema = record { tables = ts; indexes = s.indexes; views = s.views } in r) (tables ∙ ap (λ x. x ∷ []) table)
    ∙ ap (λ is. let r : Schema = record { tables = ledger_schema.tables; indexes = is; views = s.views } in r) (indexes ∙ ap (λ x. x ∷ []) index)
    ∙ ap (λ vs. let r : Schema = record { tables = ledger_schema.tables; indexes = ledger_schema.indexes; views = vs } in r) views

pub column_is : (c : Column) (name : List ℕ) (kind : Kind) (not_null : Bool) → c.name ≡ name → c.kind ≡ kind → c.is_strict ≡ true → c.not_null ≡ not_null → c.default ≡ Null → c.collation ≡ Binary
    → c ≡ column_of name kind not_null
column_is c name kind not_null e1 e2 e3 e4 e5 e6 = rw (sym e1, sym e2, sym e4) (
    ap (λ b. let r : Column = record c { is_strict = b } in r) e3 ∙ ap (λ v. let r : Column = record c { is_strict = true; default = v } in r) e5
    ∙ ap (λ x. let r : Column = record c { is_strict = true; default = Null; collation = x } in r) e6)

pub order_is : (os : List Order) (o : Order) → os ≡ o ∷ [] → o.digits ≡ 0 → os ≡ plain ∷ []
order_is os o one zero = one ∙ ap (λ d. let r : Order = record { digits = d } in r ∷ []) zero

pub index_is : (i : Index) → i.name ≡ codes "sqlite_autoindex_entry_1" → i.tree ≡ 1 → i.table ≡ 0 → i.columns ≡ 5 ∷ [] → i.order.digits ≡ 0 → i.is_unique ≡ true → i ≡ token_index
index_is i e1 e2 e3 e4 e5 e6 =
    let order : i.order ≡ plain = ap (λ d. let r : Order = record { digits = d } in r) e5 in
    ap (λ x. let r : Index = record i { name = x } in r) e1 ∙ ap (λ x. let r : Index = record i { name = token_index.name; tree = x } in r) e2
    ∙ ap (λ x. let r : Index = record i { name = token_index.name; tree = 1; table = x } in r) e3
    ∙ ap (λ x. let r : Index = record i { name = token_index.name; tree = 1; table = 0; columns = x } in r) e4
    ∙ ap (λ x. let r : Index = record i { name = token_index.name; tree = 1; table = 0; columns = 5 ∷ []; order = x } in r) order
    ∙ ap (λ x. let r : Index = record { name = token_index.name; tree = 1; table = 0; columns = 5 ∷ []; order = plain; is_unique = x } in r) e6

pub table_is : (t : Table) → HasHead t → t.columns ≡ entry_table.columns → HasKeys t → HasNoRules t → t ≡ entry_table
table_is t head columns keys rules =
    ap (λ x. let r : Table = record t { name = x } in r) head.name
    ∙ ap (λ x. let r : Table = record t { name = entry_table.name; tree = x } in r) head.tree
    ∙ ap (λ x. let r : Table = record t { name = entry_table.name; tree = 0; key = x } in r) head.key
    ∙ ap (λ x. let r : Table = record t { name = entry_table.name; tree = 0; key = entry_table.key; is_counted = x } in r) head.counted
    ∙ ap (λ x. let r : Table = record t { name = entry_table.name; tree = 0; key = entry_table.key; is_counted = false; columns = x } in r) columns
    ∙ ap (λ x. let r : Table = record entry_table { primary = x; uniques = t.uniques; orders = t.orders; checks = t.checks; references = t.references; computed = t.computed; stamps = t.stamps } in r) keys.primary
    ∙ ap (λ x. let r : Table = record entry_table { uniques = x; orders = t.orders; checks = t.checks; references = t.references; computed = t.computed; stamps = t.stamps } in r) keys.uniques
    ∙ ap (λ x. let r : Table = record entry_table { orders = x; checks = t.checks; references = t.references; computed = t.computed; stamps = t.stamps } in r) keys.orders
    ∙ ap (λ x. let r : Table = record entry_table { checks = x; references = t.references; computed = t.computed; stamps = t.stamps } in r) rules.checks
    ∙ ap (λ x. let r : Table = record entry_table { references = x; computed = t.computed; stamps = t.stamps } in r) rules.references
    ∙ ap (λ x. let r : Table = record entry_table { computed = x; stamps = t.stamps } in r) rules.computed
    ∙ ap (λ x. let r : Table = record entry_table { stamps = record { places = x; terms = t.stamps.terms; formats = t.stamps.formats } } in r) rules.places
    ∙ ap (λ x. let r : Table = record entry_table { stamps = record { places = []; terms = x; formats = t.stamps.formats } } in r) rules.terms
    ∙ ap (λ x. let r : Table = record entry_table { stamps = record { places = []; terms = []; formats = x } } in r) rules.formats
