-- What the texts of an opening mean.
use Rattle.std.proofs.Common.{◌≡◌, inl, inr, ℕ, pos, negsuc, List, [], ◌∷◌, map, drop, codes, false, None, Ok, Err, Result, IfOk, IfErr, OnErr, Vec, Global, arith, refl, sym, ap, subst, ◌∙◌}
use Rattle.std.proofs.lemmas.List.Concat.{flat_map_single}
use Rattle.std.proofs.lemmas.List.Sorted.{IsPermutation-map}
use Rattle.std.specs.Fmt.{digits}
use Rattle.std.specs.List.Sorted.{IsPermutation}
use Rattle.engine.specs.Views.{EntryView}
use Rattle.engine_sqlite.specs.Shown.{Brings, IsLeft, entries_text, opening_text, table_text}
use Rattle.engine_sqlite.specs.Table.{entry_table, ledger_schema, no_schema}
use Rattle.engine_sqlite.proofs.Texts.{rollback_keeps, same_value, unchanged_keeps, went}
use Rattle.sqlite.specs.Change.{created, next_tree}
use Rattle.sqlite.specs.Collation.TheVariants.{Binary}
use Rattle.sqlite.specs.Command.TheVariants.{CreateTable, Select}
use Rattle.sqlite.specs.Compile.{table_defined_by}
use Rattle.sqlite.specs.Does.{Tally, lacks_sequence}
use Rattle.sqlite.specs.Effect.{Database}
use Rattle.sqlite.specs.Listing.{reads_listing, understood}
use Rattle.sqlite.specs.Order.{Row, column}
use Rattle.sqlite.specs.Program.{overlay}
use Rattle.sqlite.specs.Query.{IsAnswer, Output, Query, end, inner, output}
use Rattle.sqlite.specs.State.{CommitsShowing, Executes, FailsToQuery, HasCleanDisk, IsNotRun, IsUnchanged, KeepsCommit, QueriesRow, Shown, State, Survives, Writes}
use Rattle.sqlite.specs.Term.{Env, col, lit}
use Rattle.sqlite.specs.declared.types.Value.TheVariants.{Int, Null}
use Rattle.sqlite.specs.declared.error.Error.{Error}
use Rattle.sqlite.proofs.Callers.{IsPlain, command_of, never_commits, reads_as, runs_as, statement_of}
use Rattle.sqlite.proofs.StateLemmas.{survives_then, survives_weaker}
use Rattle.sqlite_tied.specs.Compute.{everything}
use Rattle.sqlite_trees.proofs.ListLemmas.{map-map}

-- a text that reads the table of entries, its rows in the order of their numbers
abbrev query : Query
query = record {
  from = inner 0 end;
  filter = [];
  group = None;
  project = col 1 0 ∷ col 1 2 ∷ col 1 3 ∷ col 1 4 ∷ col 1 5 ∷ col 1 6 ∷ [];
  distinct = false;
  collations = [];
  order = (col 1 0, record { collation = Binary; descending = false }) ∷ [];
  limit = lit (Int (negsuc 0));
  offset = lit (Int (pos 0));
}

create_is : (command_of (understood no_schema table_text) ≡ CreateTable) × (statement_of table_text (understood no_schema table_text) ≡ table_text) × (table_defined_by table_text ≡ Ok entry_table)
unfolding understood everything
create_is = (refl, refl, refl)

create_plain : IsPlain (understood no_schema table_text)
unfolding understood everything
create_plain = (refl, refl)

created_is : created no_schema entry_table ≡ ledger_schema
unfolding digits
created_is = refl

select_is : command_of (understood ledger_schema entries_text) ≡ Select (record { lets = []; body = query }) (codes "number" ∷ codes "opening" ∷ codes "connection" ∷ codes "ordinal" ∷ codes "token" ∷ codes "writes" ∷ [])
unfolding understood everything
select_is = refl

unlisted : reads_listing ledger_schema entries_text ≡ false
unfolding understood everything
unlisted = refl

pub select_plain : IsPlain (understood ledger_schema entries_text)
unfolding understood everything
select_plain = (refl, refl)

pub opening_plain : IsPlain (understood ledger_schema opening_text)
unfolding understood everything
opening_plain = (refl, refl)

-- what the text shows of a row
abbrev pub shown_of : Row → Row
shown_of r = column r 0 ∷ column r 2 ∷ column r 3 ∷ column r 4 ∷ column r 5 ∷ column r 6 ∷ []

drop_none : {X : Type 0} (xs : List X) → drop 0 xs ≡ xs
drop_none [] = refl
drop_none (x ∷ xs) = refl

-- the rows that are shown are those of the table
pub selects : (old new : State) (rows : List Row) → old.now.schema ≡ ledger_schema → Shown entries_text [] old new rows → IsPermutation (map shown_of (old.now.trees 0)) rows
selects old new rows has h =
    let read = reads_as entries_text [] old new ledger_schema has _ select_is select_plain unlisted rows h in
    let a : IsAnswer query (overlay old.now.trees []) [] rows = read.answer Null in
    let table = old.now.trees 0 in
    let env : Row → Env = λ r. [] ∷ r ∷ [] in
    let second : Output → Row = λ o. o.1 in
    let staged : a.staged ≡ map env table = a.grouped ∙ flat_map_single env table in
    let kept : map second a.kept ≡ map shown_of table =
    ap (map second) (a.distinct ∙ ap (map (output query)) staged) ∙ ap (map second) (map-map (output query) env table) ∙ map-map second (λ r. output query (env r)) table in
    let shown : rows ≡ map second a.ordered = a.shown ∙ drop_none _ in
    subst (IsPermutation (map shown_of table)) (sym shown) (subst (λ xs. IsPermutation xs (map second a.ordered)) kept (IsPermutation-map second a.kept a.ordered a.same))

-- the table is made, with no row
pub creates : (old new : State) (count : ℕ) → old.now.schema ≡ no_schema → Executes table_text [] old new (Ok count)
    → Writes old new None CreateTable table_text [] count × (new.now.schema ≡ ledger_schema) × (new.now.trees 0 ≡ [])
creates old new count has h =
    let w = subst (λ t. Writes old new None CreateTable t [] count) create_is.1 (runs_as table_text [] old new no_schema has CreateTable create_is.0 create_plain count h) in
    let all = went w.changed in
    let first = went all.1 in
    let made = first.1 in
    let both : Ok made.table ≡ Ok entry_table = sym made.defined ∙ create_is.2 in
    let same : made.table ≡ entry_table = cc in
    let schema : first.0.schema ≡ ledger_schema = made.is ∙ ap (λ s. created s made.table) has ∙ ap (created no_schema) same ∙ created_is in
    let plain : lacks_sequence first.0.schema ≡ false = ap lacks_sequence schema in
    let now : new.now ≡ first.0 = ap (λ (p : Tally × Database). p.1) (same_value all.2) ∙ same_value (rw plain at first.2) in
    (w, ap (λ (d : Database). d.schema) now ∙ schema, ap (λ (d : Database). d.trees 0) now ∙ subst (λ s. first.0.trees (next_tree s) ≡ []) has made.empty)

-- a query that shows rows changes nothing
pub shown_same : (sql : List ℕ) (old new : State) (rows : List Row) → old.now.schema ≡ ledger_schema → IsPlain (understood ledger_schema sql) → Shown sql [] old new rows → IsUnchanged old new
unfolding Shown
shown_same sql old new rows has plain h =
    let known = sym h.1.is ∙ ap (λ s. understood s sql) has in
    let bare = subst IsPlain (sym known) plain in
    (rw bare.0 at h.2).3

pub row_same : (sql : List ℕ) (old new : State) (row : Row) → old.now.schema ≡ ledger_schema → IsPlain (understood ledger_schema sql) → QueriesRow sql [] old new (Ok row) → IsUnchanged old new
unfolding QueriesRow
row_same sql old new row has plain (inl h) = h.1
row_same sql old new row has plain (inr h) = shown_same sql old new h.0 has plain h.1

-- a query that fails commits nothing
fails_keep : (sql : List ℕ) (old new : State) (e : Error) → old.now.schema ≡ ledger_schema → IsPlain (understood ledger_schema sql) → FailsToQuery sql [] old new e → KeepsCommit old new
unfolding FailsToQuery IsNotRun
fails_keep sql old new e has plain (inl (inl h)) = unchanged_keeps old new h.1
fails_keep sql old new e has plain (inl (inr h)) = rollback_keeps old new h.3
fails_keep sql old new e has plain (inr h) =
    let known = sym h.1.is ∙ ap (λ s. understood s sql) has in
    let bare = subst IsPlain (sym known) plain in
    unchanged_keeps old new (rw bare.0 at h.2).3

rows_keep : (sql : List ℕ) (old new : State) (r : Result (Vec Row Global) Error) → old.now.schema ≡ ledger_schema → IsPlain (understood ledger_schema sql)
    → IfOk r (λ rows. Shown sql [] old new rows.items) → IfErr r (FailsToQuery sql [] old new) → KeepsCommit old new
rows_keep sql old new (Ok rows) has plain ok err = unchanged_keeps old new (shown_same sql old new rows.items has plain ok)
rows_keep sql old new (Err e) has plain ok err = fails_keep sql old new e has plain err

row_keeps : (sql : List ℕ) (old new : State) (r : Result Row Error) → old.now.schema ≡ ledger_schema → IsPlain (understood ledger_schema sql) → QueriesRow sql [] old new r → KeepsCommit old new
unfolding QueriesRow
row_keeps sql old new (Ok row) has plain h = unchanged_keeps old new (row_same sql old new row has plain h)
row_keeps sql old new (Err e) has plain (inl h) = fails_keep sql old new e has plain h
row_keeps sql old new (Err e) has plain (inr h) = unchanged_keeps old new (shown_same sql old new [] has plain h.1)

-- a query of a ledger leaves it
module _ (sql : List ℕ) (old new : State) (has : HasCleanDisk new → old.now.schema ≡ ledger_schema) (plain : IsPlain (understood ledger_schema sql)) (survives : Survives old new (CommitsShowing sql [] old)) where
  leaves : (HasCleanDisk new → KeepsCommit old new) → IsLeft old new
  leaves keeps = record {
    keeps = keeps;
    survives = survives_weaker old new _ _ (λ clean db. never_commits sql [] old db (subst (λ s. IsPlain (understood s sql)) (sym (has clean)) plain)) survives;
  }

  pub rows_leave : (r : Result (Vec Row Global) Error) → (HasCleanDisk new → IfOk r (λ rows. Shown sql [] old new rows.items)) → (HasCleanDisk new → IfErr r (FailsToQuery sql [] old new)) → IsLeft old new
  rows_leave r ok err = leaves (λ clean. rows_keep sql old new r (has clean) plain (ok clean) (err clean))

  pub row_leaves : (r : Result Row Error) → (HasCleanDisk new → QueriesRow sql [] old new r) → IsLeft old new
  row_leaves r ran = leaves (λ clean. row_keeps sql old new r (has clean) plain (ran clean))

pub left_then : (a b c : State) → IsLeft a b → IsLeft b c → IsLeft a c
left_then a b c p q = record {
  keeps = λ clean.
      let first = p.keeps (omega (arith, q.survives.clean)) in
      let second = q.keeps clean in
      record { was_open = λ h. first.was_open (second.was_open h); committed = λ h. second.committed h ∙ first.committed (second.was_open h) };
  survives = survives_then a b c _ _ _ (λ _ _ none. none) (λ _ _ none. none) p.survives q.survives;
}

-- the rows were read, and the table is as it was
pub read_schema : (made read : State) (es : List EntryView) → made.now.schema ≡ ledger_schema → Brings made read es → read.now.schema ≡ ledger_schema
read_schema made read es has h = ap (λ (d : Database). d.schema) (shown_same _ made read h.rows has select_plain h.shown).0.now_is ∙ has

pub on_err : {A B : Type 0} (r : Result A B) (P : Type 0) → P → OnErr r P
on_err (Ok a) P p = tt
on_err (Err e) P p = p
