-- What an opening finds, and what it leaves.
use Rattle.std.proofs.Common.{◌≡◌, inl, inr, refl, sym, ap, subst, ◌∙◌, ℕ, ℤ, false, Ok, List, [], ◌∷◌, IsTrue}
use Rattle.std.specs.List.{AllZip}
use Rattle.engine.specs.Views.{EntryView}
use Rattle.engine_sqlite.specs.Kept.{Endures, Kept, ledger_of}
use Rattle.engine_sqlite.specs.Ledger.{HoldsLedger}
use Rattle.engine_sqlite.specs.Shown.{IsOpenedFrom, IsReady, table_text}
use Rattle.engine_sqlite.specs.Table.{ledger_schema, no_schema}
use Rattle.engine_sqlite.proofs.Alone.{one_ledger_is}
use Rattle.engine_sqlite.proofs.Selecting.{creates, opening_plain, row_same, select_plain, selects, shown_same}
use Rattle.engine_sqlite.proofs.Typed.{shown_holds}
use Rattle.sqlite.specs.Effect.{Database}
use Rattle.sqlite.specs.Held.{Held, state}
use Rattle.sqlite.specs.Order.{Row}
use Rattle.sqlite.specs.State.{Executes, HasCleanDisk, IsLive, State}
use Rattle.sqlite.specs.Store.{Ghosts}
use Rattle.sqlite.specs.Table.{Table}
use Rattle.sqlite.specs.Tree.{Trees}
use Rattle.sqlite_catalog.specs.Listing.{IsSound, IsTableRow}

no_rows : (rows : List Row) (t : Table) → AllZip IsTableRow rows [] → AllZip IsTableRow rows (t ∷ []) → ⊥
no_rows [] t none one = one
no_rows (row ∷ rows) t none one = none

-- a database that lists nothing doesn't list the table of entries
nothing_listed : (db : Trees) → IsSound no_schema db → IsSound ledger_schema db → ⊥
nothing_listed db none one = no_rows _ _ none.lists.listed.tables one.lists.listed.tables

module _ {S : Type 0} (g : Ghosts S) (first : Held S) (live : IsLive (state g first)) (settled : IsTrue (state g first).is_open → (state g first).now ≡ (state g first).committed) where
  -- a database that has the table of entries and nothing else is ready
  pub was_ready : (state g first).now.schema ≡ ledger_schema → IsReady g first first
  was_ready has = record {
    schema = has;
    sound = λ is_open. (live is_open).0;
    settled = settled;
    created = inl refl;
    finds = λ is_open es h. subst (λ (d : Database). HoldsLedger d.trees es) (sym (settled is_open)) h;
  }

  -- one with nothing in it is ready once the table was made
  pub made_ready : (made : Held S) (count : ℕ) → (state g first).now.schema ≡ no_schema → first.in_transaction ≡ false → Executes table_text [] (state g first) (state g made) (Ok count)
      → IsReady g first made
  made_ready made count has idle ran =
      let all = creates (state g first) (state g made) count has ran in
      let w = all.0 in
      let was : IsSound no_schema (state g first).committed.trees =
      subst (λ (d : Database). IsSound no_schema d.trees) (settled w.shown.was_open) (subst (λ s. IsSound s (state g first).now.trees) has (live w.shown.was_open).0) in
      record {
        schema = all.1;
        sound = λ _. w.sound;
        settled = λ _. sym (rw idle at w.shown.committed_is);
        created = inr (has, count, ran);
        finds = λ _ es h. absurd (nothing_listed (state g first).committed.trees was h.sound);
      }

-- what holds at the end of an opening
pub record IsHeld (entries : List EntryView) (s : State) : Type 0 where
  pub is_open : IsTrue s.is_open
  pub schema : s.now.schema ≡ ledger_schema
  pub settled : s.now ≡ s.committed
  pub holds : HoldsLedger s.now.trees entries

pub opened_held : {S : Type 0} (g : Ghosts S) (first last : Held S) (es : List EntryView) (opening : ℤ) → IsOpenedFrom g first last es opening → IsHeld es (state g last)
opened_held g first last es opening h =
    let one = shown_same _ (state g h.made) (state g h.read) h.brings.rows h.ready.schema select_plain h.brings.shown in
    let schema : (state g h.read).now.schema ≡ ledger_schema = ap (λ (d : Database). d.schema) one.0.now_is ∙ h.ready.schema in
    let two = row_same _ (state g h.read) (state g last) h.numbered.answer schema opening_plain h.numbered.shown in
    let now : (state g last).now ≡ (state g h.made).now = two.0.now_is ∙ one.0.now_is in
    let committed : (state g last).committed ≡ (state g h.made).committed = two.0.committed_is ∙ one.0.committed_is in
    let sound : IsSound ledger_schema (state g h.made).now.trees = subst (λ s. IsSound s (state g h.made).now.trees) h.ready.schema (h.ready.sound one.0.was_open) in
    let shown = selects (state g h.made) (state g h.read) h.brings.rows h.ready.schema h.brings.shown in
    record {
      is_open = two.0.is_open;
      schema = ap (λ (d : Database). d.schema) two.0.now_is ∙ schema;
      settled = now ∙ h.ready.settled one.0.was_open ∙ sym committed;
      holds = subst (λ (d : Database). HoldsLedger d.trees es) (sym now) (shown_holds (state g h.made).now.trees es h.brings.rows sound shown h.brings.each);
    }

-- the entries that were there are those that it brings
pub opened_finds : {S : Type 0} (g : Ghosts S) (first last : Held S) (es others : List EntryView) (opening : ℤ) → IsOpenedFrom g first last es opening
    → HoldsLedger (state g first).committed.trees others → es ≡ others
opened_finds g first last es others opening h there =
    let one = shown_same _ (state g h.made) (state g h.read) h.brings.rows h.ready.schema select_plain h.brings.shown in
    let sound : IsSound ledger_schema (state g h.made).now.trees = subst (λ s. IsSound s (state g h.made).now.trees) h.ready.schema (h.ready.sound one.0.was_open) in
    let shown = selects (state g h.made) (state g h.read) h.brings.rows h.ready.schema h.brings.shown in
    one_ledger_is (state g h.made).now.trees es others (shown_holds (state g h.made).now.trees es h.brings.rows sound shown h.brings.each) (h.ready.finds one.0.was_open others there)

-- an engine that was opened endures
pub opened_endures : {E S : Type 0} (entries : E → List EntryView) (g : Ghosts S) (first : Held S) (l : Kept E S) (opening : ℤ)
    → ((db : Trees) → IsTrue (state g l.conn).is_open → (state g l.conn).may_leave db → db ≡ (state g l.conn).committed.trees)
    → (HasCleanDisk (state g l.conn) → IsOpenedFrom g first l.conn (ledger_of entries l) opening) → Endures entries g l
opened_endures entries g first l opening settles opened =
    let held = λ (clean : HasCleanDisk (state g l.conn)). opened_held g first l.conn (ledger_of entries l) opening (opened clean) in
    record {
      has = record { schema = λ clean _. (held clean).schema; rows = λ clean _. (held clean).holds };
      left = λ clean db may. inl (subst (λ t. HoldsLedger t (ledger_of entries l)) (ap (λ (d : Database). d.trees) (held clean).settled ∙ sym (settles db (held clean).is_open may)) (held clean).holds);
    }
