-- What the texts mean.
use Rattle.std.proofs.Common.{◌≡◌, ◌⊎◌, inl, inr, ℕ, ℤ, List, [], ◌∷◌, Bool, true, false, cond, Option, Some, None, Ok, Err, Result, String, Global, string_bytes, OnOk, refl, ap, subst, ◌∙◌}
use Rattle.engine.specs.Views.{Token, token_view}
use Rattle.sqlite.specs.declared.types.Value.{Value}
use Rattle.sqlite.specs.declared.types.Value.TheVariants.{Null, Int, Text, Blob}
use Rattle.sqlite.specs.declared.types.ValueRef.{ValueRef}
use Rattle.sqlite.specs.declared.error.Error.{Error}
use Rattle.sqlite.specs.Value.{owned}
use Rattle.sqlite.specs.Values.{or_null, bound, bound_value}
use Rattle.sqlite.specs.Order.{Row}
use Rattle.sqlite.specs.Term.{Term, lit, col}
use Rattle.sqlite.specs.Ops.{unary}
use Rattle.sqlite.specs.Kind.TheVariants.{Integer, Text as Words}
use Rattle.sqlite.specs.Source.TheVariants.{Values}
use Rattle.sqlite.specs.Command.TheVariants.{Insert}
use Rattle.sqlite.specs.Cast.{cast, cast_row}
use Rattle.sqlite.specs.Edit.{edit_of, edited, with_rowid}
use Rattle.sqlite.specs.Rowids.TheVariants.{Chosen}
use Rattle.sqlite.specs.Does.{Tally, Does}
use Rattle.sqlite.specs.Rows.{Written}
use Rattle.sqlite.specs.Tree.{Trees, put_row}
use Rattle.sqlite_tied.specs.Compute.{everything}
use Rattle.sqlite.specs.Listing.{understood}
use Rattle.sqlite.specs.Effect.{Database}
use Rattle.sqlite.specs.State.{State, mode_of, Executes, ExecutesInside, IsUnchanged, IsRolledBack, KeepsCommit, Shows}
use Rattle.sqlite.proofs.Callers.{IsPlain, command_of, statement_of, runs_as, one_step}
use Rattle.engine_sqlite.specs.Table.{add_text, entry_table, ledger_schema, values_of, row_of, IsPut}

-- the terms of an entry's row: the number is the rowid, and its column is left to that
abbrev terms : List Term
terms = col 0 0 ∷ lit Null ∷ col 0 1 ∷ col 0 2 ∷ col 0 3 ∷ col 0 4 ∷ col 0 5 ∷ []

add_is : command_of (understood ledger_schema add_text) ≡ Insert 0 (Values terms 7)
unfolding understood everything
add_is = refl

add_plain : IsPlain (understood ledger_schema add_text)
unfolding understood everything
add_plain = (refl, refl)

either : (b : Bool) (x : Value) → cond b x x ≡ x
either true x = refl
either false x = refl

cast_null : cast Integer Null ≡ Null
unfolding unary
cast_null = either _ Null

cast_int : (n : ℤ) → cast Integer (Int n) ≡ Int n
unfolding unary
cast_int n = either _ (Int n)

cast_token : (token : Token) → cast Words (or_null Text token) ≡ or_null Text token
cast_token None = refl
cast_token (Some t) = refl

-- each value has its column's type, so that the row is stored as it is
cast_is : (number opening conn ordinal : ℤ) (token : Token) (bytes : List ℕ)
    → cast_row entry_table (row_of number opening conn ordinal token bytes) ≡ row_of number opening conn ordinal token bytes
cast_is number opening conn ordinal token bytes =
    rw (cast_int number, cast_null, cast_int opening, cast_int conn, cast_int ordinal, cast_token token) refl

-- a part that gave a value did not stop on the way
pub went : {B E R : Type 0} {b : B} {Stops : E → Type 0} → ((stop : E) × Stops stop × (Ok b ≡ Err stop)) ⊎ R → R
went (inl stopped) = absurd (let e = stopped.2 in cc)
went (inr on) = on

pub same_value : {B E : Type 0} {a b : B} → ◌≡◌ {A = Result B E} (Ok a) (Ok b) → a ≡ b
same_value e = cc

-- the text of an entry puts its row into the table
adds : (old new : State) (number opening conn ordinal : ℤ) (token : Token) (bytes : List ℕ) (count : ℕ) → old.now.schema ≡ ledger_schema
    → Executes add_text (values_of number opening conn ordinal token bytes) old new (Ok count) → IsPut (row_of number opening conn ordinal token bytes) old new
adds old new number opening conn ordinal token bytes count has h =
    let params = values_of number opening conn ordinal token bytes in
    let row = row_of number opening conn ordinal token bytes in
    let db = old.now.trees in
    let command = Insert 0 (Values terms 7) in
    let w = runs_as add_text params old new ledger_schema has command add_is add_plain count h in
    let text = statement_of add_text (understood ledger_schema add_text) in
    let done = went (subst (λ s. Does old.step_limit (mode_of old) params (record old.now { schema = s }) text None command (Ok (w.tally, new.now))) has w.changed) in
    let now = ap (λ (p : Tally × Database). p.1) (same_value (went (went done.2).2).2) in
    let given = went done.1 in
    let written = went (went given.2).2 in
    let counted = went written.2 in
    let trees : done.0.trees ≡ written.0 = ap (λ (it : Written). it.trees) (same_value counted.2) ∙ same_value counted.1 in
    let rows = (one_step ledger_schema _ db written.0 (edit_of db entry_table [] Chosen 0 given.0) refl written.1).rows in
    let edit : edited db (edit_of db entry_table [] Chosen 0 given.0) ≡ put_row row (db 0) =
    ap (λ all. edited db (edit_of db entry_table [] Chosen 0 all)) given.1.1 ∙ ap (λ r. put_row (with_rowid Chosen (db 0) r) (db 0)) (cast_is number opening conn ordinal token bytes) in
    record {
      schema = ap (λ (d : Database). d.schema) now;
      sound = w.sound;
      rows = ap (λ (d : Database). d.trees 0) now ∙ ap (λ (t : Trees). t 0) trees ∙ rows ∙ edit;
    }

text_or_null : (token : Option (String Global)) → bound_value (or_null (λ s. Text (string_bytes s)) token) ≡ or_null Text (token_view token)
text_or_null None = refl
text_or_null (Some t) = refl

-- the values as they are bound
pub values_are : (v1 v2 v3 v4 v5 v6 : ValueRef) (number opening conn ordinal : ℤ) (token : Option (String Global)) (bytes : List ℕ)
    → owned v1 ≡ Int number → owned v2 ≡ Int opening → owned v3 ≡ Int conn → owned v4 ≡ Int ordinal
    → owned v5 ≡ or_null (λ s. Text (string_bytes s)) token → owned v6 ≡ Blob bytes
    → bound (v1 ∷ v2 ∷ v3 ∷ v4 ∷ v5 ∷ v6 ∷ []) ≡ values_of number opening conn ordinal (token_view token) bytes
values_are v1 v2 v3 v4 v5 v6 number opening conn ordinal token bytes e1 e2 e3 e4 e5 e6 =
    rw (e1, e2, e3, e4, e5, e6, text_or_null token) refl

module _ (old new : State) (number opening conn ordinal : ℤ) (token : Token) (bytes : List ℕ) where
  pub puts : (r : Result ℕ Error) → old.now.schema ≡ ledger_schema → ExecutesInside 0 add_text (values_of number opening conn ordinal token bytes) old new r
      → OnOk r (IsPut (row_of number opening conn ordinal token bytes) old new)
  puts (Err e) has h = tt
  puts (Ok count) has h = adds old new number opening conn ordinal token bytes count has h.0

-- what a statement inside a transaction shows, whatever it is
pub shows : (sql : List ℕ) (params : Row) (old new : State) (r : Result ℕ Error) → ExecutesInside 0 sql params old new r → OnOk r (Shows old new new.now old.committed true)
shows sql params old new (Err e) h = tt
shows sql params old new (Ok count) h = h.1

pub unchanged_keeps : (old new : State) → IsUnchanged old new → KeepsCommit old new
unchanged_keeps old new h = record { was_open = λ _. h.0.was_open; committed = λ _. h.0.committed_is }

pub rollback_keeps : (old new : State) → IsRolledBack old new → KeepsCommit old new
rollback_keeps old new h = record { was_open = h.was_open; committed = λ is_open. (h.undone is_open).1 }

-- it commits nothing
pub keeps : (sql : List ℕ) (params : Row) (old new : State) (r : Result ℕ Error) → ExecutesInside 0 sql params old new r → KeepsCommit old new
keeps sql params old new (Ok count) h = record { was_open = λ _. h.1.was_open; committed = λ _. h.1.committed_is }
keeps sql params old new (Err e) (inl (_, (inl same))) = unchanged_keeps old new same
keeps sql params old new (Err e) (inl (_, (inr back))) = rollback_keeps old new back
keeps sql params old new (Err e) (inr (_, _, same)) = unchanged_keeps old new same
