-- What the engine of notes answers, and the laws of its answers.
use Rattle.std.specs.Prelude.{ℕ, List, [], ◌∷◌, All, Some, Result, Ok, Err, IfOk, refl}
use Rattle.std.specs.Str.{IsUtf8}
use Rattle.std.proofs.Common.{lit≤, subst, sym}
use Rattle.std.proofs.lemmas.List.Elements.{All-nil, All-head}
use Rattle.structures_cells.specs.Cells.{IsCellTree}
use Rattle.engine.specs.Cells.{IsCellPair, AreCellPairs, AreCellEntries, IsOfCells}
use Rattle.engine.specs.Laws.{IsAnswer}
use Rattle.engine.specs.Views.{WriteView, ParameterView, EntryView, AnswerView, QueryFault, bad_parameter, write_in_read_mode}
use Rattle.engine.specs.declared.answer.Mode.{Mode}
use Rattle.engine.specs.declared.answer.Mode.TheVariants as mode

-- no rows, and the first parameter as a write
abbrev pub note_of : List ParameterView → Result AnswerView QueryFault
note_of [] = Err bad_parameter
note_of (p ∷ ps) = Ok (record { fields = []; rows = []; write = Some p; mode = mode.Write })

-- what a query answers, whatever its text
abbrev pub notes_answer : List EntryView → List WriteView → List ℕ → List ParameterView → Mode → Result AnswerView QueryFault
notes_answer ledger own text params mode.Read = Err write_in_read_mode
notes_answer ledger own text params mode.Write = note_of params

abbrev IsRead : Mode → Type 0
IsRead mode.Read = Unit {0}
IsRead mode.Write = ⊥

note_fits : (params : List ParameterView) → IfOk (note_of params) (IsAnswer mode.Write)
note_fits [] = tt
note_fits (p ∷ ps) = record {
  few_rows = lit≤ tt;
  full_rows = λ k row within. absurd (elim within [ ]);
  mode_of_write = (λ _. refl, λ _. refl);
  reads = λ e. absurd (subst IsRead (sym e) tt);
}

-- each answer fits its mode
pub notes_fit : (ledger : List EntryView) (own : List WriteView) (text : List ℕ)
    (params : List ParameterView) (m : Mode)
    → IfOk (notes_answer ledger own text params m) (IsAnswer m)
notes_fit ledger own text params mode.Read = tt
notes_fit ledger own text params mode.Write = note_fits params

note_is_of_cells : (params : List ParameterView) → AreCellPairs params
    → IfOk (note_of params) IsOfCells
note_is_of_cells [] h = tt
note_is_of_cells (p ∷ ps) h = record {
  fields = All-nil IsUtf8;
  rows = All-nil (λ row. All IsCellTree row);
  write = All-head IsCellPair p ps h;
}

-- each answer is made of cells where its parameters are
pub notes_are_of_cells : (ledger : List EntryView) (own : List WriteView) (text : List ℕ)
    (params : List ParameterView) (m : Mode) → AreCellEntries ledger → AreCellPairs own
    → AreCellPairs params → IfOk (notes_answer ledger own text params m) IsOfCells
notes_are_of_cells ledger own text params mode.Read hl ho hp = tt
notes_are_of_cells ledger own text params mode.Write hl ho hp = note_is_of_cells params hp
