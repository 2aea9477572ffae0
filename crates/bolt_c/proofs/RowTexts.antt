-- The messages of rows.
use Rattle.std.proofs.Common.{◌≡◌, ◌≤◌, ◌∙◌, ap, refl, sym, arith, List, [], ◌∷◌, ◌++◌, ℕ, length, Ok}
use Rattle.std.specs.List.{AllZip}
use Rattle.packstream.specs.Prelude.{Tree, list, trees_of, canon, IsGood, depth}
use Rattle.wire.specs.declared.Version.{Version}
use Rattle.structures_cells.specs.declared.cell.Cell.{Cell}
use Rattle.structures_cells.specs.Prelude.{shape, shapes, IsWritable}
use Rattle.structures.specs.Prelude.{form}
use Rattle.messages.specs.Prelude.{ResponseView, RECORD, contents, form_put, response_contents, response_spelling, Adds}
use Rattle.messages.proofs.Added.{field_of_cells, formed_cells, appended}

-- copies of cells
pub copied_shapes : (cs copies : List Cell) → AllZip (λ c copy. shape copy ≡ shape c) cs copies → shapes copies ≡ shapes cs
copied_shapes [] [] h = refl
copied_shapes (c ∷ cs) (d ∷ ds) h = rw (h.0, copied_shapes cs ds h.1) refl
copied_shapes [] (d ∷ ds) h = absurd h
copied_shapes (c ∷ cs) [] h = absurd h

-- The spelling of a row's form, behind the head of a RECORD, is the RECORD.
pub formed_row : (v : Version) (ts : List Tree) (b : List ℕ) → b ≡ (0xB1 ∷ 0x71 ∷ []) ++ canon (form v (list (trees_of ts))) → length b ≤ 65536 → IsGood (form v (list (trees_of ts))) → depth (form v (list (trees_of ts))) ≤ 31 → IsWritable v (list (trees_of ts))
    → response_spelling v (ResponseView.Record ts) ≡ Ok b
unfolding response_spelling
formed_row v ts b e short g d w =
    let m = ResponseView.Record ts in
    let t = list (trees_of ts) in
    let adds : Adds (form_put v (response_contents m)) [] b = field_of_cells v (λ x. contents RECORD (x ∷ []) []) 0x71 t [] (0xB1 ∷ 0x71 ∷ []) b (omega arith) (λ x h. rw h refl) refl (formed_cells v t t (0xB1 ∷ 0x71 ∷ []) b refl e g d w) in
    let a = appended (form_put v (response_contents m)) [] b adds short in
    a.1 ∙ ap Ok (sym a.2)
