use Rattle.std.proofs.Common.{◌≤◌, ◌∙◌, ap, [], ◌∷◌, ◌++◌, length, arith}
use Rattle.packstream.specs.Prelude.{canon, list, trees_of}
use Rattle.structures_cells.specs.Prelude.{shapes}
use Rattle.structures.specs.Prelude.{form}
use Rattle.bolt_c.proofs.RowTexts.{formed_row}
use Rattle.bolt_c.proofs.rows.spelled_short.Goals as goal

pub returns : goal.returns
returns c =
    let v = c.args.version in
    let ts = shapes c.args.row.now in
    let none = c.in-Ok.ensures.before ∙ c.taking-adding.ensures.before ∙ c.new-text.ensures.items in
    let whole = c.keep-text.ensures ∙ ap (λ x. x ++ c.put_row.new.out.more) none ∙ c.in-Ok.ensures.spelled ∙ ap (λ x. (x ++ 0xB1 ∷ 0x71 ∷ []) ++ canon (form v (list (trees_of ts)))) c.taking-adding.ensures.more in
    let short : length c.keep-text.result.items ≤ 65536 = omega (arith, c.len.ensures.value) in
    formed_row v ts c.keep-text.result.items whole short c.in-Ok.ensures.good c.in-Ok.ensures.deep c.in-Ok.ensures.writable
