use Rattle.std.proofs.Common.{◌≤◌, ◌∙◌, ap, [], ◌∷◌, ◌++◌, length, arith}
use Rattle.packstream.specs.Prelude.{canon, list, trees_of}
use Rattle.structures_cells.specs.Prelude.{shapes}
use Rattle.structures.specs.Prelude.{form}
use Rattle.server_session.proofs.Sent.{record_body, typed_row}
use Rattle.server_session.proofs.rows.spell_short.Goals as goal

pub returns : goal.returns
returns c = λ yes.
    let ts = shapes c.args.row.now in
    let none = c.in-Ok.ensures.before ∙ c.taking-adding.ensures.before ∙ c.clear.ensures.items in
    let whole = c.keep.ensures ∙ ap (λ x. x ++ c.put_row.new.out.more) none ∙ c.in-Ok.ensures.spelled ∙ ap (λ x. (x ++ 0xB1 ∷ 0x71 ∷ []) ++ canon (form c.args.version (list (trees_of ts)))) c.taking-adding.ensures.more in
    let short : length c.keep.result.items ≤ 65536 = omega (arith, c.len.ensures.value) in
    record_body c.args.version ts c.keep.result.items (typed_row c.args.row.now) whole short c.in-Ok.ensures.good c.in-Ok.ensures.deep c.in-Ok.ensures.writable
