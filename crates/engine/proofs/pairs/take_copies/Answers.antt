use Rattle.std.proofs.Common.{◌≡◌, [], ap, sym, ◌∙◌, map}
use Rattle.std.proofs.lemmas.List.{nil_from_length}
use Rattle.std.specs.Vec.Iter.{into_iter_items}
use Rattle.structures_cells.specs.Prelude.{entry}
use Rattle.engine.specs.Prelude.{after_values}
use Rattle.engine.proofs.Placing.{inserted, view-inserted}
use Rattle.engine.proofs.pairs.take_copies.Goals as goal

pub returns-clause-taken : goal.returns-clause-taken
returns-clause-taken c =
    let es = c.args.pairs.now.entries in
    let left = c.loop-write.write-iterator in
    let now = after_values c.loop-write.pairs.entries c.loop-write.waiting.items in
    let none : into_iter_items left ≡ [] = nil_from_length (into_iter_items left) (sym left.rest.ok.0 ∙ c.in-None.ensures.steps.0) in
    let whole : now ≡ inserted es c.args.writes.items = ap (inserted now) (sym none) ∙ c.loop-write.invariant.whole in
    ap (map entry) (c.write_values.ensures ∙ whole) ∙ view-inserted es c.args.writes.items
