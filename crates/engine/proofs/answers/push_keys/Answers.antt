use Rattle.std.proofs.Common.{◌≡◌, ◌++◌, ◌∷◌, ap, ◌∙◌, map, string_bytes, rules}
use Rattle.std.specs.Map.{keys_of}
use Rattle.packstream.specs.Prelude.{text}
use Rattle.engine.specs.Prelude.{pairs_view}
use Rattle.structures_cells.specs.Prelude.{shapes}
use Rattle.structures_cells.specs.declared.cell.Cell.{Text}
use Rattle.engine.proofs.Laying.{keys_view, keys_next}
use Rattle.engine.proofs.Reading.{shape-text}
use Rattle.engine.proofs.answers.push_keys.Goals as goal

pub loop-key-init : goal.loop-key-init
loop-key-init c =
    let there = shapes c.args.cells.now.items in
    ap (λ ks. there ++ map text (map string_bytes ks)) (c.into_iter-key-iterator.ensures.into_iter_gives ∙ c.keys-key-items.ensures.rest)
    ∙ ap (λ ks. there ++ map text ks) (keys_view c.args.pairs.now.entries)

pub loop-key-preserved : goal.loop-key-preserved
loop-key-preserved c =
    let there = shapes c.args.cells.now.items in
    let step : c.loop-key.key-iterator ≡ c.in-Some.key.now ∷ c.next.new.self = search rules in
    let same : string_bytes c.in_ok-clone.field-0 ≡ string_bytes c.in-Some.key.now = search rules in
    keys_next c.loop-key.cells.items c.push.new.self.items (there ++ map text (keys_of (pairs_view c.args.pairs.now))) c.loop-key.key-iterator c.next.new.self c.in-Some.key.now (Text c.in_ok-clone.field-0) c.loop-key.invariant step (shape-text c.in_ok-clone.field-0 ∙ ap text same) (search rules)
