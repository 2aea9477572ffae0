use Rattle.std.proofs.Common.{◌≡◌, [], ap, sym, ◌∙◌, map, string_bytes, rules}
use Rattle.structures_cells.specs.Prelude.{shape, entry}
use Rattle.engine.specs.Prelude.{with_write}
use Rattle.engine.proofs.Placing.{taken_present, view-insert_entry}
use Rattle.engine.proofs.pairs.take_one.Goals as goal

pub returns-in-Some-clause-taken : goal.returns-in-Some-clause-taken
returns-in-Some-clause-taken c =
    let es = c.args.pairs.now.entries in
    let key = c.args.write.now.key in
    let value = c.in_ok-value.value in
    ap (map entry) (taken_present es [] key value c.in-Some.place (sym c.get_index_of.ensures.index ∙ c.in-Some.is))
    ∙ view-insert_entry es key value ∙ ap (λ t. with_write (map entry es) (string_bytes key, t)) c.in_ok-value.ensures.cases

pub returns-in_ok-insert-in-None-clause-taken : goal.returns-in_ok-insert-in-None-clause-taken
returns-in_ok-insert-in-None-clause-taken c =
    let es = c.args.pairs.now.entries in
    let key = c.in_ok-key-in-None.key in
    let value = c.in_ok-value.value in
    let same : string_bytes key ≡ string_bytes c.args.write.now.key = search rules in
    ap (map entry) c.in_ok-insert-in-None.ensures.entries ∙ view-insert_entry es key value
    ∙ ap (λ t. with_write (map entry es) (string_bytes key, t)) c.in_ok-value.ensures.cases ∙ ap (λ s. with_write (map entry es) (s, shape c.args.write.now.value)) same
