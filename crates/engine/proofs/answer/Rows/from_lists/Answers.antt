use Rattle.std.proofs.Common.{◌≡◌, ◌*◌, [], ◌∷◌, ◌++◌, ap, sym, ◌∙◌, length, rules}
use Rattle.std.proofs.lemmas.List.{nil_from_length}
use Rattle.std.specs.Vec.Iter.{into_iter_items}
use Rattle.structures_cells.specs.Prelude.{shapes}
use Rattle.engine.specs.Prelude.{rows_in}
use Rattle.engine.proofs.Joining.{joined, joined_rows, count_joined, all_joined, more_joined}
use Rattle.engine.proofs.answer.Rows.from_lists.Goals as goal

pub loop-row-preserved : goal.loop-row-preserved
loop-row-preserved c =
    let rest = into_iter_items c.next.new.self in
    let step : into_iter_items c.loop-row.row-iterator ≡ c.in-Some.row ∷ rest = search rules in
    let added : c.append.new.self.items ≡ c.loop-row.cells.items ++ c.in-Some.row.items = search rules in
    more_joined c.loop-row.cells.items c.append.new.self.items c.in-Some.row rest
    (into_iter_items c.loop-row.row-iterator) step added ∙ c.loop-row.invariant

pub invariant_of-result : goal.invariant_of-result
invariant_of-result c =
    let left = c.loop-row.row-iterator in
    let none : into_iter_items left ≡ [] = nil_from_length (into_iter_items left) (sym left.rest.ok.0
    ∙ c.in-None.ensures.steps.0) in
    let whole : c.loop-row.cells.items ≡ joined c.args.rows.items = all_joined c.loop-row.cells.items
    (into_iter_items left) none ∙ c.loop-row.invariant in
    let count : c.len-count.result ≡ length c.args.rows.items = search rules in
    record {
      whole = ap (λ n. n * c.args.width) count ∙ count_joined c.args.width c.args.rows.items c.requires
          ∙ ap length (sym whole);
    }

pub returns : goal.returns
returns c =
    let left = c.loop-row.row-iterator in
    let none : into_iter_items left ≡ [] = nil_from_length (into_iter_items left) (sym left.rest.ok.0
    ∙ c.in-None.ensures.steps.0) in
    let whole : c.loop-row.cells.items ≡ joined c.args.rows.items = all_joined c.loop-row.cells.items
    (into_iter_items left) none ∙ c.loop-row.invariant in
    let count : c.len-count.result ≡ length c.args.rows.items = search rules in
    ap (λ n. rows_in c.args.width n (shapes c.loop-row.cells.items)) count
    ∙ ap (λ cells. rows_in c.args.width (length c.args.rows.items) (shapes cells)) whole
    ∙ joined_rows c.args.width c.args.rows.items c.requires
