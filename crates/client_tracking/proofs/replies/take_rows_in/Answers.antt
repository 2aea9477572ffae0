use Rattle.std.proofs.Common.{rules, ◌≡◌, sym, ◌∙◌, ap, Some, map, option_map, slice_index_or, slice_set}
use Rattle.std.proofs.lemmas.Bool.{ne_eqb}
use Rattle.client_tracking.specs.Account.{ReplyView}
use Rattle.client_tracking.specs.Holding.{reply_view, row_view}
use Rattle.client_tracking.specs.declared.replies.Reply.{Reply}
use Rattle.client_tracking.proofs.Taking.{same_at, found_at, taken_at, one_more_other, all_other, none_found, none_taken}
use Rattle.client_tracking.proofs.replies.take_rows_in.Goals as goal

pub returns-then-index-ordinal-clause-rows : goal.returns-then-index-ordinal-clause-rows
returns-then-index-ordinal-clause-rows c =
    let seen : c.index.result.now ≡ slice_index_or c.args.replies.now.items c.loop-i.i c.index.result.now = search rules in
    let at : c.index_mut.result.now ≡ slice_index_or c.args.replies.now.items c.loop-i.i c.index_mut.result.now = search rules in
    let same : c.index_mut.result.now.ordinal ≡ c.args.ordinal = ap (λ (r : Reply). r.ordinal) (same_at c.args.replies.now.items c.loop-i.i c.index_mut.result.now c.index.result.now (search rules) at seen) ∙ c.if-index-ordinal.true in
    ap (λ z. Some (map row_view z.items)) c.replace.ensures.value
    ∙ sym (ap (option_map (λ (r : ReplyView). r.rows)) (found_at c.args.ordinal c.args.replies.now.items c.loop-i.i c.index_mut.result.now (search rules) c.loop-i.invariant.0 at same))

pub returns-then-index-ordinal-clause-replies : goal.returns-then-index-ordinal-clause-replies
returns-then-index-ordinal-clause-replies c =
    let seen : c.index.result.now ≡ slice_index_or c.args.replies.now.items c.loop-i.i c.index.result.now = search rules in
    let at : c.index_mut.result.now ≡ slice_index_or c.args.replies.now.items c.loop-i.i c.index_mut.result.now = search rules in
    let same : c.index_mut.result.now.ordinal ≡ c.args.ordinal = ap (λ (r : Reply). r.ordinal) (same_at c.args.replies.now.items c.loop-i.i c.index_mut.result.now c.index.result.now (search rules) at seen) ∙ c.if-index-ordinal.true in
    ap (λ xs. map reply_view (slice_set xs c.loop-i.i (record c.index_mut.result.now { rows = c.replace.new.dest }))) (ap (λ z. z.items) c.loop-i.invariant.1)
    ∙ taken_at c.args.ordinal c.args.replies.now.items c.loop-i.i c.index_mut.result.now (record c.index_mut.result.now { rows = c.replace.new.dest }) (search rules) c.loop-i.invariant.0 at same
    (ap (λ z. record (reply_view c.index_mut.result.now) { rows = map row_view z.items }) c.replace.ensures.after ∙ ap (λ z. record (reply_view c.index_mut.result.now) { rows = map row_view z }) c.new.ensures.items)

pub returns-clause-rows : goal.returns-clause-rows
returns-clause-rows c =
    sym (ap (option_map (λ (r : ReplyView). r.rows)) (none_found c.args.ordinal _ (all_other c.args.ordinal c.args.replies.now.items c.loop-i.i (search rules) c.loop-i.invariant.0)))

pub returns-clause-replies : goal.returns-clause-replies
returns-clause-replies c =
    ap (λ z. map reply_view z.items) c.loop-i.invariant.1
    ∙ sym (none_taken c.args.ordinal _ (all_other c.args.ordinal c.args.replies.now.items c.loop-i.i (search rules) c.loop-i.invariant.0))

pub loop-i-preserved : goal.loop-i-preserved
loop-i-preserved c =
    let at : c.index.result.now ≡ slice_index_or c.args.replies.now.items c.loop-i.i c.index.result.now = search rules in
    (one_more_other c.args.ordinal c.args.replies.now.items c.loop-i.i c.index.result.now (search rules) c.loop-i.invariant.0 at (ne_eqb c.index.result.now.ordinal c.args.ordinal c.if-index-ordinal.false), c.loop-i.invariant.1)
