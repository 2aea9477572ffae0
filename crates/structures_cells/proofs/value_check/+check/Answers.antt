use Rattle.std.proofs.Common.{ap, sym, ◌∙◌, rules, Ok, Err}
use Rattle.std.proofs.lemmas.Result.{err_from_is_err_and}
use Rattle.packstream.specs.Prelude.{Tree, tree, entry}
use Rattle.structures_cells.specs.Prelude.{fault, scan, structures}
use Rattle.structures_cells.proofs.Scanning.{members_step, pairs_step, tree-Dict}
use Rattle.structures_cells.proofs.value_check.+check.Goals as goal

pub check_value-returns-in-Dict : goal.check_value-returns-in-Dict
check_value-returns-in-Dict t c = c.check_pairs.ensures ∙ ap (λ (u : Tree). scan (fault c.args.version) c.args.seen (structures u)) (sym (ap tree c.in-Dict.is ∙ tree-Dict c.in-Dict.pairs))

pub check_members-returns-in_err-number : goal.check_members-returns-in_err-number
check_members-returns-in_err-number t c =
    let p = err_from_is_err_and c.from_residual.result c.from_residual.ensures.1 in
    rw (p.1, p.2) (members_step tree (fault c.args.version) c.loop-member.number (Err c.in_err-number.field-0.0) c.args.members.now.items c.loop-member.member-index c.member-item.result (search rules) (search rules) c.in_err-number.ensures ∙ rw c.deref-member-items.ensures.value at c.loop-member.invariant)

pub check_members-loop-member-preserved : goal.check_members-loop-member-preserved
check_members-loop-member-preserved t c =
    members_step tree (fault c.args.version) c.loop-member.number (Ok c.in_ok-number.number) _ c.loop-member.member-index c.member-item.result c.loop-member-test.true c.member-item.is c.in_ok-number.ensures ∙ c.loop-member.invariant

pub check_pairs-loop-pair-preserved : goal.check_pairs-loop-pair-preserved
check_pairs-loop-pair-preserved t c =
    pairs_step entry (fault c.args.version) c.loop-pair.number (Ok c.in_ok-number.number) _ c.loop-pair.pair-index c.pair-item.result c.loop-pair-test.true c.pair-item.is c.in_ok-number.ensures ∙ c.loop-pair.invariant

pub check_pairs-returns-in_err-number : goal.check_pairs-returns-in_err-number
check_pairs-returns-in_err-number t c =
    let p = err_from_is_err_and c.from_residual.result c.from_residual.ensures.1 in
    rw (p.1, p.2) (pairs_step entry (fault c.args.version) c.loop-pair.number (Err c.in_err-number.field-0.0) c.args.pairs.now.items c.loop-pair.pair-index c.pair-item.result (search rules) (search rules) c.in_err-number.ensures ∙ rw c.deref-pair-items.ensures.value at c.loop-pair.invariant)
