use Rattle.std.proofs.Common.{◌∙◌}
use Rattle.messages.specs.Prelude.{request_view}
use Rattle.machine.specs.declared.states.Phase.{Phase}
use Rattle.machine.specs.Prelude.{kind_of, in_part, table}
use Rattle.machine.proofs.Gathered.{given_by}
use Rattle.machine.proofs.RowFacts.{joined_follow}
use Rattle.machine.proofs.successors.after.Goals as goal

pub returns-clause-table : goal.returns-clause-table
returns-clause-table c =
    given_by (λ (p : Phase). table c.args.version p (kind_of (request_view c.args.request.now)) (in_part (request_view c.args.request.now))) c.args.set
    c.after_member.result c.after_member-2.result c.after_member-3.result c.after_member-4.result c.after_member-5.result c.after_member-6.result c.after_member-7.result c.after_member-8.result
    c.union.result c.union-2.result c.union-3.result c.union-4.result c.union-5.result c.union-6.result c.union-7.result
    c.after_member.ensures c.after_member-2.ensures c.after_member-3.ensures c.after_member-4.ensures c.after_member-5.ensures c.after_member-6.ensures c.after_member-7.ensures c.after_member-8.ensures
    c.union.ensures c.union-2.ensures c.union-3.ensures c.union-4.ensures c.union-5.ensures c.union-6.ensures c.union-7.ensures

pub returns-clause-rows : goal.returns-clause-rows
returns-clause-rows c = returns-clause-table c ∙ joined_follow c.args.version c.args.set (request_view c.args.request.now)
