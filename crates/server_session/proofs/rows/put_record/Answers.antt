use Rattle.std.proofs.Common.{◌∙◌}
use Rattle.structures_cells.specs.Prelude.{shapes}
use Rattle.server_session.proofs.Sent.{record_put, typed_row}
use Rattle.server_session.proofs.rows.put_record.Goals as goal

pub returns-in-Ok-clause-put : goal.returns-in-Ok-clause-put
returns-in-Ok-clause-put c = λ yes.
    let out = c.put_row.new.out in
    rw c.close_run.ensures.before (record_put c.args.version (shapes c.args.row.now) out.before out.more c.close_run.new.out.more _ (typed_row c.args.row.now) (rw c.set_mark.ensures.more at c.in-Ok.ensures.spelled) (c.close_run.ensures.short yes) c.in-Ok.ensures.good c.in-Ok.ensures.deep c.in-Ok.ensures.writable
    (c.in-Ok.ensures.before ∙ c.set_mark.ensures.before) (c.close_run.ensures.closed yes))
