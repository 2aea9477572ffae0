use Rattle.std.proofs.Common.{◌∙◌, ap}
use Rattle.server.specs.Prelude.{setting, rest_of}
use Rattle.server_blocking.specs.Prelude.{settled, liveness_of, sink_view}
use Rattle.server_blocking.specs.declared.due.Next.TheVariants as next
use Rattle.server_blocking.proofs.Stepping.{goes_by, goes_with, goes_wrong, holds_part, holds_same}
use Rattle.server_blocking.proofs.Called.{ended_there, holds_none, holds_some}
use Rattle.server_blocking.proofs.Rows.{goes_rows, grows_rows, rows_tell}
use Rattle.server_blocking.proofs.due.work_once.Goals as goal

pub returns-in-Ok-Step-clause-steps : goal.returns-in-Ok-Step-clause-steps
returns-in-Ok-Step-clause-steps g c = λ r u t before i o.
    let mid = rest_of g.E.Engine.entries c.work_step.new.server in
    let new = rest_of g.E.Engine.entries c.write_rows.new.self in
    goes_rows i g.E.Engine.answer g.G.Gate.welcomes c.write_rows.result mid new (rows_tell g.E.Engine.answer g.G.Gate.welcomes mid c.args.conn c.write_rows.result new c.write_rows.ensures)
    (goes_by i g.E.Engine.answer g.G.Gate.welcomes o mid next.Step (rw c.in-Ok-Step.field-0-is at c.in-Ok-Step.ensures.works))

pub returns-in-Ok-Step-clause-grows : goal.returns-in-Ok-Step-clause-grows
returns-in-Ok-Step-clause-grows g c = λ r i h.
    let mid = rest_of g.E.Engine.entries c.work_step.new.server in
    let new = rest_of g.E.Engine.entries c.write_rows.new.self in
    grows_rows c.args.conn g.E.Engine.answer g.G.Gate.welcomes c.write_rows.result mid new (rows_tell g.E.Engine.answer g.G.Gate.welcomes mid c.args.conn c.write_rows.result new c.write_rows.ensures) r i (c.in-Ok-Step.ensures.grows r i h)

pub returns-in-Ok-Rest-clause-steps : goal.returns-in-Ok-Rest-clause-steps
returns-in-Ok-Rest-clause-steps g c = λ r u t before i o.
    let whole = settled (setting g.E.Engine.answer g.G.Gate.welcomes r) c.args.conn t in
    let new = rest_of g.E.Engine.entries c.work_step.new.server in
    let w = goes_by i g.E.Engine.answer g.G.Gate.welcomes o new next.Rest (rw c.in-Ok-Rest.field-0-is at c.in-Ok-Rest.ensures.works) in
    record { holds = w; stands = c.liveness.ensures ∙ ap liveness_of (ended_there r c.args.conn i u whole.ledger (record whole.kept { unsent = w.held }) new w.now) }

pub returns-in-Ok-clause-steps : goal.returns-in-Ok-clause-steps
returns-in-Ok-clause-steps g c = λ r u t before i o.
    let mid = rest_of g.E.Engine.entries c.work_step.new.server in
    let w = goes_by i g.E.Engine.answer g.G.Gate.welcomes o mid next.Room (rw c.in-Ok-Room.field-0-is at c.in-Ok-Room.ensures.works) in
    goes_with w (holds_none i {t = w.so_far} before (sink_view g.O.Sink.put g.O.Sink.taken c.args.sink.now) (sink_view g.O.Sink.put g.O.Sink.taken c.put_out.new.sink) mid (rest_of g.E.Engine.entries c.put_out.new.server) w.holds c.in-Ok.ensures.puts)

pub returns-in-Err-put_out-clause-steps : goal.returns-in-Err-put_out-clause-steps
returns-in-Err-put_out-clause-steps g c = λ r u t before i o.
    let mid = rest_of g.E.Engine.entries c.work_step.new.server in
    let w = goes_by i g.E.Engine.answer g.G.Gate.welcomes o mid next.Room (rw c.in-Ok-Room.field-0-is at c.in-Ok-Room.ensures.works) in
    goes_wrong w (holds_some i {t = w.so_far} before (sink_view g.O.Sink.put g.O.Sink.taken c.args.sink.now) (sink_view g.O.Sink.put g.O.Sink.taken c.put_out.new.sink) mid (rest_of g.E.Engine.entries c.put_out.new.server) w.holds c.in-Err-put_out.fault c.in-Err-put_out.ensures.puts)

pub returns-in-Err-clause-steps : goal.returns-in-Err-clause-steps
returns-in-Err-clause-steps g c = λ r u t before i o. goes_wrong o (holds_part (holds_same c.in-Err.ensures.works o.holds))
