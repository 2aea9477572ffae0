use Rattle.std.proofs.Common.{string_bytes}
use Rattle.cli_replay.proofs.Printing.{waits_more}
use Rattle.cli_replay.proofs.reports.push_waits.Goals as goal

pub loop-ordinal-preserved : goal.loop-ordinal-preserved
loop-ordinal-preserved c = waits_more (string_bytes c.args.text.now) (string_bytes c.loop-ordinal.text) (string_bytes c.push_waiting.new.text) c.args.first c.loop-ordinal.ordinal c.loop-ordinal.auto.ordinal c.loop-ordinal.invariant c.in_ok-push_waiting.ensures
