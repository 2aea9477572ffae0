use Rattle.std.proofs.Common.{◌∙◌, ap, drop, drop-drop, arith}
use Rattle.server_session.specs.Prelude.{remaining_rows}
use Rattle.server_session.proofs.remaining.Remaining.drop_front.Goals as goal

pub loop-gone-preserved : goal.loop-gone-preserved
loop-gone-preserved c = record {
  rows = c.pass.ensures.rows ∙ ap (drop 1) c.loop-gone.invariant.rows ∙ drop-drop 1 c.loop-gone._gone (remaining_rows c.args.self.now);
  few = omega (arith, c.pass.ensures.few, c.loop-gone.invariant.few);
}
