use Rattle.cli_serve.proofs.Lines.{gets_line}
use Rattle.cli_serve.proofs.printed.put_end.Goals as goal

pub returns : goal.returns
returns g c = gets_line _ _ _ _ _ _ _ _ _ _ _ _ c.args.conn c.args.cause c.tell.ensures c.tell_number.ensures c.tell-2.ensures c.tell_cause.ensures c.end_line.ensures
