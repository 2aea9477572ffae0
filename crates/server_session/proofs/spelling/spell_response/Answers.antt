use Rattle.messages.specs.Prelude.{response_view}
use Rattle.server_session.proofs.Fitting.{written, refused}
use Rattle.std.proofs.Common.{sym, subst}
use Rattle.server_session.specs.Prelude.{Refuses}
use Rattle.server_session.proofs.spelling.spell_response.Goals as goal

pub returns-in-Ok : goal.returns-in-Ok
returns-in-Ok c = record { ok = written c.args.version (response_view c.args.response.now) c.clear.new.self.items c.write_response.new.out.items c.clear.ensures.items c.in-Ok.ensures.text c.in-Ok.ensures.read_back; err = tt }

pub returns-in-Err : goal.returns-in-Err
returns-in-Err c = record { ok = tt; err = subst (Refuses c.args.version (response_view c.args.response.now)) (sym c.why_unwritten.ensures) (refused c.args.version (response_view c.args.response.now) c.in-Err.fault c.in-Err.ensures.text.1) }
