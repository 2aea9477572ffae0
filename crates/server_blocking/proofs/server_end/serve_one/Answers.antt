use Rattle.std.proofs.Common.{◌∙◌, sym, ap, subst, refl, Option, IsSome, unwrap_or}
use Rattle.server_session.specs.declared.kinds.Cause.{Cause}
use Rattle.server.specs.Prelude.{find, lost_at, setting, Fits}
use Rattle.server_blocking.specs.Prelude.{StandsOver, Talk, conversation, with_talk}
use Rattle.server_blocking.proofs.Conversings.{front_by_given, put_by_given}
use Rattle.server_blocking.proofs.Stepping.{breaks_off}
use Rattle.server_blocking.proofs.Called.{leaves_lost, lost_cause, lost_rest}
use Rattle.server.proofs.Known.{gone}
use Rattle.server_blocking.proofs.server_end.serve_one.Goals as goal

pub returns-in-Ok-clause-serves : goal.returns-in-Ok-clause-serves
returns-in-Ok-clause-serves g c = λ r f e.
    let h = c.in-Ok.ensures.converses r f e in
    let t = conversation (setting g.E.Engine.answer g.G.Gate.welcomes r) c.args.conn r.ledger h.read in
    let i : IsSome (find c.args.conn r.sessions) = subst IsSome (sym e) refl in
    let l = (gone (lost_at c.args.conn) _ _ _ c.lost.ensures) (with_talk r c.args.conn h.unfinished t.ledger t.kept) h.now in
    record {
      read = h.read;
      input = h.input;
      ends = h.ends;
      ended = c.unwrap_or-cause.ensures ∙ ap (λ (x : Option Cause). unwrap_or x Cause.Lost) (l.0 ∙ lost_cause r c.args.conn i h.unfinished t.ledger t.kept);
      now = subst (Fits g.E.Engine.entries c.lost.new.self) (lost_rest r c.args.conn i h.unfinished t.ledger t.kept) l.1;
      took = h.took;
    }

pub returns-in-Err-clause-serves : goal.returns-in-Err-clause-serves
returns-in-Err-clause-serves g c = λ r f e.
    let h = c.in-Err.ensures.converses r f e in
    let i : IsSome (find c.args.conn r.sessions) = subst IsSome (sym e) refl in
    let given_up = λ (s : Talk) (x : StandsOver r c.args.conn (Fits g.E.Engine.entries c.converse-done.new.server) s.ledger). (gone (lost_at c.args.conn) _ _ _ c.lost.ensures _ x.now).1 ∙ lost_rest r c.args.conn i x.unfinished s.ledger x.kept in
    record { read = h.read; input = h.input; broken = breaks_off h.broken (λ s x. (given_up s x.0, x.1)); whole = h.whole }

pub returns-in-Ok-clause-leaves : goal.returns-in-Ok-clause-leaves
returns-in-Ok-clause-leaves g c = leaves_lost c.args.conn _ _ _ c.lost.result c.converse-done.ensures.grows c.lost.ensures

pub returns-in-Err-clause-leaves : goal.returns-in-Err-clause-leaves
returns-in-Err-clause-leaves g c = leaves_lost c.args.conn _ _ _ c.lost.result c.converse-done.ensures.grows c.lost.ensures

pub returns-in-Ok-clause-given : goal.returns-in-Ok-clause-given
returns-in-Ok-clause-given g c = λ r bytes f e grows. put_by_given bytes grows (c.in-Ok.ensures.converses r f e)

pub returns-in-Err-clause-front : goal.returns-in-Err-clause-front
returns-in-Err-clause-front g c = λ r bytes f e grows. front_by_given bytes grows c.in-Err.fault (c.in-Err.ensures.converses r f e)
