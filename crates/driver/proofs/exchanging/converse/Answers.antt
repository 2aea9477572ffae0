use Rattle.std.proofs.Common.{◌≡◌, Err, sym, subst, rules, Result}
use Rattle.driver.specs.declared.breaks.Break.{Break}
use Rattle.driver.specs.declared.breaks.Break.TheVariants as break
use Rattle.driver.specs.Prelude.{stand_of, place, PutsOut, Converses}
use Rattle.driver.proofs.Reading.{says_unwritten, says_written}
use Rattle.driver.proofs.exchanging.converse.Goals as goal

pub returns-in_err-write_out-clause-converses : goal.returns-in_err-write_out-clause-converses
returns-in_err-write_out-clause-converses g c =
    let e : c.from_residual.result ≡ Err break.WriteFailed = search rules in
    let from = place (stand_of c.args.tracking.now) (g.I.Source.given c.args.source.now) (g.O.Sink.put c.args.sink.now) in
    let out : PutsOut from.stand (stand_of c.write_out.new.tracking) from.written (g.O.Sink.put c.write_out.new.sink) (Err break.WriteFailed) =
    subst (λ (w : Break). PutsOut from.stand (stand_of c.write_out.new.tracking) from.written (g.O.Sink.put c.write_out.new.sink) (Err w)) c.in_err-write_out.ensures.only c.in_err-write_out.ensures.out in
    subst (λ (z : Result (Unit {0}) Break). Converses from (place (stand_of c.write_out.new.tracking) from.given (g.O.Sink.put c.write_out.new.sink)) z) (sym e)
    (says_unwritten from (stand_of c.write_out.new.tracking) (g.O.Sink.put c.write_out.new.sink) out)

pub returns-clause-converses : goal.returns-clause-converses
returns-clause-converses g c =
    says_written (place (stand_of c.args.tracking.now) (g.I.Source.given c.args.source.now) (g.O.Sink.put c.args.sink.now)) (stand_of c.write_out.new.tracking) (stand_of c.read_on.new.tracking) (g.I.Source.given c.read_on.new.source) (g.O.Sink.put c.write_out.new.sink) c.read_on.result
    c.in_ok-write_out.ensures.out c.read_on.ensures.written c.read_on.ensures.reads c.read_on.ensures.ends
