use Rattle.std.proofs.Common.{List, ℕ, Some, Err, IfOk, refl, sym, subst, ◌∙◌}
use Rattle.wire.specs.Prelude.{Message}
use Rattle.messages.specs.declared.fault.MsgFault.{MsgFault}
use Rattle.messages_deframer.specs.Taking.{Brings}
use Rattle.messages_deframer.proofs.Told.{err_holds, bad_tells}
use Rattle.messages_deframer.proofs.whole_message.read_data.Goals as goal

pub returns-in-Ok-clause-ok : goal.returns-in-Ok-clause-ok
returns-in-Ok-clause-ok g c = λ b reads.
    subst (λ (w : List ℕ). IfOk c.read_bytes.result (λ x. Brings (g.M.Readable.reads c.args.version) (Some (Message w)) x)) (c.in-Ok.ensures.ok.1 ∙ (rw c.in-Ok.ensures.ok.0 at reads.1)) c.read_bytes.ensures

pub returns-in-Ok-clause-memory : goal.returns-in-Ok-clause-memory
returns-in-Ok-clause-memory g c = err_holds c.read_bytes.result _ c.in-Ok.ensures.ok.0

pub returns-in-Err-clause-ok : goal.returns-in-Err-clause-ok
returns-in-Err-clause-ok g c = λ b reads.
    let here = c.args.reader.now.here in
    let t = bad_tells here c.in-Err.fault here.bad refl c.in-Err.ensures.good c.in-Err.ensures.bad in
    let is = sym c.from.ensures in
    (b, refl, subst (λ (e : MsgFault). g.M.Readable.reads c.args.version b (Err e)) is (g.met.M.Readable.bad c.args.version b c.in-Err.fault (c.finish_reads.ensures.same here b (Err c.in-Err.fault) reads t.0)), (λ w. t.1 (is ∙ w)))
