-- What was received, by what the bytes of a message stand for.
use Rattle.std.proofs.Common.{◌≡◌, sym, ap, true≢false, Result, Ok, Err, IfOk, IsErr}
use Rattle.std.specs.declared.alloc.AllocError.{AllocError}
use Rattle.messages.specs.declared.MsgFault.{MsgFault}
use Rattle.messages.specs.declared.MsgFault.TheVariants.{Memory}
use Rattle.messages.specs.declared.request.Request.{Request}
use Rattle.messages.specs.Prelude.{request_view, RequestView, Answers}
use Rattle.server_session.specs.declared.kinds.What.{What}
use Rattle.server_session.specs.Prelude.{Kept, Receives, arrival_by}
use Rattle.server_session.specs.Views.{arrival_told}

-- what was asked is what they stand for, unless memory ran out
pub received_by : (asked : Result Request MsgFault) (defined : Result RequestView MsgFault) (r : Result What AllocError) (old new : Kept) → Answers request_view asked defined → (asked ≡ Err Memory → IsErr r)
    → IfOk r (λ what. Receives what old new (arrival_told asked)) → IfOk r (λ what. Receives what old new (arrival_by defined))
received_by asked defined (Err e) old new is wants took = tt
received_by (Ok m) defined (Ok what) old new is wants took = rw is took
received_by (Err e) defined (Ok what) old new is wants took = rw (is (λ m. absurd (true≢false (sym (wants (ap Err m)))))) took
