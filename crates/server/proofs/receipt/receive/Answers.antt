use Rattle.std.proofs.Common.{◌≡◌, ◌∙◌, refl, ap, Option, Some, None, Result, Ok, Err, IfOk, OnErr}
use Rattle.std.specs.declared.alloc.AllocError.{AllocError}
use Rattle.std.proofs.lemmas.Result.{on_err_weaker}
use Rattle.wire.specs.Prelude.{Item, Noop, TooBig}
use Rattle.messages.specs.Prelude.{request_view, Arrival, Asked, Unread}
use Rattle.server_session.specs.declared.kinds.What.{What}
use Rattle.server_session.specs.Prelude.{Kept, Receives, arrival_by, kept_of}
use Rattle.server.specs.Prelude.{arrival, IsReceived}
use Rattle.server.proofs.receipt.receive.Goals as goal

-- this arrival was received, and the item is it
received_as : (r : Result What AllocError) (old new : Kept) (item : Option Item) (x : Arrival) → arrival old item ≡ Some x → IfOk r (λ what. Receives what old new x) → OnErr r ⊥ → IsReceived r old new (arrival old item)
received_as (Ok what) old new item x e took never = rw e took
received_as (Err f) old new item x e took never = absurd never

pub returns-in-Nothing : goal.returns-in-Nothing
returns-in-Nothing c = λ item is.
    let none : item ≡ None = rw c.in-Nothing.is at is in rw none (refl, refl)

pub returns-in-Noop : goal.returns-in-Noop
returns-in-Noop c = λ item is.
    let noop : item ≡ Some Noop = rw c.in-Noop.is at is in rw noop (refl, refl)

pub returns-in-Message : goal.returns-in-Message
returns-in-Message c = λ item is.
    let k = kept_of c.args.session.now in
    let h = rw c.in-Message.is at is in
    received_as c.receive.result k (kept_of c.receive.new.self) item (Asked (request_view c.in-Message.request)) (ap (arrival k) h.1 ∙ ap (λ y. Some (arrival_by y)) h.2)
    c.receive.ensures.taken (on_err_weaker c.receive.result (λ e. absurd cc) c.receive.ensures.memory)

pub returns-in-Bad : goal.returns-in-Bad
returns-in-Bad c = λ item is.
    let k = kept_of c.args.session.now in
    let h = rw c.in-Bad.is at is in
    let r = c.receive-in-Bad in received_as r.result k (kept_of r.new.self) item (Unread c.in-Bad.fault) (ap (arrival k) h.1 ∙ ap (λ y. Some (arrival_by y)) (h.2 h.3))
    r.ensures.taken (on_err_weaker r.result (λ e. h.3 cc) r.ensures.memory)

pub returns-in-TooBig : goal.returns-in-TooBig
returns-in-TooBig c = λ item is.
    let big : item ≡ Some TooBig = rw c.in-TooBig.is at is in rw big c.refuse.ensures
