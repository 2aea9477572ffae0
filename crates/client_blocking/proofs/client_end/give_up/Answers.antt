use Rattle.std.proofs.Common.{◌≡◌, length, sym, ◌∙◌, arith}
use Rattle.client.specs.Prelude.{Fits, Rest, rest_of, awaits, losses, after_drop}
use Rattle.client_blocking.proofs.Asked.{unanswered_awaits, unanswered_waits, loses}
use Rattle.client_blocking.proofs.Known.{holds}
use Rattle.client_blocking.proofs.client_end.give_up.Goals as goal

pub returns-then-awaits : goal.returns-then-awaits
returns-then-awaits c = λ r f. loses r (Fits c.lost.new.self) c.lost.result (unanswered_awaits r.knows (sym (holds (λ (x : Rest). c.awaits.result ≡ awaits x.knows) _ c.awaits.ensures r f) ∙ c.if-awaits.true)) (holds (λ (x : Rest). (c.lost.result ≡ losses x.knows) × (rest_of c.lost.new.self ≡ after_drop x)) _ c.lost.ensures r f)

pub returns-then-pending-gt0 : goal.returns-then-pending-gt0
returns-then-pending-gt0 c =
    λ r f.
    let count = holds (λ (x : Rest). c.pending.result ≡ length x.knows.waiting) _ c.pending.ensures.count r f in
    loses r (Fits c.lost-then-pending-gt0.new.self) c.lost-then-pending-gt0.result (unanswered_waits r.knows (omega arith)) (holds (λ (x : Rest). (c.lost-then-pending-gt0.result ≡ losses x.knows) × (rest_of c.lost-then-pending-gt0.new.self ≡ after_drop x)) _ c.lost-then-pending-gt0.ensures r f)
