use Rattle.std.proofs.Common.{rules, sym, ◌∙◌, ap, ◌<◌, length}
use Rattle.client_tracking.specs.Holding.{rest_in, account_of}
use Rattle.client_tracking.proofs.Taking.{some_lost}
use Rattle.client_tracking.proofs.tracking.TrackingClient.lost.Goals as goal

pub returns-then-pending-gt0-clause-account : goal.returns-then-pending-gt0-clause-account
returns-then-pending-gt0-clause-account c =
    let some : 0 < length (rest_in c.args.self.now).knows.waiting = search rules in
    ap (λ ls. record (account_of c.args.self.now) { lost = ls }) c.lost-self.ensures.0 ∙ sym (some_lost (account_of c.args.self.now) (rest_in c.args.self.now).knows some)
