use Rattle.std.proofs.Common.{Bool, Ok, ap, sym, subst}
use Rattle.wire.specs.Prelude.{Opened, at_client, takes}
use Rattle.client.specs.Prelude.{rest_of, fed_open}
use Rattle.client.specs.Hearings.{Feeds}
use Rattle.client.proofs.Pieces.{quiet_feeds}
use Rattle.client.proofs.client.Client.feed_open.Goals as goal

pub returns-in-Ok-true-clause-feeds : goal.returns-in-Ok-true-clause-feeds
returns-in-Ok-true-clause-feeds c =
    let r = rest_of c.args.self.now in
    let m = takes at_client r.item c.args.piece.now in
    let took = c.in-Ok-true.ensures.data r.knows.version (ap (λ (b : Bool). Ok b) c.in-Ok-true.field-0-test) in
    subst (Feeds _ r (fed_open r m)) (sym c.used_up.ensures) (quiet_feeds r m _ _ took.came (ap (λ (i : Opened). record r { item = i }) took.rest_is) took.used)
