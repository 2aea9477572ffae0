use Rattle.std.proofs.Common.{ap}
use Rattle.wire.specs.Prelude.{Opened, at_client, takes}
use Rattle.client.specs.Prelude.{came_as, rest_of, knowledge_of}
use Rattle.client.proofs.Pieces.{is_bad, heard_feeds, refused_feeds}
use Rattle.client.proofs.client.Client.feed_item.Goals as goal

pub returns-in-Ok-clause-feeds : goal.returns-in-Ok-clause-feeds
returns-in-Ok-clause-feeds c =
    let r = rest_of c.args.self.now in
    let took = c.in_ok-taken.ensures.ok in
    heard_feeds r (takes at_client r.item c.args.piece.now) (came_as c.in_ok-taken.taken.came) took.came (knowledge_of c.hear.new.self) _ (ap (λ (i : Opened). record r { item = i; knows = knowledge_of c.hear.new.self }) took.rest_is) c.in_ok-taken.taken.used c.in-Ok.heard took.used c.in-Ok.ensures

pub returns-in-Err-clause-feeds : goal.returns-in-Err-clause-feeds
returns-in-Err-clause-feeds c =
    let r = rest_of c.args.self.now in
    refused_feeds r (takes at_client r.item c.args.piece.now) (came_as c.in_ok-taken.taken.came) c.in_ok-taken.ensures.ok.came (knowledge_of c.hear.new.self) _ (ap (λ (i : Opened). record r { item = i; knows = knowledge_of c.hear.new.self }) c.in_ok-taken.ensures.ok.rest_is) c.in-Err.fault c.in-Err.ensures

pub returns-in-Err-clause-room : goal.returns-in-Err-clause-room
returns-in-Err-clause-room c = λ e.
    let bad = is_bad _ _ _ _ c.in-Err.ensures in
    absurd cc
