use Rattle.std.proofs.Common.{refl, sym, ◌∙◌, ap, subst}
use Rattle.server.specs.Prelude.{feed_at}
use Rattle.server.proofs.Known.{done}
use Rattle.world.specs.Prelude.{Feeds, IsWrong, end_peer}
use Rattle.world.proofs.Turning.{lacks, wrong}
use Rattle.world.proofs.Turned.{fed_over, fed_cut, comes, foreign_done}
use Rattle.world.proofs.inflow.foreign.Goals as goal

pub returns-in_default : goal.returns-in_default
returns-in_default g c = λ r w b. wrong b (λ h. h) (subst (λ z. IsWrong (Feeds c.args.conn c.args.bytes.now) (end_peer z)) (sym c.in_default.is) tt) c.args.link.now b.client refl b.ends

pub returns-in-Some : goal.returns-in-Some
returns-in-Some g c = λ r w b. fed_over b refl tt c.args.bytes.now (comes b (ap end_peer c.in-Foreign.is)) c.in-Some.field-0 c.in-Some.is

pub returns-then-link : goal.returns-then-link
returns-then-link g c = λ r w b. fed_cut b refl tt c.args.bytes.now (comes b (ap end_peer c.in-Foreign.is)) c.in_default-gone.is c.if-link.true

pub returns-in_default-feed : goal.returns-in_default-feed
returns-in_default-feed g c = λ r w b.
    lacks b refl _ (comes b (ap end_peer c.in-Foreign.is)) (λ h. h) refl c.args.link.now c.feed.new.self refl b.ends (c.in_default-feed.ensures.refused ∙ b.server)

pub returns : goal.returns
returns g c = λ r w b. foreign_done b (ap end_peer c.in-Foreign.is) c.feed.new.self c.in-Ok.took c.in_default-gone.is c.if-link.false (done (feed_at c.args.conn c.args.bytes.now) _ _ _ c.in-Ok.ensures.done r.server b.server)
