use Rattle.std.proofs.Common.{refl, ◌∙◌}
use Rattle.server.specs.Serving.{noop_at}
use Rattle.server.proofs.Known.{done}
use Rattle.world.proofs.Turning.{lacks, none_of}
use Rattle.world.proofs.Turned.{noop_over, puts, noop_done}
use Rattle.world.proofs.turns.noop.Goals as goal

pub returns-in-Some : goal.returns-in-Some
returns-in-Some g c = λ r w b. noop_over b c.in-Some.field-0 c.in-Some.is

pub returns-in_default-noop : goal.returns-in_default-noop
returns-in_default-noop g c = λ r w b. lacks b refl _ (puts b) (λ h. h) refl c.args.link.now c.noop.new.self refl b.ends (c.in_default-noop.ensures.refused ∙ b.server)

pub returns : goal.returns
returns g c = λ r w b. noop_done b c.noop.new.self c.in-Ok.put (none_of c.args.link.now.gone c.in_default.not-Some) (done (noop_at c.args.conn) _ _ _ c.in-Ok.ensures.done r.server b.server)
