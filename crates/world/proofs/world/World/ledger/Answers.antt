use Rattle.std.proofs.Common.{◌∙◌, ap}
use Rattle.world.specs.Prelude.{FitsWorld}
use Rattle.world.proofs.world.World.ledger.Goals as goal

pub returns : goal.returns
unfolding FitsWorld
returns g c = λ gate w f. c.ledger.ensures.lends ∙ c.engine.ensures ∙ ap (λ x. x.ledger) f.server ∙ ap (λ z. z.ledger) f.fits.server
