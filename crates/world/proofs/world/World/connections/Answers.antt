use Rattle.std.proofs.Common.{arith, ◌∙◌}
use Rattle.world.specs.Prelude.{FitsWorld, Holds, FitsLink}
use Rattle.world.proofs.Turning.{as_long}
use Rattle.world.proofs.world.World.connections.Goals as goal

pub returns : goal.returns
unfolding FitsWorld
returns g c = λ gate w f. let same = as_long Holds c.args.self.now.links.items f.rest.links f.links ∙ as_long FitsLink f.rest.links w.conns f.fits.links in omega (arith, c.len.ensures, c.args.self.now.links.ok.0, same)
