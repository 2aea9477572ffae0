use Rattle.world.proofs.Given.{given_cut}
use Rattle.world.proofs.inflow.to_client.Goals as goal

pub returns-then-link : goal.returns-then-link
returns-then-link g c = λ r w b. given_cut b c.if-link.true
