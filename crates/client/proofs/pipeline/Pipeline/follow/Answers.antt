use Rattle.std.proofs.Common.{◌∷◌, []}
use Rattle.client.proofs.Waiting.{possible_on}
use Rattle.client.proofs.pipeline.Pipeline.follow.Goals as goal

pub loop-i-init : goal.loop-i-init
loop-i-init c = let p = c.args.self.now in possible_on c.args.version (p.phase ∷ []) p.following p.waiting.items p.passed (p.follows c.args.version c.requires)
