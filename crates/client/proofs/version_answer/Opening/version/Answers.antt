use Rattle.std.proofs.Common.{◌∙◌, sym, rules}
use Rattle.wire.specs.Prelude.{versions}
use Rattle.client.specs.Prelude.{held_bytes}
use Rattle.client.proofs.Versions.{heard_later}
use Rattle.client.proofs.version_answer.Opening.version.Goals as goal

pub loop-version-preserved : goal.loop-version-preserved
loop-version-preserved c = c.loop-version.invariant ∙ heard_later versions c.loop-version.version-index _ (held_bytes c.args.self.now) (search rules) (sym c.tells.ensures ∙ c.if-tells.false)
