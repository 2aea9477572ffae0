use Rattle.std.proofs.Common.{sym, ◌∙◌}
use Rattle.wire.specs.declared.versions.Version.TheVariants.{V44}
use Rattle.wire.specs.Prelude.{versions, is_covered}
use Rattle.wire.proofs.Covered.{found-later}
use Rattle.wire.proofs.offers.covered.Goals as goal

pub loop-version-preserved : goal.loop-version-preserved
loop-version-preserved c =
    c.loop-version.invariant
    ∙ found-later (is_covered c.args.first c.args.range c.args.minor c.args.major) versions c.loop-version.version-index V44 c.loop-version-test.true (sym c.covers.ensures ∙ c.if-covers.false)
