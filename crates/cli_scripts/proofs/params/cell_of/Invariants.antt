use Rattle.std.proofs.Common.{◌≡◌, drop}
use Rattle.wire.specs.Prelude.{versions}
use Rattle.cli_scripts.specs.Prelude.{cell_among, cell_of}
use Rattle.cli_scripts.proofs.params.cell_of.Given as goal

abbrev pub invariant-loop-version : goal.invariant-loop-version
invariant-loop-version l = cell_of l.packed ≡ cell_among (drop l.version-index versions) l.packed
