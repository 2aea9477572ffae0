use Rattle.std.proofs.Common.{◌≡◌, drop, map}
use Rattle.structures_cells.specs.Prelude.{entry}
use Rattle.driver.specs.Prelude.{named}
use Rattle.driver.proofs.accounts.named.Given as goal

abbrev pub invariant-loop-key : goal.invariant-loop-key
invariant-loop-key l = named l.name (map entry (drop l.key-index l.entries)) ≡ named l.name (map entry l.entries)
