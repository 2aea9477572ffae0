use Rattle.structures.proofs.Narrow.{of_packing}
use Rattle.structures.proofs.laws.packing_faults.Goals as goal

pub returns : goal.returns
returns c = of_packing
