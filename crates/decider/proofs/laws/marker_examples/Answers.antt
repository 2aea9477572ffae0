use Rattle.decider.proofs.Markers.{marker_examples}
use Rattle.decider.proofs.laws.marker_examples.Goals as goal

pub returns : goal.returns
returns c = marker_examples
