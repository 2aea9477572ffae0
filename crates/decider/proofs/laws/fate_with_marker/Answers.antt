use Rattle.decider.proofs.Markers.{fate_with_marker}
use Rattle.decider.proofs.laws.fate_with_marker.Goals as goal

pub returns : goal.returns
returns c = fate_with_marker
