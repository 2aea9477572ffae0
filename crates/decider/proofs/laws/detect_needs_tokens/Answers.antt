use Rattle.decider.proofs.Attempts.{detect_needs_tokens}
use Rattle.decider.proofs.laws.detect_needs_tokens.Goals as goal

pub returns : goal.returns
returns c = detect_needs_tokens
