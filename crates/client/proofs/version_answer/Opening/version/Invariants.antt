use Rattle.std.proofs.Common.{◌≡◌, drop}
use Rattle.wire.specs.Prelude.{versions}
use Rattle.messages.specs.Prelude.{heard_among, heard_version}
use Rattle.client.specs.Prelude.{held_bytes}
use Rattle.client.proofs.version_answer.Opening.version.Given as goal

abbrev pub invariant-loop-version : goal.invariant-loop-version
invariant-loop-version l = heard_version (held_bytes l.self) ≡ heard_among (drop l.version-index versions) (held_bytes l.self)
