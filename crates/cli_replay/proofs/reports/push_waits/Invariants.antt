use Rattle.std.proofs.Common.{◌≡◌, ◌++◌, ◌-◌, string_bytes, flat_map}
use Rattle.world.specs.Prelude.{ordinals}
use Rattle.cli_replay.specs.Prelude.{waits_line}
use Rattle.cli_replay.proofs.reports.push_waits.Given as goal

abbrev pub invariant-loop-ordinal : goal.invariant-loop-ordinal
invariant-loop-ordinal l = string_bytes l.text ≡ string_bytes l.fn.text ++ flat_map waits_line (ordinals l.first (l.ordinal - l.first))
