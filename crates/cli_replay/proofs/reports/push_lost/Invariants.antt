use Rattle.std.proofs.Common.{◌≡◌, ◌++◌, ◌-◌, take, string_bytes, flat_map}
use Rattle.cli_output.specs.Prelude.{lost_line}
use Rattle.cli_replay.proofs.reports.push_lost.Given as goal

abbrev pub invariant-loop-ordinal : goal.invariant-loop-ordinal
invariant-loop-ordinal l = string_bytes l.text ≡ string_bytes l.fn.text ++ flat_map lost_line (take l.ordinal-index l.losses)
