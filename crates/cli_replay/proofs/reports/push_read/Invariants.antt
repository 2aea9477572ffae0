use Rattle.std.proofs.Common.{◌≡◌, ◌++◌, ◌-◌, take, map, string_bytes, flat_map}
use Rattle.world.specs.Prelude.{read_of}
use Rattle.cli_replay.specs.Prelude.{read_line}
use Rattle.cli_replay.proofs.reports.push_read.Given as goal

abbrev pub invariant-loop-read : goal.invariant-loop-read
invariant-loop-read l = string_bytes l.text ≡ string_bytes l.fn.text ++ flat_map read_line (map read_of (take l.read-index l.summaries))
