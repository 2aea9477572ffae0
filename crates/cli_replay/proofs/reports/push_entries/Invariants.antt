use Rattle.std.proofs.Common.{◌≡◌, ◌++◌, ◌-◌, take, string_bytes, flat_map}
use Rattle.engine.specs.Prelude.{entries_view}
use Rattle.cli_output.specs.Prelude.{entry_line}
use Rattle.cli_replay.proofs.reports.push_entries.Given as goal

abbrev pub invariant-loop-entry : goal.invariant-loop-entry
invariant-loop-entry l = string_bytes l.text ≡ string_bytes l.fn.text ++ flat_map entry_line (entries_view (take l.entry-index l.entries))
