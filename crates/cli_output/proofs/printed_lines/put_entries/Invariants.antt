use Rattle.std.specs.Io.KnownBytes.{Appends}
use Rattle.cli_output.proofs.Gets.{take, entries_view, entries_text}
use Rattle.cli_output.proofs.printed_lines.put_entries.Given as goal

-- those before it are printed
abbrev pub invariant-loop-entry : goal.invariant-loop-entry
invariant-loop-entry g l = Appends (g.O.Sink.taken l.fn.out) (g.O.Sink.taken l.out) (entries_text (entries_view (take l.entry-index l.entries)))
