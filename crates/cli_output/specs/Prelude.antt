-- The words of this crate's definitions, as proofs import them.
pub use Rattle.cli_output.specs.Names.{refusal_code, outcome_name, phase_name}
pub use Rattle.cli_output.specs.Escaping.{is_unprintable, hex_number, escape, shown, escaped, is_clean}
pub use Rattle.cli_output.specs.Telling.{spelled, row_line, row_text, note_text, refused_line, lost_line, PutsLine, conn_line, entry_line, entries_text, heard_line, failure_line}
pub use Rattle.cli_output.specs.Stopping.{stop_status, stop_text, IsStopOf, Gets}
