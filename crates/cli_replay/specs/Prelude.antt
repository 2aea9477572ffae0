-- The words of this crate's definitions, as proofs import them.
pub use Rattle.cli_replay.specs.Events.{version_of, version_at, event_by, event_at, repeats, Came, moves, code_of}
pub use Rattle.cli_replay.specs.Running.{serving, Takes, Moves, stays, moves_on, Done, Does, line_of_note, Runs, starts, runs_on, Leads, LeadsBy, Settles, SettlesBy, Stepped}
pub use Rattle.cli_replay.specs.Texts.{read_line, waits_line, standing_line, conn_line, connection_text, report_text}
unfoldable pub use Rattle.cli_replay.specs.Texts.{connections_text}
pub use Rattle.cli_replay.specs.Scripts.{Says, unreadable_line, SaysScript}
