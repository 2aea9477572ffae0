-- The words of this crate's definitions, as proofs import them.
pub use Rattle.cli_scripts.specs.Views.{Text, Params, ScriptRequestView, LineView, script_request_view, line_view}
pub use Rattle.cli_scripts.specs.Words.{parts_of, is_empty, words_of, is_decimal, number_below, number_of, without_minus, whole_of}
pub use Rattle.cli_scripts.specs.Params.{cell_by, cell_at, cell_among, cell_of, entries_in, params_of, IsParams}
pub use Rattle.cli_scripts.specs.Rows.{ending_of, of_words, line_of, request_line_of}
pub use Rattle.cli_scripts.specs.Meant.{meant}
pub use Rattle.cli_scripts.specs.Answers.{Refused}
pub use Rattle.cli_scripts.specs.Script.{lines, filled_from, filled_lines, lines_read, unreadable, fault_at, said_lines, said_requests, IsRefused}
pub use Rattle.cli_scripts.specs.Laws.{is_word, AreWords}
