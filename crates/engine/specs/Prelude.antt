-- The words of this crate's definitions, as proofs import them.
pub use Rattle.engine.specs.Tokens.{is_token, same_writes, under_token, TokensOnce, Found, Free, There, Other, found_from, found_in, commit_by, known_by, added_by}
pub use Rattle.engine.specs.RowCells.{cells_in}
pub use Rattle.engine.specs.Views.{WriteView, ParameterView, Token, EntryView, AnswerView, QueryFault, unknown_text, too_many_rows, write_view, writes_view, token_view, entry_view, entry_of, entries_view, parameters_view, pairs_view, rows_in, names_view, rows_view, listed_rows, AreWide, answer_view}
pub use Rattle.engine.specs.Laws.{IsAnswer, Runs}
pub use Rattle.engine.specs.Table.{writes_of, is_of, is_not_of, last_of, table, with_write, value_of, with_writes, last_value}
pub use Rattle.engine.specs.Pairs.{Pairs, after_values, HavePlaces}
pub use Rattle.engine.specs.Places.{place_of, has_token_at, first_of, other_of, told_by, place_in, AreBehindFirsts, kept_at, where_none, IsWith}
unfoldable pub use Rattle.engine.specs.Places.{fingerprint}
pub use Rattle.engine.specs.Commits.{after_commit, answer_to, after_commits, is_in, AnswersByToken, CommitsOnce}
pub use Rattle.engine.specs.Queries.{Defined, parameter, count_in, text_in, with, column_rows, column, reads, cells_found, numbers, fixed_answer}
pub use Rattle.engine.specs.Fits.{reads_fit, with_reads}
pub use Rattle.engine.specs.Cells.{IsCellPair, AreCellPairs, AreCellEntries, IsOfCells}
pub use Rattle.engine.specs.Welcomes.{Welcome, own_name, under_own_name, IsNamed}
pub use Rattle.engine.specs.Kept.{ledger_of, principal_of, credentials_of, is_user, user_welcome, named_welcome}
