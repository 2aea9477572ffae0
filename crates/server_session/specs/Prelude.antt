-- The words of this crate's definitions, as proofs import them.
pub use Rattle.server_session.specs.Faults.{code_of, message_of, failure, of_query, of_writer}
pub use Rattle.server_session.specs.Said.{same_cells, same_metadata, same_say, is_reading, are_bytes, is_text}
unfoldable pub use Rattle.server_session.specs.Said.{fits}
pub use Rattle.server_session.specs.Session.{Setting, Open, no_result, Tx, no_tx, Change, change_alone, change_inside, Reply, OneRow, Summary, Bye, fails, succeeds, rows_of, used_up, count_at, left_after, in_transaction, commits_as, commits_over, close_last, close, unwritable, if_fits, pull, reply_to_login, with_write, query_mode, fields_told, fields_said, rows_fitted, result_of_answer, opened, opens, reply_to_run, reply_to_hello, greets, perform, is_halted, passed_over, serve}
pub use Rattle.server_session.specs.Rest.{Kept, begun, Written, Done, Idle, Full, Wrote, WroteRow, Ended, Step, rests, commit_entries, version_of, after_interrupt, interrupts, ends, puts, cause_of, replies, serves, reset_among, unread_among, turns, work_kept, worked_of, Snapshot, stepped, StepsRow, WritesRows, IsCounted, arrival_by, after_item, what_of, Receives, shut, full, take_kept, puts_noop, noop_kept}
pub use Rattle.server_session.specs.Views.{remaining_rows, waiting_in, first_of, kept_of, kept_before}
pub use Rattle.server_session.specs.Acts.{FailsBy, summary_of, is_ready, IsBody, IsRun, IsPut, unwritten_of, IsRefused, Refuses, left_result, left_tx, left_entry, commits_by, reply_of, streams, owes_row, runs, asked_by, token_of, first_token, answer_by, row_reply, entry_in, IsFree, turn_in, turn_by, work_state, one_less, after_summary, length_after, SendsRow, Steps, Answers, passed, OwesRows, AreOwed}
pub use Rattle.server_session.specs.Waits.{is_unread, is_reset_in, one_of, count_of}
