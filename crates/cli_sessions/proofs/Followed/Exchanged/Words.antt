-- What the proofs of this crate cite of other modules.
pub use Rattle.std.proofs.Common.{Bool, Err, List, None, Ok, Option, Result, Some, [], ap, append-nil, append_assoc, arith, drop, false, get_or, inl, inr, length, map, ne_eqb, not-suc-le-zero}
pub use Rattle.std.proofs.Common.{refl, rules, subst, suc, sym, take, true, true≢false, unwrap_or, ℕ, ⊎_elim, ◌++◌, ◌+◌, ◌<◌, ◌==◌, ◌∙◌, ◌∷◌, ◌≡◌, ◌⊎◌, option_map, IsErrOf, ◌-◌, IsSome}
pub use Rattle.std.proofs.Common.{MatchResult, OnErr, OnOk, bytes_eq, fold, is_ok, length-append, length-take, take-append-drop, take_all, take_at, ◌≤◌, IfOk}
pub use Rattle.std.proofs.KnownBytes.{Appends-nil, Appends-trans, Consumes-kept, Consumes-nil, Consumes-trans}
pub use Rattle.std.proofs.lemmas.Bool.{cond_both, false≢true, cases_lt, not-false, not-true}
pub use Rattle.std.proofs.lemmas.List.{map-append, nil_from_length, append_cancel_left, length-take-le, take-append-le}
pub use Rattle.streams.proofs.Fronts.{front_after, front_whole}
pub use Rattle.client_blocking.proofs.Asked.{unanswered_waits, unless_err, all_taken, awaits_open}
pub use Rattle.cli_output.proofs.Gets.{gets_none, gets_then, front_in, cause_of, flat_map-append, common_steps}
pub use Rattle.std.proofs.lemmas.List.Splits.{slice_split_at, slice_split_none}
pub use Rattle.client.proofs.Makes.{Makes, makes, tells_summary}
pub use Rattle.client.proofs.Refusing.{accepted_facts}
pub use Rattle.std.proofs.lemmas.List.Elements.{All-push}
pub use Rattle.streams.proofs.Parts.{all_done, empty_nil}
pub use Rattle.client_blocking.proofs.Tales.{hears_all-append}
pub use Rattle.wire.proofs.Readers.{state-append}
pub use Rattle.cli_sessions.specs.Words.{Appends, Consumes, IsAtEnd, result_err, result_and, Version, Heard, RequestView, ResponseView, Fits, Hearing, Knows, Note, Rest, Summary, asking_bytes, awaits}
pub use Rattle.cli_sessions.specs.Words.{heard_as, hears_item, losses, lost_outcome, note, refuses, taken_out, rest_of, losses_from, StaysSound, UnlessTold, AppendsFront, StreamFault, Memory}
pub use Rattle.cli_sessions.specs.Words.{SourceView, SinkView, GivesBytes, ReadFailed, WriteFailed, FeedsPiece, HearsPiece, ReadsPiece, Tale, Writes, after_all, after_notes, all_answered, hears_all, notes_of, tale_of, ScriptRequestView}
pub use Rattle.cli_sessions.specs.Words.{Text, filled_from, filled_lines, lines, meant, request_line_of, said_requests, script_request_view, Gets, IsStopOf, PutsLine, heard_line, note_text}
pub use Rattle.cli_sessions.specs.Words.{outcome_name, phase_name, row_text, stop_status, stop_text, entries_text, lost_line, Broken, Unreadable, SubmitFault, StopReason, V51, Wish, Item, at_client}
pub use Rattle.cli_sessions.specs.Words.{outputs, Opened, at_server, items_received, state, Phase, kind_of, is_goodbye, Outcome, PutsOut}
pub use Rattle.cli_sessions.specs.ShellPrelude.{Accounts, AreDone, Asks, Does, DoesMore, EachHasALine, Exchanges, Has, HasFate, HeardUpTo, IsAt, IsCut, IsFront, Log, Moves, Place, Prints, CutsBy, Progress}
pub use Rattle.cli_sessions.specs.ShellPrelude.{Puts, PutsNotes, Reaches, StopsIn, Streams, Submits, Talked, TalksLine, a_request, answers_line, asks_answer, asks_version, at_loss, behind_line, breaks_off}
pub use Rattle.cli_sessions.specs.ShellPrelude.{cut_at, explained, fails_first, failure_told, fault_in, first_place, greeting, heard_place, if_filled, in_line, is_printed, losses_text, lost_of, next_line}
pub use Rattle.cli_sessions.specs.ShellPrelude.{no_request, on_errors, on_output, opens, other_text, parted, parting, parting_log, prints_none, prints_one, refuses_line, said, sent_out, submitted}
pub use Rattle.cli_sessions.specs.ShellPrelude.{summaries_text, summary_line, unanswered, unmade, version_after, versions_after, why_text, Sinks, sinks_by, sinks_of, place_after, notes_text, text_of, Hears}
pub use Rattle.cli_sessions.specs.ShellPrelude.{texts_of, heard_log, HearsMore, Caller, Conversation}
