-- The words of this crate's definitions, as proofs import them.
pub use Rattle.cli_sessions.specs.declared.caller.Caller.{Caller}
pub use Rattle.cli_sessions.specs.declared.shells.Conversation.{Conversation}
pub use Rattle.cli_sessions.specs.ShellStreams.{Streams}
pub use Rattle.cli_sessions.specs.Printing.{texts_of, notes_text, explained, failure_told, version_after, versions_after, summary_line, summaries_text, IsFront, IsCut, unmade, in_line, behind_line, Prints, prints_none, prints_one, cut_at}
pub use Rattle.cli_sessions.specs.Talking.{IsAt, Place, first_place, submitted, sent_out, greeting_of, greeting, is_printed, CutsBy, lost_of, losses_text, ending, why_text, Log, said, HeardUpTo, heard_log, heard_place, parting, parting_log, parted, Exchanges, IsPart, TalksLine, refuses_line, answers_line, Talked, opens, fails_first, next_line, breaks_off, Puts, Moves, FailsToPut, IsAsking, asks_version, asks_answer, IsServersTurn, place_after, text_of, is_settled}
pub use Rattle.cli_sessions.specs.Shelling.{Sinks, sinks_of, sinks_by, PutsNotes, Hears, HearsMore, Converses, Asks, Submits, if_filled, Reaches, Progress, fault_in, AreDone, Does, DoesMore, StopsIn, Runs, Shells, IsSound, LetsAsk, IsTurnWithin}
pub use Rattle.cli_sessions.specs.Accounting.{Has, HasFate, on_output, on_errors, at_loss, unanswered, EachHasALine, no_request, a_request, other_text, Accounts}
