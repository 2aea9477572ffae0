-- The words of the crates below that this crate's definitions and proofs cite.
pub use Rattle.std.specs.Io.KnownBytes.{Appends, Consumes, IsAtEnd}
pub use Rattle.std.specs.Result.{result_err, result_and}
pub use Rattle.packstream.specs.Tree.{Tree}
pub use Rattle.wire.specs.Offers.{offer_of}
pub use Rattle.wire.specs.Prelude.{Item, at_client, outputs, Opened, at_server, items_received, state}
pub use Rattle.wire.specs.declared.Version.{Version}
pub use Rattle.wire.specs.declared.Version.TheVariants.{V51}
pub use Rattle.wire.specs.declared.Wish.{Wish}
pub use Rattle.wire.specs.declared.Wish.TheVariants.{Newest}
pub use Rattle.messages.specs.Prelude.{Heard, ResponseView}
pub use Rattle.messages.specs.View.{RequestView}
pub use Rattle.machine.specs.Asks.{kind_of, is_goodbye}
pub use Rattle.machine.specs.Following.{is_defunct}
pub use Rattle.machine.specs.declared.Phase.{Phase}
pub use Rattle.client.specs.Fits.{Fits}
pub use Rattle.client.specs.Prelude.{Hearing, heard_as, hears_item, losses, lost_outcome, note, rest_of, losses_from}
pub use Rattle.client.specs.Rest.{Note, Nothing, Chose, Row, Summary, Knows, Rest, begun, refuses, after_submit, taken_out, awaits, asking_bytes}
pub use Rattle.client.specs.declared.Outcome.{Outcome}
pub use Rattle.client.specs.declared.SubmitFault.{SubmitFault}
pub use Rattle.streams.specs.Failing.{StaysSound}
pub use Rattle.streams.specs.Fronts.{AppendsFront}
pub use Rattle.streams.specs.Prelude.{UnlessTold}
pub use Rattle.streams.specs.Reading.{LetsRead}
pub use Rattle.streams.specs.declared.fault.StreamFault.{StreamFault}
pub use Rattle.streams.specs.declared.fault.StreamFault.TheVariants.{WriteFailed, Memory, ReadFailed}
pub use Rattle.client_blocking.specs.Asking.{hears_all, after_all, IsNeeded, IsTurn, given_up, losses_then, PutsOut}
pub use Rattle.client_blocking.specs.Prelude.{SourceView, SinkView, GivesBytes, FeedsPiece, HearsPiece, ReadsPiece, Tale, Writes, after_notes, all_answered, notes_of, tale_of}
pub use Rattle.cli_scripts.specs.Meant.{meant}
pub use Rattle.cli_scripts.specs.Prelude.{said_requests, script_request_view}
pub use Rattle.cli_scripts.specs.Rows.{request_line_of}
pub use Rattle.cli_scripts.specs.Script.{lines, filled_from, filled_lines}
pub use Rattle.cli_scripts.specs.Views.{Text, ScriptRequestView}
pub use Rattle.cli_scripts.specs.Words.{is_empty}
pub use Rattle.cli_output.specs.Names.{outcome_name, phase_name, refusal_code, version_name}
pub use Rattle.cli_output.specs.Prelude.{PutsLine, row_text, stop_status, stop_text, entries_text}
pub use Rattle.cli_output.specs.Stopping.{Gets, IsStopOf, ends_with, said_of}
pub use Rattle.cli_output.specs.Telling.{failure_line, heard_line, note_text, lost_line, refused_line}
pub use Rattle.cli_output.specs.declared.stop.StopReason.{StopReason}
pub use Rattle.cli_output.specs.declared.stop.StopReason.TheVariants.{Unreadable, Broken}
