-- The words of this crate's definitions, as proofs import them.
pub use Rattle.client.specs.Verdicts.{Told, Got, GotRow, is_wished, serving, has_more, verdict_of, phase_accepted, outcome_of, resets}
pub use Rattle.client.specs.Rest.{Row, Knows, permits, has_room, refuses_at_once, of_writer, writing_fault_by, writing_fault, refuses, Hearing, after_bad_answer, turned_away, hears_version, hears_row, judgement_by, judgement_of, hears_judged, hears_summary, hears_response, hears_item, Chose, heard_response, heard_message, heard_as, lost_outcome, lost_in, losses_from, losses, Rest, asking_bytes, after_submit, taken_out, Note, Nothing, Summary, note_by, note_of, Fed, fed_heard, fed_item, fed_open, feed_of, asks_summary, awaits, after_drop}
pub use Rattle.client.specs.Client.{Reading, knows_of, and_told, after_item, hear, reading, reading_of, refusal_of}
pub use Rattle.client.specs.Answers.{held_bytes}
pub use Rattle.client.specs.Held.{item_of, WantsRoom}
pub use Rattle.client.specs.Taking.{Comes, all_of}
pub use Rattle.client.specs.Notes.{note, note_result}
pub use Rattle.client.specs.Fits.{knowledge_of, rest_of, Fits, IsWrittenBy, IsAccepted, UnlessMemory}
pub use Rattle.client.specs.Hearings.{note_or, note_in, Hears, plain, came_in, came_as}
pub use Rattle.client.specs.Moments.{Call, Submits, Feeds, TakesOut, Loses, Run, starts, submits, used_of, tellings, tellings_in, feeds, call, calls, put_out, opened_bytes, IsByBytes, TellsByBytes, KeepsFew}
pub use Rattle.client.specs.Refusals.{IsOfText, RefusesTexts, LosesEach}
