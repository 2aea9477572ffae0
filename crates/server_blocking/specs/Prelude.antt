-- The words of this crate's definitions, as proofs import them.
pub use Rattle.server_blocking.specs.Conversing.{Talk, silent, after_bytes, heard_out, step_then, steps, steps_due, talk_of_due, unless_ended, talk_then, talk_of_arrivals, conversation, with_talk, without_talk}
pub use Rattle.server_blocking.specs.Breaking.{IsPartOfDue, due_of, ComesTo, nothing_yet, part_of_first, after_first, as_it_is, ConversationComesTo, IsFront, BreaksOff, BreaksAt}
pub use Rattle.server_blocking.specs.Views.{SourceView, SinkView, source_view, sink_view, GivesBytes, PutsBytes, PutsFront}
pub use Rattle.server_blocking.specs.Putting.{said_by, Puts}
pub use Rattle.server_blocking.specs.Settling.{IsDueTo, IsLive, liveness_of, next_of, rest_after, taken_and_put, IsPlaced, due, as_item, item_talk, StandsOver, Grows, Holds, IsPartOut, HoldsPart, settled, IsPartSettled, GoesOn, Steps, Settles, SettlesWhole, Works, Feeds, told_by, told_to, BreaksIn, Stands, HoldsAfter, BreaksHolding, TakesOne, TakesFront, TakesUp, TakesItems, TakesPiece, LivesOn, GrowsOn}
pub use Rattle.server_blocking.specs.Serving.{IsTurn, IsBrokenOff, Converses, ConversesWhole, ConversesFront, LeavesOthers}
pub use Rattle.server_blocking.specs.Responding.{end_of, setting_of}
