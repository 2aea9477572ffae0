-- The words of this crate's definitions, as proofs import them.
pub use Rattle.client_blocking.specs.Views.{SourceView, SinkView, source_view, sink_view, GivesBytes, PutsBytes, PutsFront}
pub use Rattle.client_blocking.specs.Asking.{notes_by, notes_of, Tale, after_notes, tale_of, hears_all, after_all, FeedsPiece, ReadsPiece, ReadsEnd, HearsPiece, has_ended, IsNeeded, IsAwaited, ReadsOn, ReadsAll, Writes, Asks, all_answered, given_up, GivesUp, PartFed}
