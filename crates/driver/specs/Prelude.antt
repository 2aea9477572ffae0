-- The words of this crate's definitions, as proofs import them.
pub use Rattle.driver.specs.Stands.{Stand, stand_of, stand_in, GoesOn, Leads, EndsBy, heard_count, heard_stand, lost_stand, taken_stand, emptied_stand, Place, place, Health, health}
pub use Rattle.driver.specs.Reasons.{Hears, Accepted, Accepts, NeedsMemory, IsBadAnswer, WhyUnfed, Ends, Stops, StopsBy}
pub use Rattle.driver.specs.Exchanges.{IsWhole, break_by, is_short, IsSeen, Unbroken, Feeds, ReadsOn, Writes, PutsOut, after_exchange, Converses, Exchanges}
pub use Rattle.driver.specs.Pipelines.{asked_stand, asked_all, AcceptsEach, StopsAt, AsksAll, is_done, first_undone, Told, or_undone, fresh, given_up, Sent, IsNotSent, Says, WhenNotSent, Blames}
pub use Rattle.driver.specs.Parts.{IsWritten, is_whole, gone, is_answered, IsQuiet, IsUndone, short_of, IsRefused, WhyLeft, SendsPart, MakesRoom, SendsInParts}
pub use Rattle.driver.specs.Requests.{QueryView, query_view, query_run, asks_of, within, greeting}
pub use Rattle.driver.specs.Metadata.{metadata_in, named}
pub use Rattle.driver.specs.Opening.{Greets, Opens}
pub use Rattle.driver.specs.Attempting.{AskedView, asked_view, requests_of, Streams, streams, run_by, made_by, Calls, made_at, tells_at, IsSent, at_first, has_ended, known_at_end, AttemptStops, IsAttempt, IsTurnedAway, IsAgreed, IsShort, NoneAsked, Attempts, TellsOf}
pub use Rattle.driver.specs.Retrying.{Ending, ending, one_more, not_had, unmoved, IsTry, AreTries, made_from, Tries, IsKnown}
pub use Rattle.driver.specs.Logged.{Past}
pub use Rattle.driver.specs.Stepping.{stepped}
