-- The words of this crate's definitions, as proofs import them.
pub use Rattle.server.specs.Feeding.{arrives, arrival, Feeding, takes_none, takes_item, feeding, WantsRoom}
pub use Rattle.server.specs.Serving.{Rest, Live, opened, fresh, find, replace, without, after_feeding, fed_live, with_kept, taken_from, noop_put, cause_or, empty, with_session, with_sessions, is_full, on_live, feed_at, take_out_at, unsent_at, left_by, sent_at, setting, after_step, work_at, WritesAt, lost_at, Opens, MayFeed, MayTakeOut, MayWork, MayPutNoop}
pub use Rattle.server.specs.Incoming.{offered, opened_of, fed, IsReceived}
pub use Rattle.server.specs.Views.{live_of, rest_of, Fits}
pub use Rattle.server.specs.Places.{Place, PlacesAt}
pub use Rattle.server.specs.Running.{one, nothing, Event, opens, feeds, works, takes, noops, loses, unfinished_bytes, Bounded, AllBounded, AreBelow, IsKept, after_call, after_event, after_events, conn_of, Adds, Grows}
pub use Rattle.server.specs.Past.{used_of, answers_by, took_by, step_answered, call_answered, bytes_taken, requests_answered, places_of, IsLater, Agrees, Follows, Asks}
pub use Rattle.server.specs.Spoken.{Saying, saying_bytes, text_of, says_at_feed, says_at_step, feed_says, noop_says, out_of, out_by, step_says, call_says, bytes_out, sayings, IsSpoken}
