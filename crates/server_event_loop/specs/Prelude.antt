-- The words of this crate's definitions, as proofs import them.
pub use Rattle.server_event_loop.specs.Standing.{At, Told, Owed, closing_owed, standing, seats_at, closings_at, IsLive, IsSeated}
pub use Rattle.server_event_loop.specs.Running.{Gone, gone_with, gone_by, gone_of, times_gone, Tells, AreTold, TellsMore, Stands, Leads, Ends, Runs, turn_calls, round_calls}
pub use Rattle.server_event_loop.specs.Waiting.{InTime, AddsInTime, remains, Fades, nobody, turned, closed, nearest_seat, nearest_closing, is_busy, any_busy, has_room, greeting_time, woken_seat, woken_closing, pause}
