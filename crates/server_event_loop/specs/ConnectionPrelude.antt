-- The words of this crate's definitions, as proofs import them.
pub use Rattle.server_event_loop.specs.Peers.{Wire, Hears, Tells, got_count, told_count}
pub use Rattle.server_event_loop.specs.Moving.{Held, End, IsOn, AreOn, out_of, gave_by, end_of, ends_by, Carries, bytes_given, ends_of, Moves}
pub use Rattle.server_event_loop.specs.Views.{new_held, held_of, seat_held, owed_of, with_going, Parts, Lingers}
pub use Rattle.server_event_loop.specs.Turns.{IsAsOld}
pub use Rattle.server_event_loop.specs.Turning.{holding, Turns, begins, then_opens, then_moves, Along}
