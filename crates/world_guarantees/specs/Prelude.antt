-- The words of this crate's definitions, as proofs import them.
pub use Rattle.world_guarantees.specs.Calls.{event_of, counted_if, AreCounted, IsBehind, IsReplayed, AreEvents}
pub use Rattle.world_guarantees.specs.Moments.{Moment, serves, asks, server_calls, client_calls, run_of, attempt_by, attempt_of, IsFront, IsLinked, ArePlayed}
pub use Rattle.world_guarantees.specs.Runs.{IsRun, AreRuns}
pub use Rattle.world_guarantees.specs.Standing.{StandsOnce, StandsSo, TellsFront, step_said, call_said, all_said, change_of, Relies, IsTrue, ClientsMayRely}
