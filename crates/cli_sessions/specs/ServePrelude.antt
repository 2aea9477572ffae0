-- The words of this crate's definitions, as proofs import them.
pub use Rattle.cli_sessions.specs.Serving.{IsVacant, told_of, HasOpened, HasServed, ServesSo, Drains}
