-- The words of this crate's definitions, as proofs import them.
pub use Rattle.streams.specs.Fronts.{AppendsFront}
pub use Rattle.streams.specs.Moving.{Moves, MovesFront, Grows}
pub use Rattle.streams.specs.Failing.{StaysSound, UnlessTold}
