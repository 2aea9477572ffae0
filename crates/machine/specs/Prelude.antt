-- The words of this crate's definitions, as proofs import them.
pub use Rattle.machine.specs.States.{phase_of, same_state, same_phase}
pub use Rattle.machine.specs.Asks.{kind_of, is_part, in_part, is_of, is_reset, is_goodbye}
pub use Rattle.machine.specs.Rows.{row_of, nexts_of, row_at}
pub use Rattle.machine.specs.Following.{has, every_phase, every_state, set_of, union, as_set, interruptible, next, follow, possible, commits, any_commits, could, phases_of, after_greeting, after_row, table, set_after, is_defunct, allows, allowed_in}
pub use Rattle.machine.specs.Members.{holds, members, has-set_of}
pub use Rattle.machine.specs.Laws.{IsWithin, marked_in, ways, OneWay, AllowedIsValid}
