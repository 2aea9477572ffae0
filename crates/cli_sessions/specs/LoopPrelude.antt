-- The words of this crate's definitions, as proofs import them.
pub use Rattle.cli_sessions.specs.Turns.{Turns, place_by, text_by, all_sent, no_turns, asked, with_line, IsQuiet, talk_for, answer_to, due}
pub use Rattle.cli_sessions.specs.Turns.{given, exchanged, next_turn, stage, turns_of, AreQuiet}
pub use Rattle.cli_sessions.specs.Ways.{Way, Ways}
pub use Rattle.cli_sessions.specs.Passing.{GivesNoMore, GivesSome, Passes, Alters, BreaksAtSource, FailsToRead, FailsToWrite, AreWaiting, LetsReadWaiting, LetBothRead}
pub use Rattle.cli_sessions.specs.Looping.{Numbers, TellsLine, HasLooped, HearsFront, ReadsUpTo, Outset, HearsUpTo, with_item, StandsAt, IsHeardAll, HasHeard, HandsOver}
pub use Rattle.cli_sessions.specs.Looping.{buffer_of, HasCause, Goes, Sits, Comes, outset, Meets, IsOpened, end, whole_talk, all_text, Loops}
pub use Rattle.cli_sessions.specs.Breaking.{BreaksIn, BreaksAt, Exchanges, RunsLines, BreaksBehind, Breaks, EndsAt}
pub use Rattle.cli_sessions.specs.declared.loops.Pair.{Pair}
