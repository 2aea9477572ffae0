use Rattle.cli_sessions.proofs.Followed.{List, ℕ, ◌++◌, take, Progress, Streams}
use Rattle.cli_sessions.proofs.shells.Conversation.take.Given as goal

-- the bytes before it are done
abbrev pub invariant-loop-byte : goal.invariant-loop-byte
invariant-loop-byte g l = (start : Streams) (script : List ℕ) → Progress start l.fn.streams.at script l.fn.self
    → Progress start l.streams.at (script ++ take l.byte-index l.piece) l.self
