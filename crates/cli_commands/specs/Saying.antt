-- What is said to what words ask for, and put on the streams.
use Rattle.std.specs.Prelude.{◌≡◌, ℕ, ◌+◌, Bool, true, false, if◌then◌else◌, List, [], ◌∷◌, ◌++◌, length, Option, Result, Ok, Err, string_bytes, codes}
use Rattle.std.specs.Fmt.{decimal}
use Rattle.std.specs.List.{list_all}
use Rattle.std.specs.Io.KnownBytes.{Appends}
use Rattle.streams.specs.Fronts.{AppendsFront}
use Rattle.cli_replay.specs.declared.script.Replayed.{Replayed}
use Rattle.cli_replay.specs.Scripts.{SaysSource}
use Rattle.cli_commands.specs.declared.commands.Said.{Said}
use Rattle.cli_commands.specs.Asked.{Ask, ToAnswer, ToCheck, ToReplay, ToPass, ToLoop, ToServe, ToShell, WrongWord}
use Rattle.cli_commands.specs.Commands.{Says, SaysAnswer, SaysCheck}
use Rattle.cli_commands.specs.Refusals.{refusal_text}

-- a stream over a call: what a sink had taken and has, or what a source had left and has, and whether it had failed, and has
pub record Passage : Type 0 where
  pub before : Option (List ℕ)
  pub after : Option (List ℕ)
  pub had_failed : Bool
  pub has_failed : Bool

-- This is said to a replay of a source, which stands for the file.
abbrev pub SaysReplay : Passage → Said → Type 0
SaysReplay source s = (r : Replayed) × SaysSource source.has_failed source.before source.after r
    × Says (string_bytes r.out) (string_bytes r.err) r.status s

-- how many test vectors there are
abbrev pub vector_count : ℕ
vector_count = 16

-- the line of a test vector, by its number and whether it passes
abbrev pub vector_line : ℕ → Bool → List ℕ
vector_line n true = codes "pass V" ++ decimal n ++ 10 ∷ []
vector_line n false = codes "fail V" ++ decimal n ++ 10 ∷ []

-- the lines of vectors from this number on
abbrev pub vector_lines : ℕ → List Bool → List ℕ
vector_lines n [] = []
vector_lines n (p ∷ ps) = vector_line n p ++ vector_lines (n + 1) ps

-- This is said by the test vectors: a line for each of them, in order, and nothing on standard error; the status is 0 where all pass, and else 1.
pub record SaysVectors (s : Said) : Type 0 where
  pub passed : List Bool
  pub all : length passed ≡ vector_count
  pub says : Says (vector_lines 1 passed) [] (if list_all (λ p. p) passed then 0 else 1) s

-- This is said to commands that speak to a socket, which the streams here aren't.
abbrev pub SaysElsewhere : Said → Type 0
SaysElsewhere s = Says [] (codes "error: this command needs a socket\n") 2 s

-- This is said to a command, with this source.
abbrev pub SaysCommand : Ask → Passage → Said → Type 0
SaysCommand (ToAnswer hex) source s = SaysAnswer hex s
SaysCommand (ToCheck version hex) source s = SaysCheck version hex s
SaysCommand (ToReplay file) source s = SaysReplay source s
SaysCommand ToPass source s = SaysVectors s
SaysCommand (ToLoop file) source s = SaysElsewhere s
SaysCommand (ToServe port count) source s = SaysElsewhere s
SaysCommand (ToShell host port) source s = SaysElsewhere s

-- This is said to words that are no command: nothing on standard output, and on standard error which word is wrong, and the help.
abbrev pub SaysNoCommand : WrongWord → Said → Type 0
SaysNoCommand w s = Says [] (refusal_text w) 2 s

-- This is said to what words ask for, with this source.
abbrev pub SaysTo : Result Ask WrongWord → Passage → Said → Type 0
SaysTo (Ok ask) source s = SaysCommand ask source s
SaysTo (Err w) source s = SaysNoCommand w s

-- a replay alone reads its source
abbrev pub reads : Ask → Bool
reads (ToReplay file) = true
reads (ToAnswer hex) = false
reads (ToCheck version hex) = false
reads ToPass = false
reads (ToLoop file) = false
reads (ToServe port count) = false
reads (ToShell host port) = false

-- words that are no command read nothing
abbrev pub is_replay : Result Ask WrongWord → Bool
is_replay (Ok ask) = reads ask
is_replay (Err w) = false

-- What is said is put on both streams, unless they fail, and its status is answered; a stream that fails on the way makes the
-- status 1. If standard output fails on the way, it took a beginning, and standard error tells so.
pub record IsPut (s : Said) (out err : Passage) (status : ℕ) : Type 0 where
  pub output : out.has_failed ≡ false → Appends out.before out.after (string_bytes s.out)
  pub errors : out.has_failed ≡ false → err.has_failed ≡ false
      → Appends err.before err.after s.err.items
  pub ends : out.has_failed ≡ false → err.has_failed ≡ false → status ≡ s.status
  pub out_fails : out.had_failed ≡ false → out.has_failed ≡ true → status ≡ 1
  pub err_fails : err.had_failed ≡ false → err.has_failed ≡ true → status ≡ 1
  pub front : AppendsFront out.before out.after (string_bytes s.out)
  pub fault : out.had_failed ≡ false → out.has_failed ≡ true → err.has_failed ≡ false
      → Appends err.before err.after (codes "fault I2" ++ 10 ∷ [])
