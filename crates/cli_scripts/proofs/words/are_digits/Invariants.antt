use Rattle.std.proofs.Common.{◌≡◌, drop}
use Rattle.std.specs.Str.{all_ascii_digits}
use Rattle.cli_scripts.proofs.words.are_digits.Given as goal

-- the bytes before it are digits
abbrev pub invariant-loop-byte : goal.invariant-loop-byte
invariant-loop-byte l = all_ascii_digits l.word ≡ all_ascii_digits (drop l.byte-index l.word)
