use Rattle.cli_output.proofs.Escapings.{◌≡◌, string_bytes, flat_map, encode_utf8_all, shown}
use Rattle.cli_output.proofs.escapes.escape.Given as goal

-- what is printed so far is what is printed of the characters so far
abbrev pub invariant-loop-c : goal.invariant-loop-c
invariant-loop-c l = string_bytes l.out ≡ encode_utf8_all (flat_map shown l.yielded)
