-- One more vector has its line.
use Rattle.std.proofs.Common.{◌≡◌, refl, ap, ◌∙◌, ℕ, ◌+◌, [], ◌∷◌, ◌++◌, length, length-append, arith}
use Rattle.cli_commands.specs.Saying.{vector_line}
use Rattle.cli_commands.proofs.Vectored.{lines_last, all_last}
use Rattle.cli_commands.proofs.commands.say_vectors.Goals as goal

pub loop-at-preserved : goal.loop-at-preserved
loop-at-preserved c =
    let i = c.loop-at.invariant in
    let p = c.in_ok-passed.passed in
    let count : length i.0 ≡ c.loop-at.at = i.1 in
    let number : 1 + length i.0 ≡ c.loop-at.at + 1 = omega (arith, count) in (
      i.0 ++ p ∷ [],
      length-append i.0 (p ∷ []) ∙ ap (λ (n : ℕ). n + 1) count,
      rw (c.in_ok-push_str.ensures.bytes, i.2, c.as_str.ensures.value, c.in_ok-text.ensures, lines_last 1 i.0 p, number) refl,
      rw (i.3, all_last i.0 p) refl,
    )
