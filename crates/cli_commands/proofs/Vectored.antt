-- The lines of the test vectors, one after the other.
use Rattle.std.proofs.Common.{◌≡◌, refl, sym, ap, ◌∙◌, ℕ, ◌+◌, Bool, true, false, ◌&&◌, List, [], ◌∷◌, ◌++◌, length, append_assoc, append-nil, arith}
use Rattle.std.specs.List.{list_all}
use Rattle.cli_commands.specs.Saying.{vector_line, vector_lines}

pub lines_last : (n : ℕ) (ps : List Bool) (p : Bool) → vector_lines n (ps ++ p ∷ []) ≡ vector_lines n ps ++ vector_line (n + length ps) p
lines_last n [] p = append-nil (vector_line n p) ∙ ap (λ (m : ℕ). vector_line m p) (omega arith)
lines_last n (q ∷ qs) p =
    ap (λ (z : List ℕ). vector_line n q ++ z) (lines_last (n + 1) qs p) ∙ sym (append_assoc (vector_line n q) (vector_lines (n + 1) qs) (vector_line ((n + 1) + length qs) p))
    ∙ ap (λ (m : ℕ). vector_lines n (q ∷ qs) ++ vector_line m p) (omega arith)

pub all_last : (ps : List Bool) (p : Bool) → list_all (λ (b : Bool). b) (ps ++ p ∷ []) ≡ (list_all (λ (b : Bool). b) ps && p)
all_last [] true = refl
all_last [] false = refl
all_last (true ∷ qs) p = all_last qs p
all_last (false ∷ qs) p = refl
