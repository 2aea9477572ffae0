-- One connection after another, and what is printed of them.
use Rattle.std.proofs.Common.{◌≡◌, refl, sym, ap, subst, ◌∙◌, ℕ, ◌+◌, List, [], ◌∷◌, ◌++◌, append_assoc, append-nil, length, Option, arith}
use Rattle.std.specs.Io.KnownBytes.{Appends}
use Rattle.std.proofs.KnownBytes.{Appends-trans}
use Rattle.std.proofs.lemmas.List.{length_push}
use Rattle.server_session.specs.declared.kinds.Cause.{Cause}
use Rattle.cli_output.specs.Prelude.{conn_line}
use Rattle.bolt.specs.Served.{HasServedAll, listening_line, served_lines}

-- one line more
served_more : (conn : ℕ) (causes : List Cause) (cause : Cause) → served_lines conn (causes ++ cause ∷ []) ≡ served_lines conn causes ++ conn_line (conn + length causes) cause
served_more conn [] cause =
    let same : conn ≡ conn + 0 = omega arith in
    append-nil (conn_line conn cause) ∙ ap (λ (n : ℕ). conn_line n cause) same
served_more conn (c ∷ cs) cause =
    let same : conn + 1 + length cs ≡ conn + length (c ∷ cs) = omega arith in
    ap (λ (l : List ℕ). conn_line conn c ++ l) (served_more (conn + 1) cs cause ∙ ap (λ (n : ℕ). served_lines (conn + 1) cs ++ conn_line n cause) same)
    ∙ sym (append_assoc (conn_line conn c) (served_lines (conn + 1) cs) (conn_line (conn + length (c ∷ cs)) cause))

-- no connection yet
pub served_none : (a b : Option (List ℕ)) (port : ℕ) → Appends a b (listening_line port) → HasServedAll a b port 0
served_none a b port h = record { causes = []; all = refl; printed = subst (Appends a b) (sym (append-nil (listening_line port))) h }

-- one connection more
pub served_one : (a b c : Option (List ℕ)) (port count : ℕ) (cause : Cause) → HasServedAll a b port count → Appends b c (conn_line count cause) → HasServedAll a c port (count + 1)
served_one a b c port count cause h more =
    let same : 0 + length h.causes ≡ count = omega (arith, h.all) in
    let lines : served_lines 0 (h.causes ++ cause ∷ []) ≡ served_lines 0 h.causes ++ conn_line count cause =
    served_more 0 h.causes cause ∙ ap (λ (n : ℕ). served_lines 0 h.causes ++ conn_line n cause) same in
    record {
      causes = h.causes ++ cause ∷ [];
      all = length_push h.causes cause ∙ ap (λ (n : ℕ). n + 1) h.all;
      printed = subst (Appends a c) (append_assoc (listening_line port) (served_lines 0 h.causes) (conn_line count cause) ∙ ap (λ (l : List ℕ). listening_line port ++ l) (sym lines))
          (Appends-trans a b c _ _ h.printed more);
    }
