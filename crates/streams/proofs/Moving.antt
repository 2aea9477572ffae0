-- What calls have moved, one after the other.
use Rattle.std.proofs.Common.{◌≡◌, ap, ◌∙◌, sym, ℕ, List, [], ◌++◌, append_assoc, append-nil}
use Rattle.streams.specs.Prelude.{Grows, MovesFront}

pub Grows-nil : (a : List ℕ) → Grows a a []
Grows-nil a = sym (append-nil a)

pub Grows-trans : (a b c bs cs : List ℕ) → Grows a b bs → Grows b c cs → Grows a c (bs ++ cs)
Grows-trans a b c bs cs p q = q ∙ ap (λ l. l ++ cs) p ∙ append_assoc a bs cs

-- nothing was moved
pub Grows-kept : (a b : List ℕ) → b ≡ a → Grows a b []
Grows-kept a b e = e ∙ sym (append-nil a)

-- what a sink took whole
pub moved_whole : (a b bs : List ℕ) → Grows a b bs → MovesFront a b bs
moved_whole a b bs h = (bs, [], append-nil bs, h)

-- what it took before, and a beginning of what comes after
pub moved_after : (a b c bs cs : List ℕ) → Grows a b bs → MovesFront b c cs → MovesFront a c (bs ++ cs)
moved_after a b c bs cs p q = (bs ++ q.0, q.1, append_assoc bs q.0 q.1 ∙ ap (λ z. bs ++ z) q.2, Grows-trans a b c bs q.0 p q.3)
