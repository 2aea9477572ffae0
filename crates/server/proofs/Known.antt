-- What a call ensures of the rest that there was and of the one that there is, said of every rest that these are.
use Rattle.std.proofs.Common.{◌≡◌, refl, sym, ap, subst, ◌∙◌, Option, Some}

pub done : {A R : Type 0} (call : R → Option (A × R)) (a : A) (old new : R) → call old ≡ Some (a, new) → (r : R) → old ≡ r → (after : R) × (call r ≡ Some (a, after)) × (new ≡ after)
done call a old new e r f = (new, ap call (sym f) ∙ e, refl)

pub gone : {A R : Type 0} (call : R → A × R) (a : A) (old new : R) → call old ≡ (a, new) → (r : R) → old ≡ r → (a ≡ (call r).0) × (new ≡ (call r).1)
gone {A} {R} call a old new e r f = let h = ap call (sym f) ∙ e in (sym (ap (λ (p : A × R). p.0) h), sym (ap (λ (p : A × R). p.1) h))

pub holds : {R : Type 0} (P : R → Type 0) (old : R) → P old → (r : R) → old ≡ r → P r
holds P old p r f = subst P f p
