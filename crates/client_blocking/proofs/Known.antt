-- What a call ensures of the rest that there was, said of every rest that it is.
use Rattle.std.proofs.Common.{◌≡◌, subst, ◌∙◌}

pub same : {R : Type 0} (old new : R) → new ≡ old → (r : R) → old ≡ r → new ≡ r
same old new e r f = e ∙ f

pub holds : {R : Type 0} (P : R → Type 0) (old : R) → P old → (r : R) → old ≡ r → P r
holds P old p r f = subst P f p
