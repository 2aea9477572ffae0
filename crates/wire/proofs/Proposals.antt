-- The proposals one by one.
use Rattle.std.proofs.Common.{◌≡◌, ℕ, zero, suc, ◌+◌, ◌≤◌, List, ◌∷◌, length, get_or, drop, Option, Some, None, false, refl, sym, ap, ◌∙◌, arith, is_some}
use Rattle.std.proofs.Math.Nat.{suc-add}
use Rattle.std.specs.Option.{option_or}
use Rattle.wire.specs.declared.versions.Version.{Version}
use Rattle.wire.specs.declared.versions.Version.TheVariants.{V44, V50, V51}
use Rattle.wire.specs.declared.offers.Wish.{Wish}
use Rattle.wire.specs.declared.offers.Wish.TheVariants.{Newest, Only}
use Rattle.wire.specs.Prelude.{choice_of, covered_by, version_answer, OffersTaken}
use Rattle.wire.specs.Offers.{Taken}

-- the proposal at a place comes before those after it
pub chosen-at : (xs : List ℕ) (k : ℕ) → k + 4 ≤ length xs → choice_of (drop k xs) ≡ option_or (covered_by (get_or xs k 0) (get_or xs (k + 1) 0) (get_or xs (k + 2) 0) (get_or xs (k + 3) 0)) (choice_of (drop (k + 4) xs))
chosen-at (a ∷ b ∷ c ∷ d ∷ xs) zero h = refl
chosen-at (x ∷ xs) (suc k) h =
    simp suc-add (chosen-at xs k (omega arith))
chosen-at xs k h = absurd (omega arith)

-- a proposal that covers nothing is passed over
pub chosen-past : (xs : List ℕ) (k j : ℕ) (v : Option Version) → k + 4 ≤ length xs → j ≡ k + 4 → v ≡ covered_by (get_or xs k 0) (get_or xs (k + 1) 0) (get_or xs (k + 2) 0) (get_or xs (k + 3) 0) → is_some v ≡ false → choice_of (drop k xs) ≡ choice_of (drop j xs)
chosen-past xs k j None fits e covered none = chosen-at xs k fits ∙ rw (← covered) (ap (λ i. choice_of (drop i xs)) (sym e))
chosen-past xs k j (Some v) fits e covered none = cc

-- what is offered
taken : (wish : Wish) → Taken wish
taken Newest = record { long = refl; magical = refl; version = refl }
taken (Only V44) = record { long = refl; magical = refl; version = refl }
taken wish = record { long = refl; magical = refl; version = refl }

pub answer_length : (v : Option Version) → length (version_answer v) ≡ 4
answer_length None = refl
answer_length (Some v) = refl

answer_tells : (v w : Option Version) → version_answer v ≡ version_answer w → v ≡ w
answer_tells None None e = refl
answer_tells (Some V44) (Some V44) e = refl
answer_tells (Some V50) (Some V50) e = refl
answer_tells (Some V51) (Some V51) e = refl
answer_tells None (Some V44) e = cc
answer_tells v w e = cc

pub offers_taken : OffersTaken
offers_taken = record { taken = taken; long = answer_length; tells = answer_tells }
