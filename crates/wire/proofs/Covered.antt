-- The version that is chosen, by the rule of the handshake.
use Rattle.std.proofs.Common.{◌≡◌, ◌-◌, ◌↔◌, ◌==◌, ℕ, List, [], ◌∷◌, Bool, true, false, if◌then◌else◌, ◌&&◌, nat_le, Option, Some, None, inl, inr, refl, sym, ap, ◌∙◌, ◌+◌, ◌<◌, length, get_or, drop, drop-cons, add-one, eqb-true, eq-eqb, leb-true, find}
use Rattle.std.specs.Option.{option_or}
use Rattle.std.proofs.lemmas.Bool.{and_from, and_parts, le-leb}
use Rattle.wire.specs.declared.versions.Version.{Version}
use Rattle.wire.specs.Prelude.{versions, major_of, minor_of, is_covered, covered_by, choice_of, Covers, IsFirstCovered, CoversNone, Chooses, ProposalsChoose}

-- the test is the rule
covers_is : (a b c d : ℕ) (v : Version) → is_covered a b c d v ≡ true → Covers a b c d v
covers_is a b c d v e =
    let p = and_parts ((a == 0) && (d == major_of v) && nat_le (c - b) (minor_of v)) (nat_le (minor_of v) c) e in
    let q = and_parts ((a == 0) && (d == major_of v)) (nat_le (c - b) (minor_of v)) p.0 in
    let r = and_parts (a == 0) (d == major_of v) q.0 in
    record { zero_first = eqb-true _ _ r.0; same_major = eqb-true _ _ r.1; from_least = leb-true _ _ q.1; to_most = leb-true _ _ p.1 }

is_covers : (a b c d : ℕ) (v : Version) → Covers a b c d v → is_covered a b c d v ≡ true
is_covers a b c d v h =
    and_from ((a == 0) && (d == major_of v) && nat_le (c - b) (minor_of v)) (nat_le (minor_of v) c)
    (and_from ((a == 0) && (d == major_of v)) (nat_le (c - b) (minor_of v)) (and_from (a == 0) (d == major_of v) (eq-eqb _ _ h.zero_first) (eq-eqb _ _ h.same_major)) (le-leb _ _ h.from_least))
    (le-leb _ _ h.to_most)

not_covers : (a b c d : ℕ) (v : Version) → is_covered a b c d v ≡ false → Covers a b c d v → ⊥
not_covers a b c d v e h = let k : true ≡ false = sym (is_covers a b c d v h) ∙ e in cc

record Covered (a b c d : ℕ) (vs : List Version) (o : Option Version) : Type 0 where
  one : (v : Version) → o ≡ Some v → IsFirstCovered a b c d vs v
  only : (v : Version) → IsFirstCovered a b c d vs v → o ≡ Some v
  none : o ≡ None → CoversNone a b c d vs
  some : CoversNone a b c d vs → o ≡ None

first_only : (a b c d : ℕ) (u : Version) (us : List Version) (v : Version) → Covers a b c d u → IsFirstCovered a b c d (u ∷ us) v → Some u ≡ Some v
first_only a b c d u us v is (inl h) = ap Some h.1
first_only a b c d u us v is (inr h) = absurd (h.0 is)

later_only : (a b c d : ℕ) (u : Version) (us : List Version) (v : Version) → (Covers a b c d u → ⊥) → IsFirstCovered a b c d (u ∷ us) v → IsFirstCovered a b c d us v
later_only a b c d u us v off (inl h) = absurd (off h.0)
later_only a b c d u us v off (inr h) = h.1

covered_by_test : (a b c d : ℕ) (u : Version) (us : List Version) (o : Option Version) (x : Bool) → is_covered a b c d u ≡ x → Covered a b c d us o → Covered a b c d (u ∷ us) (if x then Some u else o)
covered_by_test a b c d u us o true e k =
    let is = covers_is a b c d u e in
    record {
      one = λ v h. inl (is, cc);
      only = λ v h. first_only a b c d u us v is h;
      none = λ h. absurd cc;
      some = λ h. absurd (h.0 is);
    }
covered_by_test a b c d u us o false e k =
    let off = not_covers a b c d u e in
    record {
      one = λ v h. inr (off, k.one v h);
      only = λ v h. k.only v (later_only a b c d u us v off h);
      none = λ h. (off, k.none h);
      some = λ h. k.some h.1;
    }

-- of any list of versions, the first that the test finds is the first that the rule covers
covered : (a b c d : ℕ) (vs : List Version) → Covered a b c d vs (find (is_covered a b c d) vs)
covered a b c d [] = record { one = λ v h. absurd cc; only = λ v h. absurd h; none = λ h. tt; some = λ h. refl }
covered a b c d (u ∷ us) = covered_by_test a b c d u us (find (is_covered a b c d) us) (is_covered a b c d u) refl (covered a b c d us)

first_by : (a b c d : ℕ) (more : List ℕ) (v : Version) (o : Option Version) → Covered a b c d versions o → (choice_of more ≡ Some v) ↔ Chooses more v → (option_or o (choice_of more) ≡ Some v) ↔ Chooses (a ∷ b ∷ c ∷ d ∷ more) v
first_by a b c d more v None k rest = (
  (λ h. inr (k.none refl, rest.0 h)),
  (λ h. elim h [ inl x ↦ absurd (let w = k.only v x in cc) | inr x ↦ rest.1 x.1 ]),
)
first_by a b c d more v (Some u) k rest = (
  (λ h. inl (k.one v h)),
  (λ h. elim h [ inl x ↦ k.only v x | inr x ↦ absurd (let w = k.some x.0 in cc) ]),
)

pub proposals_choose : ProposalsChoose
proposals_choose (a ∷ b ∷ c ∷ d ∷ more) v = first_by a b c d more v (covered_by a b c d) (covered a b c d versions) (proposals_choose more v)
proposals_choose xs v = ((λ h. absurd cc), (λ h. absurd h))

-- a search goes on where the test doesn't hold
pub found-later : (test : Version → Bool) (vs : List Version) (i : ℕ) (d : Version) → i < length vs → test (get_or vs i d) ≡ false → find test (drop i vs) ≡ find test (drop (i + 1) vs)
found-later test vs i d h e = rw (drop-cons vs i d h, e, add-one) refl
