-- Of which bytes a reader tells.
use Rattle.std.proofs.Common.{◌≡◌, ℕ, List, [], ◌∷◌, ◌++◌, length, Option, Some, None, Result, Ok, Err, refl, sym, ap, subst, ◌∙◌, append_assoc, arith, inl, inr, ◌⊎◌, ◌↔◌, MatchOption}
use Rattle.std.proofs.lemmas.List.{append-nil}
use Rattle.packstream.specs.declared.fault.Reason.{Reason}
use Rattle.packstream.specs.declared.fault.Reason.TheVariants as reason
use Rattle.packstream.specs.declared.fault.PackFault.{PackFault}
use Rattle.packstream.specs.declared.fault.PackFault.TheVariants as fault
use Rattle.packstream.specs.Prelude.{Tree, IsGood, AreBytes, Spells, Place, Bad, IsBadAlways, fault_at, innermost, outside, UnlessMemory, Tells, whole_of}
use Rattle.packstream.proofs.Ranges.{both_bytes}
use Rattle.packstream.proofs.Deciding.{whole_value, whole_fault, err_parts}
use Rattle.packstream_incremental.specs.Prelude.{Point, Joins, TurnsBad, Takes, Reads, MayGoOn, TellsValue, TellsFault, Finishes}

abbrev Told : Type 0
Told = Result Tree PackFault

-- there is nothing, or something
given : {X : Type 0} (o : Option X) (None_is : Type 0) (Some_is : X → Type 0) → MatchOption o None_is Some_is → ((o ≡ None) × None_is) ⊎ ((x : X) × (o ≡ Some x) × Some_is x)
given None A B h = inl (refl, h)
given (Some x) A B h = inr (x, refl, h)

-- what a point that reads these bytes is: they are its own; or each continuation of them has its fault
abbrev Keeps : Point → List ℕ → Type 0
Keeps p b = MatchOption p.bad (p.bytes ≡ b) (λ f. IsBadAlways b f.0 f.1)

kept : (p : Point) (b : List ℕ) → Keeps p b → ((p.bad ≡ None) × (p.bytes ≡ b)) ⊎ ((f : Reason × ℕ) × (p.bad ≡ Some f) × IsBadAlways b f.0 f.1)
kept p b h = given p.bad (p.bytes ≡ b) (λ f. IsBadAlways b f.0 f.1) h

bad_on : (b c : List ℕ) (r : Reason) (o : ℕ) → AreBytes c → IsBadAlways b r o → IsBadAlways (b ++ c) r o
bad_on b c r o bytes bad = λ more are. subst (λ (x : List ℕ). Bad x o r) (sym (append_assoc b c more)) (bad (c ++ more) (both_bytes c more bytes are))

keeps_more : (old new : Point) (b piece : List ℕ) → AreBytes piece → Keeps old b → Takes old piece new → Keeps new (b ++ piece)
keeps_more old new b piece are keeps takes = elim (given old.bad (Joins old piece new ⊎ TurnsBad old piece new) (λ f. new ≡ old) takes) as (λ _. Keeps new (b ++ piece)) [
  | inl k ↦ (let same : old.bytes ≡ b = rw k.0 at keeps in elim k.1 as (λ _. Keeps new (b ++ piece)) [
    | inl j ↦ rw j.good (j.joined ∙ ap (λ (x : List ℕ). x ++ piece) same)
    | inr t ↦ rw t.told (subst (λ (x : List ℕ). IsBadAlways (x ++ piece) t.why t.place) same t.always)
  ])
  | inr k ↦ (let bad : IsBadAlways b k.0.0 k.0.1 = rw k.1 at keeps in subst (λ (p : Point). Keeps p (b ++ piece)) (sym k.2) (rw k.1 (bad_on b piece k.0.0 k.0.1 are bad)))
]

pub more_read : (old new : Point) (b piece : List ℕ) → Reads old b → AreBytes piece → Takes old piece new → Reads new (b ++ piece)
more_read old new b piece reads are takes = (both_bytes b piece reads.0 are, keeps_more old new b piece are reads.1 takes)

-- ---- what is told of bytes with a fault

not_both : (b : List ℕ) (t : Tree) (r : Reason) (o : ℕ) → AreBytes b → Bad b o r → IsGood t × Spells t b → ⊥
not_both b t r o bytes bad h = let k : ◌≡◌ {A = Result Tree (Reason × ℕ)} (Ok t) (Err (r, o)) =
    sym ((whole_value b bytes t).1 h) ∙ (whole_fault b bytes r o).1 bad in cc

bad_value : (b : List ℕ) (r : Reason) (o : ℕ) (t : Tree) → AreBytes b → Bad b o r → ◌≡◌ {A = Told} (Err (fault.Refused r o)) (Ok t) ↔ (IsGood t × Spells t b)
bad_value b r o t bytes bad = (
  (λ (e : ◌≡◌ {A = Told} (Err (fault.Refused r o)) (Ok t)). absurd cc),
  (λ (h : IsGood t × Spells t b). absurd (not_both b t r o bytes bad h)),
)

bad_fault : (b : List ℕ) (r q : Reason) (o p : ℕ) → AreBytes b → Bad b o r → ◌≡◌ {A = Told} (Err (fault.Refused r o)) (Err (fault.Refused q p)) ↔ Bad b p q
bad_fault b r q o p bytes bad = (
  (λ (e : ◌≡◌ {A = Told} (Err (fault.Refused r o)) (Err (fault.Refused q p))).
      let same : r ≡ q = cc in
      let at : o ≡ p = cc in
      rw (← same, ← at) bad),
  (λ (h : Bad b p q).
      let s = err_parts {A = Tree} r q o p
      (sym ((whole_fault b bytes r o).1 bad) ∙ (whole_fault b bytes q p).1 h) in
      rw (s.0, s.1) refl),
)

bad_now : (b : List ℕ) (r : Reason) (o : ℕ) → IsBadAlways b r o → Bad b o r
bad_now b r o bad = subst (λ (x : List ℕ). Bad x o r) (append-nil b) (bad [] tt)

pub value_read : (p : Point) (b : List ℕ) (told : Told) → Reads p b → Finishes p told → TellsValue b told
value_read p b told reads f = elim (kept p b reads.1) as (λ _. TellsValue b told) [
  | inl k ↦ subst (λ (x : List ℕ). TellsValue x told) k.1 (f.value k.0)
  | inr k ↦ (λ t. subst (λ (y : Told). UnlessMemory y ((y ≡ Ok t) ↔ (IsGood t × Spells t b))) (sym (f.bad k.0.0 k.0.1 k.1)) (bad_value b k.0.0 k.0.1 t reads.0 (bad_now b k.0.0 k.0.1 k.2)))
]

pub fault_read : (p : Point) (b : List ℕ) (told : Told) → Reads p b → Finishes p told → TellsFault b told
fault_read p b told reads f = elim (kept p b reads.1) as (λ _. TellsFault b told) [
  | inl k ↦ subst (λ (x : List ℕ). TellsFault x told) k.1 (f.fault k.0)
  | inr k ↦ (λ r o. subst (λ (y : Told). UnlessMemory y ((y ≡ Err (fault.Refused r o)) ↔ Bad b o r)) (sym (f.bad k.0.0 k.0.1 k.1)) (bad_fault b k.0.0 r k.0.1 o reads.0 (bad_now b k.0.0 k.0.1 k.2)))
]

-- two that tell of the same bytes tell the same
pub alike : (b : List ℕ) (x y : Told) → TellsValue b x → TellsFault b x → TellsValue b y → TellsFault b y → UnlessMemory x (UnlessMemory y (x ≡ y))
alike b (Ok t) (Err fault.Memory) xv xf yv yf = tt
alike b (Ok t) y xv xf yv yf = sym ((yv t).1 ((xv t).0 refl))
alike b (Err (fault.Refused r o)) (Err fault.Memory) xv xf yv yf = tt
alike b (Err (fault.Refused r o)) y xv xf yv yf = sym ((yf r o).1 ((xf r o).0 refl))
alike b (Err fault.Memory) y xv xf yv yf = tt

told_whole : (b : List ℕ) (told : Told) → AreBytes b → TellsValue b told → TellsFault b told → Tells (λ t. t) told (whole_of b)
told_whole b (Ok t) are v f = (whole_value b are t).1 ((v t).0 refl)
told_whole b (Err (fault.Refused r o)) are v f = (whole_fault b are r o).1 ((f r o).0 refl)
told_whole b (Err fault.Memory) are v f = tt

pub whole_read : (p : Point) (b : List ℕ) (told : Told) → Reads p b → Finishes p told → Tells (λ t. t) told (whole_of b)
whole_read p b told reads f = told_whole b told reads.0 (value_read p b told reads f) (fault_read p b told reads f)

-- ---- a reader that isn't bad

none_after : (front after : List ℕ) → [] ≡ front ++ after → after ≡ []
none_after [] after e = sym e
none_after (x ∷ front) after e = absurd cc

short_by : (p : Place) (r : Reason) (after : List ℕ) → after ≡ [] → fault_at p after ≡ Some r → r ≡ reason.Short
unfolding fault_at
short_by p r after none broken = let e : ◌≡◌ {A = Option Reason} (Some reason.Short) (Some r) = ap (fault_at p) (sym none) ∙ broken in cc

-- of no bytes, all are missing
pub nothing_goes_on : MayGoOn []
nothing_goes_on r o (inl f) = short_by (innermost outside f.opened) r f.after (none_after f.before f.after f.whole) f.broken
nothing_goes_on r o (inr t) = let none : t.1.more ≡ [] = none_after t.1.front t.1.more t.1.whole in absurd (omega (arith, t.1.some, ap length none))

-- what it has read is its bytes
pub good_data : (p : Point) (b : List ℕ) → Reads p b → p.bad ≡ None → MayGoOn p.bytes → MayGoOn b
good_data p b reads good may = elim (kept p b reads.1) as (λ _. MayGoOn b) [
  | inl k ↦ subst MayGoOn k.1 may
  | inr k ↦ absurd (let e = sym k.1 ∙ good in cc)
]

-- it wasn't before
pub good_before : (old new : Point) (piece : List ℕ) → Takes old piece new → new.bad ≡ None → old.bad ≡ None
good_before old new piece takes good = elim (given old.bad (Joins old piece new ⊎ TurnsBad old piece new) (λ f. new ≡ old) takes) as (λ _. old.bad ≡ None) [
  | inl k ↦ k.0
  | inr k ↦ sym (ap (λ (p : Point). p.bad) k.2) ∙ good
]
