-- What was read from the front of bytes: a good tree, which that front spells.
use Rattle.structures_decoder.proofs.Words.{ℕ, ◌≤◌, List, Result, Ok, Err, subst, arith, IfOk, Tree, IsGood, depth, AreBytes, good_spelled, front_bytes, sound, fault_of_structure, structures, IsWritable, scan_fine, form, Scope, SpellsFront, IsRead, IsTaken}

-- the front of b spells the good tree t, which nests at most so deep, and rest follows it
record Taken (room : ℕ) (b rest : List ℕ) (t : Tree) : Type 0 where
  spelled : SpellsFront t rest b
  good : IsGood t
  deep : depth t ≤ room

taken : (room : ℕ) (b rest : List ℕ) (t : Tree) → AreBytes b → room ≤ 32 → IsRead room t b rest → Taken room b rest t
taken room b rest t bytes le e =
    let s = sound room b rest t e in
    let deep = s.3 in
    let both = good_spelled t s.0 (front_bytes s.0 rest (subst (λ (x : List ℕ). AreBytes x) s.4 bytes)) (omega (arith, deep, le)) s.2 s.1 in
    record { spelled = (s.0, both.1, s.4); good = both.0; deep = s.3 }

-- where a function answers what reading gives, its answer is spelled by the front of the bytes, good, and no deeper than was asked
pub fronts : {X E : Type 0} (r : Result X E) (view : X → Tree) (rest : X → List ℕ) (b : List ℕ) (room : ℕ) → AreBytes b → room ≤ 32 → IfOk r (λ x. IsRead room (view x) b (rest x))
    → IfOk r (λ x. SpellsFront (view x) (rest x) b) × IfOk r (λ x. IsGood (view x)) × IfOk r (λ x. depth (view x) ≤ room)
fronts (Ok x) view rest b room bytes le e = let t = taken room b (rest x) (view x) bytes le e in (t.spelled, t.good, t.deep)
fronts (Err d) view rest b room bytes le e = (tt, tt, tt)

-- the same of a form, of whose structures none has a fault
pub forms : {X E : Type 0} (s : Scope) (r : Result X E) (view : X → Tree) (rest : X → List ℕ) (b : List ℕ) (room : ℕ) → AreBytes b → room ≤ 32 → IfOk r (λ x. IsTaken s room (view x) b (rest x))
    → IfOk r (λ x. SpellsFront (form s.version (view x)) (rest x) b) × IfOk r (λ x. IsGood (form s.version (view x))) × IfOk r (λ x. depth (form s.version (view x)) ≤ room) × IfOk r (λ x. IsWritable s.version (view x))
forms s (Ok x) view rest b room bytes le e =
    let t = taken room b (rest x) (form s.version (view x)) bytes le e.0 in
    (t.spelled, t.good, t.deep, scan_fine (fault_of_structure s.version) 0 (structures (view x)) e.1)
forms s (Err d) view rest b room bytes le e = (tt, tt, tt, tt)
