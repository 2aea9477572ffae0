-- Sets of phases: as kept, joined, and by their members.
use Rattle.std.proofs.Common.{◌≡◌, refl, Option, Some, sym, ap, ◌∙◌, Bool, ◌||◌, List, [], ◌∷◌, ◌++◌}
use Rattle.std.proofs.lemmas.List.Elements.{filter_agree}
use Rattle.std.proofs.lemmas.List.Folds.{list_any-append}
use Rattle.machine.specs.declared.states.Phase.{Phase}
use Rattle.machine.specs.declared.phase_set.PhaseSet.TheInside.{Inside}
use Rattle.machine.specs.declared.states.State.{State}
use Rattle.machine.specs.Prelude.{same_phase, phase_of, has, set_of, as_set, union, every_phase, phases_of, after_greeting, after_row, holds, members, has-set_of}

-- tests that agree have one set
pub set_of-agree : (t u : Phase → Bool) → ((p : Phase) → t p ≡ u p) → set_of t ≡ set_of u
set_of-agree t u h = filter_agree t u h every_phase

-- the flags that either has
abbrev pub either : Inside → Inside → Inside
either a b =
    record {
      fresh = a.fresh || b.fresh;
      unauth = a.unauth || b.unauth;
      ready = a.ready || b.ready;
      streaming = a.streaming || b.streaming;
      tx_ready = a.tx_ready || b.tx_ready;
      tx_streaming = a.tx_streaming || b.tx_streaming;
      halted = a.halted || b.halted;
      defunct = a.defunct || b.defunct;
    }

holds-either : (a b : Inside) (p : Phase) → holds (either a b) p ≡ (holds a p || holds b p)
holds-either a b Phase.Fresh = refl
holds-either a b _ = refl

pub has-members : (a : Inside) (ps : List Phase) → members a ≡ ps → (p : Phase) → holds a p ≡ has p ps
has-members a ps e p = sym (has-set_of (holds a) p) ∙ ap (λ l. has p l) e

pub members-either : (a b : Inside) (ps qs : List Phase) → members a ≡ ps → members b ≡ qs → members (either a b) ≡ union ps qs
members-either a b ps qs e f =
    set_of-agree (holds (either a b)) (λ p. has p ps || has p qs)
    (λ p. holds-either a b p ∙ ap (λ u. u || holds b p) (has-members a ps e p) ∙ ap (λ u. has p ps || u) (has-members b qs f p))

pub union-append : (a b : List Phase) → union a b ≡ as_set (a ++ b)
union-append a b = set_of-agree (λ p. has p a || has p b) (λ p. has p (a ++ b)) (λ p. sym (list_any-append (same_phase p) a b))

pub union-union : (a b c : List Phase) → union (union a b) c ≡ as_set ((a ++ b) ++ c)
union-union a b c =
    set_of-agree (λ p. has p (union a b) || has p c) (λ p. has p ((a ++ b) ++ c))
    (λ p.
    ap (λ u. u || has p c) (has-set_of (λ q. has q a || has q b) p ∙ sym (list_any-append (same_phase p) a b))
    ∙ sym (list_any-append (same_phase p) (a ++ b) c))

-- what the code joins is the line of the table
pub greeting-joined : (r o t : List Phase) (p : Phase) (s : State) (success failure : Option State)
    → r ≡ union o t → o ≡ p ∷ [] → p ≡ phase_of s → t ≡ phases_of failure → success ≡ Some s → r ≡ as_set (after_greeting success failure)
greeting-joined r o t p s success failure e1 e2 e3 e4 e5 = rw (e1, e2, e3, e4, e5) (union-append (phase_of s ∷ []) (phases_of failure))

pub row-joined : (r u o t h : List Phase) (p : Phase) (s : State) (success more : Option State)
    → r ≡ union u h → u ≡ union o t → o ≡ p ∷ [] → p ≡ phase_of s → t ≡ phases_of more → h ≡ Phase.Halted ∷ [] → success ≡ Some s → r ≡ as_set (after_row success more)
row-joined r u o t h p s success more e1 e2 e3 e4 e5 e6 e7 =
    e1
    ∙ ap (λ z. union z h) (e2 ∙ ap (λ z. union z t) (e3 ∙ ap (λ q. q ∷ []) e4) ∙ ap (λ z. union (phase_of s ∷ []) z) e5)
    ∙ ap (λ z. union (union (phase_of s ∷ []) (phases_of more)) z) e6
    ∙ union-union (phase_of s ∷ []) (phases_of more) (Phase.Halted ∷ [])
    ∙ ap (λ z. as_set (after_row z more)) (sym e7)

-- sets that are joined
pub ruleset joined = (members-either)
