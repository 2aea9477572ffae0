-- Each request has at most one next state at a verdict, and what a row leads to is among what may follow.
use Rattle.std.proofs.Common.{◌≡◌, refl, ap, subst, ◌∙◌, Bool, true, false, not, ◌||◌, ◌&&◌, Option, Some, None, List, [], ◌∷◌, option_to_list}
use Rattle.std.specs.List.{list_all}
use Rattle.std.proofs.lemmas.Bool.{and_parts}
use Rattle.wire.specs.declared.Version.{Version}
use Rattle.wire.specs.Prelude.{versions}
use Rattle.machine.specs.declared.states.State.{State}
use Rattle.machine.specs.declared.kinds.Kind.{Kind}
use Rattle.machine.specs.declared.rows.Verdict.{Verdict}
use Rattle.machine.specs.Prelude.{phase_of, same_state, row_of, row_at, nexts_of, next, has, interruptible, every_state}
use Rattle.machine.proofs.Tables.{at_rows, at_verdict, at_bool, implies, implies_at, every_bool, every_verdict, every_kind}

abbrev pub same_states : List State → List State → Bool
same_states [] [] = true
same_states (s ∷ ss) (t ∷ ts) = same_state s t && same_states ss ts
same_states _ _ = false

pub same_state-true : (s t : State) → same_state s t ≡ true → s ≡ t
same_state-true State.Fresh State.Fresh h = refl
same_state-true _ State.Fresh h = cc
same_state-true _ _ h = cc

same_states-true : (ss ts : List State) → same_states ss ts ≡ true → ss ≡ ts
same_states-true [] [] h = refl
same_states-true (s ∷ ss) (t ∷ ts) h =
    let r = and_parts (same_state s t) (same_states ss ts) h in
    ap (λ x. x ∷ ss) (same_state-true s t r.0) ∙ ap (λ xs. t ∷ xs) (same_states-true ss ts r.1)
same_states-true _ _ h = cc

-- at most one place of the tables is for a request at a verdict
pub one_next : (v : Version) (s : State) (k : Kind) (d : Verdict) → nexts_of v s k d ≡ option_to_list (row_of v s k d)
one_next v s k d =
    same_states-true _ _
    (at_verdict (λ d. same_states (nexts_of v s k d) (option_to_list (row_of v s k d)))
    (at_rows (λ v s k. list_all (λ d. same_states (nexts_of v s k d) (option_to_list (row_of v s k d))) every_verdict) refl v s k) d)

abbrev pub leads : Option State → (State → Bool) → Bool
leads None t = true
leads (Some s) t = t s

pub leads_at : (o : Option State) (t : State → Bool) (s : State) → leads o t ≡ true → o ≡ Some s → t s ≡ true
leads_at None t s h e = cc
leads_at (Some x) t s h e = let same : x ≡ s = cc in subst (λ y. t y ≡ true) same h

abbrev pub is_more : Verdict → Bool
is_more Verdict.More = true
is_more _ = false

not_more : (d : Verdict) (part : Bool) → (d ≡ Verdict.More → part ≡ true) → not (is_more d) || part ≡ true
not_more Verdict.More part h = h refl
not_more _ part h = refl

pub at_answers : (t : Version → State → Kind → Verdict → Bool → Bool)
    → list_all (λ v. list_all (λ s. list_all (λ k. list_all (λ d. list_all (λ b. t v s k d b) every_bool) every_verdict) every_kind) every_state) versions ≡ true
    → (v : Version) (s : State) (k : Kind) (d : Verdict) (b : Bool) → t v s k d b ≡ true
at_answers t h v s k d b =
    at_bool (λ b. t v s k d b) (at_verdict (λ d. list_all (λ b. t v s k d b) every_bool) (at_rows (λ v s k. list_all (λ d. list_all (λ b. t v s k d b) every_bool) every_verdict) h v s k) d) b

-- what a row leads to is among what may follow
pub row_follows : (v : Version) (s t : State) (k : Kind) (d : Verdict) (part : Bool) → (d ≡ Verdict.More → part ≡ true) → row_at v s k d ≡ Some t
    → has (phase_of t) (next v (phase_of s) k part) ≡ true
row_follows v s t k d part m e =
    leads_at (row_at v s k d) (λ x. has (phase_of x) (next v (phase_of s) k part)) t
    (implies_at (not (is_more d) || part) _
    (at_answers (λ v s k d part. implies (not (is_more d) || part) (leads (row_at v s k d) (λ x. has (phase_of x) (next v (phase_of s) k part)))) refl v s k d part)
    (not_more d part m)) e

pub interrupted_row_follows : (v : Version) (s t : State) (k : Kind) (d : Verdict) (part : Bool) → (d ≡ Verdict.More → part ≡ true) → interruptible s ≡ true
    → row_at v State.Interrupted k d ≡ Some t → has (phase_of t) (next v (phase_of s) k part) ≡ true
interrupted_row_follows v s t k d part m i e =
    leads_at (row_at v State.Interrupted k d) (λ x. has (phase_of x) (next v (phase_of s) k part)) t
    (implies_at (interruptible s) _
    (implies_at (not (is_more d) || part) _
    (at_answers
    (λ v s k d part.
    implies (not (is_more d) || part) (implies (interruptible s) (leads (row_at v State.Interrupted k d) (λ x. has (phase_of x) (next v (phase_of s) k part)))))
    refl v s k d part) (not_more d part m)) i) e
