-- Facts of the rows, and in which way a request is met, by computation over all of them.
use Rattle.std.proofs.Common.{◌≡◌, refl, sym, ap, Bool, true, is_some, is_none, Option, Some, None, List, ◌==◌, not, ◌&&◌, ◌||◌, if◌then◌else◌, length, eqb-true}
use Rattle.std.specs.List.{list_any, list_all}
use Rattle.std.proofs.lemmas.Bool.{and_parts}
use Rattle.wire.specs.declared.Version.{Version}
use Rattle.messages.specs.Prelude.{RequestView}
use Rattle.machine.specs.declared.states.State.{State}
use Rattle.machine.specs.declared.states.Phase.{Phase}
use Rattle.machine.specs.declared.kinds.Kind.{Kind}
use Rattle.machine.specs.declared.rows.Verdict.{Verdict}
use Rattle.machine.specs.Prelude.{row_of, row_at, kind_of, in_part, is_of, next, table, has, set_after, follow, is_defunct, allows, phase_of, same_state, ways, OneWay, AllowedIsValid}
use Rattle.machine.proofs.Sets.{set_of-agree}
use Rattle.machine.proofs.Gathered.{list_any-agree, all_has}
use Rattle.machine.proofs.Tables.{at_rows, at_places, implies, implies_at, same_bool, same_bool-true}

pub is_none-true : (o : Option State) → is_none o ≡ true → o ≡ None
is_none-true None h = refl
is_none-true (Some s) h = cc

-- a request with a row of Success is never invalid
pub valid : (v : Version) (s : State) (k : Kind) (t : State) → Some t ≡ row_of v s k Verdict.Success → None ≡ row_of v s k Verdict.Invalid
valid v s k t h =
    sym (is_none-true _ (implies_at (is_some (row_of v s k Verdict.Success)) _
    (at_rows (λ v s k. implies (is_some (row_of v s k Verdict.Success)) (is_none (row_of v s k Verdict.Invalid))) refl v s k) (sym (ap is_some h))))

-- the table of what may follow is the rows over every verdict
pub table_is_next : (v : Version) (p : Phase) (k : Kind) (part : Bool) (x : Phase) → has x (next v p k part) ≡ has x (table v p k part)
table_is_next v p k part x = same_bool-true _ _ (at_places (λ v p k b x. same_bool (has x (next v p k b)) (has x (table v p k b))) refl v p k part x)

-- so what the table says of a set is what the rows say
pub joined_follow : (v : Version) (ps : List Phase) (a : RequestView) → set_after v ps a ≡ follow v ps a
joined_follow v ps a =
    set_of-agree (λ x. list_any (λ p. has x (table v p (kind_of a) (in_part a))) ps) (λ x. list_any (λ p. has x (next v p (kind_of a) (in_part a))) ps)
    (λ x. list_any-agree (λ p. has x (table v p (kind_of a) (in_part a))) (λ p. has x (next v p (kind_of a) (in_part a))) (λ p. sym (table_is_next v p (kind_of a) (in_part a) x)) ps)

pub one_way : OneWay
one_way v s k = eqb-true _ _ (at_rows (λ v s k. length (ways v s k) == (if is_of v k && not (same_state s State.Defunct) then 1 else 0)) refl v s k)

-- what the phase of a state allows isn't invalid in the state
phase_valid : (v : Version) (s : State) (k : Kind) → (is_defunct (phase_of s) || allows v (phase_of s) k) ≡ true → row_at v s k Verdict.Invalid ≡ None
phase_valid v s k h =
    is_none-true _ (implies_at (is_defunct (phase_of s) || allows v (phase_of s) k) _
    (at_rows (λ v s k. implies (is_defunct (phase_of s) || allows v (phase_of s) k) (is_none (row_at v s k Verdict.Invalid))) refl v s k) h)

pub allowed_is_valid : AllowedIsValid
allowed_is_valid v ps s k h m =
    let all = (and_parts (list_any (λ p. not (is_defunct p)) ps) (list_all (λ p. is_defunct p || allows v p k) ps) h).1 in
    phase_valid v s k (all_has (λ p. is_defunct p || allows v p k) ps (phase_of s) all m)
