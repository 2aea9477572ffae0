-- From more phases more may follow, and requests go in turn.
use Rattle.std.proofs.Common.{◌≡◌, refl, sym, ◌∙◌, ℕ, true, Option, Some, None, List, [], ◌∷◌, ◌++◌, take, slice_get}
use Rattle.std.specs.List.{list_any}
use Rattle.wire.specs.declared.Version.{Version}
use Rattle.messages.specs.Prelude.{RequestView}
use Rattle.machine.specs.declared.states.State.{State}
use Rattle.machine.specs.declared.states.Phase.{Phase}
use Rattle.machine.specs.declared.kinds.Kind.{Kind}
use Rattle.machine.specs.Prelude.{phase_of, kind_of, in_part, has, next, table, set_after, follow, possible, commits, any_commits, could, has-set_of, IsWithin, marked_in}
use Rattle.machine.proofs.Gathered.{any_has, has_any, given}
use Rattle.machine.proofs.Tables.{at_rows, same_bool, same_bool-true}

given-within : (f : Phase → List Phase) (ps qs : List Phase) → IsWithin ps qs → IsWithin (given f ps) (given f qs)
given-within f ps qs w x h =
    let r = any_has (λ p. has x (f p)) ps (sym (has-set_of (λ y. list_any (λ p. has y (f p)) ps) x) ∙ h) in
    has-set_of (λ y. list_any (λ p. has y (f p)) qs) x ∙ has_any (λ p. has x (f p)) qs r.0 (w r.0 r.1) r.2

pub after_within : (v : Version) (ps qs : List Phase) (a : RequestView) → IsWithin ps qs → IsWithin (set_after v ps a) (set_after v qs a)
after_within v ps qs a w = given-within (λ p. table v p (kind_of a) (in_part a)) ps qs w

pub follow-within : (v : Version) (ps qs : List Phase) (a : RequestView) → IsWithin ps qs → IsWithin (follow v ps a) (follow v qs a)
follow-within v ps qs a w = given-within (λ p. next v p (kind_of a) (in_part a)) ps qs w

pub possible-within : (v : Version) (ps qs : List Phase) (asks : List RequestView) → IsWithin ps qs → IsWithin (possible v ps asks) (possible v qs asks)
possible-within v ps qs [] w = w
possible-within v ps qs (a ∷ rest) w = possible-within v (follow v ps a) (follow v qs a) rest (follow-within v ps qs a w)

any_commits-within : (ps qs : List Phase) (o : Option RequestView) → IsWithin ps qs → any_commits ps o ≡ true → any_commits qs o ≡ true
any_commits-within ps qs None w h = h
any_commits-within ps qs (Some a) w h =
    let r = any_has (λ p. commits p (kind_of a)) ps h in
    has_any (λ p. commits p (kind_of a)) qs r.0 (w r.0 r.1) r.2

pub could-within : (v : Version) (ps qs : List Phase) (asks : List RequestView) (i : ℕ) → IsWithin ps qs → could v ps asks i ≡ true → could v qs asks i ≡ true
could-within v ps qs asks i w h = any_commits-within _ _ (slice_get asks i) (possible-within v ps qs (take i asks) w) h

pub possible-append : (v : Version) (ps : List Phase) (first second : List RequestView) → possible v ps (first ++ second) ≡ possible v (possible v ps first) second
possible-append v ps [] second = refl
possible-append v ps (a ∷ rest) second = possible-append v (follow v ps a) rest second

pub commits_marked : (v : Version) (s : State) (k : Kind) → commits (phase_of s) k ≡ marked_in v s k
commits_marked v s k = same_bool-true _ _ (at_rows (λ v s k. same_bool (commits (phase_of s) k) (marked_in v s k)) refl v s k)

-- how more follows more, and in turn
pub ruleset grows = (possible-within, could-within, possible-append)
