-- Rows that are taken from the replies, and what is lost.
use Rattle.std.proofs.Common.{◌≡◌, refl, sym, ◌∙◌, ap, ap₂, ℕ, zero, suc, ◌+◌, ◌<◌, ◌≤◌, ◌==◌, Bool, true, false, if◌then◌else◌, Option, Some, None, option_map, List, [], ◌∷◌, map, take, length, slice_index_or, slice_set, eq-eqb, subst, arith}
use Rattle.std.proofs.lemmas.Bool.{cond_both, cond-true, cond-false}
use Rattle.std.proofs.lemmas.List.{take_all}
use Rattle.wire.specs.declared.Version.{Version}
use Rattle.messages.specs.Prelude.{RequestView}
use Rattle.client.specs.Prelude.{Knows, losses, losses_from}
use Rattle.client_tracking.specs.declared.replies.Reply.{Reply}
use Rattle.client_tracking.specs.Holding.{reply_view}
use Rattle.client_tracking.specs.Account.{Account, ReplyView, reply_in, without_rows, with_losses, taken_or}

-- each has another ordinal
abbrev pub AllOther : ℕ → List ReplyView → Type 0
AllOther i [] = Unit {0}
AllOther i (r ∷ rs) = ((r.ordinal == i) ≡ false) × AllOther i rs

-- what stands at a place is one
pub same_at : (xs : List Reply) (k : ℕ) (a b : Reply) → k < length xs → a ≡ slice_index_or xs k a → b ≡ slice_index_or xs k b → a ≡ b
same_at [] k a b l d e = absurd (omega (arith, l))
same_at (x ∷ xs) zero a b l d e = d ∙ sym e
same_at (x ∷ xs) (suc k) a b l d e = same_at xs k a b (omega (arith, l)) d e

-- behind others the one that is found
pub found_at : (i : ℕ) (xs : List Reply) (k : ℕ) (r : Reply) → k < length xs → AllOther i (map reply_view (take k xs)) → r ≡ slice_index_or xs k r → r.ordinal ≡ i → reply_in i (map reply_view xs) ≡ Some (reply_view r)
found_at i [] k r l h e o = absurd (omega (arith, l))
found_at i (x ∷ xs) zero r l h e o =
    subst (λ (z : Reply). reply_in i (map reply_view (z ∷ xs)) ≡ Some (reply_view r)) e
    (cond-true (r.ordinal == i) (Some (reply_view r)) (reply_in i (map reply_view xs)) (eq-eqb r.ordinal i o))
found_at i (x ∷ xs) (suc k) r l h e o = cond-false (x.ordinal == i) (Some (reply_view x)) (reply_in i (map reply_view xs)) h.0 ∙ found_at i xs k r (omega (arith, l)) h.1 e o

-- without its rows
pub taken_at : (i : ℕ) (xs : List Reply) (k : ℕ) (r y : Reply) → k < length xs → AllOther i (map reply_view (take k xs)) → r ≡ slice_index_or xs k r → r.ordinal ≡ i → reply_view y ≡ record (reply_view r) { rows = [] }
    → map reply_view (slice_set xs k y) ≡ without_rows i (map reply_view xs)
taken_at i [] k r y l h e o v = absurd (omega (arith, l))
taken_at i (x ∷ xs) zero r y l h e o v =
    subst (λ (z : Reply). map reply_view (y ∷ xs) ≡ without_rows i (map reply_view (z ∷ xs))) e
    (ap (λ z. z ∷ map reply_view xs) v ∙ sym (cond-true (r.ordinal == i) (record (reply_view r) { rows = [] } ∷ map reply_view xs) (reply_view r ∷ without_rows i (map reply_view xs)) (eq-eqb r.ordinal i o)))
taken_at i (x ∷ xs) (suc k) r y l h e o v =
    ap (λ z. reply_view x ∷ z) (taken_at i xs k r y (omega (arith, l)) h.1 e o v)
    ∙ sym (cond-false (x.ordinal == i) (record (reply_view x) { rows = [] } ∷ map reply_view xs) (reply_view x ∷ without_rows i (map reply_view xs)) h.0)

-- one more that has another ordinal
other_suc : (i : ℕ) (xs : List Reply) (k : ℕ) (r : Reply) → k < length xs → AllOther i (map reply_view (take k xs)) → r ≡ slice_index_or xs k r → (r.ordinal == i) ≡ false → AllOther i (map reply_view (take (suc k) xs))
other_suc i [] k r l h e o = absurd (omega (arith, l))
other_suc i (x ∷ xs) zero r l h e o = (ap (λ (z : Reply). z.ordinal == i) (sym e) ∙ o, tt)
other_suc i (x ∷ xs) (suc k) r l h e o = (h.0, other_suc i xs k r (omega (arith, l)) h.1 e o)

pub one_more_other : (i : ℕ) (xs : List Reply) (k : ℕ) (r : Reply) → k < length xs → AllOther i (map reply_view (take k xs)) → r ≡ slice_index_or xs k r → (r.ordinal == i) ≡ false → AllOther i (map reply_view (take (k + 1) xs))
one_more_other i xs k r l h e o =
    let on : suc k ≡ k + 1 = omega arith in
    subst (λ n. AllOther i (map reply_view (take n xs))) on (other_suc i xs k r l h e o)

pub all_other : (i : ℕ) (xs : List Reply) (k : ℕ) → length xs ≤ k → AllOther i (map reply_view (take k xs)) → AllOther i (map reply_view xs)
all_other i xs k l h = subst (λ (ys : List Reply). AllOther i (map reply_view ys)) (take_all k xs l) h

-- among others none is found, and no rows are taken
pub none_found : (i : ℕ) (rs : List ReplyView) → AllOther i rs → reply_in i rs ≡ None
none_found i [] h = refl
none_found i (x ∷ rs) h = cond-false (x.ordinal == i) (Some x) (reply_in i rs) h.0 ∙ none_found i rs h.1

pub none_taken : (i : ℕ) (rs : List ReplyView) → AllOther i rs → without_rows i rs ≡ rs
none_taken i [] h = refl
none_taken i (x ∷ rs) h = cond-false (x.ordinal == i) (record x { rows = [] } ∷ rs) (x ∷ without_rows i rs) h.0 ∙ ap (λ z. x ∷ z) (none_taken i rs h.1)

-- where none is found, no rows are taken
pub not_found : (i : ℕ) (rs : List ReplyView) → reply_in i rs ≡ None → without_rows i rs ≡ rs
not_found i [] e = refl
not_found i (x ∷ rs) e =
    cond_both (x.ordinal == i) (Some x) (reply_in i rs) (λ z. z ≡ None → (x.ordinal == i) ≡ false → without_rows i (x ∷ rs) ≡ x ∷ rs) (λ _ k. cc) (λ _ k b. cond-false (x.ordinal == i) (record x { rows = [] } ∷ rs) (x ∷ without_rows i rs) b ∙ ap (λ z. x ∷ z) (not_found i rs k)) e (is_other (x.ordinal == i) e)
  where
    is_other : (b : Bool) → (if b then Some x else reply_in i rs) ≡ None → b ≡ false
    is_other true k = cc
    is_other false k = refl

pub none_of : (o : Option ReplyView) → option_map (λ (r : ReplyView). r.rows) o ≡ None → o ≡ None
none_of None e = refl
none_of (Some r) e = cc

-- a request without a reply
pub untaken : (a : Account) (i : ℕ) (waits : Bool) → reply_in i a.replies ≡ None → taken_or (reply_in i a.replies) waits a (without_rows i a.replies) ≡ taken_or None waits a a.replies
untaken a i waits e = ap₂ (λ o rs. taken_or o waits a rs) e (not_found i a.replies e)

-- where some wait, what is lost isn't nothing
pub some_lost : (a : Account) (k : Knows) → 0 < length k.waiting → with_losses a (losses k) ≡ record a { lost = losses k }
some_lost a k l = go k.waiting l 0 _
  where
    go : (qs : List RequestView) → 0 < length qs → (n : ℕ) (v : Version) → with_losses a (losses_from v k n qs) ≡ record a { lost = losses_from v k n qs }
    go [] l n v = absurd (omega (arith, l))
    go (q ∷ qs) l n v = refl
