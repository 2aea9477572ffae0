-- The levels of an array as what is open.
use Rattle.std.proofs.Common.{◌≡◌, ◌≤◌, ◌<◌, ◌+◌, ◌-◌, ℕ, nat_lt, true, false, List, [], ◌∷◌, length, get_or, Some, refl, sym, ap, subst, ◌∙◌, arith, slice_get, slice_set}
use Rattle.std.proofs.lemmas.Bool.{lt-ltb, le-ltb}
use Rattle.std.proofs.lemmas.List.{get_or-set_same, get_or-set_other, length-set}
use Rattle.std.proofs.lemmas.Option.{slice_get_within, slice_get-get_or, get_or_from_slice_get}
use Rattle.packstream.specs.Prelude.{Tree, Entries, Opened, in_list, at_key, at_value}
use Rattle.packstream_incremental.specs.declared.open.Inside.{Inside}
use Rattle.packstream_incremental.specs.declared.open.Inside.TheVariants as inside
use Rattle.packstream_incremental.specs.declared.open.Level.{Level}
use Rattle.packstream_incremental.specs.Prelude.{Frame, level, next_of, after_value, AreLevels, waits, with_member, tree_so_far, whole, still, ends}

next_put : (f : Opened) (t : Tree) → next_of (with_member f t) ≡ after_value (next_of f)
next_put (in_list ts) t = refl
next_put f t = refl

get_set_other : (xs : List Level) (i j : ℕ) (a x d : Level) → j < i → slice_get xs j ≡ Some x → slice_get (slice_set xs i a) j ≡ Some x
get_set_other xs i j a x d lt e =
    let within : j < length xs = slice_get_within xs j x e in
    let other : (j ≡ i) → ⊥ = λ same. absurd (omega arith) in
    slice_get-get_or (slice_set xs i a) j d (omega (arith, length-set xs i a)) ∙ ap (λ (y : Level). Some y) (get_or-set_other xs i j a d other ∙ get_or_from_slice_get xs j x d e)

get_set_same : (xs : List Level) (i : ℕ) (a d : Level) → i < length xs → slice_get (slice_set xs i a) i ≡ Some a
get_set_same xs i a d lt = slice_get-get_or (slice_set xs i a) i d (omega (arith, length-set xs i a)) ∙ ap (λ (y : Level). Some y) (get_or-set_same xs i a d lt)

-- what is below a level that is written stays
levels_set : (fs : List Frame) (n i : ℕ) (xs : List Level) (a d : Level) → n ≤ i → AreLevels fs n xs → AreLevels fs n (slice_set xs i a)
levels_set [] n i xs a d le h = h
levels_set (f ∷ fs) n i xs a d le h = record { below = h.below; counted = h.counted; there = get_set_other xs i h.below a (level f) d (omega (arith, h.counted)) h.there; others = levels_set fs h.below i xs a d (omega (arith, h.counted)) h.others }

-- the innermost level
pub last_level : (d : Level) (f : Frame) (fs : List Frame) (n : ℕ) (xs : List Level) → AreLevels (f ∷ fs) n xs → get_or xs (n - 1) d ≡ level f
last_level d f fs n xs h =
    let k : h.below ≡ n - 1 = omega (arith, h.counted) in
    ap (λ (m : ℕ). get_or xs m d) (sym k) ∙ get_or_from_slice_get xs h.below (level f) d h.there

-- the innermost level lacks no more: it is a member of what is around it
pub step_out : (d : Level) (fs : List Frame) (t : Tree) (n : ℕ) (xs : List Level) → 0 < n → AreLevels fs n xs → (get_or xs (n - 1) d).lacks ≤ 1
    → (gs : List Frame) × (u : Tree) × AreLevels gs (n - 1) xs × (ends gs u ≡ ends fs t)
step_out d [] t n xs lt h le = absurd (omega (arith, h))
step_out d (f ∷ fs) t n xs lt h le =
    let k : h.below ≡ n - 1 = omega (arith, h.counted) in
    let lacks = ap (λ (l : Level). l.lacks) (last_level d f fs n xs h) in
    let last : nat_lt 1 f.lacks ≡ false = le-ltb _ _ (omega arith) in
    (fs, tree_so_far (with_member f.opened t), subst (λ (m : ℕ). AreLevels fs m xs) k h.others, rw last refl)

-- once it is written
last_written : (d : Level) (write : Level → Level) (f g : Frame) (fs : List Frame) (n : ℕ) (xs : List Level) → AreLevels (f ∷ fs) n xs → write (level f) ≡ level g
    → AreLevels (g ∷ fs) n (slice_set xs (n - 1) (write (get_or xs (n - 1) d)))
last_written d write f g fs n xs h is =
    let k : h.below ≡ n - 1 = omega (arith, h.counted) in
    let new : Level = write (get_or xs (n - 1) d) in
    let new_is : new ≡ level g = ap write (last_level d f fs n xs h) ∙ is in
    let written : slice_get (slice_set xs h.below new) h.below ≡ Some (level g) = get_set_same xs h.below new d (slice_get_within xs h.below (level f) h.there) ∙ ap (λ (l : Level). Some l) new_is in
    record {
      below = h.below;
      counted = h.counted;
      there = subst (λ (m : ℕ). slice_get (slice_set xs m new) h.below ≡ Some (level g)) k written;
      others = levels_set fs h.below (n - 1) xs new d (omega arith) h.others;
    }

-- the innermost level has one member more, and lacks others
pub stay_in : (d : Level) (fs : List Frame) (t : Tree) (n : ℕ) (xs : List Level) → 0 < n → AreLevels fs n xs → 1 < (get_or xs (n - 1) d).lacks
    → (gs : List Frame) × (ends fs t ≡ still gs)
    × AreLevels gs n (slice_set xs (n - 1) (record { next = after_value (get_or xs (n - 1) d).next; lacks = (get_or xs (n - 1) d).lacks - 1; keys = (get_or xs (n - 1) d).keys }))
stay_in d [] t n xs lt h more = absurd (omega (arith, h))
stay_in d (f ∷ fs) t n xs lt h more =
    let lacks : (get_or xs (n - 1) d).lacks ≡ f.lacks = ap (λ (l : Level). l.lacks) (last_level d f fs n xs h) in
    let some : nat_lt 1 f.lacks ≡ true = lt-ltb _ _ (omega arith) in
    let g : Frame = waits (with_member f.opened t) (f.lacks - 1) f.first in
    let alike : record { next = after_value (next_of f.opened); lacks = f.lacks - 1; keys = f.first } ≡ level g = ap (λ (i : Inside). record { next = i; lacks = f.lacks - 1; keys = f.first }) (sym (next_put f.opened t)) in
    (g ∷ fs, rw some refl, last_written d (λ (l : Level). record { next = after_value l.next; lacks = l.lacks - 1; keys = l.keys }) f g fs n xs h alike)

-- it has as many more as are passed
pub passes : (d : Level) (k n : ℕ) (xs : List Level) (f : Frame) (fs : List Frame) (g : Opened) → AreLevels (f ∷ fs) n xs → next_of g ≡ inside.Member
    → AreLevels (waits g (f.lacks - k) f.first ∷ fs) n (slice_set xs (n - 1) (record { next = inside.Member; lacks = (get_or xs (n - 1) d).lacks - k; keys = (get_or xs (n - 1) d).keys }))
passes d k n xs f fs g h e =
    last_written d (λ (l : Level). record { next = inside.Member; lacks = l.lacks - k; keys = l.keys }) f (waits g (f.lacks - k) f.first) fs n xs h
    (ap (λ (i : Inside). record { next = i; lacks = f.lacks - k; keys = f.first }) (sym e))

pub all_ended : (fs : List Frame) (t : Tree) (n : ℕ) (xs : List Level) → n ≤ 0 → AreLevels fs n xs → ends fs t ≡ whole t
all_ended [] t n xs le h = refl
all_ended (f ∷ fs) t n xs le h = absurd (omega (arith, h.counted))

-- a key stands at the innermost level, and its value is read next
pub key_stands : (d : Level) (fs : List Frame) (es : Entries) (k : List ℕ) (n first m : ℕ) (xs : List Level) → AreLevels (waits (at_key es) n first ∷ fs) m xs
    → AreLevels (waits (at_value es k) n first ∷ fs) m (slice_set xs (m - 1) (record { next = inside.ValueOfKey; lacks = (get_or xs (m - 1) d).lacks; keys = (get_or xs (m - 1) d).keys }))
key_stands d fs es k n first m xs h =
    last_written d (λ (l : Level). record { next = inside.ValueOfKey; lacks = l.lacks; keys = l.keys }) (waits (at_key es) n first) (waits (at_value es k) n first) fs m xs h refl

pub level_opens : (fs : List Frame) (f : Opened) (next : Inside) (lacks keys n : ℕ) (xs : List Level) → n < length xs → AreLevels fs n xs → next_of f ≡ next
    → AreLevels (waits f lacks keys ∷ fs) (n + 1) (slice_set xs n (record { next = next; lacks = lacks; keys = keys }))
level_opens fs f next lacks keys n xs lt h e =
    let l : Level = record { next = next; lacks = lacks; keys = keys } in
    let is : l ≡ level (waits f lacks keys) = ap (λ (i : Inside). record { next = i; lacks = lacks; keys = keys }) (sym e) in
    record {
      below = n;
      counted = omega arith;
      there = get_set_same xs n l l lt ∙ ap (λ (x : Level). Some x) is;
      others = levels_set fs n n xs l l (omega arith) h;
    }

-- what is open is so in an array that is alike
pub levels_alike : (fs : List Frame) (n m : ℕ) (xs ys : List Level) → n ≤ m → ((i : ℕ) → i < m → slice_get ys i ≡ slice_get xs i) → AreLevels fs n xs → AreLevels fs n ys
levels_alike [] n m xs ys le alike h = h
levels_alike (f ∷ fs) n m xs ys le alike h = record {
  below = h.below;
  counted = h.counted;
  there = alike h.below (omega (arith, h.counted)) ∙ h.there;
  others = levels_alike fs h.below m xs ys (omega (arith, h.counted)) alike h.others;
}
