-- The tree of a dictionary's keys: it stays where bytes come, where it is cut, and where a key is hung on it.
use Rattle.std.proofs.Common.{◌≡◌, ◌≤◌, ◌<◌, ◌+◌, ◌-◌, ℕ, zero, suc, Bool, false, cond, List, [], ◌∷◌, ◌++◌, length, take, drop, Option, Some, None, refl, sym, ap, subst, ◌∙◌, arith, inl, inr, slice_get, ◌⊎◌, ◌==◌, ◌/◌, ◌%◌, ◌^◌, nat_lt, bit_and, option_map}
use Rattle.std.proofs.lemmas.Bool.{le-ltb}
use Rattle.std.proofs.lemmas.Nat.Bits.{shr_and_one}
use Rattle.std.proofs.lemmas.List.{length-map, take-append-le, drop-append-le, length-drop, length-append, take-append-drop}
use Rattle.std.proofs.lemmas.Option.{slice_get_within, slice_get-map}
use Rattle.packstream_incremental.specs.declared.texts.Key.{Key}
use Rattle.packstream_incremental.specs.Prelude.{Name, name, names_of, text_of, IsNamed, ArePlaced, IsRoot, digest_of, side_of, HangsOn, Leads, IsInPlace, IsTree, HangsNone, IsFree}

-- ---- elements of lists

pub get_front : {A : Type 0} (xs ys : List A) (i : ℕ) (x : A) → slice_get xs i ≡ Some x → slice_get (xs ++ ys) i ≡ Some x
get_front [] ys i x e = absurd cc
get_front (z ∷ xs) ys zero x e = e
get_front (z ∷ xs) ys (suc i) x e = get_front xs ys i x e

pub get_last : {A : Type 0} (xs : List A) (y : A) → slice_get (xs ++ y ∷ []) (length xs) ≡ Some y
get_last [] y = refl
get_last (x ∷ xs) y = get_last xs y

pub get_pushed : {A : Type 0} (xs : List A) (y : A) (i : ℕ) (z : A) → slice_get (xs ++ y ∷ []) i ≡ Some z → (slice_get xs i ≡ Some z) ⊎ ((i ≡ length xs) × (y ≡ z))
get_pushed [] y zero z e = inr (refl, cc)
get_pushed [] y (suc i) z e = absurd cc
get_pushed (x ∷ xs) y zero z e = inl e
get_pushed (x ∷ xs) y (suc i) z e = elim (get_pushed xs y i z e) as (λ _. (slice_get (x ∷ xs) (suc i) ≡ Some z) ⊎ ((suc i ≡ length (x ∷ xs)) × (y ≡ z))) [
  | inl h ↦ inl h
  | inr h ↦ inr (ap (λ (n : ℕ). suc n) h.0, h.1)
]

pub get_take : {A : Type 0} (xs : List A) (m i : ℕ) (x : A) → i < m → slice_get xs i ≡ Some x → slice_get (take m xs) i ≡ Some x
get_take [] m i x lt e = absurd cc
get_take (z ∷ xs) zero i x lt e = absurd (omega arith)
get_take (z ∷ xs) (suc m) zero x lt e = e
get_take (z ∷ xs) (suc m) (suc i) x lt e = get_take xs m i x (omega arith) e

pub get_taken : {A : Type 0} (xs : List A) (m i : ℕ) (x : A) → slice_get (take m xs) i ≡ Some x → (i < m) × (slice_get xs i ≡ Some x)
get_taken [] zero i x e = absurd cc
get_taken [] (suc m) i x e = absurd cc
get_taken (z ∷ xs) zero i x e = absurd cc
get_taken (z ∷ xs) (suc m) zero x e = (omega arith, e)
get_taken (z ∷ xs) (suc m) (suc i) x e = let h = get_taken xs m i x e in (omega (arith, h.0), h.1)

pub one_element : {A : Type 0} (xs : List A) (i : ℕ) (x y : A) → slice_get xs i ≡ Some x → slice_get xs i ≡ Some y → x ≡ y
one_element {A} xs i x y e f = let g : ◌≡◌ {A = Option A} (Some x) (Some y) = sym e ∙ f in cc

-- ---- names

pub named_key : (keys : List Key) (i : ℕ) (n : Name) → slice_get (names_of keys) i ≡ Some n → (k : Key) × (slice_get keys i ≡ Some k) × (name k ≡ n)
named_key [] i n e = absurd cc
named_key (k ∷ keys) zero n e = (k, refl, cc)
named_key (k ∷ keys) (suc i) n e = named_key keys i n e

pub name_at : (keys : List Key) (i : ℕ) (k : Key) → slice_get keys i ≡ Some k → slice_get (names_of keys) i ≡ Some (name k)
name_at keys i k e = slice_get-map name keys i ∙ ap (option_map name) e

pub count_names : (keys : List Key) → length (names_of keys) ≡ length keys
count_names keys = length-map keys name

pub text_more : (a b : List ℕ) (start len : ℕ) → start + len ≤ length a → take len (drop start (a ++ b)) ≡ take len (drop start a)
text_more a b start len le =
    let d : drop start (a ++ b) ≡ drop start a ++ b = drop-append-le start a b (omega arith) in
    rw d (take-append-le len (drop start a) b (omega (arith, length-drop start a)))

-- ---- other keys, and other bytes

-- but for what hangs below it, it is the same key
pub record IsSameKey (k j : Key) : Type 0 where
  pub names : name j ≡ name k
  pub digest : j.digest ≡ k.digest
  pub above : j.above ≡ k.above

pub same_key : (k : Key) → IsSameKey k k
same_key k = record { names = refl; digest = refl; above = refl }

-- there is a key of the dictionary whose keys begin at first
abbrev pub HasKey : List Key → ℕ → ℕ → Type 0
HasKey keys first at = (k : Key) × (slice_get keys at ≡ Some k) × (k.first ≡ first)

-- a key with the text s is in its place, where its sides lead
pub in_place : (keys : List Key) (bytes : List ℕ) (first : ℕ) (s : List ℕ) (i : ℕ) (k : Key) (steps : ℕ) → k.first ≡ first → text_of bytes (name k) ≡ s → k.start + k.len ≤ length bytes → k.digest ≡ digest_of s
    → first ≤ i → HasKey keys first first → Leads keys first s 0 first steps i → IsInPlace keys bytes i k
in_place keys bytes first s i k steps of_first text within digest behind root leads = record {
  root = root.0;
  root_is = subst (λ (x : ℕ). slice_get keys x ≡ Some root.0) (sym of_first) root.1;
  root_first = root.2 ∙ sym of_first;
  behind = omega (arith, of_first, behind);
  within = within;
  digest = digest ∙ ap digest_of (sym text);
  steps = steps;
  leads = subst (λ (x : List ℕ). Leads keys k.first x 0 k.first steps i) (sym text) (subst (λ (x : ℕ). Leads keys x s 0 x steps i) (sym of_first) leads);
}

-- it stays there among other keys, where its root and the way from there do
pub stays_in_place : (keys more : List Key) (bytes new : List ℕ) (i : ℕ) (k j : Key) → (p : IsInPlace keys bytes i k) → IsSameKey k j → text_of new (name k) ≡ text_of bytes (name k) → k.start + k.len ≤ length new
    → (r : Key) × (slice_get more k.first ≡ Some r) × IsSameKey p.root r → Leads more k.first (text_of bytes (name k)) 0 k.first p.steps i → IsInPlace more new i j
stays_in_place keys more bytes new i k j p same text within root leads =
    let n : name j ≡ name k = same.names in
    in_place more new k.first (text_of bytes (name k)) i j p.steps (ap (λ (x : Name). x.first) n) (ap (λ (x : Name). text_of new x) n ∙ text)
    (omega (arith, within, ap (λ (x : Name). x.start) n, ap (λ (x : Name). x.len) n)) (same.digest ∙ p.digest) p.behind
    (root.0, root.1, ap (λ (x : Name). x.first) (root.2).names ∙ p.root_first) leads

pub tree_extends : (keys : List Key) (bytes s : List ℕ) → IsTree keys bytes → IsTree keys (bytes ++ s)
tree_extends keys bytes s tree = λ i k e.
    (let p = tree i k e in
    stays_in_place keys keys bytes (bytes ++ s) i k k p (same_key k) (text_more bytes s k.start k.len p.within) (omega (arith, p.within, length-append bytes s)) (p.root, p.root_is, same_key p.root) p.leads)

-- a key hangs on another where both are there, and the upper one has the same below it
pub still_hangs : (keys more : List Key) (f a : ℕ) (s : Bool) (next : ℕ) → (h : HangsOn keys f a s next) → (up : Key) → slice_get more a ≡ Some up → IsSameKey h.upper up → cond s up.right up.left ≡ cond s h.upper.right h.upper.left
    → (low : Key) → slice_get more next ≡ Some low → IsSameKey h.lower low → HangsOn more f a s next
still_hangs keys more f a s next h up upper same_up linked low lower same_low = record {
  upper = up;
  lower = low;
  upper_is = upper;
  upper_first = ap (λ (x : Name). x.first) same_up.names ∙ h.upper_first;
  linked = linked ∙ h.linked;
  later = h.later;
  lower_is = lower;
  lower_first = ap (λ (x : Name). x.first) same_low.names ∙ h.lower_first;
  above = same_low.above ∙ h.above;
}

pub leads_up : (keys : List Key) (first : ℕ) (s : List ℕ) (above at steps to : ℕ) → Leads keys first s above at steps to → at ≤ to
leads_up keys first s above at zero to h = omega (arith, h)
leads_up keys first s above at (suc steps) to h = let up = leads_up keys first s (suc above) h.0 steps to h.2 in omega (arith, h.1.later)

-- the way to a key is the same where what hangs so far does
pub still_leads : (keys more : List Key) (to : ℕ) → ((f a : ℕ) (s : Bool) (next : ℕ) → next ≤ to → HangsOn keys f a s next → HangsOn more f a s next)
    → (first : ℕ) (s : List ℕ) (above at steps : ℕ) → Leads keys first s above at steps to → Leads more first s above at steps to
still_leads keys more to hangs first s above at zero h = h
still_leads keys more to hangs first s above at (suc steps) h =
    let up = leads_up keys first s (suc above) h.0 steps to h.2 in
    (h.0, hangs first at (side_of (digest_of s) s above) h.0 up h.1, still_leads keys more to hangs first s (suc above) h.0 steps h.2)

-- ---- a cut

pub tree_cut : (keys : List Key) (bytes : List ℕ) (m n : ℕ) → IsTree keys bytes → ArePlaced (take m (names_of keys)) (length (take n bytes)) → IsTree (take m keys) (take n bytes)
tree_cut keys bytes m n tree placed = λ i k e.
    (let g = get_taken keys m i k e in
    let p = tree i k g.1 in
    let in_cut = placed i (name k) (get_take (names_of keys) m i (name k) g.0 (name_at keys i k g.1)) in
    let same : text_of (take n bytes) (name k) ≡ text_of bytes (name k) =
    sym (text_more (take n bytes) (drop n bytes) k.start k.len in_cut.1) ∙ ap (λ (b : List ℕ). text_of b (name k)) (take-append-drop n bytes) in
    let hangs : (f a : ℕ) (s : Bool) (next : ℕ) → next ≤ i → HangsOn keys f a s next → HangsOn (take m keys) f a s next = λ f a s next le h.
    still_hangs keys (take m keys) f a s next h h.upper (get_take keys m a h.upper (omega (arith, g.0, le, h.later)) h.upper_is) (same_key h.upper) refl
    h.lower (get_take keys m next h.lower (omega (arith, g.0, le)) h.lower_is) (same_key h.lower) in
    stays_in_place keys (take m keys) bytes (take n bytes) i k k p (same_key k) same in_cut.1
    (p.root, get_take keys m k.first p.root (omega (arith, p.behind, g.0)) p.root_is, same_key p.root) (still_leads keys (take m keys) i hangs k.first (text_of bytes (name k)) 0 k.first p.steps p.leads))

-- ---- a search

pub leads_on : (keys : List Key) (first : ℕ) (s : List ℕ) (above at steps mid j next : ℕ) → Leads keys first s above at steps mid → j ≡ above + steps
    → HangsOn keys first mid (side_of (digest_of s) s j) next → Leads keys first s above at (suc steps) next
leads_on keys first s above at zero mid j next h e hang =
    let here : j ≡ above = omega arith in
    (next, subst (λ (n : ℕ). HangsOn keys first n (side_of (digest_of s) s above) next) (sym h) (subst (λ (n : ℕ). HangsOn keys first mid (side_of (digest_of s) s n) next) here hang), refl)
leads_on keys first s above at (suc steps) mid j next h e hang = (h.0, h.1, leads_on keys first s (suc above) h.0 steps mid j next h.2 (omega arith) hang)

one_below : (keys : List Key) (first at : ℕ) (side : Bool) (a b : ℕ) → HangsOn keys first at side a → HangsOn keys first at side b → a ≡ b
one_below keys first at side a b g h =
    let same : g.upper ≡ h.upper = one_element keys at g.upper h.upper g.upper_is h.upper_is in
    sym g.linked ∙ ap (λ (k : Key). cond side k.right k.left) same ∙ h.linked

-- so far a search for s came down to `at`, and each key s of the dictionary stands there or below it
pub record Searched (keys : List Key) (bytes : List ℕ) (first : ℕ) (s : List ℕ) (above at : ℕ) : Type 0 where
  pub upper : HasKey keys first at
  pub root : HasKey keys first first
  pub low : above ≤ at
  pub led : Leads keys first s 0 first above at
  pub below : (i : ℕ) (k : Key) → slice_get keys i ≡ Some k → k.first ≡ first → text_of bytes (name k) ≡ s → (steps : ℕ) × Leads keys first s above at steps i

pub search_starts : (keys : List Key) (bytes : List ℕ) (first : ℕ) (s : List ℕ) → IsTree keys bytes → IsRoot (names_of keys) first → first < length keys → Searched keys bytes first s 0 first
search_starts keys bytes first s tree (inl e) lt = absurd (omega (arith, count_names keys))
search_starts keys bytes first s tree (inr h) lt =
    let k = named_key keys h.index h.found h.there in
    let first_is : (k.0).first ≡ first = ap (λ (n : Name). n.first) k.2 ∙ h.begins in
    let p = tree h.index k.0 k.1 in
    let root : HasKey keys first first = (p.root, subst (λ (n : ℕ). slice_get keys n ≡ Some p.root) first_is p.root_is, p.root_first ∙ first_is) in
    record {
      upper = root;
      root = root;
      low = omega arith;
      led = refl;
      below = λ i j e f t. (let q = tree i j e in (q.steps, subst (λ (x : List ℕ). Leads keys first x 0 first q.steps i) t (subst (λ (n : ℕ). Leads keys n (text_of bytes (name j)) 0 n q.steps i) f q.leads)));
    }

-- a key s that isn't the one at `at` stands below what hangs there
goes_below : (keys : List Key) (bytes : List ℕ) (first : ℕ) (s : List ℕ) (above at : ℕ) → ((k : Key) → slice_get keys at ≡ Some k → text_of bytes (name k) ≡ s → ⊥)
    → (i : ℕ) (k : Key) → slice_get keys i ≡ Some k → text_of bytes (name k) ≡ s → (steps : ℕ) × Leads keys first s above at steps i
    → (next : ℕ) × HangsOn keys first at (side_of (digest_of s) s above) next × (steps : ℕ) × Leads keys first s (suc above) next steps i
goes_below keys bytes first s above at other i k e t (zero, h) = absurd (other k (subst (λ (n : ℕ). slice_get keys n ≡ Some k) (sym h) e) t)
goes_below keys bytes first s above at other i k e t (suc steps, h) = (h.0, h.1, steps, h.2)

-- it isn't this key: so the search goes on below it
pub search_goes_on : (keys : List Key) (bytes : List ℕ) (first : ℕ) (s : List ℕ) (above at next : ℕ) → Searched keys bytes first s above at
    → ((k : Key) → slice_get keys at ≡ Some k → text_of bytes (name k) ≡ s → ⊥) → HangsOn keys first at (side_of (digest_of s) s above) next → Searched keys bytes first s (above + 1) next
search_goes_on keys bytes first s above at next h other hang =
    let more : suc above ≡ above + 1 = omega arith in
    subst (λ (n : ℕ). Searched keys bytes first s n next) more (record {
      upper = (hang.lower, hang.lower_is, hang.lower_first);
      root = h.root;
      low = omega (arith, h.low, hang.later);
      led = leads_on keys first s 0 first above at above next h.led (omega arith) hang;
      below = λ i k e f t.
          (let d = goes_below keys bytes first s above at other i k e t (h.below i k e f t) in
          (d.2, subst (λ (n : ℕ). Leads keys first s (suc above) n d.2 i) (one_below keys first at (side_of (digest_of s) s above) d.0 next d.1 hang) d.3));
    })

-- it is this key
pub search_finds : (keys : List Key) (bytes : List ℕ) (first : ℕ) (s : List ℕ) (above at : ℕ) (k : Key) → Searched keys bytes first s above at → slice_get keys at ≡ Some k → text_of bytes (name k) ≡ s
    → IsNamed (names_of keys) bytes first s
search_finds keys bytes first s above at k h e t =
    let same : h.upper.0 ≡ k = one_element keys at h.upper.0 k h.upper.1 e in
    record { index = at; found = name k; there = name_at keys at k e; begins = ap (λ (x : Key). x.first) (sym same) ∙ h.upper.2; text = t }

-- nothing is below it: so no key is this text, which may hang there
pub search_ends : (keys : List Key) (bytes : List ℕ) (first : ℕ) (s : List ℕ) (above at : ℕ) (side : Bool) → Searched keys bytes first s above at
    → ((k : Key) → slice_get keys at ≡ Some k → text_of bytes (name k) ≡ s → ⊥) → side ≡ side_of (digest_of s) s above → HangsNone keys first at side
    → (IsNamed (names_of keys) bytes first s → ⊥) × IsFree keys first s (Some (record { key = at; is_right = side }))
search_ends keys bytes first s above at side h other is none = (
  (λ (n : IsNamed (names_of keys) bytes first s).
      let k = named_key keys n.index n.found n.there in
      let of_first : (k.0).first ≡ first = ap (λ (x : Name). x.first) k.2 ∙ n.begins in
      let text : text_of bytes (name k.0) ≡ s = ap (λ (x : Name). text_of bytes x) k.2 ∙ n.text in
      let d = goes_below keys bytes first s above at other n.index k.0 k.1 text (h.below n.index k.0 k.1 of_first text) in
      none d.0 (subst (λ (b : Bool). HangsOn keys first at b d.0) (sym is) d.1)),
  record {
    steps = above;
    leads = h.led;
    side = is;
    none = none;
    upper = h.upper.0;
    upper_is = h.upper.1;
    upper_first = h.upper.2;
    root = h.root.0;
    root_is = h.root.1;
    root_first = h.root.2;
  },
)

none_behind : (keys : List Key) (bytes : List ℕ) (first i : ℕ) (n : Name) → IsTree keys bytes → slice_get (names_of keys) i ≡ Some n → n.first ≡ first → length keys ≤ first → ⊥
none_behind keys bytes first i n tree there begins le =
    let k = named_key keys i n there in
    omega (arith, (tree i k.0 k.1).behind, ap (λ (x : Name). x.first) k.2 ∙ begins, slice_get_within keys i k.0 k.1)

is_first : (keys : List Key) (bytes : List ℕ) (first : ℕ) → IsTree keys bytes → IsRoot (names_of keys) first → length keys ≤ first → first ≡ length keys
is_first keys bytes first tree (inl e) le = e ∙ count_names keys
is_first keys bytes first tree (inr h) le = absurd (none_behind keys bytes first h.index h.found tree h.there h.begins le)

-- the dictionary has no key
pub search_is_over : (keys : List Key) (bytes : List ℕ) (first : ℕ) (s : List ℕ) → IsTree keys bytes → IsRoot (names_of keys) first → length keys ≤ first
    → (IsNamed (names_of keys) bytes first s → ⊥) × IsFree keys first s None
search_is_over keys bytes first s tree root le = (
  (λ (n : IsNamed (names_of keys) bytes first s). none_behind keys bytes first n.index n.found tree n.there n.begins le),
  is_first keys bytes first tree root le,
)

-- ---- tests

pub side_deep : (d : ℕ) (s : List ℕ) (above b : ℕ) → 64 ≤ above → slice_get s ((above - 64) / 8) ≡ Some b → (bit_and (b / 2 ^ ((above - 64) % 8)) 1 == 1) ≡ side_of d s above
unfolding side_of
side_deep d s above b le e = let late : nat_lt above 64 ≡ false = le-ltb _ _ le in rw (late, e) (ap (λ (n : ℕ). n == 1) (shr_and_one b ((above - 64) % 8)))

pub side_past : (d : ℕ) (s : List ℕ) (above : ℕ) → 64 ≤ above → slice_get s ((above - 64) / 8) ≡ None → false ≡ side_of d s above
unfolding side_of
side_past d s above le e = let late : nat_lt above 64 ≡ false = le-ltb _ _ le in rw (late, e) refl
