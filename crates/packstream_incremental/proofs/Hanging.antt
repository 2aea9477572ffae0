-- A key that is hung on the tree.
use Rattle.std.proofs.Common.{◌≡◌, ◌≤◌, ◌<◌, ◌+◌, ◌-◌, ℕ, zero, suc, Bool, true, false, cond, List, [], ◌∷◌, ◌++◌, length, take, drop, get_or, Option, Some, None, refl, sym, ap, subst, ◌∙◌, arith, inl, inr, slice_get, slice_set}
use Rattle.std.proofs.lemmas.Option.{slice_get_within, slice_get-get_or}
use Rattle.std.proofs.lemmas.List.{length-drop, map_push}
use Rattle.std.proofs.Math.Seq.{take-length}
use Rattle.packstream_incremental.specs.declared.texts.Key.{Key}
use Rattle.packstream_incremental.specs.declared.texts.Link.{Link}
use Rattle.packstream_incremental.specs.Prelude.{Name, name, names_of, text_of, digest_of, HangsOn, IsInPlace, IsTree, IsFree, IsFreeAt, with_below, hung_at, hung, HasLink}
use Rattle.packstream_incremental.proofs.Treeing.{get_front, get_last, get_pushed, one_element, IsSameKey, same_key, in_place, stays_in_place, still_hangs, still_leads, leads_on, leads_up, tree_extends}

length_hung_at : (at : ℕ) (side : Bool) (n : ℕ) (keys : List Key) → length (hung_at at side n keys) ≡ length keys
length_hung_at at side n [] = refl
length_hung_at zero side n (k ∷ keys) = refl
length_hung_at (suc at) side n (k ∷ keys) = ap (λ (x : ℕ). suc x) (length_hung_at at side n keys)

names_hung_at : (at : ℕ) (side : Bool) (n : ℕ) (keys : List Key) → names_of (hung_at at side n keys) ≡ names_of keys
names_hung_at at side n [] = refl
names_hung_at zero side n (k ∷ keys) = refl
names_hung_at (suc at) side n (k ∷ keys) = ap (λ (x : List Name). name k ∷ x) (names_hung_at at side n keys)

pub names_after : (link : Option Link) (n : ℕ) (keys : List Key) (k : Key) → names_of (hung link n keys ++ k ∷ []) ≡ names_of keys ++ name k ∷ []
names_after None n keys k = map_push name keys k
names_after (Some link) n keys k = map_push name (hung_at link.key link.is_right n keys) k ∙ ap (λ (ns : List Name). ns ++ name k ∷ []) (names_hung_at link.key link.is_right n keys)

-- what is at a place, after another was hung on `at`
abbrev hung_key : ℕ → Bool → ℕ → ℕ → Key → Key
hung_key zero side n zero k = with_below side n k
hung_key (suc at) side n (suc i) k = hung_key at side n i k
hung_key at side n i k = k

hung_get : (at : ℕ) (side : Bool) (n : ℕ) (keys : List Key) (i : ℕ) (k : Key) → slice_get keys i ≡ Some k → slice_get (hung_at at side n keys) i ≡ Some (hung_key at side n i k)
hung_get at side n [] i k e = absurd cc
hung_get zero side n (x ∷ keys) zero k e = let same : x ≡ k = cc in ap (λ (y : Key). Some (with_below side n y)) same
hung_get zero side n (x ∷ keys) (suc i) k e = e
hung_get (suc at) side n (x ∷ keys) zero k e = e
hung_get (suc at) side n (x ∷ keys) (suc i) k e = hung_get at side n keys i k e

hung_same : (at : ℕ) (side : Bool) (n i : ℕ) (k : Key) → IsSameKey k (hung_key at side n i k)
hung_same zero side n zero k = record { names = refl; digest = refl; above = refl }
hung_same (suc at) side n (suc i) k = hung_same at side n i k
hung_same at side n i k = same_key k

-- what was at a place
hung_from : (at : ℕ) (side : Bool) (n : ℕ) (keys : List Key) (i : ℕ) (j : Key) → slice_get (hung_at at side n keys) i ≡ Some j → (k : Key) × (slice_get keys i ≡ Some k) × IsSameKey k j
hung_from at side n keys i j e =
    let k : Key = get_or keys i j in
    let there = slice_get-get_or keys i j (omega (arith, length_hung_at at side n keys, slice_get_within (hung_at at side n keys) i j e)) in
    (k, there, subst (λ (x : Key). IsSameKey k x) (one_element (hung_at at side n keys) i (hung_key at side n i k) j (hung_get at side n keys i k there) e) (hung_same at side n i k))

-- below the key on which it was hung it is on its side ..
hung_below : (at : ℕ) (side : Bool) (n : ℕ) (k : Key) → cond side (hung_key at side n at k).right (hung_key at side n at k).left ≡ n
hung_below zero true n k = refl
hung_below zero false n k = refl
hung_below (suc at) side n k = hung_below at side n k

-- .. and on other sides is what was
hung_beside : (at : ℕ) (side : Bool) (n i : ℕ) (k : Key) (s : Bool) → (i ≡ at → s ≡ side → ⊥) → cond s (hung_key at side n i k).right (hung_key at side n i k).left ≡ cond s k.right k.left
hung_beside zero true n zero k true other = absurd (other refl refl)
hung_beside zero true n zero k false other = refl
hung_beside zero false n zero k true other = refl
hung_beside zero false n zero k false other = absurd (other refl refl)
hung_beside (suc at) side n (suc i) k s other = hung_beside at side n i k s (λ e. other (ap (λ (x : ℕ). suc x) e))
hung_beside at side n i k s other = refl

-- what hangs on a key still does
hangs_after : (keys : List Key) (first : ℕ) (text : List ℕ) (link : Link) (n : ℕ) (new : Key) → IsFreeAt keys first text link
    → (f a : ℕ) (s : Bool) (next : ℕ) → HangsOn keys f a s next → HangsOn (hung_at link.key link.is_right n keys ++ new ∷ []) f a s next
hangs_after keys first text link n new free f a s next h =
    let at : ℕ = link.key in
    let side : Bool = link.is_right in
    let more : List Key = hung_at at side n keys in
    let other : a ≡ at → s ≡ side → ⊥ = λ on same.
    (let u : h.upper ≡ free.upper = one_element keys a h.upper free.upper h.upper_is (subst (λ (x : ℕ). slice_get keys x ≡ Some free.upper) (sym on) free.upper_is) in
    let firsts : f ≡ first = sym h.upper_first ∙ ap (λ (k : Key). k.first) u ∙ free.upper_first in
    free.none next (subst (λ (x : ℕ). HangsOn keys x at side next) firsts (subst (λ (x : ℕ). HangsOn keys f x side next) on (subst (λ (x : Bool). HangsOn keys f a x next) same h)))) in
    still_hangs keys (more ++ new ∷ []) f a s next h
    (hung_key at side n a h.upper) (get_front more (new ∷ []) a (hung_key at side n a h.upper) (hung_get at side n keys a h.upper h.upper_is)) (hung_same at side n a h.upper) (hung_beside at side n a h.upper s other)
    (hung_key at side n next h.lower) (get_front more (new ∷ []) next (hung_key at side n next h.lower) (hung_get at side n keys next h.lower h.lower_is)) (hung_same at side n next h.lower)

-- a key that isn't hung yet
pub record IsNewKey (keys : List Key) (bytes : List ℕ) (first : ℕ) (s : List ℕ) (key : Key) : Type 0 where
  pub of_first : key.first ≡ first
  pub text : text_of bytes (name key) ≡ s
  pub within : key.start + key.len ≤ length bytes
  pub digest : key.digest ≡ digest_of s
  pub free : IsFree keys first s key.above

tree_with : (keys more : List Key) (bytes : List ℕ) (key : Key) → IsTree keys bytes → IsInPlace (more ++ key ∷ []) bytes (length more) key
    → ((i : ℕ) (j : Key) → slice_get more i ≡ Some j → (k : Key) × (slice_get keys i ≡ Some k) × IsSameKey k j)
    → ((i : ℕ) (k : Key) → slice_get keys i ≡ Some k → (j : Key) × (slice_get more i ≡ Some j) × IsSameKey k j)
    → ((f a : ℕ) (s : Bool) (next : ℕ) → HangsOn keys f a s next → HangsOn (more ++ key ∷ []) f a s next) → IsTree (more ++ key ∷ []) bytes
tree_with keys more bytes key tree place from keep hangs = λ i j e.
    elim (get_pushed more key i j e) as (λ _. IsInPlace (more ++ key ∷ []) bytes i j) [
      | inl h ↦ (let k = from i j h in
          let p = tree i k.0 k.1 in
          let r = keep (k.0).first p.root p.root_is in
          stays_in_place keys (more ++ key ∷ []) bytes bytes i k.0 j p k.2 refl p.within (r.0, get_front more (key ∷ []) (k.0).first r.0 r.1, r.2)
          (still_leads keys (more ++ key ∷ []) i (λ f a s next le. hangs f a s next) (k.0).first (text_of bytes (name k.0)) 0 (k.0).first p.steps p.leads))
      | inr h ↦ subst (λ (n : ℕ). IsInPlace (more ++ key ∷ []) bytes n j) (sym h.0) (subst (λ (x : Key). IsInPlace (more ++ key ∷ []) bytes (length more) x) h.1 place)
    ]

pub tree_hangs_at : (keys : List Key) (bytes : List ℕ) (first : ℕ) (s : List ℕ) (key : Key) (link : Option Link) → IsTree keys bytes → IsNewKey keys bytes first s key → key.above ≡ link
    → IsTree (hung link (length keys) keys ++ key ∷ []) bytes
tree_hangs_at keys bytes first s key None tree new on =
    let free : IsFree keys first s None = subst (λ (l : Option Link). IsFree keys first s l) on new.free in
    let root = subst (λ (x : ℕ). slice_get (keys ++ key ∷ []) x ≡ Some key) (sym free) (get_last keys key) in
    tree_with keys keys bytes key tree
    (in_place (keys ++ key ∷ []) bytes first s (length keys) key 0 new.of_first new.text new.within new.digest (omega (arith, free)) (key, root, new.of_first) free)
    (λ i j e. (j, e, same_key j)) (λ i k e. (k, e, same_key k))
    (λ f a s next h. still_hangs keys (keys ++ key ∷ []) f a s next h h.upper (get_front keys (key ∷ []) a h.upper h.upper_is) (same_key h.upper) refl h.lower (get_front keys (key ∷ []) next h.lower h.lower_is) (same_key h.lower))
tree_hangs_at keys bytes first s key (Some link) tree new on =
    let free : IsFreeAt keys first s link = subst (λ (l : Option Link). IsFree keys first s l) on new.free in
    let at : ℕ = link.key in
    let side : Bool = link.is_right in
    let n : ℕ = length keys in
    let more : List Key = hung_at at side n keys in
    let keep : (i : ℕ) (k : Key) → slice_get keys i ≡ Some k → (j : Key) × (slice_get more i ≡ Some j) × IsSameKey k j = λ i k e. (hung_key at side n i k, hung_get at side n keys i k e, hung_same at side n i k) in
    let hangs = hangs_after keys first s link n key free in
    let upper : Key = hung_key at side n at free.upper in
    let hang : HangsOn (more ++ key ∷ []) first at side (length more) = record {
      upper = upper;
      lower = key;
      upper_is = get_front more (key ∷ []) at upper (hung_get at side n keys at free.upper free.upper_is);
      upper_first = ap (λ (x : Name). x.first) (hung_same at side n at free.upper).names ∙ free.upper_first;
      linked = hung_below at side n free.upper ∙ sym (length_hung_at at side n keys);
      later = omega (arith, length_hung_at at side n keys, slice_get_within keys at free.upper free.upper_is);
      lower_is = get_last more key;
      lower_first = new.of_first;
      above = on;
    } in
    let down = still_leads keys (more ++ key ∷ []) at (λ f a t next le. hangs f a t next) first s 0 first free.steps free.leads in
    let led = leads_on (more ++ key ∷ []) first s 0 first free.steps at free.steps (length more) down (omega arith) (subst (λ (b : Bool). HangsOn (more ++ key ∷ []) first at b (length more)) free.side hang) in
    let r = keep first free.root free.root_is in
    tree_with keys more bytes key tree
    (in_place (more ++ key ∷ []) bytes first s (length more) key (suc free.steps) new.of_first new.text new.within new.digest
    (omega (arith, leads_up keys first s 0 first free.steps at free.leads, hang.later)) (r.0, get_front more (key ∷ []) first r.0 r.1, ap (λ (x : Name). x.first) (r.2).names ∙ free.root_first) led)
    (hung_from at side n keys) keep hangs

pub links : (keys : List Key) (first : ℕ) (s : List ℕ) (above : Option Link) → IsFree keys first s above → HasLink keys above
links keys first s None free = tt
links keys first s (Some link) free = slice_get_within keys link.key free.upper free.upper_is

-- ---- as the code writes it

set_hung : (keys : List Key) (new : Key) (at : ℕ) (side : Bool) (n : ℕ) (d : Key) → at < length keys → slice_set (keys ++ new ∷ []) at (with_below side n (get_or (keys ++ new ∷ []) at d)) ≡ hung_at at side n keys ++ new ∷ []
set_hung [] new at side n d lt = absurd (omega arith)
set_hung (k ∷ keys) new zero side n d lt = refl
set_hung (k ∷ keys) new (suc at) side n d lt = ap (λ (x : List Key). k ∷ x) (set_hung keys new at side n d (omega arith))

pub hang_writes : (keys items : List Key) (new r : Key) (above : Option Link) (link : Link) (side : Bool) (n : ℕ) → above ≡ Some link → link.is_right ≡ side → items ≡ keys ++ new ∷ [] → HasLink keys above
    → r ≡ get_or items link.key r → slice_set items link.key (with_below side n r) ≡ hung above n keys ++ new ∷ []
hang_writes keys items new r above link side n e is all has read =
    let lt : link.key < length keys = subst (λ (l : Option Link). HasLink keys l) e has in
    let done : slice_set (keys ++ new ∷ []) link.key (with_below side n (get_or (keys ++ new ∷ []) link.key r)) ≡ hung_at link.key side n keys ++ new ∷ [] = set_hung keys new link.key side n r lt in
    ap (λ (x : Key). slice_set items link.key (with_below side n x)) read
    ∙ ap (λ (x : List Key). slice_set x link.key (with_below side n (get_or x link.key r))) all
    ∙ done
    ∙ ap (λ (b : Bool). hung_at link.key b n keys ++ new ∷ []) (sym is)
    ∙ ap (λ (l : Option Link). hung l n keys ++ new ∷ []) (sym e)

pub tree_extends_if : (b : Bool) (keys : List Key) (bytes s : List ℕ) → IsTree keys bytes → IsTree keys (cond b (bytes ++ s) bytes)
tree_extends_if true keys bytes s tree = tree_extends keys bytes s tree
tree_extends_if false keys bytes s tree = tree

pub text_from : (found bytes : List ℕ) (start : ℕ) → found ≡ bytes → take (length found - start) (drop start found) ≡ drop start bytes
text_from found bytes start e =
    ap (λ (n : ℕ). take n (drop start found)) (sym (length-drop start found)) ∙ take-length (drop start found) ∙ ap (λ (b : List ℕ). drop start b) e

pub moved : (P : List Key → List ℕ → List ℕ → Type 0) (a b : List Key) (c d e f : List ℕ) → a ≡ b → c ≡ d → e ≡ f → P a c e → P b d f
moved P a b c d e f p q r h = subst (λ (x : List ℕ). P b d x) r (subst (λ (x : List ℕ). P b x e) q (subst (λ (x : List Key). P x c e) p h))

pub new_key : (keys : List Key) (bytes : List ℕ) (first start : ℕ) (text : List ℕ) (digest : ℕ) (above : Option Link) → start ≤ length bytes → text ≡ drop start bytes → digest ≡ digest_of text
    → IsFree keys first (drop start bytes) above
    → IsNewKey keys bytes first (drop start bytes) (record { start = start; len = length text; digest = digest; first = first; above = above; left = 0; right = 0 })
new_key keys bytes first start text digest above le e d free = record {
  of_first = refl;
  text = ap (λ (x : List ℕ). take (length x) (drop start bytes)) e ∙ take-length (drop start bytes);
  within = omega (arith, ap length e, length-drop start bytes);
  digest = d ∙ ap digest_of e;
  free = free;
}
