-- Where an item ends, something is open behind it, or the value is whole.
use Rattle.std.proofs.Common.{◌≡◌, ◌↔◌, ◌⊎◌, ◌≤◌, ◌<◌, nat_lt, ℕ, suc, Bool, true, false, ◌||◌, List, [], ◌∷◌, ◌++◌, length, None, refl, sym, ap, subst, ◌∙◌, arith, inl, inr, bytes_eq}
use Rattle.std.proofs.lemmas.Bool.{lt-ltb, le-ltb, cases_lt, or_left, or_right, or_cases}
use Rattle.std.proofs.lemmas.List.{append-nil, length-append}
use Rattle.std.proofs.lemmas.Option.{slice_get_within}
use Rattle.std.specs.List.{list_any}
use Rattle.std.proofs.lemmas.List.Folds.{list_any-append}
use Rattle.std.proofs.lemmas.Slice.Eq.{bytes_eq-Decides}
use Rattle.packstream.specs.Prelude.{Tree, Entries, no_entries, entry_then, depth, is_among, Opened, at_key, at_value, keys_of, key_there}
use Rattle.packstream_incremental.specs.declared.open.Open.{Open}
use Rattle.packstream_incremental.specs.declared.open.Level.{Level}
use Rattle.packstream_incremental.specs.declared.progress.Part.TheVariants as part
use Rattle.packstream_incremental.specs.Prelude.{head_bytes, Name, IsNamed, ArePlaced, IsRoot, text_of, Frame, place, AreFrames, AreLevels, AreNames, HasNames, IsApart, BeginBefore, BeginsBefore, HaveNames, with_member, tree_so_far, push_entry, Left, whole, still, ends, Stands, IsLeft, Holds, with_item, Goes, IsStanding, IsValue, HasTaken}
use Rattle.packstream_incremental.proofs.Pushing.{ends_stand}
use Rattle.packstream_incremental.proofs.Treeing.{get_front, get_last, get_pushed, text_more}

-- ---- counts

pub levels_depth : (fs : List Frame) (n : ℕ) (around : List Level) → AreLevels fs n around → n ≡ length fs
levels_depth [] n around h = h
levels_depth (f ∷ fs) n around h = h.counted ∙ ap (λ (x : ℕ). suc x) (levels_depth fs h.below around h.others)

pub few_frames : (fs : List Frame) (b : List ℕ) → AreFrames fs b → length fs ≤ 32
few_frames [] b h = omega arith
few_frames (f ∷ fs) b h = omega (arith, h.room)

-- ---- names

keys_push : (es : Entries) (k : List ℕ) (t : Tree) → keys_of (push_entry es k t) ≡ keys_of es ++ k ∷ []
keys_push no_entries k t = refl
keys_push (entry_then j x es) k t = ap (λ (ks : List (List ℕ)). j ∷ ks) (keys_push es k t)

some_key : (ks : List (List ℕ)) (k : List ℕ) → ks ++ k ∷ [] ≡ [] → ⊥
some_key [] k e = cc
some_key (j ∷ ks) k e = cc

names_put : (f : Opened) (t : Tree) (first : ℕ) (names : List Name) (store : List ℕ) → HasNames f first names store → key_there f ≡ None → HasNames (with_member f t) first names store
names_put (at_key es) t first names store h none = absurd cc
names_put (at_value es k) t first names store h none = (
  subst (λ (ks : List (List ℕ)). AreNames names store first ks) (sym (keys_push es k t)) h,
  λ (e : keys_of (push_entry es k t) ≡ []). absurd (some_key (keys_of es) k (sym (keys_push es k t) ∙ e)),
)
names_put f t first names store h none = tt

apart_put : (f : Opened) (t : Tree) (first : ℕ) (fs : List Frame) → IsApart f first fs → IsApart (with_member f t) first fs
apart_put (at_key es) t first fs h = h
apart_put (at_value es k) t first fs h = h
apart_put f t first fs h = tt

-- what is still open has its names
abbrev HasLeftNames : Left → List Name → List ℕ → Type 0
HasLeftNames (whole t) names store = Unit {0}
HasLeftNames (still fs) names store = HaveNames fs names store

-- what a value leaves has its names
names_end : (fs : List Frame) (t : Tree) (b : List ℕ) (names : List Name) (store : List ℕ) → AreFrames fs b → (place fs).key ≡ None → HaveNames fs names store → HasLeftNames (ends fs t) names store
names_end [] t b names store are none h = tt
names_end (f ∷ fs) t b names store are none h =
    elim (cases_lt 1 f.lacks) as (λ _. HasLeftNames (ends (f ∷ fs) t) names store) [
      | inl lt ↦ (let l : nat_lt 1 f.lacks ≡ true = lt-ltb _ _ lt in rw l ((names_put f.opened t f.first names store h.0.0 none, apart_put f.opened t f.first fs h.0.1), h.1))
      | inr le ↦ (let l : nat_lt 1 f.lacks ≡ false = le-ltb _ _ le in rw l (names_end fs (tree_so_far (with_member f.opened t)) are.front names store are.around are.keyless h.1))
    ]

-- the same texts are keys, where the same are named
are_same : (names ns : List Name) (store b : List ℕ) (first : ℕ) (keys : List (List ℕ)) → ((x : List ℕ) → IsNamed names store first x ↔ IsNamed ns b first x) → AreNames names store first keys → AreNames ns b first keys
are_same names ns store b first keys same h = λ x. (
  (λ (e : is_among x keys ≡ true). (same x).0 ((h x).0 e)),
  (λ (n : IsNamed ns b first x). (h x).1 ((same x).1 n)),
)

-- more bytes change no name
named_more : (names : List Name) (store s : List ℕ) (first : ℕ) (x : List ℕ) → ArePlaced names (length store) → IsNamed names store first x ↔ IsNamed names (store ++ s) first x
named_more names store s first x placed = (
  (λ (n : IsNamed names store first x). record { index = n.index; found = n.found; there = n.there; begins = n.begins; text = text_more store s (n.found).start (n.found).len (placed n.index n.found n.there).1 ∙ n.text }),
  (λ (n : IsNamed names (store ++ s) first x). record { index = n.index; found = n.found; there = n.there; begins = n.begins; text = sym (text_more store s (n.found).start (n.found).len (placed n.index n.found n.there).1) ∙ n.text }),
)

has_more : (f : Opened) (names : List Name) (store s : List ℕ) (first : ℕ) → ArePlaced names (length store) → HasNames f first names store → HasNames f first names (store ++ s)
has_more (at_key es) names store s first placed h = (are_same names names store (store ++ s) first (keys_of es) (λ x. named_more names store s first x placed) h.0, h.1)
has_more (at_value es k) names store s first placed h = are_same names names store (store ++ s) first (keys_of es ++ k ∷ []) (λ x. named_more names store s first x placed) h
has_more f names store s first placed h = tt

pub names_more : (fs : List Frame) (names : List Name) (store s : List ℕ) → ArePlaced names (length store) → HaveNames fs names store → HaveNames fs names (store ++ s)
names_more [] names store s placed h = tt
names_more (f ∷ fs) names store s placed h = ((has_more f.opened names store s f.first placed h.0.0, h.0.1), names_more fs names store s placed h.1)

pub placed_more : (names : List Name) (store s : List ℕ) → ArePlaced names (length store) → ArePlaced names (length (store ++ s))
placed_more names store s placed = λ i n e. (let p = placed i n e in (p.0, omega (arith, p.1, length-append store s)))

-- a name of another dictionary
named_push : (names : List Name) (n : Name) (store : List ℕ) (first : ℕ) (x : List ℕ) → first < n.first → IsNamed names store first x ↔ IsNamed (names ++ n ∷ []) store first x
named_push names n store first x lt = (
  (λ (h : IsNamed names store first x). record { index = h.index; found = h.found; there = get_front names (n ∷ []) h.index h.found h.there; begins = h.begins; text = h.text }),
  (λ (h : IsNamed (names ++ n ∷ []) store first x).
      elim (get_pushed names n h.index h.found h.there) as (λ _. IsNamed names store first x) [
        | inl e ↦ record { index = h.index; found = h.found; there = e; begins = h.begins; text = h.text }
        | inr e ↦ absurd (omega (arith, h.begins, ap (λ (m : Name). m.first) e.1))
      ]),
)

has_push : (f : Opened) (names : List Name) (n : Name) (store : List ℕ) (first : ℕ) → key_there f ≡ None → BeginsBefore f first n.first → HasNames f first names store → HasNames f first (names ++ n ∷ []) store
has_push (at_key es) names n store first none lt h = absurd cc
has_push (at_value es k) names n store first none lt h = are_same names (names ++ n ∷ []) store store first (keys_of es ++ k ∷ []) (λ x. named_push names n store first x lt) h
has_push f names n store first none lt h = tt

-- those around keep theirs where an inner dictionary has one more
pub names_push : (fs : List Frame) (b : List ℕ) (names : List Name) (n : Name) (store : List ℕ) → AreFrames fs b → (place fs).key ≡ None → BeginBefore fs n.first → HaveNames fs names store → HaveNames fs (names ++ n ∷ []) store
names_push [] b names n store are none lt h = tt
names_push (f ∷ fs) b names n store are none lt h =
    ((has_push f.opened names n store f.first none lt.0 h.0.0, h.0.1), names_push fs are.front names n store are.around are.keyless lt.1 h.1)

-- ---- keys among keys

or_false : (a : Bool) → (a || false) ≡ true → a ≡ true
or_false true e = refl
or_false false e = e

among_push : (x : List ℕ) (keys : List (List ℕ)) (k : List ℕ) → is_among x (keys ++ k ∷ []) ≡ true → (is_among x keys ≡ true) ⊎ (x ≡ k)
among_push x keys k e =
    elim (or_cases (list_any (bytes_eq x) keys) (list_any (bytes_eq x) (k ∷ [])) (sym (list_any-append (bytes_eq x) keys (k ∷ [])) ∙ e)) as (λ _. (is_among x keys ≡ true) ⊎ (x ≡ k)) [
      | inl a ↦ inl a
      | inr b ↦ inr ((bytes_eq-Decides x k).0 (or_false (bytes_eq x k) b))
    ]

among_front : (x : List ℕ) (keys : List (List ℕ)) (k : List ℕ) → is_among x keys ≡ true → is_among x (keys ++ k ∷ []) ≡ true
among_front x keys k e = list_any-append (bytes_eq x) keys (k ∷ []) ∙ or_left (list_any (bytes_eq x) keys) (list_any (bytes_eq x) (k ∷ [])) e

among_head : (k : List ℕ) (keys : List (List ℕ)) → is_among k (k ∷ keys) ≡ true
among_head k keys = or_left (bytes_eq k k) (list_any (bytes_eq k) keys) ((bytes_eq-Decides k k).1 refl)

among_itself : (keys : List (List ℕ)) (k : List ℕ) → is_among k (keys ++ k ∷ []) ≡ true
among_itself keys k = list_any-append (bytes_eq k) keys (k ∷ []) ∙ or_right (list_any (bytes_eq k) keys) (list_any (bytes_eq k) (k ∷ [])) (among_head k [])

-- the dictionary has one name and one key more
pub key_named : (names : List Name) (n : Name) (store : List ℕ) (keys : List (List ℕ)) (k : List ℕ) → AreNames names store n.first keys → text_of store n ≡ k → AreNames (names ++ n ∷ []) store n.first (keys ++ k ∷ [])
key_named names n store keys k h t = λ x. (
  (λ (e : is_among x (keys ++ k ∷ []) ≡ true).
      elim (among_push x keys k e) as (λ _. IsNamed (names ++ n ∷ []) store n.first x) [
        | inl a ↦ (let w = (h x).0 a in record { index = w.index; found = w.found; there = get_front names (n ∷ []) w.index w.found w.there; begins = w.begins; text = w.text })
        | inr e ↦ record { index = length names; found = n; there = get_last names n; begins = refl; text = t ∙ sym e }
      ]),
  (λ (w : IsNamed (names ++ n ∷ []) store n.first x).
      elim (get_pushed names n w.index w.found w.there) as (λ _. is_among x (keys ++ k ∷ []) ≡ true) [
        | inl e ↦ among_front x keys k ((h x).1 (record { index = w.index; found = w.found; there = e; begins = w.begins; text = w.text }))
        | inr e ↦ (let same : k ≡ x = sym t ∙ ap (λ (m : Name). text_of store m) e.1 ∙ w.text in subst (λ (y : List ℕ). is_among y (keys ++ k ∷ []) ≡ true) same (among_itself keys k))
      ]),
)

named_before : (names : List Name) (store : List ℕ) (first : ℕ) (x : List ℕ) → ArePlaced names (length store) → IsNamed names store first x → first < length names
named_before names store first x placed w = omega (arith, (placed w.index w.found w.there).0, slice_get_within names w.index w.found w.there, w.begins)

-- a dictionary that opens has no names
pub no_names : (names : List Name) (store : List ℕ) → ArePlaced names (length store) → AreNames names store (length names) []
no_names names store placed = λ x. (
  (λ (e : is_among x [] ≡ true). absurd cc),
  (λ (w : IsNamed names store (length names) x). absurd (omega (arith, named_before names store (length names) x placed w))),
)

opened_before : (f : Opened) (names : List Name) (store : List ℕ) (first : ℕ) → ArePlaced names (length store) → key_there f ≡ None → HasNames f first names store → BeginsBefore f first (length names)
opened_before (at_key es) names store first placed none h = absurd cc
opened_before (at_value es k) names store first placed none h = named_before names store first k placed ((h k).0 (among_itself (keys_of es) k))
opened_before f names store first placed none h = tt

pub all_before : (fs : List Frame) (b : List ℕ) (names : List Name) (store : List ℕ) → AreFrames fs b → (place fs).key ≡ None → ArePlaced names (length store) → HaveNames fs names store → BeginBefore fs (length names)
all_before [] b names store are none placed h = tt
all_before (f ∷ fs) b names store are none placed h =
    (opened_before f.opened names store f.first placed none h.0.0, all_before fs are.front names store are.around are.keyless placed h.1)

-- the next key of a dictionary is its first, or another stands where its keys begin
pub root_of : (names : List Name) (store : List ℕ) (first : ℕ) (keys : List (List ℕ)) → AreNames names store first keys → (keys ≡ [] → first ≡ length names) → IsRoot names first
root_of names store first [] h none = inl (none refl)
root_of names store first (k ∷ keys) h none = let w = (h k).0 (among_head k keys) in inr (record { index = w.index; found = w.found; there = w.there; begins = w.begins })

-- ---- what stands behind an item

abbrev pub after : Open → Holds → Holds
after o h = record h { cursor = record h.cursor { «open» = o } }

-- something is open behind it
pub goes_on : (h : Holds) (o : Open) (gs : List Frame) → o.is_whole ≡ false → AreFrames gs h.store → AreLevels gs o.depth o.around → HaveNames gs h.names h.store → ArePlaced h.names (length h.store) → IsStanding (after o (with_item h))
goes_on h o gs unread are levels names placed = inr (
  record {
    frames = gs;
    full = h.store;
    tail = [];
    unread = unread;
    store = sym (append-nil h.store);
    are = are;
    read = refl;
    levels = levels;
    named = names;
    placed = placed;
    isa = refl;
  },
  tt,
)

left_stands : (h : Holds) (o : Open) (l : Left) → Stands l h.store → IsLeft l o → HasLeftNames l h.names h.store → ArePlaced h.names (length h.store) → IsStanding (after o (with_item h))
left_stands h o (whole t) s i names placed = inl (record { tree = t; whole = i; none = refl; spells = s.spells; sound = s.sound; deep = s.deep; read = refl; placed = placed })
left_stands h o (still gs) s i names placed = goes_on h o gs i.0 s i.1 names placed

-- a value without members
pub value_stands : (h : Holds) (m number : ℕ) (o : Open) → (g : Goes h (part.Body m number 0)) → IsValue h m number
    → ((fs : List Frame) (t : Tree) → AreLevels fs h.cursor.«open».depth h.cursor.«open».around → h.cursor.«open».is_whole ≡ false → IsLeft (ends fs t) o) → IsStanding (after o (with_item h))
value_stands h m number o g value left =
    let v = value g in
    left_stands h o (ends g.frames v.tree)
    (subst (λ (b : List ℕ). Stands (ends g.frames v.tree) b) (sym g.store) (ends_stand g.frames g.full v.tree (head_bytes m number ++ g.tail) g.are v.keyless v.spells v.sound v.deep))
    (left g.frames v.tree g.levels g.unread)
    (names_end g.frames v.tree g.full h.names h.store g.are v.keyless g.named) g.placed

-- what was taken with an item that ends
pub has_taken : (h now : Holds) (o : Open) (rest : List ℕ) → now ≡ after o (with_item h) → h.cursor.bad ≡ None → IsStanding (after o (with_item h)) → HasTaken (h.store ++ rest) now rest
has_taken h now o rest is good stands = rw is (record { stands = stands; bytes = refl; ends = inl refl; bad = good })
