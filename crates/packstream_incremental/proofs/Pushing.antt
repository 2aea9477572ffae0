-- What is open: a head begins it, a value behind it becomes a member of it, and a key waits for its value.
use Rattle.std.proofs.Common.{◌≡◌, ◌≤◌, ◌<◌, ◌+◌, ◌-◌, ℕ, suc, nat_lt, true, false, List, [], ◌∷◌, ◌++◌, length, None, refl, sym, ap, subst, ◌∙◌, append_assoc, zero-add, arith, inl, inr}
use Rattle.std.proofs.lemmas.Bool.{lt-ltb, le-ltb, cases_lt}
use Rattle.std.proofs.lemmas.List.{append-nil}
use Rattle.packstream.specs.declared.marker.Size.{Size}
use Rattle.packstream.specs.declared.marker.Marker.{Marker}
use Rattle.packstream.specs.declared.marker.Marker.TheVariants as announces
use Rattle.packstream.specs.Prelude.{Tree, list, dict, structure, Trees, no_trees, tree_then, Entries, no_entries, entry_then, depth, count, entry_count, trees_depth, entries_depth, IsSound, AreSound, HaveSoundValues, AreNewKeys, is_among, Begins, IsSize, SpellsText, SpellsTree, SpellsAll, SpellsEntries, Opened, in_list, in_struct, at_key, at_value, keys_of, key_there}
use Rattle.packstream_incremental.specs.Prelude.{Frame, IsFrame, place, AreFrames, push_tree, push_entry, with_member, tree_so_far, ends, Stands}
use Rattle.packstream.proofs.Table.{few_fields}

-- ---- one member more

count_push : (ts : Trees) (t : Tree) → count (push_tree ts t) ≡ suc (count ts)
count_push no_trees t = refl
count_push (tree_then x ts) t = ap (λ (n : ℕ). suc n) (count_push ts t)

spells_push : (ts : Trees) (t : Tree) (b c : List ℕ) → SpellsAll ts b → SpellsTree t c → SpellsAll (push_tree ts t) (b ++ c)
spells_push no_trees t b c h one = (c, [], one, refl, ap (λ (x : List ℕ). x ++ c) h ∙ sym (append-nil c))
spells_push (tree_then x ts) t b c h one = (h.0, h.1 ++ c, h.2, spells_push ts t h.1 c h.3 one, ap (λ (y : List ℕ). y ++ c) h.4 ∙ append_assoc h.0 h.1 c)

sound_push : (ts : Trees) (t : Tree) → AreSound ts → IsSound t → AreSound (push_tree ts t)
sound_push no_trees t h one = (one, tt)
sound_push (tree_then x ts) t h one = (h.0, sound_push ts t h.1 one)

depth_push : (ts : Trees) (t : Tree) (k : ℕ) → trees_depth ts ≤ k → depth t ≤ k → trees_depth (push_tree ts t) ≤ k
depth_push no_trees t k h one = omega arith
depth_push (tree_then x ts) t k h one = let ih = depth_push ts t k (omega arith) one in omega arith

-- ---- one pair more

pairs_push : (es : Entries) (k : List ℕ) (t : Tree) → entry_count (push_entry es k t) ≡ suc (entry_count es)
pairs_push no_entries k t = refl
pairs_push (entry_then j x es) k t = ap (λ (n : ℕ). suc n) (pairs_push es k t)

spells_pair : (es : Entries) (k : List ℕ) (t : Tree) (b key c : List ℕ) → SpellsEntries es b → SpellsText k key → SpellsTree t c → SpellsEntries (push_entry es k t) (b ++ (key ++ c))
spells_pair no_entries k t b key c h name one = (key, c, [], name, one, refl, ap (λ (x : List ℕ). x ++ (key ++ c)) h ∙ ap (λ (x : List ℕ). key ++ x) (sym (append-nil c)))
spells_pair (entry_then j x es) k t b key c h name one = (
  h.0,
  h.1,
  h.2 ++ (key ++ c),
  h.3,
  h.4,
  spells_pair es k t h.2 key c h.5 name one,
  ap (λ (y : List ℕ). y ++ (key ++ c)) h.6 ∙ append_assoc h.0 (h.1 ++ h.2) (key ++ c) ∙ ap (λ (y : List ℕ). h.0 ++ y) (append_assoc h.1 h.2 (key ++ c)),
)

new_pair : (before : List (List ℕ)) (es : Entries) (k : List ℕ) (t : Tree) → AreNewKeys before es → is_among k (before ++ keys_of es) ≡ false → AreNewKeys before (push_entry es k t)
new_pair before no_entries k t h fresh = (ap (is_among k) (sym (append-nil before)) ∙ fresh, tt)
new_pair before (entry_then j x es) k t h fresh = (h.0, new_pair (before ++ j ∷ []) es k t h.1 (ap (is_among k) (append_assoc before (j ∷ []) (keys_of es)) ∙ fresh))

values_push : (es : Entries) (k : List ℕ) (t : Tree) → HaveSoundValues es → IsSound t → HaveSoundValues (push_entry es k t)
values_push no_entries k t h one = (one, tt)
values_push (entry_then j x es) k t h one = (h.0, values_push es k t h.1 one)

depth_pair : (es : Entries) (k : List ℕ) (t : Tree) (n : ℕ) → entries_depth es ≤ n → depth t ≤ n → entries_depth (push_entry es k t) ≤ n
depth_pair no_entries k t n h one = omega arith
depth_pair (entry_then j x es) k t n h one = let ih = depth_pair es k t n (omega arith) one in omega arith

-- ---- what is open, with one member more

begins_more : (what : Marker) (rest more b c : List ℕ) → Begins what rest b → rest ++ c ≡ more → Begins what more (b ++ c)
begins_more what rest more b c h e = (h.0, h.1, ap (λ (x : List ℕ). x ++ c) h.2 ∙ ap (λ (x : List ℕ). h.0 ∷ x) e)

pub sized : (size : Size) (n m : ℕ) (field : List ℕ) → n ≡ m → IsSize size n field → IsSize size m field
sized size n m field e is = subst (λ (k : ℕ). IsSize size k field) e is

frame_put : (heads : ℕ) (f : Opened) (lacks : ℕ) (t : Tree) (b c : List ℕ) → IsFrame heads f lacks b → key_there f ≡ None → 0 < lacks → SpellsTree t c → IsSound t → depth t + heads ≤ 32
    → IsFrame heads (with_member f t) (lacks - 1) (b ++ c)
frame_put heads (in_list ts) lacks t b c h none lt one sound deep = record {
  size = h.size;
  field = h.field;
  body = h.body ++ c;
  sized = sized h.size (count ts + lacks) (count (push_tree ts t) + (lacks - 1)) h.field (omega (arith, count_push ts t)) h.sized;
  spelled = spells_push ts t h.body c h.spelled one;
  sound = sound_push ts t h.sound sound;
  deep = omega (arith, depth_push ts t (32 - heads) (omega (arith, h.deep)) (omega arith), h.deep);
  begins = begins_more (announces.List h.size) (h.field ++ h.body) (h.field ++ (h.body ++ c)) b c h.begins (append_assoc h.field h.body c);
}
frame_put heads (in_struct tag ts) lacks t b c h none lt one sound deep =
    let n : count ts + lacks ≡ count (push_tree ts t) + (lacks - 1) = omega (arith, count_push ts t) in
    record {
      body = h.body ++ c;
      spelled = spells_push ts t h.body c h.spelled one;
      sound = sound_push ts t h.sound sound;
      deep = omega (arith, depth_push ts t (32 - heads) (omega (arith, h.deep)) (omega arith), h.deep);
      begins = subst (λ (k : ℕ). Begins (announces.Struct k) (tag ∷ (h.body ++ c)) (b ++ c)) n (begins_more (announces.Struct (count ts + lacks)) (tag ∷ h.body) (tag ∷ (h.body ++ c)) b c h.begins refl);
    }
frame_put heads (at_key es) lacks t b c h none lt one sound deep = absurd cc
frame_put heads (at_value es k) lacks t b c h none lt one sound deep = record {
  size = h.size;
  field = h.field;
  body = h.body ++ (h.key ++ c);
  sized = sized h.size (entry_count es + lacks) (entry_count (push_entry es k t) + (lacks - 1)) h.field (omega (arith, pairs_push es k t)) h.sized;
  spelled = spells_pair es k t h.body h.key c h.spelled h.spelled_key one;
  fresh = new_pair [] es k t h.fresh h.new_key;
  sound = values_push es k t h.sound sound;
  deep = omega (arith, depth_pair es k t (32 - heads) (omega (arith, h.deep)) (omega arith), h.deep);
  begins = begins_more (announces.Dict h.size) (h.field ++ (h.body ++ h.key)) (h.field ++ (h.body ++ (h.key ++ c))) b c h.begins
      (append_assoc h.field (h.body ++ h.key) c ∙ ap (λ (x : List ℕ). h.field ++ x) (append_assoc h.body h.key c));
}

-- it is a value, where it lacks no more
abbrev pub IsWhole : ℕ → Tree → List ℕ → Type 0
IsWhole heads t b = SpellsTree t b × IsSound t × (depth t + heads ≤ 33)

pub list_closes : (heads : ℕ) (ts : Trees) (b : List ℕ) → IsFrame heads (in_list ts) 0 b → IsWhole heads (list ts) b
list_closes heads ts b h = ((h.size, h.field, h.body, sized h.size (count ts + 0) (count ts) h.field (omega arith) h.sized, h.spelled, h.begins), h.sound, omega (arith, h.deep))

pub struct_closes : (heads tag : ℕ) (ts : Trees) (b : List ℕ) → IsFrame heads (in_struct tag ts) 0 b → IsWhole heads (structure tag ts) b
struct_closes heads tag ts b h =
    let n : count ts + 0 ≡ count ts = omega arith in
    let begins : Begins (announces.Struct (count ts)) (tag ∷ h.body) b = subst (λ (k : ℕ). Begins (announces.Struct k) (tag ∷ h.body) b) n h.begins in
    ((h.body, h.spelled, begins), (few_fields begins.0 (count ts) begins.1, h.sound), omega (arith, h.deep))

pub dict_closes : (heads : ℕ) (es : Entries) (b : List ℕ) → IsFrame heads (at_key es) 0 b → IsWhole heads (dict es) b
dict_closes heads es b h = ((h.size, h.field, h.body, sized h.size (entry_count es + 0) (entry_count es) h.field (omega arith) h.sized, h.spelled, h.begins), (h.fresh, h.sound), omega (arith, h.deep))

put_closes : (heads : ℕ) (f : Opened) (t : Tree) (b : List ℕ) → IsFrame heads (with_member f t) 0 b → IsWhole heads (tree_so_far (with_member f t)) b
put_closes heads (in_list ts) t b h = list_closes heads (push_tree ts t) b h
put_closes heads (in_struct tag ts) t b h = struct_closes heads tag (push_tree ts t) b h
put_closes heads (at_key es) t b h = dict_closes heads es b h
put_closes heads (at_value es k) t b h = dict_closes heads (push_entry es k t) b h

-- the innermost has more behind it
innermost_more : (f g : Frame) (fs : List Frame) (front c : List ℕ) → (h : AreFrames (f ∷ fs) front) → 0 < g.lacks → IsFrame (length fs + 1) g.opened g.lacks (h.rest ++ c) → AreFrames (g ∷ fs) (front ++ c)
innermost_more f g fs front c h some is = record {
  front = h.front;
  rest = h.rest ++ c;
  around = h.around;
  keyless = h.keyless;
  room = h.room;
  waiting = some;
  frame = is;
  whole = ap (λ (x : List ℕ). x ++ c) h.whole ∙ append_assoc h.front h.rest c;
}

pub stays_open : (f : Frame) (fs : List Frame) (front : List ℕ) (t : Tree) (c : List ℕ) → AreFrames (f ∷ fs) front → (place (f ∷ fs)).key ≡ None → SpellsTree t c → IsSound t → depth t + length (f ∷ fs) ≤ 32 → 1 < f.lacks
    → AreFrames (record { opened = with_member f.opened t; lacks = f.lacks - 1; first = f.first } ∷ fs) (front ++ c)
stays_open f fs front t c h none one sound deep lt =
    innermost_more f (record { opened = with_member f.opened t; lacks = f.lacks - 1; first = f.first }) fs front c h (omega arith)
    (frame_put (length fs + 1) f.opened f.lacks t h.rest c h.frame none h.waiting one sound (omega arith))

last_closes : (f : Frame) (fs : List Frame) (front : List ℕ) (t : Tree) (c : List ℕ) → (h : AreFrames (f ∷ fs) front) → (place (f ∷ fs)).key ≡ None → SpellsTree t c → IsSound t → depth t + length (f ∷ fs) ≤ 32 → f.lacks ≤ 1
    → IsWhole (length fs + 1) (tree_so_far (with_member f.opened t)) (h.rest ++ c)
last_closes f fs front t c h none one sound deep le =
    let zero : f.lacks - 1 ≡ 0 = omega arith in
    put_closes (length fs + 1) f.opened t (h.rest ++ c)
    (subst (λ (n : ℕ). IsFrame (length fs + 1) (with_member f.opened t) n (h.rest ++ c)) zero (frame_put (length fs + 1) f.opened f.lacks t h.rest c h.frame none h.waiting one sound (omega arith)))

-- A value behind what is open leaves what the definition says.
pub ends_stand : (fs : List Frame) (front : List ℕ) (t : Tree) (c : List ℕ) → AreFrames fs front → (place fs).key ≡ None → SpellsTree t c → IsSound t → depth t + length fs ≤ 32 → Stands (ends fs t) (front ++ c)
ends_stand [] front t c h none one sound deep = record {
  spells = subst (λ (x : List ℕ). SpellsTree t (x ++ c)) (sym h) one;
  sound = sound;
  deep = omega arith;
}
ends_stand (f ∷ fs) front t c h none one sound deep =
    elim (cases_lt 1 f.lacks) as (λ _. Stands (ends (f ∷ fs) t) (front ++ c)) [
      | inl lt ↦ (let e : nat_lt 1 f.lacks ≡ true = lt-ltb _ _ lt in rw e (stays_open f fs front t c h none one sound deep lt))
      | inr le ↦ (let e : nat_lt 1 f.lacks ≡ false = le-ltb _ _ le in
          let v = last_closes f fs front t c h none one sound deep le in
          let whole : front ++ c ≡ h.front ++ (h.rest ++ c) = ap (λ (x : List ℕ). x ++ c) h.whole ∙ append_assoc h.front h.rest c in
          rw (e, whole) (ends_stand fs h.front (tree_so_far (with_member f.opened t)) (h.rest ++ c) h.around h.keyless v.0 v.1 (omega (arith, v.2))))
    ]

-- ---- what a head opens, and a key

-- a head begins what opens, without members yet
pub list_frame : (heads : ℕ) (size : Size) (n : ℕ) (field b : List ℕ) → heads ≤ 32 → IsSize size n field → Begins (announces.List size) field b → IsFrame heads (in_list no_trees) n b
list_frame heads size n field b le is begins = record {
  size = size;
  field = field;
  body = [];
  sized = sized size n (0 + n) field (omega arith) is;
  spelled = refl;
  sound = tt;
  deep = omega arith;
  begins = subst (λ (x : List ℕ). Begins (announces.List size) x b) (sym (append-nil field)) begins;
}

pub dict_frame : (heads : ℕ) (size : Size) (n : ℕ) (field b : List ℕ) → heads ≤ 32 → IsSize size n field → Begins (announces.Dict size) field b → IsFrame heads (at_key no_entries) n b
dict_frame heads size n field b le is begins = record {
  size = size;
  field = field;
  body = [];
  sized = sized size n (0 + n) field (omega arith) is;
  spelled = refl;
  fresh = tt;
  sound = tt;
  deep = omega arith;
  begins = subst (λ (x : List ℕ). Begins (announces.Dict size) x b) (sym (append-nil field)) begins;
}

pub struct_frame : (heads tag n : ℕ) (b : List ℕ) → heads ≤ 32 → Begins (announces.Struct n) (tag ∷ []) b → IsFrame heads (in_struct tag no_trees) n b
struct_frame heads tag n b le begins = record {
  body = [];
  spelled = refl;
  sound = tt;
  deep = omega arith;
  begins = subst (λ (k : ℕ). Begins (announces.Struct k) (tag ∷ []) b) (sym (zero-add n)) begins;
}

-- a key that its dictionary didn't have
pub key_waits : (es : Entries) (k : List ℕ) (n first : ℕ) (fs : List Frame) (front key : List ℕ) → AreFrames (record { opened = at_key es; lacks = n; first = first } ∷ fs) front
    → SpellsText k key → is_among k (keys_of es) ≡ false → AreFrames (record { opened = at_value es k; lacks = n; first = first } ∷ fs) (front ++ key)
key_waits es k n first fs front key h name new =
    let is = h.frame in
    innermost_more (record { opened = at_key es; lacks = n; first = first }) (record { opened = at_value es k; lacks = n; first = first }) fs front key h h.waiting
    (record {
      size = is.size;
      field = is.field;
      body = is.body;
      key = key;
      sized = is.sized;
      spelled = is.spelled;
      fresh = is.fresh;
      sound = is.sound;
      deep = is.deep;
      spelled_key = name;
      new_key = new;
      begins = begins_more (announces.Dict is.size) (is.field ++ is.body) (is.field ++ (is.body ++ key)) h.rest key is.begins (append_assoc is.field is.body key);
    })
