-- An item as a value, as the head of what opens, and as a key.
use Rattle.std.proofs.Common.{◌≡◌, ◌≤◌, ◌<◌, ◌+◌, ◌-◌, ◌%◌, ◌^◌, ◌&&◌, cond, nat_le, ℕ, Bool, true, false, List, [], ◌∷◌, ◌++◌, length, take, drop, Option, Some, None, is_some, refl, sym, ap, subst, ◌∙◌, arith, inl, inr, IsUtf8}
use Rattle.std.proofs.lemmas.Bool.{leb-false, false_from_ne_true}
use Rattle.std.proofs.lemmas.List.{append-nil}
use Rattle.std.proofs.Math.Seq.{take-length}
use Rattle.std.proofs.lemmas.Option.{slice_get_within}
use Rattle.byteorder.specs.Endian.{big_bytes, twos_complement}
use Rattle.packstream.specs.declared.fault.Reason.TheVariants as reason
use Rattle.packstream.specs.declared.marker.Size.{Size}
use Rattle.packstream.specs.declared.marker.Marker.{Marker}
use Rattle.packstream.specs.declared.marker.Marker.TheVariants as announces
use Rattle.packstream.specs.Prelude.{Tree, null, boolean, int, float, byte_string, text, list, dict, structure, no_trees, Entries, no_entries, depth, IsSound, is_among, width, marker, size_len, SpellsText, SpellsTree, Opened, in_list, in_struct, at_key, at_value, keys_of, key_there, is_text, nests}
use Rattle.packstream.proofs.Shortest.{number_of}
use Rattle.packstream_incremental.specs.declared.open.Open.{Open}
use Rattle.packstream_incremental.specs.declared.open.Inside.TheVariants as inside
use Rattle.packstream_incremental.specs.declared.progress.Part.TheVariants as part
use Rattle.packstream_incremental.specs.Prelude.{field, body, size_with, head_bytes, Name, IsNamed, ArePlaced, IsRoot, text_of, Frame, waits, next_of, place, IsFrame, AreFrames, AreLevels, HasOwnNames, HaveNames, head_fault, Holds, with_item, Goes, IsStanding, IsValue, IsListOf}
use Rattle.packstream_incremental.proofs.Heads.{sized_by}
use Rattle.packstream_incremental.proofs.Opening.{heads_are}
use Rattle.packstream_incremental.proofs.Pushing.{IsWhole, list_closes, dict_closes, struct_closes, list_frame, dict_frame, struct_frame, key_waits}
use Rattle.packstream_incremental.proofs.Treeing.{get_pushed}
use Rattle.packstream_incremental.proofs.Standing.{levels_depth, few_frames, after, goes_on, names_push, key_named, no_names, all_before, root_of}

-- ---- what a head may be

no_key_there : (o : Option (List (List ℕ))) → is_some o ≡ false → o ≡ None
no_key_there None e = refl
no_key_there (Some k) e = absurd cc

not_text : (text key full : Bool) → text ≡ false → cond text None (cond key (Some reason.KeyKind) (cond full (Some reason.Depth) None)) ≡ None → (key ≡ false) × (full ≡ false)
not_text true key full e f = absurd cc
not_text false true full e f = absurd cc
not_text false false true e f = absurd cc
not_text false false false e f = (refl, refl)

-- a head that may stand there, and isn't a text's
free : (h : Holds) (m number : ℕ) (what : Marker) → marker m ≡ Some what → is_text what ≡ false → (g : Goes h (part.Body m number 0))
    → (is_some (place g.frames).key ≡ false) × ((nests what && nat_le 32 (place g.frames).heads) ≡ false)
free h m number what is not g =
    let a = g.isa.admitted in
    let both : ◌≡◌ {A = Option Marker} (Some a.0) (Some what) = sym a.1 ∙ is in
    let same : a.0 ≡ what = cc in
    not_text (is_text what) (is_some (place g.frames).key) (nests what && nat_le 32 (place g.frames).heads) not (subst (λ (x : Marker). head_fault (place g.frames) x ≡ None) same a.2)

-- it stands where no key does
no_key_at : (h : Holds) (m number : ℕ) (what : Marker) → marker m ≡ Some what → is_text what ≡ false → (g : Goes h (part.Body m number 0)) → (place g.frames).key ≡ None
no_key_at h m number what is not g = no_key_there (place g.frames).key (free h m number what is not g).0

-- and what nests stands not too deep
room : (h : Holds) (m number : ℕ) (what : Marker) → marker m ≡ Some what → is_text what ≡ false → nests what ≡ true → (g : Goes h (part.Body m number 0)) → length g.frames < 32
room h m number what is not nest g =
    let heads : ℕ = (place g.frames).heads in
    omega (arith, leb-false 32 heads (ap (λ (b : Bool). b && nat_le 32 heads) (sym nest) ∙ (free h m number what is not g).1), heads_are g.frames)

pub has_room : (h : Holds) (m number : ℕ) (what : Marker) → marker m ≡ Some what → is_text what ≡ false → nests what ≡ true → (g : Goes h (part.Body m number 0)) → h.cursor.«open».depth < 32
has_room h m number what is not nest g = omega (arith, room h m number what is not nest g, levels_depth g.frames h.cursor.«open».depth h.cursor.«open».around g.levels)

head_is : (m number : ℕ) (what : Marker) → marker m ≡ Some what → head_bytes m number ≡ m ∷ big_bytes (field (Some what)) number
head_is m number what is = ap (λ (o : Option Marker). m ∷ big_bytes (field o) number) is

no_tail : (tail : List ℕ) (n : ℕ) → length tail + 0 ≡ n → n ≡ 0 → tail ≡ []
no_tail [] n e f = refl
no_tail (x ∷ tail) n e f = absurd (omega (arith, e, f))

-- a head without a text or a byte string is all that there is
head_alone : (h : Holds) (m number : ℕ) (what : Marker) → marker m ≡ Some what → body (Some what) number ≡ 0 → (g : Goes h (part.Body m number 0)) → m ∷ big_bytes (field (Some what)) number ≡ head_bytes m number ++ g.tail
head_alone h m number what is none g =
    let tail : g.tail ≡ [] = no_tail g.tail (body (marker m) number) g.isa.long (ap (λ (o : Option Marker). body o number) is ∙ none) in
    sym (head_is m number what is) ∙ sym (append-nil (head_bytes m number)) ∙ ap (λ (x : List ℕ). head_bytes m number ++ x) (sym tail)

few_around : (h : Holds) (m number : ℕ) → (g : Goes h (part.Body m number 0)) → 0 + length g.frames ≤ 32
few_around h m number g = omega (arith, few_frames g.frames g.full g.are)

-- ---- values without members

-- the head is all of it
headed : (h : Holds) (m number : ℕ) (what : Marker) (t : Tree) → marker m ≡ Some what → is_text what ≡ false → IsSound t → ((g : Goes h (part.Body m number 0)) → depth t + length g.frames ≤ 32) → body (Some what) number ≡ 0
    → SpellsTree t (m ∷ big_bytes (field (Some what)) number) → IsValue h m number
headed h m number what t is not sound deep none spells = λ g.
    record {
      tree = t;
      sound = sound;
      deep = deep g;
      spells = subst (λ (b : List ℕ). SpellsTree t b) (head_alone h m number what is none g) spells;
      keyless = no_key_at h m number what is not g;
    }

small_by : (m number : ℕ) (what : Marker) → marker m ≡ Some what → number < 256 ^ field (marker m) → number < 256 ^ field (Some what)
small_by m number what is lt = subst (λ (o : Option Marker). number < 256 ^ field o) is lt

byte_value : (h : Holds) (m number : ℕ) (size : Size) → marker m ≡ Some (announces.Bytes size) → IsValue h m number
byte_value h m number size is = λ g.
    (let what : Marker = announces.Bytes size in
    let small : number < 256 ^ size_len size = small_by m number what is g.isa.small in
    let long : size_with size number ≡ length g.tail = ap (λ (o : Option Marker). body o number) (sym is) ∙ omega (arith, g.isa.long) in
    let all : m ∷ (big_bytes (size_len size) number ++ g.tail) ≡ head_bytes m number ++ g.tail = ap (λ (b : List ℕ). b ++ g.tail) (sym (head_is m number what is)) in
    record {
      tree = byte_string g.tail;
      sound = tt;
      deep = few_around h m number g;
      spells = subst (λ (b : List ℕ). SpellsTree (byte_string g.tail) b) all (size, big_bytes (size_len size) number, sized_by size number (length g.tail) small long, (m, is, refl));
      keyless = no_key_at h m number what is refl g;
    })

text_spelled : (m number : ℕ) (size : Size) (s : List ℕ) → marker m ≡ Some (announces.Text size) → number < 256 ^ field (marker m) → length s + 0 ≡ body (marker m) number → IsUtf8 s → SpellsText s (head_bytes m number ++ s)
text_spelled m number size s is lt len utf8 =
    let what : Marker = announces.Text size in
    let small : number < 256 ^ size_len size = small_by m number what is lt in
    let long : size_with size number ≡ length s = ap (λ (o : Option Marker). body o number) (sym is) ∙ omega (arith, len) in
    let all : m ∷ (big_bytes (size_len size) number ++ s) ≡ head_bytes m number ++ s = ap (λ (b : List ℕ). b ++ s) (sym (head_is m number what is)) in
    subst (λ (b : List ℕ). SpellsText s b) all
    (record { size = size; field = big_bytes (size_len size) number; sized = sized_by size number (length s) small long; utf8 = utf8; begins = (m, is, refl) })

pub text_value : (h : Holds) (m number : ℕ) (size : Size) → marker m ≡ Some (announces.Text size) → ((g : Goes h (part.Body m number 0)) → IsUtf8 g.tail) → ((g : Goes h (part.Body m number 0)) → is_some (place g.frames).key ≡ false) → IsValue h m number
text_value h m number size is utf8 free = λ g.
    record {
      tree = text g.tail;
      sound = tt;
      deep = few_around h m number g;
      spells = text_spelled m number size g.tail is g.isa.small g.isa.long (utf8 g);
      keyless = no_key_there (place g.frames).key (free g);
    }

pub plain_value : (h : Holds) (m number : ℕ) (what : Marker) → marker m ≡ Some what → ((size : Size) → what ≡ announces.Text size → ⊥) → ((size : Size) → what ≡ announces.List size → ⊥)
    → ((size : Size) → what ≡ announces.Dict size → ⊥) → ((n : ℕ) → what ≡ announces.Struct n → ⊥) → number < 256 ^ field (marker m) → IsValue h m number
plain_value h m number announces.Null is nt nl nd ns lt = headed h m number announces.Null null is refl tt (few_around h m number) refl (m, is, refl)
plain_value h m number (announces.Bool b) is nt nl nd ns lt = headed h m number (announces.Bool b) (boolean b) is refl tt (few_around h m number) refl (m, is, refl)
plain_value h m number (announces.Tiny z) is nt nl nd ns lt = headed h m number (announces.Tiny z) (int z) is refl tt (few_around h m number) refl (inl (m, is, refl))
plain_value h m number (announces.Int w) is nt nl nd ns lt =
    headed h m number (announces.Int w) (int (twos_complement (width w) number)) is refl tt (few_around h m number) refl
    (inr (record { wide = w; number = number; field = big_bytes (width w) number; stands = number_of (width w) number (small_by m number (announces.Int w) is lt); value = refl; begins = (m, is, refl) }))
plain_value h m number announces.Float is nt nl nd ns lt =
    headed h m number announces.Float (float number) is refl tt (few_around h m number) refl (big_bytes 8 number, number_of 8 number (small_by m number announces.Float is lt), (m, is, refl))
plain_value h m number (announces.Bytes size) is nt nl nd ns lt = byte_value h m number size is
plain_value h m number (announces.Text size) is nt nl nd ns lt = absurd (nt size refl)
plain_value h m number (announces.List size) is nt nl nd ns lt = absurd (nl size refl)
plain_value h m number (announces.Dict size) is nt nl nd ns lt = absurd (nd size refl)
plain_value h m number (announces.Struct n) is nt nl nd ns lt = absurd (ns n refl)

-- ---- what nests

pub list_has_room : (h : Holds) (m number count : ℕ) (what : Marker) → marker m ≡ Some what → IsListOf what number count → (g : Goes h (part.Body m number 0)) → h.cursor.«open».depth < 32
list_has_room h m number count (announces.List size) is l g = has_room h m number (announces.List size) is refl refl g
list_has_room h m number count (announces.Struct n) is l g = has_room h m number (announces.Struct n) is refl refl g
list_has_room h m number count what is l g = absurd l

-- a head, and nothing to come
nested : (h : Holds) (m number : ℕ) (what : Marker) (t : Tree) → marker m ≡ Some what → is_text what ≡ false → nests what ≡ true → depth t ≡ 1 → body (Some what) number ≡ 0
    → IsWhole 1 t (m ∷ big_bytes (field (Some what)) number) → IsValue h m number
nested h m number what t is not nest flat none value = headed h m number what t is not value.1 (λ g. omega (arith, flat, room h m number what is not nest g)) none value.0

pub list_value : (h : Holds) (m number count : ℕ) (what : Marker) → marker m ≡ Some what → IsListOf what number count → count ≡ 0 → number < 256 ^ field (marker m) → IsValue h m number
list_value h m number count (announces.List size) is l e lt =
    let field_is = sized_by size number 0 (small_by m number (announces.List size) is lt) (l ∙ e) in
    let b : List ℕ = m ∷ big_bytes (size_len size) number in
    nested h m number (announces.List size) (list no_trees) is refl refl refl refl (list_closes 1 no_trees b (list_frame 1 size 0 (big_bytes (size_len size) number) b (omega arith) field_is (m, is, refl)))
list_value h m number count (announces.Struct n) is l e lt =
    let none : marker m ≡ Some (announces.Struct 0) = is ∙ ap (λ (k : ℕ). Some (announces.Struct k)) (l ∙ e) in
    let b : List ℕ = m ∷ big_bytes 1 number in
    nested h m number (announces.Struct 0) (structure (number % 256) no_trees) none refl refl refl refl (struct_closes 1 (number % 256) no_trees b (struct_frame 1 (number % 256) 0 b (omega arith) (m, none, refl)))
list_value h m number count what is l e lt = absurd l

pub dict_value : (h : Holds) (m number : ℕ) (size : Size) → marker m ≡ Some (announces.Dict size) → size_with size number ≡ 0 → number < 256 ^ field (marker m) → IsValue h m number
dict_value h m number size is e lt =
    let field_is = sized_by size number 0 (small_by m number (announces.Dict size) is lt) e in
    let b : List ℕ = m ∷ big_bytes (size_len size) number in
    nested h m number (announces.Dict size) (dict no_entries) is refl refl refl refl (dict_closes 1 no_entries b (dict_frame 1 size 0 (big_bytes (size_len size) number) b (omega arith) field_is (m, is, refl)))

-- a head, and something to come
opens : (h : Holds) (m number : ℕ) (what : Marker) (o : Open) (f : Opened) (n first : ℕ) → marker m ≡ Some what → is_text what ≡ false → nests what ≡ true → body (Some what) number ≡ 0 → (n ≡ 0 → ⊥) → (g : Goes h (part.Body m number 0))
    → ((heads : ℕ) → heads ≤ 32 → IsFrame heads f n (m ∷ big_bytes (field (Some what)) number)) → AreLevels (waits f n first ∷ g.frames) o.depth o.around → o.is_whole ≡ h.cursor.«open».is_whole → HasOwnNames (waits f n first) g.frames h.names h.store
    → IsStanding (after o (with_item h))
opens h m number what o f n first is not nest none some g frame levels whole names =
    let deep = room h m number what is not nest g in
    let are : AreFrames (waits f n first ∷ g.frames) (g.full ++ (m ∷ big_bytes (field (Some what)) number)) = record {
      front = g.full;
      rest = m ∷ big_bytes (field (Some what)) number;
      around = g.are;
      keyless = no_key_at h m number what is not g;
      room = deep;
      waiting = omega (arith, some);
      frame = frame (length g.frames + 1) (omega (arith, deep));
      whole = refl;
    } in
    let all = ap (λ (x : List ℕ). g.full ++ x) (head_alone h m number what is none g) ∙ sym g.store in
    goes_on h o (waits f n first ∷ g.frames) (whole ∙ g.unread) (subst (λ (b : List ℕ). AreFrames (waits f n first ∷ g.frames) b) all are) levels (names, g.named) g.placed

pub list_stands : (h : Holds) (m number count : ℕ) (what : Marker) (o : Open) → marker m ≡ Some what → IsListOf what number count → (count ≡ 0 → ⊥) → (g : Goes h (part.Body m number 0))
    → ((fs : List Frame) (f : Opened) → AreLevels fs h.cursor.«open».depth h.cursor.«open».around → next_of f ≡ inside.Member → AreLevels (waits f count 0 ∷ fs) o.depth o.around) → o.is_whole ≡ h.cursor.«open».is_whole
    → IsStanding (after o (with_item h))
list_stands h m number count (announces.List size) o is l some g levels whole =
    let field_is = sized_by size number count (small_by m number (announces.List size) is g.isa.small) l in
    opens h m number (announces.List size) o (in_list no_trees) count 0 is refl refl refl some g
    (λ heads le. list_frame heads size count (big_bytes (size_len size) number) (m ∷ big_bytes (size_len size) number) le field_is (m, is, refl)) (levels g.frames (in_list no_trees) g.levels refl) whole (tt, tt)
list_stands h m number count (announces.Struct n) o is l some g levels whole =
    let counted : marker m ≡ Some (announces.Struct count) = is ∙ ap (λ (k : ℕ). Some (announces.Struct k)) l in
    opens h m number (announces.Struct n) o (in_struct (number % 256) no_trees) count 0 is refl refl refl some g
    (λ heads le. struct_frame heads (number % 256) count (m ∷ big_bytes 1 number) le (m, counted, refl)) (levels g.frames (in_struct (number % 256) no_trees) g.levels refl) whole (tt, tt)
list_stands h m number count what o is l some g levels whole = absurd l

pub dict_stands : (h : Holds) (m number count : ℕ) (size : Size) (o : Open) → marker m ≡ Some (announces.Dict size) → size_with size number ≡ count → (count ≡ 0 → ⊥) → (g : Goes h (part.Body m number 0))
    → ((fs : List Frame) (f : Opened) → AreLevels fs h.cursor.«open».depth h.cursor.«open».around → next_of f ≡ inside.Key → AreLevels (waits f count (length h.names) ∷ fs) o.depth o.around) → o.is_whole ≡ h.cursor.«open».is_whole
    → IsStanding (after o (with_item h))
dict_stands h m number count size o is l some g levels whole =
    let field_is = sized_by size number count (small_by m number (announces.Dict size) is g.isa.small) l in
    let before = all_before g.frames g.full h.names h.store g.are (no_key_at h m number (announces.Dict size) is refl g) g.placed g.named in
    opens h m number (announces.Dict size) o (at_key no_entries) count (length h.names) is refl refl refl some g
    (λ heads le. dict_frame heads size count (big_bytes (size_len size) number) (m ∷ big_bytes (size_len size) number) le field_is (m, is, refl)) (levels g.frames (at_key no_entries) g.levels refl) whole
    ((no_names h.names h.store g.placed, λ e. refl), before)

-- ---- keys

-- what is open where a key stands
pub record IsKeyFrame (fs : List Frame) : Type 0 where
  pub es : Entries
  pub lacks : ℕ
  pub first : ℕ
  pub around : List Frame
  pub is : fs ≡ waits (at_key es) lacks first ∷ around

frame_by : (f : Frame) (fs : List Frame) (o : Opened) → f.opened ≡ o → is_some (key_there o) ≡ true → IsKeyFrame (f ∷ fs)
frame_by f fs (at_key es) is e = record { es = es; lacks = f.lacks; first = f.first; around = fs; is = ap (λ (o : Opened). record { opened = o; lacks = f.lacks; first = f.first } ∷ fs) is }
frame_by f fs o is e = absurd cc

pub key_frame : (fs : List Frame) → is_some (place fs).key ≡ true → IsKeyFrame fs
key_frame [] e = absurd cc
key_frame (f ∷ fs) e = frame_by f fs f.opened refl e

-- a name that is placed
pub placed_push : (names : List Name) (n : Name) (len : ℕ) → ArePlaced names len → n.first ≤ length names → n.start + n.len ≤ len → ArePlaced (names ++ n ∷ []) len
placed_push names n len placed le within = λ i x e.
    elim (get_pushed names n i x e) as (λ _. (x.first ≤ i) × (x.start + x.len ≤ len)) [
      | inl h ↦ placed i x h
      | inr h ↦ (omega (arith, h.0, ap (λ (y : Name). y.first) h.1), omega (arith, ap (λ (y : Name). y.start) h.1, ap (λ (y : Name). y.len) h.1))
    ]

pub root_low : (names : List Name) (first len : ℕ) → ArePlaced names len → IsRoot names first → first ≤ length names
root_low names first len placed (inl e) = omega arith
root_low names first len placed (inr h) = omega (arith, (placed h.index h.found h.there).0, slice_get_within names h.index h.found h.there, h.begins)

-- with one name more
abbrev pub named_with : Name → Holds → Holds
named_with n h = record h { names = h.names ++ n ∷ [] }

-- where its keys begin, the next key of the innermost dictionary may be looked for
pub key_root : (h : Holds) (m number : ℕ) → (g : Goes h (part.Body m number 0)) → (k : IsKeyFrame g.frames) → IsRoot h.names k.first
key_root h m number g k =
    let named = subst (λ (fs : List Frame). HaveNames fs h.names h.store) k.is g.named in
    root_of h.names h.store k.first (keys_of k.es) named.0.0.0 named.0.0.1

-- as the code has it
pub named_is : (h : Holds) (b : List ℕ) (ns : List Name) (start len first found : ℕ) → b ≡ h.store → ns ≡ h.names ++ (record { start = start; len = len; first = found }) ∷ [] → found ≡ first
    → record h { store = b; names = ns } ≡ named_with (record { start = start; len = len; first = first }) h
named_is h b ns start len first found e f g = rw (e, f, g) refl

pub key_stands : (h : Holds) (m number start : ℕ) (size : Size) (o : Open) → marker m ≡ Some (announces.Text size) → (g : Goes h (part.Body m number 0)) → (k : IsKeyFrame g.frames)
    → start + length g.tail ≡ length h.store → drop start h.store ≡ g.tail → IsUtf8 g.tail → (IsNamed h.names h.store k.first (drop start h.store) → ⊥)
    → ((fs : List Frame) (es : Entries) (s : List ℕ) (n first : ℕ) → AreLevels (waits (at_key es) n first ∷ fs) h.cursor.«open».depth h.cursor.«open».around → AreLevels (waits (at_value es s) n first ∷ fs) o.depth o.around) → o.is_whole ≡ h.cursor.«open».is_whole
    → IsStanding (after o (with_item (named_with (record { start = start; len = length h.store - start; first = k.first }) h)))
key_stands h m number start size o is g k from there utf8 other levels same =
    let n : Name = record { start = start; len = length h.store - start; first = k.first } in
    let here = subst (λ (fs : List Frame). AreFrames fs g.full) k.is g.are in
    let around = subst (λ (fs : List Frame). AreLevels fs h.cursor.«open».depth h.cursor.«open».around) k.is g.levels in
    let named = subst (λ (fs : List Frame). HaveNames fs h.names h.store) k.is g.named in
    let unnamed = subst (λ (s : List ℕ). IsNamed h.names h.store k.first s → ⊥) there other in
    let fresh : is_among g.tail (keys_of k.es) ≡ false = false_from_ne_true (is_among g.tail (keys_of k.es)) (λ e. unnamed ((named.0.0.0 g.tail).0 e)) in
    let are = key_waits k.es g.tail k.lacks k.first k.around g.full (head_bytes m number ++ g.tail) here (text_spelled m number size g.tail is g.isa.small g.isa.long utf8) fresh in
    let len : n.len ≡ length g.tail = omega arith in
    let has : text_of h.store n ≡ g.tail = ap (λ (x : ℕ). take x (drop start h.store)) len ∙ ap (λ (x : List ℕ). take (length g.tail) x) there ∙ take-length g.tail in
    let low = root_low h.names k.first (length h.store) g.placed (key_root h m number g k) in
    goes_on (named_with n h) o (waits (at_value k.es g.tail) k.lacks k.first ∷ k.around)
    (same ∙ g.unread)
    (subst (λ (b : List ℕ). AreFrames (waits (at_value k.es g.tail) k.lacks k.first ∷ k.around) b) (sym g.store) are)
    (levels k.around k.es g.tail k.lacks k.first around)
    ((key_named h.names n h.store (keys_of k.es) g.tail named.0.0.0 has, named.0.1), names_push k.around here.front h.names n h.store here.around here.keyless named.0.1 named.1)
    (placed_push h.names n (length h.store) g.placed low (omega arith))
