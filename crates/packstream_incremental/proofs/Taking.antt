-- What a piece does to a part, and integers of one byte each that are members of what is open.
use Rattle.std.proofs.Common.{◌≡◌, ◌≤◌, ◌<◌, ◌+◌, ◌-◌, ◌^◌, ℕ, true, false, List, [], ◌∷◌, ◌++◌, length, take, drop, Option, Some, None, is_some, nat_le, refl, sym, ap, subst, ◌∙◌, append_assoc, arith, inl, inr, IsUtf8}
use Rattle.std.proofs.lemmas.List.{append-nil, length-append, drop_at}
use Rattle.byteorder.specs.Endian.{big_bytes}
use Rattle.packstream.specs.declared.fault.Reason.{Reason}
use Rattle.packstream.specs.declared.fault.Reason.TheVariants as reason
use Rattle.packstream.specs.declared.marker.Size.{Size}
use Rattle.packstream.specs.declared.marker.Marker.{Marker}
use Rattle.packstream.specs.declared.marker.Marker.TheVariants as announces
use Rattle.packstream.specs.Prelude.{AreBytes, marker, size_len, is_among, fault_at, is_text, nests, keys_of, Bad, Opened, in_list, in_struct, key_there, int}
use Rattle.std.specs.Str.{is_utf8}
use Rattle.std.proofs.lemmas.Str.{is_utf8-from_IsUtf8}
use Rattle.std.proofs.lemmas.Bool.{le-leb, lt-leb}
use Rattle.packstream.proofs.Bounds.{good_spelled}
use Rattle.packstream.proofs.Ranges.{front_bytes}
use Rattle.packstream_incremental.specs.declared.progress.Part.{Part}
use Rattle.packstream_incremental.specs.declared.progress.Part.TheVariants as part
use Rattle.packstream_incremental.specs.Prelude.{field, body, size_with, number_from, head_bytes, part_head, IsTiny, AreTiny, Name, IsNamed, Frame, place, AreLevels, HaveNames, head_fault, waits, next_of, AreFrames, HasOwnNames, with_member, Passes, Holds, IsAdmitted, IsPart, IsLacking, Goes, IsDone, IsStanding, HasTaken, with_item}
use Rattle.packstream_incremental.specs.declared.open.Level.{Level}
use Rattle.packstream_incremental.proofs.Heads.{joined_bytes, joined_fits}
use Rattle.packstream_incremental.proofs.Opening.{bad_behind, heads_are, not_text, twice}
use Rattle.packstream_incremental.proofs.Hanging.{text_from}
use Rattle.packstream_incremental.proofs.Values.{IsKeyFrame}
use Rattle.packstream_incremental.proofs.Standing.{levels_depth, names_more, placed_more, few_frames, after, goes_on}
use Rattle.packstream_incremental.specs.declared.open.Open.{Open}
use Rattle.packstream_incremental.specs.declared.open.Inside.TheVariants as inside
use Rattle.packstream_incremental.proofs.Pushing.{stays_open}

-- with other parts, or more bytes in the store
abbrev pub parted : Part → Holds → Holds
parted p h = record h { cursor = record h.cursor { part = p } }

abbrev pub stored : List ℕ → Holds → Holds
stored s h = record h { store = h.store ++ s }

-- as the code has it
pub stored_is : (h : Holds) (b s : List ℕ) (ns : List Name) → b ≡ h.store ++ s → ns ≡ h.names → record h { store = b; names = ns } ≡ stored s h
stored_is h b s ns e f = rw (e, f) refl

-- ---- bytes behind a part

grown_head : (b full head s : List ℕ) → b ≡ full ++ (head ++ []) → b ++ s ≡ full ++ ((head ++ s) ++ [])
grown_head b full head s e = rw (e, append-nil head, append-nil (head ++ s)) (append_assoc full head s)

grown_tail : (b full head tail s : List ℕ) → b ≡ full ++ (head ++ tail) → b ++ s ≡ full ++ (head ++ (tail ++ s))
grown_tail b full head tail s e = ap (λ (x : List ℕ). x ++ s) e ∙ append_assoc full (head ++ tail) s ∙ ap (λ (x : List ℕ). full ++ x) (append_assoc head tail s)

-- where the part has more bytes
behind : (h : Holds) (p q : Part) (s tail : List ℕ) → (g : Goes h p) → h.store ++ s ≡ g.full ++ (part_head q ++ tail) → IsPart (place g.frames) q tail → Goes (stored s h) q
behind h p q s tail g store isa = record {
  frames = g.frames;
  full = g.full;
  tail = tail;
  unread = g.unread;
  store = store;
  are = g.are;
  read = g.read;
  levels = g.levels;
  named = names_more g.frames h.names h.store s g.placed g.named;
  placed = placed_more h.names h.store s g.placed;
  isa = isa;
}

-- ---- faults

pub fault_behind : (h : Holds) (p : Part) (rest : List ℕ) (r : Reason) → (g : Goes h p) → fault_at (place g.frames) ((part_head p ++ g.tail) ++ rest) ≡ Some r → (r ≡ reason.Short → ⊥) → Bad (h.store ++ rest) h.cursor.read r × (r ≡ reason.Short → ⊥)
fault_behind h p rest r g fault other =
    let all : h.store ++ rest ≡ g.full ++ ((part_head p ++ g.tail) ++ rest) = ap (λ (b : List ℕ). b ++ rest) g.store ∙ append_assoc g.full (part_head p ++ g.tail) rest in (
      subst (λ (n : ℕ). Bad (h.store ++ rest) n r) (sym g.read) (subst (λ (b : List ℕ). Bad b (length g.full) r) (sym all) (bad_behind g.frames g.full ((part_head p ++ g.tail) ++ rest) r g.are fault)),
      other,
    )

-- ---- a head

head_grown : (h : Holds) (m number has : ℕ) (bytes : List ℕ) → AreBytes bytes → (g : Goes h (part.Head m number has)) → h.store ++ bytes ≡ g.full ++ ((m ∷ big_bytes (has + length bytes) (number_from number bytes)) ++ [])
head_grown h m number has bytes are g =
    grown_head h.store g.full (m ∷ big_bytes has number) bytes (g.store ∙ ap (λ (t : List ℕ). g.full ++ ((m ∷ big_bytes has number) ++ t)) g.isa.bare)
    ∙ ap (λ (x : List ℕ). g.full ++ ((m ∷ x) ++ [])) (sym (joined_bytes has number bytes are))

-- more bytes of the number
pub head_longer : (h : Holds) (m number has : ℕ) (bytes : List ℕ) → AreBytes bytes → (g : Goes h (part.Head m number has)) → has + length bytes ≤ field (marker m) → Goes (stored bytes h) (part.Head m (number_from number bytes) (has + length bytes))
head_longer h m number has bytes are g le =
    behind h (part.Head m number has) (part.Head m (number_from number bytes) (has + length bytes)) bytes [] g (head_grown h m number has bytes are g)
    (record { bare = refl; admitted = g.isa.admitted; few = le; small = joined_fits has number bytes are g.isa.small })

-- all bytes of the number
pub head_whole : (h : Holds) (m number has : ℕ) (bytes : List ℕ) → AreBytes bytes → (g : Goes h (part.Head m number has)) → has + length bytes ≡ field (marker m)
    → Goes (stored bytes h) (part.Body m (number_from number bytes) (body (marker m) (number_from number bytes)))
head_whole h m number has bytes are g e =
    behind h (part.Head m number has) (part.Body m (number_from number bytes) (body (marker m) (number_from number bytes))) bytes [] g
    (head_grown h m number has bytes are g ∙ ap (λ (k : ℕ). g.full ++ ((m ∷ big_bytes k (number_from number bytes)) ++ [])) e)
    (record { admitted = g.isa.admitted; small = subst (λ (k : ℕ). number_from number bytes < 256 ^ k) e (joined_fits has number bytes are g.isa.small); long = omega arith })

-- a marker that may stand there
pub head_starts : (h : Holds) (m : ℕ) → (g : Goes h part.Nothing) → IsAdmitted (place g.frames) m → Goes (stored (m ∷ []) h) (part.Head m 0 0)
head_starts h m g a =
    behind h part.Nothing (part.Head m 0 0) (m ∷ []) [] g
    (grown_head h.store g.full [] (m ∷ []) (g.store ∙ ap (λ (t : List ℕ). g.full ++ ([] ++ t)) g.isa))
    (record { bare = refl; admitted = a; few = omega arith; small = omega arith })

-- ---- a text or a byte string

pub body_longer : (h : Holds) (m number lacks left : ℕ) (s : List ℕ) → (g : Goes h (part.Body m number lacks)) → left + length s ≡ lacks → Goes (stored s h) (part.Body m number left)
body_longer h m number lacks left s g e =
    behind h (part.Body m number lacks) (part.Body m number left) s (g.tail ++ s) g (grown_tail h.store g.full (head_bytes m number) g.tail s g.store)
    (record { admitted = g.isa.admitted; small = g.isa.small; long = omega (arith, g.isa.long, length-append g.tail s) })

-- where the text begins
pub tail_at : (h : Holds) (m number start : ℕ) (size : Size) → marker m ≡ Some (announces.Text size) → (g : Goes h (part.Body m number 0)) → start + size_with size number ≡ length h.store → drop start h.store ≡ g.tail
tail_at h m number start size is g e =
    let n : body (marker m) number ≡ size_with size number = ap (λ (o : Option Marker). body o number) is in
    let front : List ℕ = g.full ++ head_bytes m number in
    let all : h.store ≡ front ++ g.tail = g.store ∙ sym (append_assoc g.full (head_bytes m number) g.tail) in
    let at : length front ≡ start = omega (arith, e, n, g.isa.long, ap length all, length-append front g.tail) in
    ap (λ (s : List ℕ). drop start s) all ∙ drop_at front g.tail start at

-- ---- a piece that ends in a part

goes_parted : (h : Holds) (p q : Part) → Goes h p → Goes (parted q h) p
goes_parted h p q g = record { frames = g.frames; full = g.full; tail = g.tail; unread = g.unread; store = g.store; are = g.are; read = g.read; levels = g.levels; named = g.named; placed = g.placed; isa = g.isa }

pub part_taken : (h : Holds) (p : Part) → Goes h p → IsLacking p → h.cursor.bad ≡ None → HasTaken h.store (parted p h) []
part_taken h p g lacks good = record { stands = inr (goes_parted h p p g, lacks); bytes = append-nil h.store; ends = inr refl; bad = good }

-- a text or a byte string that goes on behind the bytes
pub body_taken : (h : Holds) (m number lacks left : ℕ) (b s : List ℕ) (ns : List Name) → b ≡ h.store ++ s → ns ≡ h.names → Goes h (part.Body m number lacks) → left + length s ≡ lacks → 0 < left → h.cursor.bad ≡ None
    → HasTaken (h.store ++ s) (parted (part.Body m number left) (record h { store = b; names = ns })) []
body_taken h m number lacks left b s ns e f g all some good =
    subst (λ (x : Holds). HasTaken (h.store ++ s) (parted (part.Body m number left) x) []) (sym (stored_is h b s ns e f))
    (part_taken (stored s h) (part.Body m number left) (body_longer h m number lacks left s g all) some good)

-- ---- what follows the value

pub trails : (h : Holds) (x : ℕ) (rest : List ℕ) → (d : IsDone h) → AreBytes h.store → Bad (h.store ++ x ∷ rest) h.cursor.read reason.Trailing × (reason.Trailing ≡ reason.Short → ⊥)
trails h x rest d bytes =
    let good = good_spelled d.tree h.store bytes d.deep d.sound d.spells in (
      inr (refl, record { tree = d.tree; front = h.store; more = x ∷ rest; good = good.0; spelled = good.1; whole = refl; some = omega arith; place = d.read }),
      λ (e : reason.Trailing ≡ reason.Short). cc,
    )

-- ---- a text that isn't one, and a key that stands twice

pub text_bad : (h : Holds) (m number : ℕ) (size : Size) (rest : List ℕ) → marker m ≡ Some (announces.Text size) → (g : Goes h (part.Body m number 0)) → is_utf8 g.tail ≡ false
    → Bad (h.store ++ rest) h.cursor.read reason.Utf8 × (reason.Utf8 ≡ reason.Short → ⊥)
text_bad h m number size rest is g bad =
    let n : length g.tail ≡ size_with size number = omega (arith, g.isa.long) ∙ ap (λ (o : Option Marker). body o number) is in
    let small : number < 256 ^ size_len size = subst (λ (o : Option Marker). number < 256 ^ field o) is g.isa.small in
    fault_behind h (part.Body m number 0) rest reason.Utf8 g
    (ap (fault_at (place g.frames)) (append_assoc (head_bytes m number) g.tail rest) ∙ not_text (place g.frames) m number size g.tail rest is small n bad)
    (λ (e : reason.Utf8 ≡ reason.Short). cc)

pub key_twice : (h : Holds) (m number start : ℕ) (size : Size) (rest : List ℕ) → marker m ≡ Some (announces.Text size) → (g : Goes h (part.Body m number 0)) → (k : IsKeyFrame g.frames) → drop start h.store ≡ g.tail
    → IsUtf8 g.tail → IsNamed h.names h.store k.first (drop start h.store)
    → Bad (h.store ++ rest) h.cursor.read reason.KeyTwice × (reason.KeyTwice ≡ reason.Short → ⊥)
key_twice h m number start size rest is g k there utf8 named =
    let n : length g.tail ≡ size_with size number = omega (arith, g.isa.long) ∙ ap (λ (o : Option Marker). body o number) is in
    let small : number < 256 ^ size_len size = subst (λ (o : Option Marker). number < 256 ^ field o) is g.isa.small in
    let names = subst (λ (fs : List Frame). HaveNames fs h.names h.store) k.is g.named in
    let among : is_among g.tail (keys_of k.es) ≡ true = (names.0.0.0 g.tail).1 (subst (λ (s : List ℕ). IsNamed h.names h.store k.first s) there named) in
    let key : (place g.frames).key ≡ Some (keys_of k.es) = ap (λ (fs : List Frame). (place fs).key) k.is in
    fault_behind h (part.Body m number 0) rest reason.KeyTwice g
    (ap (fault_at (place g.frames)) (append_assoc (head_bytes m number) g.tail rest) ∙ twice (place g.frames) m number size g.tail rest (keys_of k.es) is small n (is_utf8-from_IsUtf8 g.tail utf8) key among)
    (λ (e : reason.KeyTwice ≡ reason.Short). cc)

-- what an admitted head isn't
pub refuses_deep : (fs : List Frame) (m : Marker) (n : ℕ) (around : List Level) → AreLevels fs n around → is_text m ≡ false → is_some (place fs).key ≡ false → nests m ≡ true → n ≡ 32 → head_fault (place fs) m ≡ Some reason.Depth
refuses_deep fs m n around levels t k e d =
    let heads : nat_le 32 (place fs).heads ≡ true = le-leb 32 (place fs).heads (omega (arith, heads_are fs, levels_depth fs n around levels)) in
    rw (t, k, e, heads) refl

pub refuses_none : (fs : List Frame) (m : Marker) (n : ℕ) (around : List Level) → AreLevels fs n around → is_text m ≡ false → is_some (place fs).key ≡ false → nests m ≡ true → n ≤ 32 → (n ≡ 32 → ⊥) → head_fault (place fs) m ≡ None
refuses_none fs m n around levels t k e le d =
    let heads : nat_le 32 (place fs).heads ≡ false = lt-leb 32 (place fs).heads (omega (arith, heads_are fs, levels_depth fs n around levels, d)) in
    rw (t, k, e, heads) refl

pub no_text : (m : Marker) → ((size : Size) → m ≡ announces.Text size → ⊥) → is_text m ≡ false
no_text (announces.Text size) h = absurd (h size refl)
no_text m h = refl

-- ---- where it stands

pub goes_of : (h : Holds) → IsStanding h → h.cursor.part ≡ part.Nothing → h.cursor.«open».is_whole ≡ false → Goes h part.Nothing
goes_of h (inl d) none unread = absurd (let k : true ≡ false = sym d.whole ∙ unread in cc)
goes_of h (inr u) none unread = subst (λ (p : Part). Goes h p) none u.0

pub done_of : (h : Holds) → IsStanding h → h.cursor.«open».is_whole ≡ true → IsDone h
done_of h (inl d) ended = d
done_of h (inr u) ended = absurd (let k : true ≡ false = sym ended ∙ (u.0).unread in cc)

pub part_of : (h : Holds) (p : Part) → IsStanding h → h.cursor.part ≡ p → (p ≡ part.Nothing → ⊥) → Goes h p
part_of h p (inl d) e other = absurd (other (sym e ∙ d.none))
part_of h p (inr u) e other = subst (λ (q : Part). Goes h q) e u.0

pub head_bad : (h : Holds) (m : ℕ) (rest : List ℕ) (r : Reason) → (g : Goes h part.Nothing) → (fault_at (place g.frames) (m ∷ rest) ≡ Some r) × (r ≡ reason.Short → ⊥) → Bad (h.store ++ m ∷ rest) h.cursor.read r × (r ≡ reason.Short → ⊥)
head_bad h m rest r g f = fault_behind h part.Nothing (m ∷ rest) r g (ap (λ (t : List ℕ). fault_at (place g.frames) (t ++ m ∷ rest)) g.isa ∙ f.0) f.1

-- ---- a whole piece

pub has_bytes : (b : List ℕ) (new : Holds) (rest : List ℕ) → HasTaken b new rest → AreBytes b → AreBytes new.store
has_bytes b new rest t are = front_bytes new.store rest (subst AreBytes (sym t.bytes) are)

-- the text of an item that is all there, as the code reads it
pub text_told : (h : Holds) (m number all len : ℕ) (size : Size) (found : List ℕ) → marker m ≡ Some (announces.Text size) → (g : Goes h (part.Body m number 0)) → all ≡ length h.store → len ≡ size_with size number → found ≡ h.store
    → take (length found - (all - len)) (drop (all - len) found) ≡ g.tail
text_told h m number all len size found is g a l e =
    let n : body (marker m) number ≡ size_with size number = ap (λ (o : Option Marker). body o number) is in
    let starts : (all - len) + size_with size number ≡ length h.store = omega (arith, n, g.isa.long, ap length g.store, length-append g.full (head_bytes m number ++ g.tail), length-append (head_bytes m number) g.tail) in
    text_from found h.store (all - len) e ∙ tail_at h m number (all - len) size is g starts

-- ---- integers of one byte each, in a row

member_next : (f : Opened) (b : ℕ) → (t : IsTiny b) → next_of f ≡ inside.Member → next_of (with_member f (int t.0)) ≡ inside.Member
member_next (in_list ts) b t e = refl
member_next (in_struct tag ts) b t e = refl
member_next f b t e = absurd cc

no_key : (f : Opened) → next_of f ≡ inside.Member → key_there f ≡ None
no_key (in_list ts) e = refl
no_key (in_struct tag ts) e = refl
no_key f e = absurd cc

no_names : (f : Opened) (n first : ℕ) (fs : List Frame) (names : List Name) (store : List ℕ) → next_of f ≡ inside.Member → HasOwnNames (waits f n first) fs names store
no_names (in_list ts) n first fs names store e = (tt, tt)
no_names (in_struct tag ts) n first fs names store e = (tt, tt)
no_names f n first fs names store e = absurd cc

-- with these members more
abbrev with_tiny : Opened → (bs : List ℕ) → AreTiny bs → Opened
with_tiny f [] t = f
with_tiny f (b ∷ bs) t = with_tiny (with_member f (int t.0.0)) bs t.1

tiny_next : (f : Opened) (bs : List ℕ) → (t : AreTiny bs) → next_of f ≡ inside.Member → next_of (with_tiny f bs t) ≡ inside.Member
tiny_next f [] t e = e
tiny_next f (b ∷ bs) t e = tiny_next (with_member f (int t.0.0)) bs t.1 (member_next f b t.0 e)

frames_on : (f : Opened) (n first : ℕ) (fs : List Frame) (front bs : List ℕ) → (t : AreTiny bs) → next_of f ≡ inside.Member → length bs < n → AreFrames (waits f n first ∷ fs) front
    → AreFrames (waits (with_tiny f bs t) (n - length bs) first ∷ fs) (front ++ bs)
frames_on f n first fs front [] t e lt h =
    let left : n ≡ n - length {A = ℕ} [] = omega arith in
    subst (λ (k : ℕ). AreFrames (waits f k first ∷ fs) (front ++ [])) left (subst (λ (b : List ℕ). AreFrames (waits f n first ∷ fs) b) (sym (append-nil front)) h)
frames_on f n first fs front (b ∷ bs) t e lt h =
    let one = stays_open (waits f n first) fs front (int t.0.0) (b ∷ []) h (no_key f e) (inl (b, t.0.1, refl)) tt (omega (arith, few_frames (waits f n first ∷ fs) front h)) (omega arith) in
    let more = frames_on (with_member f (int t.0.0)) (n - 1) first fs (front ++ b ∷ []) bs t.1 (member_next f b t.0 e) (omega arith) one in
    let left : n - 1 - length bs ≡ n - length (b ∷ bs) = omega arith in
    subst (λ (k : ℕ). AreFrames (waits (with_tiny f (b ∷ bs) t) k first ∷ fs) (front ++ b ∷ bs)) left
    (subst (λ (x : List ℕ). AreFrames (waits (with_tiny f (b ∷ bs) t) (n - 1 - length bs) first ∷ fs) x) (append_assoc front (b ∷ []) bs) more)

stands_on : (h : Holds) (o : Open) (bs : List ℕ) (fs : List Frame) → (g : Goes h part.Nothing) → fs ≡ g.frames → AreTiny bs → 0 < h.cursor.«open».depth → o.is_whole ≡ false
    → ((f : Frame) (around : List Frame) → AreLevels (f ∷ around) h.cursor.«open».depth h.cursor.«open».around → Passes f around (length bs) o) → IsStanding (after o (with_item (stored bs h)))
stands_on h o bs [] g is t deep unread passed = absurd (omega (arith, subst (λ (x : List Frame). AreLevels x h.cursor.«open».depth h.cursor.«open».around) (sym is) g.levels))
stands_on h o bs (f ∷ fs) g is t deep unread passed =
    let levels = subst (λ (x : List Frame). AreLevels x h.cursor.«open».depth h.cursor.«open».around) (sym is) g.levels in
    let names = subst (λ (x : List Frame). HaveNames x h.names h.store) (sym is) g.named in
    let all : g.full ≡ h.store = sym (g.store ∙ ap (λ (x : List ℕ). g.full ++ x) g.isa ∙ append-nil g.full) in
    let are = subst (λ (b : List ℕ). AreFrames (f ∷ fs) b) all (subst (λ (x : List Frame). AreFrames x g.full) (sym is) g.are) in
    let p = passed f fs levels in
    let new : Opened = with_tiny f.opened bs t in
    let next = tiny_next f.opened bs t p.member in
    goes_on (stored bs h) o (waits new (f.lacks - length bs) f.first ∷ fs) unread (frames_on f.opened f.lacks f.first fs h.store bs t p.member p.fewer are) (p.levels new next)
    (no_names new (f.lacks - length bs) f.first fs h.names (h.store ++ bs) next, names_more fs h.names h.store bs g.placed names.1)
    (placed_more h.names h.store bs g.placed)

-- so something is still open behind them
pub tiny_stands : (h : Holds) (o : Open) (bs : List ℕ) → Goes h part.Nothing → AreTiny bs → 0 < h.cursor.«open».depth → o.is_whole ≡ false
    → ((f : Frame) (around : List Frame) → AreLevels (f ∷ around) h.cursor.«open».depth h.cursor.«open».around → Passes f around (length bs) o) → IsStanding (after o (with_item (stored bs h)))
tiny_stands h o bs g t deep unread passed = stands_on h o bs g.frames g refl t deep unread passed
