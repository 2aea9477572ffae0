-- What is open as the definition of faults has it, the outermost first; which rule a head breaks, and which the bytes after it.
use Rattle.std.proofs.Common.{◌≡◌, ◌<◌, ◌+◌, ℕ, List, [], ◌∷◌, ◌++◌, length, Some, None, refl, sym, ap, subst, ◌∙◌, append_assoc, add-one, arith, inl, ◌^◌, ◌&&◌, Bool, true, false, not, cond, nat_lt, nat_le, Option, is_some}
use Rattle.std.proofs.lemmas.List.{append-nil, length-append}
use Rattle.packstream.specs.declared.fault.Reason.{Reason}
use Rattle.packstream.specs.Prelude.{count, entry_count, is_among, Place, Opened, in_list, in_struct, at_key, at_value, key_there, within, innermost, outside, IsOpened, AreOpened, fault_at, Bad, is_text, nests, needs, text_in, is_repeated, fault_of, marker, size_len}
use Rattle.packstream_incremental.specs.Prelude.{Frame, IsFrame, place, AreFrames, head_fault, field, body, size_with, head_bytes, part_head, IsPart, IsLacking}
use Rattle.std.proofs.lemmas.Bool.{lt-ltb, le-ltb}
use Rattle.std.specs.Str.{is_utf8}
use Rattle.byteorder.specs.Endian.{big_bytes}
use Rattle.byteorder.specs.Numbers.{length-bytes_high_first}
use Rattle.packstream.specs.declared.fault.Reason.TheVariants as reason
use Rattle.packstream.specs.declared.marker.Size.{Size}
use Rattle.packstream.specs.declared.marker.Marker.{Marker}
use Rattle.packstream.specs.declared.marker.Marker.TheVariants as announces
use Rattle.packstream_incremental.specs.declared.progress.Part.{Part}
use Rattle.packstream_incremental.specs.declared.progress.Part.TheVariants as part
use Rattle.packstream_incremental.proofs.Heads.{needs_are, needs_more, text_there}

-- the outermost first
abbrev pub outer_first : List Frame → List Opened
outer_first [] = []
outer_first (f ∷ fs) = outer_first fs ++ f.opened ∷ []

innermost_push : (p : Place) (xs : List Opened) (f : Opened) → innermost p (xs ++ f ∷ []) ≡ within (innermost p xs) f
innermost_push p [] f = refl
innermost_push p (x ∷ xs) f = innermost_push (within p x) xs f

pub heads_are : (fs : List Frame) → (place fs).heads ≡ length fs
heads_are [] = refl
heads_are (f ∷ fs) = add-one (length fs)

pub innermost_is : (fs : List Frame) → innermost outside (outer_first fs) ≡ place fs
innermost_is [] = refl
innermost_is (f ∷ fs) =
    innermost_push outside (outer_first fs) f.opened ∙ ap (λ (p : Place). within p f.opened) (innermost_is fs)
    ∙ ap (λ (n : ℕ). record { heads = n + 1; key = key_there f.opened }) (heads_are fs)

opened_push : (p : Place) (xs : List Opened) (f : Opened) (front rest : List ℕ) → AreOpened p xs front → (innermost p xs).key ≡ None → (innermost p xs).heads < 32
    → IsOpened ((innermost p xs).heads + 1) f rest → AreOpened p (xs ++ f ∷ []) (front ++ rest)
opened_push p [] f front rest h none lt is = record { front = rest; rest = []; keyless = none; room = lt; opened = is; inside = refl; whole = ap (λ (x : List ℕ). x ++ rest) h ∙ sym (append-nil rest) }
opened_push p (x ∷ xs) f front rest h none lt is =
    record {
      front = h.front;
      rest = h.rest ++ rest;
      keyless = h.keyless;
      room = h.room;
      opened = h.opened;
      inside = opened_push (within p x) xs f h.rest rest h.inside none lt is;
      whole = ap (λ (y : List ℕ). y ++ rest) h.whole ∙ append_assoc h.front h.rest rest;
    }

pub frame_is_opened : (heads : ℕ) (f : Opened) (lacks : ℕ) (b : List ℕ) → 0 < lacks → IsFrame heads f lacks b → IsOpened heads f b
frame_is_opened heads (in_list ts) lacks b lt h = record { size = h.size; total = count ts + lacks; field = h.field; body = h.body; sized = h.sized; fewer = omega arith; spelled = h.spelled; sound = h.sound; deep = h.deep; begins = h.begins }
frame_is_opened heads (in_struct tag ts) lacks b lt h = record { total = count ts + lacks; body = h.body; fewer = omega arith; spelled = h.spelled; sound = h.sound; deep = h.deep; begins = h.begins }
frame_is_opened heads (at_key es) lacks b lt h = record { size = h.size; total = entry_count es + lacks; field = h.field; body = h.body; sized = h.sized; fewer = omega arith; spelled = h.spelled; fresh = h.fresh; sound = h.sound; deep = h.deep; begins = h.begins }
frame_is_opened heads (at_value es k) lacks b lt h = record { size = h.size; total = entry_count es + lacks; field = h.field; body = h.body; key = h.key; sized = h.sized; fewer = omega arith; spelled = h.spelled; fresh = h.fresh; sound = h.sound; deep = h.deep; spelled_key = h.spelled_key; new_key = h.new_key; begins = h.begins }

pub frames_are_opened : (fs : List Frame) (b : List ℕ) → AreFrames fs b → AreOpened outside (outer_first fs) b
frames_are_opened [] b h = h
frames_are_opened (f ∷ fs) b h =
    let inner = innermost_is fs in
    let none : (innermost outside (outer_first fs)).key ≡ None = ap (λ (p : Place). p.key) inner ∙ h.keyless in
    let heads : (innermost outside (outer_first fs)).heads ≡ length fs = ap (λ (p : Place). p.heads) inner ∙ heads_are fs in
    let is : IsOpened (length fs + 1) f.opened h.rest = frame_is_opened (length fs + 1) f.opened f.lacks h.rest h.waiting h.frame in
    subst (λ (x : List ℕ). AreOpened outside (outer_first (f ∷ fs)) x) (sym h.whole)
    (opened_push outside (outer_first fs) f.opened h.front h.rest (frames_are_opened fs h.front h.around) none (omega (arith, heads, h.room)) (subst (λ (n : ℕ). IsOpened (n + 1) f.opened h.rest) (sym heads) is))

-- a rule that is broken behind what is open is the fault of the bytes
pub bad_behind : (fs : List Frame) (front rest : List ℕ) (r : Reason) → AreFrames fs front → fault_at (place fs) rest ≡ Some r → Bad (front ++ rest) (length front) r
bad_behind fs front rest r h fault =
    inl (record {
      opened = outer_first fs;
      before = front;
      after = rest;
      are = frames_are_opened fs front h;
      whole = refl;
      place = refl;
      broken = ap (λ (p : Place). fault_at p rest) (innermost_is fs) ∙ fault;
    })

-- ---- the head alone

passes : (text key full : Bool) (z : Option Reason) → (text ≡ true → full ≡ false) → cond text None (cond key (Some reason.KeyKind) (cond full (Some reason.Depth) None)) ≡ None
    → cond (key && not text) (Some reason.KeyKind) (cond full (Some reason.Depth) z) ≡ z
passes true true full z f e = rw (f refl) refl
passes true false full z f e = rw (f refl) refl
passes false false false z f e = refl
passes false key full z f e = absurd cc

breaks : (text key full : Bool) (z : Option Reason) (r : Reason) → cond text None (cond key (Some reason.KeyKind) (cond full (Some reason.Depth) None)) ≡ Some r
    → (cond (key && not text) (Some reason.KeyKind) (cond full (Some reason.Depth) z) ≡ Some r) × (r ≡ reason.Short → ⊥)
breaks true key full z r e = absurd cc
breaks false true full z r e = (e, λ (s : r ≡ reason.Short). cc)
breaks false false true z r e = (e, λ (s : r ≡ reason.Short). cc)
breaks false false false z r e = absurd cc

text_nests : (m : Marker) (full : Bool) → is_text m ≡ true → (nests m && full) ≡ false
text_nests (announces.Text size) full e = refl
text_nests m full e = absurd cc

-- the rules after the head's
abbrev pub body_fault : Place → Marker → List ℕ → Option Reason
body_fault p m rest =
    cond (nat_lt (length rest) (needs m rest)) (Some reason.Short)
    (cond (is_text m && not (is_utf8 (text_in m rest))) (Some reason.Utf8)
    (cond (is_repeated p.key (text_in m rest)) (Some reason.KeyTwice) None))

pub refused : (p : Place) (b : ℕ) (m : Marker) (rest : List ℕ) (r : Reason) → marker b ≡ Some m → head_fault p m ≡ Some r → (fault_at p (b ∷ rest) ≡ Some r) × (r ≡ reason.Short → ⊥)
unfolding fault_of fault_at
refused p b m rest r is e =
    let h = breaks (is_text m) (is_some p.key) (nests m && nat_le 32 p.heads) (body_fault p m rest) r e in
    (ap (λ (o : Option Marker). fault_of p o rest) is ∙ h.0, h.1)

pub no_marker : (p : Place) (b : ℕ) (rest : List ℕ) → marker b ≡ None → fault_at p (b ∷ rest) ≡ Some reason.Marker
unfolding fault_of fault_at
no_marker p b rest is = ap (λ (o : Option Marker). fault_of p o rest) is

at_body : (p : Place) (b : ℕ) (m : Marker) (rest : List ℕ) → marker b ≡ Some m → head_fault p m ≡ None → fault_at p (b ∷ rest) ≡ body_fault p m rest
unfolding fault_of fault_at
at_body p b m rest is e =
    ap (λ (o : Option Marker). fault_of p o rest) is ∙ passes (is_text m) (is_some p.key) (nests m && nat_le 32 p.heads) (body_fault p m rest) (text_nests m (nat_le 32 p.heads)) e

-- ---- what is missing

missing : (p : Place) (b : ℕ) (m : Marker) (rest : List ℕ) → marker b ≡ Some m → head_fault p m ≡ None → length rest < needs m rest → fault_at p (b ∷ rest) ≡ Some reason.Short
missing p b m rest is e lt = let short : nat_lt (length rest) (needs m rest) ≡ true = lt-ltb _ _ lt in at_body p b m rest is e ∙ rw short refl

pub part_is_short : (p : Place) (q : Part) (tail : List ℕ) → IsPart p q tail → IsLacking q → fault_at p (part_head q ++ tail) ≡ Some reason.Short
unfolding fault_at
part_is_short p part.Nothing tail is lacks = ap (fault_at p) is
part_is_short p (part.Head b number has) tail is lacks =
    let a = is.admitted in
    let few : field (marker b) ≡ field (Some a.0) = ap field a.1 in
    let len : length (big_bytes has number ++ tail) ≡ has = length-append (big_bytes has number) tail ∙ omega (arith, length-bytes_high_first has number, ap length is.bare) in
    missing p b a.0 (big_bytes has number ++ tail) a.1 a.2 (omega (arith, needs_more a.0 (big_bytes has number ++ tail), len, few, lacks))
part_is_short p (part.Body b number lack) tail is lacks =
    let a = is.admitted in
    let f : field (marker b) ≡ field (Some a.0) = ap field a.1 in
    let c : body (marker b) number ≡ body (Some a.0) number = ap (λ (o : Option Marker). body o number) a.1 in
    let small : number < 256 ^ field (Some a.0) = subst (λ (o : Option Marker). number < 256 ^ field o) a.1 is.small in
    let need : needs a.0 (big_bytes (field (marker b)) number ++ tail) ≡ field (Some a.0) + body (Some a.0) number =
    ap (λ (n : ℕ). needs a.0 (big_bytes n number ++ tail)) f ∙ needs_are a.0 number tail small in
    let len : length (big_bytes (field (marker b)) number ++ tail) ≡ field (marker b) + length tail = length-append (big_bytes (field (marker b)) number) tail ∙ omega (arith, length-bytes_high_first (field (marker b)) number) in
    missing p b a.0 (big_bytes (field (marker b)) number ++ tail) a.1 a.2 (omega (arith, need, len, f, c, is.long, lacks))

-- ---- a text that is whole

whole_text : (p : Place) (b number : ℕ) (size : Size) (text rest : List ℕ) → marker b ≡ Some (announces.Text size) → number < 256 ^ size_len size → length text ≡ size_with size number
    → fault_at p (head_bytes b number ++ (text ++ rest)) ≡ cond (not (is_utf8 text)) (Some reason.Utf8) (cond (is_repeated p.key text) (Some reason.KeyTwice) None)
whole_text p b number size text rest is small len =
    let m : Marker = announces.Text size in
    let f : field (marker b) ≡ size_len size = ap field is in
    let there : List ℕ = big_bytes (size_len size) number ++ (text ++ rest) in
    let need : needs m there ≡ size_len size + size_with size number = needs_are m number (text ++ rest) small in
    let long : length there ≡ size_len size + (length text + length rest) =
    length-append (big_bytes (size_len size) number) (text ++ rest) ∙ omega (arith, length-bytes_high_first (size_len size) number, length-append text rest) in
    let enough : nat_lt (length there) (needs m there) ≡ false = le-ltb _ _ (omega arith) in
    let t : text_in m there ≡ text = text_there size number text rest small len in
    ap (λ (n : ℕ). fault_at p (b ∷ (big_bytes n number ++ (text ++ rest)))) f ∙ at_body p b m there is refl ∙ rw (enough, t) refl

pub not_text : (p : Place) (b number : ℕ) (size : Size) (text rest : List ℕ) → marker b ≡ Some (announces.Text size) → number < 256 ^ size_len size → length text ≡ size_with size number
    → is_utf8 text ≡ false → fault_at p (head_bytes b number ++ (text ++ rest)) ≡ Some reason.Utf8
not_text p b number size text rest is small len e = whole_text p b number size text rest is small len ∙ rw e refl

pub twice : (p : Place) (b number : ℕ) (size : Size) (text rest : List ℕ) (keys : List (List ℕ)) → marker b ≡ Some (announces.Text size) → number < 256 ^ size_len size → length text ≡ size_with size number
    → is_utf8 text ≡ true → p.key ≡ Some keys → is_among text keys ≡ true → fault_at p (head_bytes b number ++ (text ++ rest)) ≡ Some reason.KeyTwice
twice p b number size text rest keys is small len e k among = whole_text p b number size text rest is small len ∙ rw (e, k, among) refl
