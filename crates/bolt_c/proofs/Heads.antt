-- The head of a value tells it, wherever its bytes stand.
use Rattle.std.proofs.Common.{◌≡◌, ℕ, suc, ◌+◌, ◌≤◌, false, List, [], ◌∷◌, ◌++◌, length, Some, refl, sym, ap, ◌∙◌, append_assoc, arith, inl, inr, nat_lt, pos}
use Rattle.std.proofs.lemmas.Bool.{le-ltb}
use Rattle.std.proofs.lemmas.List.{append-nil, drop_at, length-append}
use Rattle.byteorder.specs.Endian.{big_number, twos_complement}
use Rattle.byteorder.specs.Numbers.{big_from-append}
use Rattle.packstream.specs.declared.marker.Size.{Size}
use Rattle.packstream.specs.declared.marker.Size.TheVariants.{Here, After}
use Rattle.packstream.specs.declared.marker.Marker.{Marker}
use Rattle.packstream.specs.declared.marker.Marker.TheVariants as announces
use Rattle.packstream.specs.Prelude.{Tree, null, boolean, int, float, byte_string, text, list, dict, structure, width, size_len, size_in, needs, count, entry_count, Begins, IsNumber, IsSize}
use Rattle.bolt_c.specs.declared.values.Kind.{Kind}
use Rattle.bolt_c.specs.declared.values.Kind.TheVariants as kind
use Rattle.bolt_c.specs.Values.{plain, counted, placed, announced, head_at, value_of, own_bytes, SpellsMembers, ReadsHead, HeadsTell}

-- what stands in so many bytes, whatever follows
number_back : (k n : ℕ) (field after : List ℕ) → IsNumber k n field → big_number k (field ++ after) ≡ n
number_back k n field after h = big_from-append k field after (omega (arith, h.0)) ∙ h.1

-- a length or a count, whatever follows
size_back : (size : Size) (n : ℕ) (field after : List ℕ) → IsSize size n field → size_in size (field ++ after) ≡ n
size_back (Here k) n field after h = sym h.0
size_back (After w) n field after h = number_back (width w) n field after h

size_long : (size : Size) (n : ℕ) (field : List ℕ) → IsSize size n field → size_len size ≡ length field
size_long (Here k) n field h = rw h.1 refl
size_long (After w) n field h = sym h.0

-- a value by its marker
begun : (what : Marker) (before tail b after : List ℕ) → Begins what tail b → needs what (tail ++ after) ≤ length tail
    → head_at (before ++ (b ++ after)) (length before) ≡ Some (announced what (length before + 1) (tail ++ after), length before + 1 + needs what (tail ++ after))
begun what before tail b after h enough =
    let whole : nat_lt (length (tail ++ after)) (needs what (tail ++ after)) ≡ false = le-ltb _ _ (omega (arith, length-append tail after, enough)) in
    rw (drop_at before (b ++ after) (length before) refl, h.2, h.1, whole) refl

-- one with nothing behind its head
alone : (what : Marker) (t : Tree) (before tail b after : List ℕ) → Begins what tail b → needs what (tail ++ after) ≡ length tail
    → announced what (length before + 1) (tail ++ after) ≡ value_of t (length before + length b) → own_bytes t ≡ [] → SpellsMembers t [] → ReadsHead t before b after
alone what t before tail b after h all same bare none =
    let long : length b ≡ suc (length tail) = ap length h.2 in
    record {
      head = b;
      members = [];
      parts = sym (ap (λ s. b ++ (s ++ [])) bare ∙ append-nil b);
      spelled = none;
      read = begun what before tail b after h (omega (arith, all))
          ∙ rw (same, bare) (ap (λ n. Some (value_of t (length before + length b), n)) (omega (arith, all, long)));
    }

-- one of bytes of its own
texted : (what : Marker) (t : Tree) (size : Size) (s field before b after : List ℕ) → Begins what (field ++ s) b → IsSize size (length s) field
    → needs what ((field ++ s) ++ after) ≡ size_len size + size_in size ((field ++ s) ++ after) → ((at : ℕ) → announced what at ((field ++ s) ++ after) ≡ value_of t (at + size_len size))
    → own_bytes t ≡ s → SpellsMembers t [] → ReadsHead t before b after
texted what t size s field before b after h sized all same own none =
    let tail = field ++ s in
    let count : size_in size (tail ++ after) ≡ length s = ap (size_in size) (append_assoc field s after) ∙ size_back size (length s) field (s ++ after) sized in
    let start = size_long size (length s) field sized in
    let place : length before + 1 + size_len size ≡ length before + suc (length field) = omega (arith, start) in
    record {
      head = h.0 ∷ field;
      members = [];
      parts = h.2 ∙ ap (λ x. h.0 ∷ (field ++ x)) (sym (append-nil s) ∙ ap (λ x. x ++ []) (sym own));
      spelled = none;
      read = begun what before tail b after h (omega (arith, all, count, start, length-append field s))
          ∙ ap (λ x. Some (x, length before + 1 + needs what (tail ++ after))) (same (length before + 1) ∙ ap (value_of t) place)
          ∙ ap (λ n. Some (value_of t (length before + suc (length field)), n)) (omega (arith, all, count, start, ap length own));
    }

-- one with members behind its head
holding : (what : Marker) (t : Tree) (field body before b after : List ℕ) → Begins what (field ++ body) b → needs what ((field ++ body) ++ after) ≡ length field
    → announced what (length before + 1) ((field ++ body) ++ after) ≡ value_of t (length before + suc (length field)) → own_bytes t ≡ [] → SpellsMembers t body → ReadsHead t before b after
holding what t field body before b after h all same bare members =
    let tail = field ++ body in
    record {
      head = h.0 ∷ field;
      members = body;
      parts = h.2 ∙ ap (λ x. h.0 ∷ (field ++ (x ++ body))) (sym bare);
      spelled = members;
      read = begun what before tail b after h (omega (arith, all, length-append field body))
          ∙ rw (same, bare) (ap (λ n. Some (value_of t (length before + suc (length field)), n)) (omega (arith, all)));
    }

-- a list or a dictionary
counted_of : (what : Marker) (t : Tree) (size : Size) (n : ℕ) (k : Kind) (field body before b after : List ℕ) → Begins what (field ++ body) b → IsSize size n field
    → needs what ((field ++ body) ++ after) ≡ size_len size → ((at : ℕ) → announced what at ((field ++ body) ++ after) ≡ counted k 0 (size_in size ((field ++ body) ++ after)))
    → ((at : ℕ) → value_of t at ≡ counted k 0 n) → own_bytes t ≡ [] → SpellsMembers t body → ReadsHead t before b after
counted_of what t size n k field body before b after h sized all same is bare members =
    let many : size_in size ((field ++ body) ++ after) ≡ n = ap (size_in size) (append_assoc field body after) ∙ size_back size n field (body ++ after) sized in
    holding what t field body before b after h (all ∙ size_long size n field sized)
    (same (length before + 1) ∙ ap (λ m. counted k 0 m) many ∙ sym (is (length before + suc (length field)))) bare members

pub heads_tell : HeadsTell
heads_tell null before b after h = alone announces.Null null before [] b after h refl refl refl refl
heads_tell (boolean x) before b after h = alone (announces.Bool x) (boolean x) before [] b after h refl refl refl refl
heads_tell (int z) before b after (inl h) = alone (announces.Tiny z) (int z) before [] b after h refl refl refl refl
heads_tell (int z) before b after (inr h) =
    alone (announces.Int h.wide) (int z) before h.field b after h.begins (sym h.stands.0)
    (ap (λ n. plain kind.Int (twos_complement (width h.wide) n) 0) (number_back (width h.wide) h.number h.field after h.stands) ∙ ap (λ y. plain kind.Int y 0) h.value) refl refl
heads_tell (float n) before b after h =
    alone announces.Float (float n) before h.0 b after h.2 (sym h.1.0) (ap (λ m. plain kind.Float (pos 0) m) (number_back 8 n h.0 after h.1)) refl refl
heads_tell (byte_string s) before b after h =
    texted (announces.Bytes h.0) (byte_string s) h.0 s h.1 before b after h.3 h.2 refl
    (λ at. ap (λ n. placed kind.Bytes (at + size_len h.0) n) (ap (size_in h.0) (append_assoc h.1 s after) ∙ size_back h.0 (length s) h.1 (s ++ after) h.2)) refl refl
heads_tell (text s) before b after h =
    texted (announces.Text h.size) (text s) h.size s h.field before b after h.begins h.sized refl
    (λ at. ap (λ n. placed kind.Text (at + size_len h.size) n) (ap (size_in h.size) (append_assoc h.field s after) ∙ size_back h.size (length s) h.field (s ++ after) h.sized)) refl refl
heads_tell (list ts) before b after h =
    counted_of (announces.List h.0) (list ts) h.0 (count ts) kind.List h.1 h.2 before b after h.5 h.3 refl (λ at. refl) (λ at. refl) refl h.4
heads_tell (dict es) before b after h =
    counted_of (announces.Dict h.0) (dict es) h.0 (entry_count es) kind.Dict h.1 h.2 before b after h.5 h.3 refl (λ at. refl) (λ at. refl) refl h.4
heads_tell (structure tag ts) before b after h =
    holding (announces.Struct (count ts)) (structure tag ts) (tag ∷ []) h.0 before b after h.2 refl refl refl h.1
