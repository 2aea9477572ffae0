-- A fault for another reason than missing bytes stays, whatever bytes follow.
use Rattle.packstream.proofs.Words.{◌≡◌, ℕ, ◌≤◌, List, [], ◌∷◌, ◌++◌, length, Option, Some, None, refl, sym, ap, ◌∙◌, append_assoc, arith, inl, inr, nat_tests, length-append, take-append-le, drop-append-le, length-drop, big_from-append, Reason, Size, Here, After, Marker, width, marker, size_len, Place, size_in, needs, text_in, fault_of, fault_at, innermost, outside, Bad, IsBadAlways}

pub size_in_more : (size : Size) (rest more : List ℕ) → size_len size ≤ length rest → size_in size (rest ++ more) ≡ size_in size rest
size_in_more (Here n) rest more le = refl
size_in_more (After w) rest more le = big_from-append (width w) rest more le

-- what the head and the body need is known once they are whole
pub needs_more : (m : Marker) (rest more : List ℕ) → needs m rest ≤ length rest → needs m (rest ++ more) ≡ needs m rest
needs_more (Marker.Bytes size) rest more le = grind (arith, size_in_more)
needs_more m rest more le = grind (arith, size_in_more)

pub text_in_more : (m : Marker) (rest more : List ℕ) → needs m rest ≤ length rest → text_in m (rest ++ more) ≡ text_in m rest
text_in_more (Marker.Bytes size) rest more le = refl
text_in_more m rest more le = grind (arith, size_in_more, drop-append-le, take-append-le, length-drop)

some_short : (r : Reason) → ◌≡◌ {A = Option Reason} (Some Reason.Short) (Some r) → r ≡ Reason.Short
some_short r e = sym (cc)

fault_of_more : (p : Place) (m : Option Marker) (rest more : List ℕ) (r : Reason) → fault_of p m rest ≡ Some r → (r ≡ Reason.Short → ⊥) → fault_of p m (rest ++ more) ≡ Some r
unfolding fault_of
fault_of_more p None rest more r e other = e
fault_of_more p (Some m) rest more r e other = grind (arith, nat_tests, some_short, needs_more, text_in_more, length-append)

fault_at_more : (p : Place) (rest more : List ℕ) (r : Reason) → fault_at p rest ≡ Some r → (r ≡ Reason.Short → ⊥) → fault_at p (rest ++ more) ≡ Some r
unfolding fault_at
fault_at_more p [] more r e other = absurd (other (some_short r e))
fault_at_more p (x ∷ rest) more r e other = fault_of_more p (marker x) rest more r e other

pub stays : (b : List ℕ) (r : Reason) (o : ℕ) → Bad b o r → (r ≡ Reason.Short → ⊥) → IsBadAlways b r o
stays b r o (inl h) other = λ more bytes.
    inl (record {
      opened = h.opened;
      before = h.before;
      after = h.after ++ more;
      are = h.are;
      whole = ap (λ (x : List ℕ). x ++ more) h.whole ∙ append_assoc h.before h.after more;
      place = h.place;
      broken = fault_at_more (innermost outside h.opened) h.after more r h.broken other;
    })
stays b r o (inr (e, u)) other = λ more bytes.
    inr (
      e,
      record {
        tree = u.tree;
        front = u.front;
        more = u.more ++ more;
        good = u.good;
        spelled = u.spelled;
        whole = ap (λ (x : List ℕ). x ++ more) u.whole ∙ append_assoc u.front u.more more;
        some = omega (arith, u.some, length-append u.more more);
        place = u.place;
      },
    )
