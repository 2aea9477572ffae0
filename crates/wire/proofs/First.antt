-- A message in one chunk, at the front of a piece.
use Rattle.std.proofs.Common.{◌≡◌, ◌↔◌, ℕ, ◌+◌, ◌-◌, ◌*◌, ◌/◌, ◌%◌, ◌<◌, ◌≤◌, List, [], ◌∷◌, ◌++◌, length, Option, Some, None, Ok, false, eqb, ltb, refl, sym, ap, subst, ◌∙◌, append_assoc, append-nil, length-append, slice_index_or, Fits, w8, take, drop, arith}
use Rattle.std.proofs.lemmas.List.{take_at, drop_at, take_all}
use Rattle.std.proofs.lemmas.Bool.Decides.{nat_tests}
use Rattle.wire.specs.declared.items.Piece.TheVariants.{Message}
use Rattle.wire.specs.Prelude.{Place, start, fresh, open_at, item_of, Answered, answer_from, further, chunk_of, run_of, BeginsWith, TakesFirst}
use Rattle.wire.proofs.Cuts.{answer_from-grown, further-further}
use Rattle.wire.proofs.Grammar.{header-number, item_of-some}

content : (c body more : List ℕ) → answer_from (open_at body None (length c)) (c ++ more) ≡ further (length c) (answer_from (open_at (body ++ c) None 0) more)
content c body more =
    let none : length c - length c ≡ 0 = omega arith in
    answer_from-grown (length c) body None (length c) (c ++ more) (omega arith) (omega (arith, length-append c more)) ∙ rw (take_at c more (length c) refl, drop_at c more (length c) refl, none) refl

-- a chunk goes on to its end
chunk_from : (c body more : List ℕ) → 0 < length c → length c < 65536 → length body + length c ≤ 65536 → answer_from (open_at body None 0) (chunk_of c ++ more) ≡ further (length c + 2) (answer_from (open_at (body ++ c) None 0) more)
chunk_from c body more some fits all =
    let there : eqb (length c) 0 ≡ false = grind (arith, nat_tests) in
    let small : ltb 65536 (length body + length c) ≡ false = grind (arith, nat_tests) in
    let two : 2 + length c ≡ length c + 2 = omega arith in
    rw (header-number (length c) fits, there, small)
    (further-further 1 1 _
    ∙ ap (further 2) (content c body more)
    ∙ further-further 2 (length c) _
    ∙ ap (λ k. further k (answer_from (open_at (body ++ c) None 0) more)) two)

front : (m more : List ℕ) → run_of (m ∷ []) ++ more ≡ chunk_of m ++ (0 ∷ 0 ∷ more)
front m more = ap (λ xs. (xs ++ 0 ∷ 0 ∷ []) ++ more) (append-nil (chunk_of m)) ∙ append_assoc (chunk_of m) (0 ∷ 0 ∷ []) more

as_message : (n k : ℕ) (m : List ℕ) → n ≡ k → item_of m ≡ Message m → ◌≡◌ {A = Answered} (record { answer = Ok (record { used = n; what = item_of m }); rest = fresh }) (record { answer = Ok (record { used = k; what = Message m }); rest = fresh })
as_message n k m e f = rw (e, f) refl

pub takes_first : TakesFirst
takes_first m piece h =
    ap (answer_from fresh) (h.whole ∙ front m h.more)
    ∙ chunk_from m [] (0 ∷ 0 ∷ h.more) h.some h.fits (omega (arith, h.fits))
    ∙ as_message ((length m + 2) + 2) (length m + 4) m (omega arith) (item_of-some m h.some)

-- ---- what the first bytes tell

-- a header, so many bytes, and a chunk of no bytes
pub found : (high low : ℕ) (m more : List ℕ) → high < 256 → low < 256 → high * 256 + low ≡ length m → 0 < length m → BeginsWith m (high ∷ low ∷ (m ++ 0 ∷ 0 ∷ more))
found high low m more h l e some =
    let first : high ≡ (length m / 256) % 256 = omega (arith, e) in
    let second : low ≡ length m % 256 = omega (arith, e) in
    let rest : List ℕ = m ++ 0 ∷ 0 ∷ more in
    let fits : length m < 65536 = omega (arith, e) in
    record {
      some = some;
      fits = fits;
      more = more;
      whole = ap (λ x. x ∷ low ∷ rest) first ∙ ap (λ x. ((length m / 256) % 256) ∷ x ∷ rest) second ∙ sym (front m more);
    }

-- and only so
pub record Found (high low : ℕ) (rest m : List ℕ) : Type 0 where
  pub len : high * 256 + low ≡ length m
  pub more : List ℕ
  pub rest_is : rest ≡ m ++ 0 ∷ 0 ∷ more

pub found_only : (high low : ℕ) (rest m : List ℕ) → BeginsWith m (high ∷ low ∷ rest) → Found high low rest m
found_only high low rest m h =
    let all = h.whole ∙ front m h.more in
    let first : high ≡ (length m / 256) % 256 = cc in
    let second : low ≡ length m % 256 = cc in
    record { len = omega (arith, first, second, header-number (length m) h.fits); more = h.more; rest_is = cc }

-- ---- for the answers

pub one_found : (p : Place) (piece m n : List ℕ) → p ≡ start → BeginsWith n piece → (BeginsWith m piece → n ≡ m) → (◌≡◌ {A = Option (List ℕ)} (Some n) (Some m)) ↔ ((p ≡ start) × BeginsWith m piece)
one_found p piece m n at begins only = (
  (λ (e : ◌≡◌ {A = Option (List ℕ)} (Some n) (Some m)). (at, subst (λ (x : List ℕ). BeginsWith x piece) (let f : n ≡ m = cc in f) begins)),
  (λ h. ap Some (only h.1)),
)

-- what is in front of the same, where it is as long
same_front : (a b c d : List ℕ) → length a ≡ length b → a ++ c ≡ b ++ d → a ≡ b
same_front a b c d len e = sym (take_at a c (length b) len) ∙ ap (take (length b)) e ∙ take_at b d (length b) refl

two_zeros : (back : List ℕ) → 2 ≤ length back → slice_index_or back 0 0 ≡ 0 → slice_index_or back 1 0 ≡ 0 → (more : List ℕ) × (back ≡ 0 ∷ 0 ∷ more)
two_zeros [] long a b = absurd (omega arith)
two_zeros (x ∷ []) long a b = absurd (omega arith)
two_zeros (x ∷ y ∷ more) long a b = (more, ap (λ z. z ∷ y ∷ more) a ∙ ap (λ z. 0 ∷ z ∷ more) b)

-- a header, and behind it as many bytes and a chunk of no bytes
pub whole_found : (p : Place) (piece front back : List ℕ) → p ≡ start → 2 ≤ length piece → ((i : ℕ) → Fits w8 (slice_index_or piece i 0)) → take (length piece - 2) (drop 2 piece) ≡ front ++ back
    → length front ≡ slice_index_or piece 0 0 * 256 + slice_index_or piece 1 0 → (slice_index_or piece 0 0 * 256 + slice_index_or piece 1 0 ≡ 0 → ⊥) → 2 ≤ length back → slice_index_or back 0 0 ≡ 0 → slice_index_or back 1 0 ≡ 0
    → (m : List ℕ) → (◌≡◌ {A = Option (List ℕ)} (Some front) (Some m)) ↔ ((p ≡ start) × BeginsWith m piece)
whole_found p [] front back at long bytes parts len some two a b m = absurd (omega arith)
whole_found p (high ∷ []) front back at long bytes parts len some two a b m = absurd (omega arith)
whole_found p (high ∷ low ∷ tail) front back at long bytes parts len some two a b m =
    let h : high < 256 = omega (arith, bytes 0) in
    let l : low < 256 = omega (arith, bytes 1) in
    let zeros = two_zeros back two a b in
    let rest : tail ≡ front ++ 0 ∷ 0 ∷ zeros.0 = sym (take_all (length (high ∷ low ∷ tail) - 2) tail (omega arith)) ∙ parts ∙ ap (λ z. front ++ z) zeros.1 in
    let begins : BeginsWith front (high ∷ low ∷ tail) = subst (λ z. BeginsWith front (high ∷ low ∷ z)) (sym rest) (found high low front zeros.0 h l (sym len) (omega (arith, len, some))) in
    one_found p (high ∷ low ∷ tail) m front at begins
    (λ w. let f = found_only high low tail m w in same_front front m (0 ∷ 0 ∷ zeros.0) (0 ∷ 0 ∷ f.more) (len ∙ f.len) (sym rest ∙ f.rest_is))
