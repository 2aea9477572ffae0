-- The bytes of a head: its marker, and the number after it.
use Rattle.std.proofs.Common.{◌≡◌, ◌≤◌, ◌<◌, ◌+◌, ◌*◌, ◌^◌, ◌/◌, ◌%◌, ℕ, zero, suc, List, [], ◌∷◌, ◌++◌, length, drop, get_or, Some, refl, sym, ap, subst, ◌∙◌, arith, append_assoc, drop-cons}
use Rattle.std.proofs.lemmas.List.{append-nil, take_at, drop_at}
use Rattle.std.proofs.Math.Nat.{div-div-eq-div-mul, pow-succ', pow-le-pow_right}
use Rattle.byteorder.specs.Endian.{big_bytes, big_number}
use Rattle.byteorder.specs.Numbers.{length-bytes_high_first, big_number-reads_back}
use Rattle.packstream.specs.declared.marker.Size.{Size}
use Rattle.packstream.specs.declared.marker.Size.TheVariants.{Here, After}
use Rattle.packstream.specs.declared.marker.Marker.{Marker}
use Rattle.packstream.specs.declared.marker.Marker.TheVariants as announces
use Rattle.packstream.specs.Prelude.{AreBytes, width, size_len, IsNumber, IsSize, needs, text_in}
use Rattle.packstream.proofs.Shortest.{number_of}
use Rattle.std.specs.Int.{byte_at}
use Rattle.packstream_incremental.specs.Prelude.{field, size_with, body, number_from, IsTiny, AreTiny}

-- ---- a byte more behind a number

joined_least : (n : ℕ) (bs : List ℕ) → n ≤ number_from n bs
joined_least n [] = omega arith
joined_least n (b ∷ bs) = let more = joined_least (n * 256 + b) bs in omega arith

-- the number with one byte more is no more than that of all; the first part gives a tactic the term to match
pub joined_room : (n i : ℕ) (bs : List ℕ) → i < length bs → (number_from n (drop i bs) ≡ number_from n (drop i bs)) × (n * 256 + get_or bs i 0 ≤ number_from n (drop i bs))
joined_room n i bs lt = (refl, rw (drop-cons bs i 0) (joined_least (n * 256 + get_or bs i 0) (drop (suc i) bs)))

next_place : (j n b : ℕ) → b < 256 → byte_at (suc j) (n * 256 + b) ≡ byte_at j n
next_place zero n b lt = ap (λ (x : ℕ). x % 256) (omega arith)
next_place (suc j) n b lt =
    let power : 256 ^ suc (suc j) ≡ 256 * 256 ^ suc j = pow-succ' 256 (suc j) in
    let split : (n * 256 + b) / (256 * 256 ^ suc j) ≡ (n * 256 + b) / 256 / 256 ^ suc j = sym (div-div-eq-div-mul (n * 256 + b) 256 (256 ^ suc j)) in
    ap (λ (x : ℕ). (n * 256 + b) / x % 256) power ∙ ap (λ (x : ℕ). x % 256) split ∙ ap (λ (x : ℕ). x / 256 ^ suc j % 256) (omega arith)

bytes_next : (k n b : ℕ) → b < 256 → big_bytes (suc k) (n * 256 + b) ≡ big_bytes k n ++ b ∷ []
bytes_next zero n b lt = ap (λ (x : ℕ). x ∷ []) (omega arith)
bytes_next (suc j) n b lt =
    ap (λ (x : ℕ). x ∷ big_bytes (suc j) (n * 256 + b)) (next_place j n b lt) ∙ ap (λ (x : List ℕ). byte_at j n ∷ x) (bytes_next j n b lt)

pub joined_bytes : (k n : ℕ) (c : List ℕ) → AreBytes c → big_bytes (k + length c) (number_from n c) ≡ big_bytes k n ++ c
joined_bytes k n [] bytes = let e : k + 0 ≡ k = omega arith in ap (λ (x : ℕ). big_bytes x n) e ∙ sym (append-nil (big_bytes k n))
joined_bytes k n (b ∷ c) bytes =
    let e : k + length (b ∷ c) ≡ suc k + length c = omega arith in
    ap (λ (x : ℕ). big_bytes x (number_from (n * 256 + b) c)) e
    ∙ joined_bytes (suc k) (n * 256 + b) c bytes.1
    ∙ ap (λ (x : List ℕ). x ++ c) (bytes_next k n b bytes.0)
    ∙ append_assoc (big_bytes k n) (b ∷ []) c

pub joined_fits : (k n : ℕ) (c : List ℕ) → AreBytes c → n < 256 ^ k → number_from n c < 256 ^ (k + length c)
joined_fits k n [] bytes lt = let e : k + 0 ≡ k = omega arith in subst (λ (x : ℕ). n < 256 ^ x) (sym e) lt
joined_fits k n (b ∷ c) bytes lt =
    let e : suc k + length c ≡ k + length (b ∷ c) = omega arith in
    let power : 256 ^ suc k ≡ 256 * 256 ^ k = pow-succ' 256 k in
    let byte : b < 256 = bytes.0 in
    let more : n * 256 + b < 256 ^ suc k = omega arith in
    subst (λ (x : ℕ). number_from (n * 256 + b) c < 256 ^ x) e (joined_fits (suc k) (n * 256 + b) c bytes.1 more)

-- a number of so few bytes fits a word
pub fits_word : (k n : ℕ) → k ≤ 8 → n < 256 ^ k → n < 2 ^ 64
fits_word k n le lt = let most : 256 ^ k ≤ 256 ^ 8 = pow-le-pow_right (omega arith) le in omega arith

-- ---- what a head needs

pub needs_are : (m : Marker) (number : ℕ) (rest : List ℕ) → number < 256 ^ field (Some m) → needs m (big_bytes (field (Some m)) number ++ rest) ≡ field (Some m) + body (Some m) number
needs_are (announces.Bytes (After w)) number rest lt = ap (λ (x : ℕ). width w + x) (big_number-reads_back (width w) number rest lt)
needs_are (announces.Text (After w)) number rest lt = ap (λ (x : ℕ). width w + x) (big_number-reads_back (width w) number rest lt)
needs_are m number rest lt = omega arith

-- of a head that isn't whole the bytes of the number are missing
pub needs_more : (m : Marker) (rest : List ℕ) → field (Some m) ≤ needs m rest
needs_more announces.Null rest = omega arith
needs_more m rest = omega arith

pub text_there : (size : Size) (number : ℕ) (text rest : List ℕ) → number < 256 ^ size_len size → length text ≡ size_with size number
    → text_in (announces.Text size) (big_bytes (size_len size) number ++ (text ++ rest)) ≡ text
text_there (Here n) number text rest lt e = take_at text rest n e
text_there (After w) number text rest lt e =
    let d : drop (width w) (big_bytes (width w) number ++ (text ++ rest)) ≡ text ++ rest = drop_at (big_bytes (width w) number) (text ++ rest) (width w) (length-bytes_high_first (width w) number) in
    let n : big_number (width w) (big_bytes (width w) number ++ (text ++ rest)) ≡ number = big_number-reads_back (width w) number (text ++ rest) lt in
    rw (n, d) (take_at text rest number e)

-- the length or count as a head has it
pub sized_by : (size : Size) (number n : ℕ) → number < 256 ^ size_len size → size_with size number ≡ n → IsSize size n (big_bytes (size_len size) number)
sized_by (Here k) number n lt e = (sym e, refl)
sized_by (After w) number n lt e = subst (λ (x : ℕ). IsNumber (width w) x (big_bytes (width w) number)) e (number_of (width w) number lt)

-- ---- integers of one byte each

-- with one more behind them
pub tiny_more : (bs : List ℕ) (b : ℕ) → AreTiny bs → IsTiny b → AreTiny (bs ++ b ∷ [])
tiny_more [] b t one = (one, tt)
tiny_more (x ∷ bs) b t one = (t.0, tiny_more bs b t.1 one)
