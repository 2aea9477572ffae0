-- Which texts are hex of whole bytes.
use Rattle.std.proofs.Common.{◌≡◌, ℕ, ◌%◌, List, length, Bool, cond, true, false, eqb, refl, arith, IsOk, Result, Ok, Err}
use Rattle.std.specs.List.{AllPass}
use Rattle.std.proofs.lemmas.Bool.Decides.{nat_tests}
use Rattle.hex.specs.Hex.{decode_of, decode_pairs, is_hex_digit}
use Rattle.hex.specs.declared.error.FromHexError.{FromHexError}
use Rattle.hex.specs.declared.error.FromHexError.TheVariants.{OddLength}
use Rattle.hex.proofs.HexLemmas.{decode_pairs-ok, decode_pairs-digits, decode_of-even}

pub digits_decode : (t : List ℕ) → length t % 2 ≡ 0 → AllPass is_hex_digit t → IsOk (decode_of t)
digits_decode t even h =
    let p = decode_pairs-digits 0 t even h in
    rw (decode_of-even t even, p.1) refl

value_of : (r : Result (List ℕ) FromHexError) → IsOk r → (bytes : List ℕ) × (r ≡ Ok bytes)
value_of (Ok bytes) h = (bytes, refl)
value_of (Err e) h = cc h

even_or_odd : (t : List ℕ) → (b : Bool) → eqb (length t % 2) 1 ≡ b → IsOk (cond b (Err OddLength) (decode_pairs 0 t)) → (length t % 2 ≡ 0) × AllPass is_hex_digit t
even_or_odd t true e h = cc h
even_or_odd t false e h =
    let p = value_of (decode_pairs 0 t) h in (grind (arith, nat_tests, e), (decode_pairs-ok 0 t p.0 p.1).0)

pub decoded_digits : (t : List ℕ) → IsOk (decode_of t) → (length t % 2 ≡ 0) × AllPass is_hex_digit t
decoded_digits t h = even_or_odd t (eqb (length t % 2) 1) refl h
