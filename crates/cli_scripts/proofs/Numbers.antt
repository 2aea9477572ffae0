-- Numbers that the standard library parses, by the definitions of words.
use Rattle.std.proofs.Common.{◌≡◌, ℕ, ◌<◌, ◌≤◌, ◌&&◌, nat_lt, Bool, true, false, cond, List, [], ◌∷◌, length, get_or, drop, Some, None, Result, Ok, Err, refl, sym, ap, ◌∙◌, arith, w64, option_map, ℤ, pos, neg_ℤ, OkIff}
use Rattle.std.specs.Result.{result_ok}
use Rattle.std.specs.Str.{all_ascii_digits}
use Rattle.std.specs.Str.Parse.{ParsesUnsigned, ParsesSigned, digits_value, starts_with_minus}
use Rattle.std.proofs.lemmas.Bool.{lt-ltb, le-ltb, eqb-true}
use Rattle.std.proofs.lemmas.Str.Parse.{IsNumeralModel, numerals_by_value, tells_all_ascii_digits, parse_digits, parse_signed_digits, parse_signed_minus}
use Rattle.std.proofs.lemmas.Iterator.Adapters.{option_map_id}
use Rattle.cli_scripts.specs.Prelude.{is_decimal, number_below, number_of, without_minus, whole_of}

own : IsNumeralModel (λ ds. all_ascii_digits ds ≡ true) (digits_value 10)
own = numerals_by_value _ tells_all_ascii_digits

-- a word of digits is digits, and not empty
pub decimal_digits : (word : List ℕ) → is_decimal word ≡ true → (all_ascii_digits word ≡ true) × (0 < length word)
decimal_digits [] h = absurd cc
decimal_digits (c ∷ cs) h = (h, omega arith)

-- a number below its limit, and one that isn't
below : (d : Bool) (v limit : ℕ) → d ≡ true → v < limit → cond (d && nat_lt v limit) (Some v) None ≡ Some v
below d v limit e h = rw (e, lt-ltb v limit h) refl

past : (d : Bool) (v limit : ℕ) → d ≡ true → limit ≤ v → cond (d && nat_lt v limit) (Some v) None ≡ None
past d v limit e h = rw (e, le-ltb v limit h) refl

-- what was parsed is a function of the number below the limit
parsed : {X E : Type 0} (f : ℕ → X) (r : Result X E) (P : Type 0) (d : Bool) (v limit : ℕ) → d ≡ true → (P → v < limit) → (v < limit → P)
    → OkIff r P (f v) → result_ok r ≡ option_map f (cond (d && nat_lt v limit) (Some v) None)
parsed f (Ok x) P d v limit e to from h = ap Some h.1 ∙ sym (ap (option_map f) (below d v limit e (to h.0)))
parsed f (Err y) P d v limit e to from h =
    let m : v < limit → ⊥ = λ l. h (from l) in
    let beyond : limit ≤ v = omega (arith, m) in
    sym (ap (option_map f) (past d v limit e beyond))

pub parsed_number : {E : Type 0} (word : List ℕ) (r : Result ℕ E) → ParsesUnsigned 64 10 word r → is_decimal word ≡ true → result_ok r ≡ number_of word
parsed_number word r h e =
    let digits = decimal_digits word e in
    parsed (λ n. n) r _ (is_decimal word) (digits_value 10 word) 18446744073709551616 e (λ p. p.1) (λ l. (digits.1, l)) (parse_digits own 64 word r h digits.0) ∙ option_map_id _

-- with a minus, and without one
signed_number : {E : Type 0} (word : List ℕ) (r : Result ℤ E) (minus : Bool) → starts_with_minus word ≡ minus → ParsesSigned w64 10 word r → is_decimal (cond minus (drop 1 word) word) ≡ true
    → result_ok r ≡ cond minus (option_map (λ n. neg_ℤ (pos n)) (number_below 9223372036854775809 (drop 1 word))) (option_map (λ n. pos n) (number_below 9223372036854775808 word))
signed_number word r true m h e =
    let digits = decimal_digits (drop 1 word) e in
    parsed (λ n. neg_ℤ (pos n)) r _ (is_decimal (drop 1 word)) (digits_value 10 (drop 1 word)) 9223372036854775809 e (λ p. omega (arith, p.2)) (λ l. (digits.0, digits.1, omega (arith, l))) (parse_signed_minus own w64 word r h (eqb-true (get_or word 0 0) 45 m))
signed_number word r false m h e =
    let digits = decimal_digits word e in
    parsed (λ n. pos n) r _ (is_decimal word) (digits_value 10 word) 9223372036854775808 e (λ p. p.1) (λ l. (digits.1, l)) (parse_signed_digits own w64 word r h digits.0)

pub parsed_whole : {E : Type 0} (word : List ℕ) (r : Result ℤ E) → ParsesSigned w64 10 word r → is_decimal (without_minus word) ≡ true → result_ok r ≡ whole_of word
parsed_whole word r h e = signed_number word r (starts_with_minus word) refl h e
