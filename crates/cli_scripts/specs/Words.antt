-- The words of a line, and what a word alone says.
use Rattle.std.specs.Prelude.{ℕ, ◌==◌, ◌&&◌, not, nat_lt, if◌then◌else◌, Bool, true, false, List, [], ◌∷◌, drop, Option, Some, None, ℤ, pos, negsuc, neg_ℤ}
use Rattle.std.specs.List.{slice_split, list_any}
use Rattle.std.specs.Option.{option_map}
use Rattle.std.specs.Ordering.{int_eq}
use Rattle.std.specs.Result.{result_ok}
use Rattle.std.specs.Str.{is_utf8, all_ascii_digits}
use Rattle.std.specs.Str.Parse.{digits_value, starts_with_minus}
use Rattle.hex.specs.Hex.{decode_of}
use Rattle.messages.specs.declared.request.Count.{Count}
use Rattle.messages.specs.declared.request.Count.TheVariants.{All, Of}
use Rattle.cli_scripts.specs.Views.{Text}

-- parted by one blank each
abbrev pub parts_of : Text → List Text
parts_of line = slice_split (λ b. b == 32) line

-- whether a text has no bytes
abbrev pub is_empty : Text → Bool
is_empty [] = true
is_empty (x ∷ xs) = false

-- the words of a line: it is UTF-8, and none of them is empty
abbrev pub words_of : Text → Option (List Text)
words_of line = if is_utf8 line && not (list_any is_empty (parts_of line)) then Some (parts_of line)
    else None

-- decimal digits, one or more, and nothing else
abbrev pub is_decimal : Text → Bool
is_decimal word = not (is_empty word) && all_ascii_digits word

-- the number of decimal digits that is below a limit
abbrev pub number_below : ℕ → Text → Option ℕ
number_below limit word =
    if is_decimal word && nat_lt (digits_value 10 word) limit then Some (digits_value 10 word)
    else None

-- the number of a connection, or of bytes: of 64 bits, without a sign
abbrev pub number_of : Text → Option ℕ
number_of word = number_below 18446744073709551616 word

-- what follows the minus, if there is one
abbrev pub without_minus : Text → Text
without_minus word = if starts_with_minus word then drop 1 word else word

-- a number of 64 bits of which a minus alone may be the sign
abbrev pub whole_of : Text → Option ℤ
whole_of word =
    if starts_with_minus word
    then option_map (λ n. neg_ℤ (pos n)) (number_below 9223372036854775809 (drop 1 word))
    else option_map (λ n. pos n) (number_below 9223372036854775808 word)

-- a count of rows: -1 is all
abbrev pub count_of : ℤ → Count
count_of z = if int_eq z (negsuc 0) then All else Of z

-- the bytes that hex of either case spells, one or more
abbrev pub bytes_of : Text → Option (List ℕ)
bytes_of [] = None
bytes_of (c ∷ cs) = result_ok (decode_of (c ∷ cs))
