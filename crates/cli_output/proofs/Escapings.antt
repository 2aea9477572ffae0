-- What is printed of a stranger's text may be printed as it is, and is the text itself where all of that may be.
pub use Rattle.std.proofs.Common.{◌≡◌, refl, ap, sym, ◌∙◌, append-nil, ℕ, zero, suc, ◌/◌, ◌%◌, List, [], ◌∷◌, Bool, true, false, arith, ◌&&◌, not, nat_lt, if◌then◌else◌}
pub use Rattle.std.proofs.Common.{IsUtf8, flat_map, chars, encode_utf8_all, string_bytes}
pub use Rattle.std.proofs.lemmas.Grind.{flat_map-append}
use Rattle.std.specs.List.{list_all}
use Rattle.std.specs.Fmt.{digits, digits_onto, digit_glyph}
use Rattle.std.proofs.Math.Utf8.{scalar}
use Rattle.std.proofs.lemmas.Bool.{agree_below_at}
use Rattle.std.proofs.lemmas.Bool.Decides.{nat_tests}
use Rattle.std.proofs.lemmas.List.Folds.{list_all-append}
pub use Rattle.std.proofs.lemmas.Str.{chars-encodes, encodes-append, encodes-chars, scalars-chars, encode_ascii}
pub use Rattle.cli_output.specs.Prelude.{is_unprintable, escape, shown, escaped, is_clean}

-- characters may be printed as they are
abbrev AreClear : (ℕ → Bool) → (ℕ → Bool) → List ℕ → Type 0
AreClear good bad cs = (list_all good cs ≡ true) × (list_all (λ c. not (bad c)) cs ≡ true)

-- a character of ASCII may be
abbrev is_plain : ℕ → Bool
is_plain c = nat_lt c 128 && not (is_unprintable c)

digits_plain : (k n : ℕ) (acc : List ℕ) → list_all is_plain acc ≡ true → list_all is_plain (digits_onto k 16 false n acc) ≡ true
digits_plain zero n acc h = h
digits_plain (suc k) n acc h =
    let glyph = agree_below_at (λ d. is_plain (digit_glyph false d)) (λ d. true) 16 (n % 16) refl (omega arith) in
    grind (arith, glyph, h, digits_plain k (n / 16) (digit_glyph false (n % 16) ∷ acc) (rw glyph h))

plain_alike : (cs : List ℕ) → list_all is_plain cs ≡ true → (encode_utf8_all cs ≡ cs) × AreClear scalar is_unprintable cs
plain_alike [] h = (refl, (refl, refl))
plain_alike (c ∷ cs) h = grind (arith, nat_tests, encode_ascii, plain_alike cs)

-- a character by its number is spelled in ASCII that may be printed
pub escape_alike : (c : ℕ) → (encode_utf8_all (escape c) ≡ escape c) × AreClear scalar is_unprintable (escape c)
unfolding digits
escape_alike c = plain_alike (escape c) (grind (arith, digits_plain 64 c [] refl, list_all-append))

module _ (good bad : ℕ → Bool) (alt : ℕ → List ℕ) where
  shown_clear : ((c : ℕ) → AreClear good bad (alt c)) → (cs : List ℕ) → list_all good cs ≡ true → AreClear good bad (flat_map (λ c. if bad c then alt c else c ∷ []) cs)
  shown_clear h [] k = (refl, refl)
  shown_clear h (c ∷ cs) k = grind (arith, list_all-append, h c, shown_clear h cs)

  shown_same : (cs : List ℕ) → list_all (λ c. not (bad c)) cs ≡ true → flat_map (λ c. if bad c then alt c else c ∷ []) cs ≡ cs
  shown_same [] h = refl
  shown_same (c ∷ cs) h = grind (arith, shown_same cs)

pub escaped_clean : (t : List ℕ) → IsUtf8 t → is_clean (escaped t) ≡ true
escaped_clean t u =
    let h = shown_clear scalar is_unprintable escape (λ c. (escape_alike c).1) (chars t) (scalars-chars t u) in rw (chars-encodes (flat_map shown (chars t)) h.0) h.1

-- a text that may be printed as it is, is
pub escaped_same : (t : List ℕ) → IsUtf8 t → is_clean t ≡ true → escaped t ≡ t
escaped_same t u h = rw (shown_same scalar is_unprintable escape (chars t) h) (encodes-chars t u)
