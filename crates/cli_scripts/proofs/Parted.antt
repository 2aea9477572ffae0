-- The words of a line, joined, and of bytes that are none.
use Rattle.std.proofs.Common.{◌≡◌, ℕ, ◌≤◌, false, List, ◌∷◌, length, Some, None, refl, arith, ◌↔◌, ◌<◌, ◌==◌, ◌&&◌, not, Bool, true, cond, [], ◌++◌, sym, ap, ◌∙◌, subst, IsUtf8}
use Rattle.std.specs.List.{list_any, list_all, join_with_byte, onto_first}
use Rattle.std.specs.Str.{is_utf8}
use Rattle.std.proofs.lemmas.Str.{IsUtf8-from_is_utf8, is_utf8-from_IsUtf8}
use Rattle.std.proofs.lemmas.Bool.{false_from_ne_true, and_parts, not-true, or_parts}
use Rattle.cli_scripts.specs.Prelude.{parts_of, is_empty, words_of, of_words, ending_of, Text, is_word, AreWords}
use Rattle.std.proofs.lemmas.List.Splits.{length-slice_split, join_with_byte-slice_split}

pub no_words : (line : List ℕ) → ¬ (IsUtf8 line) → words_of line ≡ None
no_words line h = let e : is_utf8 line ≡ false = false_from_ne_true _ (λ t. h (IsUtf8-from_is_utf8 line t)) in rw e refl

pub whole_words : (line : List ℕ) → IsUtf8 line → list_any is_empty (parts_of line) ≡ false → words_of line ≡ Some (parts_of line)
whole_words line u e = rw (is_utf8-from_IsUtf8 line u, e) refl

-- what ends a request has three words at most
pub too_many : (words : List (List ℕ)) → 4 ≤ length words → ending_of words ≡ None
too_many (a ∷ b ∷ c ∷ d ∷ rest) h = refl
too_many _ h = absurd (omega arith)

-- other requests have one word or two
pub too_long : (name : List ℕ) (words : List (List ℕ)) → 2 ≤ length words → of_words name words ≡ None
too_long name (a ∷ b ∷ rest) h = refl
too_long name _ h = absurd (omega arith)

abbrev is_blank : ℕ → Bool
is_blank b = b == 32

abbrev has_blank : Text → Bool
has_blank w = list_any is_blank w

-- a word without a blank is the one part, or the first
alone : (w : Text) → has_blank w ≡ false → parts_of w ≡ w ∷ []
alone [] h = refl
alone (x ∷ w) h = let p = or_parts (is_blank x) (has_blank w) h in rw (p.0, alone w p.1) refl

first : (w rest : Text) → has_blank w ≡ false → parts_of (w ++ (32 ∷ rest)) ≡ w ∷ parts_of rest
first [] rest h = refl
first (x ∷ w) rest h = let p = or_parts (is_blank x) (has_blank w) h in rw (p.0, first w rest p.1) refl

word_parts : (w : Text) → is_word w ≡ true → (is_empty w ≡ false) × (has_blank w ≡ false)
word_parts w h = let p = and_parts (not (is_empty w)) (not (has_blank w)) h in (not-true (is_empty w) p.0, not-true (has_blank w) p.1)

-- words that are joined are parted again
again : (ws : List Text) → 0 < length ws → list_all is_word ws ≡ true → parts_of (join_with_byte 32 ws) ≡ ws
again [] some h = absurd (omega arith)
again (w ∷ []) some h = alone w (word_parts w (and_parts (is_word w) true h).0).1
again (w ∷ v ∷ ws) some h =
    let p = and_parts (is_word w) (list_all is_word (v ∷ ws)) h in
    first w (join_with_byte 32 (v ∷ ws)) (word_parts w p.0).1 ∙ ap (λ rest. w ∷ rest) (again (v ∷ ws) (omega arith) p.1)

none_empty : (ws : List Text) → list_all is_word ws ≡ true → list_any is_empty ws ≡ false
none_empty [] h = refl
none_empty (w ∷ ws) h = let p = and_parts (is_word w) (list_all is_word ws) h in rw ((word_parts w p.0).0, none_empty ws p.1) refl

-- the parts have no blank
abbrev has_none : Text → Bool
has_none w = not (has_blank w)

onto : (x : ℕ) (parts : List Text) → is_blank x ≡ false → list_all has_none parts ≡ true → list_all has_none (onto_first x parts) ≡ true
onto x [] e h = rw e refl
onto x (w ∷ parts) e h = rw e h

parts_by : (x : ℕ) (parts : List Text) (b : Bool) → is_blank x ≡ b → list_all has_none parts ≡ true → list_all has_none (cond b ([] ∷ parts) (onto_first x parts)) ≡ true
parts_by x parts true e h = h
parts_by x parts false e h = onto x parts e h

unblanked : (line : Text) → list_all has_none (parts_of line) ≡ true
unblanked [] = refl
unblanked (x ∷ line) = parts_by x (parts_of line) (is_blank x) refl (unblanked line)

words_all : (ws : List Text) → list_any is_empty ws ≡ false → list_all has_none ws ≡ true → list_all is_word ws ≡ true
words_all [] e h = refl
words_all (w ∷ ws) e h =
    let p = or_parts (is_empty w) (list_any is_empty ws) e in
    let q = and_parts (has_none w) (list_all has_none ws) h in
    rw (p.0, q.0, words_all ws p.1 q.1) refl

some_words : (line : Text) → 0 < length (parts_of line)
some_words line = omega (arith, length-slice_split is_blank line)

words_by : (line : Text) (ws : List Text) (u e : Bool) → is_utf8 line ≡ u → list_any is_empty (parts_of line) ≡ e → cond (u && not e) (Some (parts_of line)) None ≡ Some ws → AreWords line ws
words_by line ws true false u e h =
    let same : parts_of line ≡ ws = cc in
    let P : List Text → Type 0 = λ vs. AreWords line vs in
    subst P same (record {
      utf8 = IsUtf8-from_is_utf8 line u;
      some = some_words line;
      words = words_all (parts_of line) e (unblanked line);
      joined = join_with_byte-slice_split 32 line;
    })
words_by line ws _ _ u e h = absurd cc

pub are_words : (line : Text) (ws : List Text) → (words_of line ≡ Some ws) ↔ AreWords line ws
are_words line ws = (
  (λ (h : words_of line ≡ Some ws). words_by line ws (is_utf8 line) (list_any is_empty (parts_of line)) refl refl h),
  (λ (h : AreWords line ws).
      let same : parts_of line ≡ ws = ap parts_of (sym h.joined) ∙ again ws h.some h.words in
      whole_words line h.utf8 (ap (list_any is_empty) same ∙ none_empty ws h.words) ∙ ap Some same),
)
