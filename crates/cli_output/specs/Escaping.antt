-- How a stranger's text is printed, so that it can't forge a line: some characters by their numbers.
use Rattle.std.specs.Prelude.{ℕ, ◌==◌, nat_lt, not, if◌then◌else◌, Bool, false, List, [], ◌∷◌, ◌++◌, codes}
use Rattle.std.specs.Int.{is_in_range}
use Rattle.std.specs.List.{flat_map, list_all, list_any}
use Rattle.std.specs.Fmt.{digits}
use Rattle.std.specs.Str.{chars, encode_utf8_all}

-- the characters that are never printed as they are, from the first of each row to its last
abbrev pub unprintable : List (ℕ × ℕ)
unprintable =
    (0x0, 0x1F)  -- control characters, a line's end among them
    ∷ (0x7F, 0x9F)  -- DEL, and control characters
    ∷ (0x61C, 0x61C)  -- Arabic letter mark
    ∷ (0x200B, 0x200F)  -- blanks and joiners of no width, and marks that turn text
    ∷ (0x2028, 0x202E)  -- the separators of lines and paragraphs; embeddings and overrides, which turn text
    ∷ (0x2060, 0x2064)  -- a joiner of no width, and invisible operators
    ∷ (0x2066, 0x206F)  -- isolates, which turn text, and controls that nobody should use
    ∷ (0xFEFF, 0xFEFF)  -- the mark of the order of bytes, of no width
    ∷ (0xE0001, 0xE0001)  -- the tag of a language
    ∷ (0xE0020, 0xE007F)  -- tag characters, which are hidden
    ∷ []

-- a character is never printed as it is
abbrev pub is_unprintable : ℕ → Bool
is_unprintable c = list_any (λ range. is_in_range range.0 range.1 c) unprintable

-- a number in lower case hex, of two digits at least
abbrev pub hex_number : ℕ → List ℕ
hex_number n = if nat_lt n 16 then 48 ∷ digits 16 false n else digits 16 false n

-- a character by its number, after a backslash: a line's end as `\n`, every other as `\u{1b}` or `\u{202e}`
abbrev pub escape : ℕ → List ℕ
escape c = if c == 10 then codes "\\n" else codes "\\u{" ++ hex_number c ++ codes "}"

-- the characters that are printed of one
abbrev pub shown : ℕ → List ℕ
shown c = if is_unprintable c then escape c else c ∷ []

-- what is printed of a text
abbrev pub escaped : List ℕ → List ℕ
escaped text = encode_utf8_all (flat_map shown (chars text))

-- each character of a text may be printed as it is
abbrev pub is_clean : List ℕ → Bool
is_clean text = list_all (λ c. not (is_unprintable c)) (chars text)
