-- The responses of a server that are neither rows nor the SUCCESS of a RUN: what they are written as, how long that is, and what it stands for.
use Rattle.messages.proofs.Words.{◌≡◌, ◌<◌, ◌≤◌, ◌^◌, ℕ, List, ◌++◌, length, false, None, Some, Ok, refl, arith, IsUtf8, decimal, length-append, IsUtf8-append, IsUtf8-from_ascii, IsAscii-decimal, length-decimal-le, IsPlain, long_head, head, int_bytes, canon, first_fault, faults_in, good_when, fits_pos, Version, Read, responses, contents_of_message, response_contents, form_put, response_spelling, Summary, Closing, response_of_summary, IsShort, room, FitsRoom, ReadsBack, is_utf8, chars, IsUtf8-from_is_utf8}
use Rattle.messages.specs.Prelude.{form_of, HasTexts}
use Rattle.messages.proofs.Sent.{sized_fits, means_of}

-- the form is written, has no fault, and says the response again
abbrev IsWhole : Version → Summary → Type 0
IsWhole v s = (form_put v (response_contents (response_of_summary s)) ≡ Ok (form_of s))
    × ((n : ℕ) × (Ok n ≡ first_fault (faults_in 0 false (form_of s)) 0))
    × (contents_of_message v responses (form_of s) ≡ Ok (response_contents (response_of_summary s)))

whole : (v : Version) (s : Summary) → IsWhole v s
unfolding first_fault
whole v (Closing None Read) = (refl, (_, refl), refl)
whole v (Closing (Some n) Read) = (refl, (_, refl), refl)
whole v s = (refl, (_, refl), refl)

-- How long it is.
head_le : (tiny m n : ℕ) → length (head tiny m n) ≤ 5
unfolding head long_head
head_le tiny m n = grind arith

digits_le : (n : ℕ) → n < 2 ^ 64 → length (decimal n) ≤ 20
digits_le n h = length-decimal-le 20 n (omega arith) (omega arith) h

pub form_le : (s : Summary) → IsShort s → length (canon (form_of s)) ≤ room s
unfolding head int_bytes
form_le s h = grind (arith, length-append {A = ℕ}, head_le, digits_le)

pub room_le : (s : Summary) → IsShort s → room s ≤ 65536
room_le s h = grind arith

-- its spelling
pub text_is : (v : Version) (s : Summary) → IsShort s → response_spelling v (response_of_summary s) ≡ Ok (canon (form_of s))
unfolding response_spelling
text_is v s h = grind (arith, whole v s, sized_fits (form_of s), form_le s h, room_le s h)

pub fits_room : (v : Version) (s : Summary) → IsShort s → FitsRoom v s
fits_room v s h = (canon (form_of s), text_is v s h, form_le s h)

-- Its texts are UTF-8.
numbered : (s : List ℕ) (n : ℕ) → IsUtf8 s → n < 2 ^ 64 → IsUtf8 (s ++ decimal n)
numbered s n u h = IsUtf8-append s (decimal n) u (IsUtf8-from_ascii (decimal n) (IsAscii-decimal n h))

plain_form : (s : Summary) → IsShort s → HasTexts s → IsPlain (form_of s)
unfolding lib.Utf8.encode chars is_utf8
plain_form (Closing None Read) h u = search (arith, numbered, IsUtf8-from_is_utf8, fits_pos)
plain_form (Closing (Some n) Read) h u = search (arith, numbered, IsUtf8-from_is_utf8, fits_pos)
plain_form s h u = search (arith, numbered, IsUtf8-from_is_utf8, fits_pos)

pub reads_back : (v : Version) (s : Summary) → IsShort s → HasTexts s → ReadsBack v s
unfolding response_spelling
reads_back v s h u =
    let r = response_contents (response_of_summary s) in let w = whole v s in let good = good_when (form_of s) w.1.0 w.1.1 (plain_form s h u) in
    (canon (form_of s), text_is v s h, means_of (form_put v r) (form_of s) v responses r (canon (form_of s)) w.0 good w.2 (text_is v s h))
