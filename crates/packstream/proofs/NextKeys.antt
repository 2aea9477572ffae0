-- A key, read as a text and then compared.
use Rattle.packstream.proofs.Words.{◌≡◌, ℕ, suc, false, List, [], ◌∷◌, length, if◌then◌else◌, Option, Some, None, Ok, Err, refl, arith, Reason, Marker, Tree, text, Read, ◌>>=◌, is_among, marker, int_at, text_at, key_of, key_at, list_at, dict_at, struct_at, form_at, layer}

as_text : List ℕ × List ℕ → Read Tree
as_text s = Ok (text s.0, s.1)

text_alone : (r : Read (List ℕ)) (k after : List ℕ) → r >>= as_text ≡ Ok (text k, after) → r ≡ Ok (k, after)
unfolding as_text
text_alone (Ok s) k after e = grind arith
text_alone (Err d) k after e = grind arith

key_of_form : (before : List (List ℕ)) (left : ℕ) (m : Option Marker) (rest k after : List ℕ) → form_at None left m rest ≡ Ok (text k, after) → key_of before left m rest ≡ (if is_among k before then Err (Reason.KeyTwice, left) else Ok (k, after))
unfolding form_at key_of int_at list_at dict_at struct_at as_text
key_of_form before left None rest k after e = grind arith
key_of_form before left (Some Marker.Null) rest k after e = grind arith
key_of_form before left (Some (Marker.Bool b)) rest k after e = grind arith
key_of_form before left (Some (Marker.Tiny z)) rest k after e = grind arith
key_of_form before left (Some (Marker.Int w)) rest k after e = grind arith
key_of_form before left (Some Marker.Float) rest k after e = grind arith
key_of_form before left (Some (Marker.Bytes size)) rest k after e = grind arith
key_of_form before left (Some (Marker.Text size)) rest k after e = rw (text_alone (text_at left size rest) k after e) refl
key_of_form before left (Some (Marker.List size)) rest k after e = grind arith
key_of_form before left (Some (Marker.Dict size)) rest k after e = grind arith
key_of_form before left (Some (Marker.Struct n)) rest k after e = grind arith

-- a text that is the next value is the next key, unless it is one of those before
pub key_of_text : (before : List (List ℕ)) (b k after : List ℕ) → layer None b ≡ Ok (text k, after) → key_at before b ≡ (if is_among k before then Err (Reason.KeyTwice, length b) else Ok (k, after))
unfolding layer key_at
key_of_text before [] k after e = grind arith
key_of_text before (b ∷ rest) k after e = key_of_form before (suc (length rest)) (marker b) rest k after e

pub new_key : (before : List (List ℕ)) (b k after : List ℕ) → is_among k before ≡ false → layer None b ≡ Ok (text k, after) → key_at before b ≡ Ok (k, after)
new_key before b k after unseen e = rw (key_of_text before b k after e, unseen) refl
