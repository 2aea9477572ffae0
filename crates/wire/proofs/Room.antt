-- Where room is wanted: where data of a piece comes, and where a message ends.
use Rattle.std.proofs.Common.{◌≡◌, ◌<◌, ◌+◌, ◌-◌, ◌*◌, ◌==◌, ℕ, List, [], ◌∷◌, ◌++◌, length, Bool, true, false, cond, eqb, nat_lt, ◌||◌, Option, Some, None, Result, Ok, Err, refl, sym, ap, ◌∙◌, arith, length-append}
use Rattle.std.proofs.lemmas.Bool.{or_left, or_right, eqb-false, lt-ltb}
use Rattle.std.proofs.lemmas.Bool.Decides.{nat_tests}
use Rattle.wire.specs.declared.items.Fed.{Fed}
use Rattle.wire.specs.declared.faults.WireFault.{WireFault}
use Rattle.wire.specs.declared.faults.WireFault.TheVariants.{TooBig, Memory}
use Rattle.wire.specs.declared.parts.Part.TheVariants as part
use Rattle.wire.specs.declared.parts.Cut.{Cut}
use Rattle.wire.specs.Prelude.{Place, cut_at, Unfinished, fresh, unfinished_at, Step, goes, ends, refused, open_at, next, item_of, later, Answered, further, after_step, answer_from, hands_out, wants_room}
use Rattle.wire.specs.Parts as parts
use Rattle.wire.proofs.Limits.{next_case}

pub later_hands : (n : ℕ) (r : Result Fed WireFault) → hands_out (later n r) ≡ hands_out r
later_hands n (Ok fed) = refl
later_hands n (Err (TooBig used)) = refl
later_hands n (Err Memory) = refl

pub further_wants : (k n : ℕ) (c : Answered) → wants_room n (further k c) ≡ wants_room n c
further_wants k n c = ap (λ b. nat_lt n (length c.rest.body) || b) (later_hands k c.answer)

-- a message ends with some data
pub ends_wants : (n used : ℕ) (body : List ℕ) → 0 < length body → wants_room n (record { answer = Ok (record { used = used; what = item_of body }); rest = fresh }) ≡ true
ends_wants n used [] h = absurd (omega arith)
ends_wants n used (x ∷ xs) h = or_right (nat_lt n 0) true refl

-- What a byte makes of an item that has more data than was held.
abbrev HasMore : ℕ → Step → Type 0
HasMore n (goes t) = (t.too_big ≡ false) × (n < length t.body)
HasMore n (ends body) = n < length body
HasMore n (refused body) = n < length body

step_wants : (n : ℕ) (s : Step) (bytes : List ℕ) → HasMore n s → ((t : Unfinished) → t.too_big ≡ false → n < length t.body → wants_room n (answer_from t bytes) ≡ true)
    → wants_room n (after_step s (λ t. answer_from t bytes)) ≡ true
step_wants n (goes t) bytes h more = further_wants 1 n (answer_from t bytes) ∙ more t h.0 h.1
step_wants n (ends body) bytes h more = ends_wants n 1 body (omega arith)
step_wants n (refused body) bytes h more = or_left (nat_lt n (length body)) false (lt-ltb n (length body) h)

held_wants : (n : ℕ) (t : Unfinished) (bytes : List ℕ) → t.too_big ≡ false → n < length t.body → wants_room n (answer_from t bytes) ≡ true
held_wants n t [] e h = or_left (nat_lt n (length t.body)) false (lt-ltb n (length t.body) h)
held_wants n t (byte ∷ bytes) e h = step_wants n (next t byte) bytes (next_case (HasMore n) t byte h h (refl, h) (λ some. (refl, omega (arith, length-append t.body (byte ∷ [])))) (λ m some fits. (refl, h))) (λ u f k. held_wants n u bytes f k)

-- data that comes is kept, or ends with its message
pub data_wants : (t : Unfinished) (piece : List ℕ) → t.too_big ≡ false → 0 < t.lacks → 0 < length piece → wants_room (length t.body) (answer_from t piece) ≡ true
data_wants t [] e l h = absurd (omega arith)
data_wants t (byte ∷ bytes) e l h =
    let some : eqb t.lacks 0 ≡ false = grind (arith, nat_tests) in
    rw (e, some) (step_wants (length t.body) (goes (open_at (t.body ++ byte ∷ []) t.header (t.lacks - 1))) bytes (refl, omega (arith, length-append t.body (byte ∷ []))) (λ u f k. held_wants (length t.body) u bytes f k))

-- a part is data only where the chunk lacks some
whole_cut : (used sum m : ℕ) → (parts.on_length used sum m).cut.what ≡ part.Data → ⊥
whole_cut used sum m h = grind arith

header_cut : (p : Place) (header : Option ℕ) (piece : List ℕ) → (parts.on_header p header piece).cut.what ≡ part.Data → ⊥
header_cut p None [] h = cc
header_cut p (Some high) [] h = cc
header_cut p (Some high) (low ∷ more) h = whole_cut 1 p.sum (high * 256 + low) h
header_cut p None (high ∷ []) h = cc
header_cut p None (high ∷ low ∷ more) h = whole_cut 2 p.sum (high * 256 + low) h

data_by : (p : Place) (piece : List ℕ) (a b : Bool) → a ≡ false → (p.lacks == 0) ≡ b → (cond a (parts.bite 0 part.TooBig p) (cond b (parts.on_header p p.header piece) (parts.on_data p piece))).cut.what ≡ part.Data → 0 < p.lacks
data_by p piece true b e f h = absurd cc
data_by p piece false true e f h = absurd (header_cut p p.header piece h)
data_by p piece false false e f h = let off : p.lacks ≡ 0 → ⊥ = eqb-false _ _ f in omega arith

pub part_wants : (p : Place) (body piece : List ℕ) (c : Cut) → p.too_big ≡ false → 0 < length piece → c ≡ (cut_at p piece).cut → c.what ≡ part.Data → wants_room (length body) (answer_from (unfinished_at p body) piece) ≡ true
part_wants p body piece c e some is came =
    data_wants (unfinished_at p body) piece e (data_by p piece p.too_big (p.lacks == 0) e refl (ap (λ (x : Cut). x.what) (sym is) ∙ came)) some
