-- Where a piece wants room, by what comes of it.
use Rattle.std.proofs.Common.{◌≡◌, ◌<◌, ◌≤◌, ℕ, List, [], ◌∷◌, length, Bool, true, false, nat_lt, ◌||◌, Result, Ok, Err, refl, ap, ◌∙◌, arith}
use Rattle.std.proofs.lemmas.Bool.{or_left, or_right}
use Rattle.std.proofs.lemmas.Bool.Decides.{nat_tests}
use Rattle.wire.specs.declared.items.Fed.{Fed}
use Rattle.wire.specs.declared.faults.WireFault.{WireFault}
use Rattle.wire.specs.declared.faults.WireFault.TheVariants.{TooBig, Memory}
use Rattle.wire.specs.Prelude.{Unfinished, fresh, item_of, later, Answered, further, answer_from, hands_out, wants_room}

later_hands : (n : ℕ) (r : Result Fed WireFault) → hands_out (later n r) ≡ hands_out r
later_hands n (Ok fed) = refl
later_hands n (Err (TooBig used)) = refl
later_hands n (Err Memory) = refl

-- the same after some bytes
pub further_wants : (k n : ℕ) (c : Answered) → wants_room n (further k c) ≡ wants_room n c
further_wants k n c = ap (λ b. nat_lt n (length c.rest.body) || b) (later_hands k c.answer)

less : (m n k : ℕ) → m ≤ n → nat_lt n k ≡ true → nat_lt m k ≡ true
less m n k h e = grind (arith, nat_tests)

either : (a b hands : Bool) → (a ≡ true → b ≡ true) → (a || hands) ≡ true → (b || hands) ≡ true
either true b hands f e = or_left b hands (f refl)
either false b hands f e = or_right b hands e

-- what holds less wants no less
pub fewer_wants : (m n : ℕ) (c : Answered) → m ≤ n → wants_room n c ≡ true → wants_room m c ≡ true
fewer_wants m n c h e = either (nat_lt n (length c.rest.body)) (nat_lt m (length c.rest.body)) (hands_out c.answer) (less m n (length c.rest.body) h) e

ended_wants : (n used : ℕ) (body : List ℕ) → 0 < length body → wants_room n (record { answer = Ok (record { used = used; what = item_of body }); rest = fresh }) ≡ true
ended_wants n used [] some = absurd (omega arith)
ended_wants n used (x ∷ xs) some = or_right (nat_lt n 0) true refl

-- a message ends there
pub comes_end : (u : Unfinished) (piece : List ℕ) (used more : ℕ) (body : List ℕ) (c : Answered) → answer_from u piece ≡ further used c
    → c ≡ record { answer = Ok (record { used = more; what = item_of body }); rest = fresh } → 0 < length body → wants_room (length u.body) (answer_from u piece) ≡ true
comes_end u piece used more body c ahead is some =
    ap (wants_room (length u.body)) ahead ∙ further_wants used (length u.body) c ∙ ap (wants_room (length u.body)) is ∙ ended_wants (length u.body) more body some
