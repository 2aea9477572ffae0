-- What waits, as the list of what arrived.
use Rattle.std.proofs.Common.{◌≡◌, ◌≤◌, ◌+◌, ◌∙◌, refl, ap, drop, ℕ, nat_lt, Bool, true, false, if◌then◌else◌, List, [], ◌∷◌, ◌++◌, length, ◌||◌, arith}
use Rattle.std.proofs.lemmas.Bool.Decides.{nat_tests}
use Rattle.server_session.specs.declared.waiting.Waiting.{Waiting}
use Rattle.server_session.specs.declared.waiting.Waiting.TheVariants as waiting
use Rattle.messages.specs.Prelude.{request_view}
use Rattle.machine.specs.Prelude.{kind_of, is_reset}
use Rattle.server_session.specs.Prelude.{unread_among, reset_among, waiting_in, is_unread, is_reset_in, one_of, count_of, first_of, turn_in, turn_by}

-- what is counted is found
counted_or : (b : Bool) (n : ℕ) (r : Bool) → nat_lt 0 n ≡ r → nat_lt 0 ((if b then 1 else 0) + n) ≡ (b || r)
counted_or true n r e = grind (arith, nat_tests)
counted_or false n r e = let z : 0 + n ≡ n = omega arith in ap (λ m. nat_lt 0 m) z ∙ e

pub some_reset : (ws : List Waiting) → nat_lt 0 (count_of is_reset_in ws) ≡ reset_among (waiting_in ws)
some_reset [] = refl
some_reset (waiting.Asked q ∷ ws) = counted_or (is_reset (kind_of (request_view q))) (count_of is_reset_in ws) (reset_among (waiting_in ws)) (some_reset ws)
some_reset (w ∷ ws) = counted_or false (count_of is_reset_in ws) (reset_among (waiting_in ws)) (some_reset ws)

pub some_unread : (ws : List Waiting) → nat_lt 0 (count_of is_unread ws) ≡ unread_among (waiting_in ws)
some_unread [] = refl
some_unread (waiting.Asked q ∷ ws) = counted_or false (count_of is_unread ws) (unread_among (waiting_in ws)) (some_unread ws)
some_unread (w ∷ ws) = counted_or true (count_of is_unread ws) (nat_lt 0 (count_of is_unread ws)) refl

pub count_pushed : (p : Waiting → Bool) (ws : List Waiting) (w : Waiting) → count_of p (ws ++ (w ∷ [])) ≡ count_of p ws + one_of p w
count_pushed p [] w = omega arith
count_pushed p (x ∷ ws) w = let h = count_pushed p ws w in omega (arith, h)

one_at_most : (b : Bool) → (if b then 1 else 0) ≤ 1
one_at_most true = omega arith
one_at_most false = omega arith

pub count_few : (p : Waiting → Bool) (ws : List Waiting) → count_of p ws ≤ length ws
count_few p [] = omega arith
count_few p (w ∷ ws) = omega (arith, count_few p ws, one_at_most (p w))

pub first_turn : (ws : List Waiting) → turn_by (first_of ws) ≡ turn_in (waiting_in ws)
first_turn (waiting.Asked q ∷ ws) = refl
first_turn _ = refl

-- what waits once the first has left
pub first_gone : (ws : List Waiting) → waiting_in (drop 1 ws) ≡ drop 1 (waiting_in ws)
first_gone [] = refl
first_gone (w ∷ ws) = refl
