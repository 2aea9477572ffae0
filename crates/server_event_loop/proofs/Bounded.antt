-- How many calls are made in so many rounds.
use Rattle.std.proofs.Common.{◌≡◌, ℕ, ◌+◌, ◌*◌, ◌<◌, ◌≤◌, arith, add-one, ap, ◌∙◌}
use Rattle.std.proofs.Math.Nat.{suc-mul, mul-le-mul_right}

-- the calls of one round more
pub one_more : (n s : ℕ) → n * s + (s + 0) ≤ (n + 1) * s
one_more n s = let e : (n + 1) * s ≡ n * s + s = ap (λ (k : ℕ). k * s) (add-one n) ∙ suc-mul n s in omega (arith, e)

-- rounds that are not all
pub some_rounds : (m n s : ℕ) → m ≤ n → m * s ≤ n * s
some_rounds m n s l = mul-le-mul_right s l

-- some rounds, and a further one of which no more than the steps are made
pub and_one : (m n s : ℕ) → m < n → m * s + s ≤ n * s
and_one m n s l =
    let e : (m + 1) * s ≡ m * s + s = ap (λ (k : ℕ). k * s) (add-one m) ∙ suc-mul m s in
    let f : (m + 1) * s ≤ n * s = some_rounds (m + 1) n s (omega arith) in
    omega (arith, e, f)

-- the same where a read follows
pub and_read : (m n s : ℕ) → m < n → m * s + (s + 0) ≤ n * s
and_read m n s l = let e : m * s + s ≤ n * s = and_one m n s l in omega (arith, e)
