-- What waits to go, once it is gone.
use Rattle.std.proofs.Common.{◌≡◌, ◌≤◌, ℕ, List, [], length, drop, sym}
use Rattle.std.proofs.lemmas.List.{drop_all}

pub gone_all : (n : ℕ) (bs : List ℕ) → length bs ≤ n → [] ≡ drop n bs
gone_all n bs h = sym (drop_all n bs h)
