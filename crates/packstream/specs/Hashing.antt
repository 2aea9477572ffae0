-- Keys that were seen, each behind its hash. Private functions and proofs alone need it.
use Rattle.std.specs.Prelude.{◌≡◌, ◌≢◌, ◌≤◌, ℕ, zero, suc, ◌+◌, ◌*◌, ◌%◌, ◌^◌, List, length, slice_index_or, fold, Bool, true, false, ◌||◌, Option, Some, None}
use Rattle.std.specs.List.{slice_get}
use Rattle.std.specs.Str.{bytes_eq}
use Rattle.std.specs.Ordering.{nat_cmp, ordering_then}
use Rattle.std.specs.Cmp.Lexicographic.{slice_cmp}
use Rattle.std.specs.BTreeSet.{BTreeSet, contains_by}
use Rattle.std.specs.Borrow.{Bor}
use Rattle.packstream.specs.Good.{is_among}
use Rattle.packstream.specs.declared.places.Seen.{Seen}

-- the hash with one byte more
unfoldable pub hash_more : ℕ → ℕ → ℕ
hash_more h b = (h * 0x100000001B3 % 2 ^ 64 + b) % 2 ^ 64

-- the hash of a key's bytes
abbrev pub hash : List ℕ → ℕ
hash s = fold hash_more 0 s

-- the number in the place that a key's hash chooses: 0, or that of a key from 1
abbrev pub in_place : Seen → List ℕ → ℕ
in_place seen s = slice_index_or seen.places.items (hash s % length seen.places.items) 0

-- the key that has the number
abbrev pub numbered : List (List ℕ) → ℕ → Option (List ℕ)
numbered before zero = None
numbered before (suc i) = slice_get before i

-- what stands there is the key
abbrev pub is_key : Option (List ℕ) → List ℕ → Bool
is_key None s = false
is_key (Some k) s = bytes_eq s k

-- the key is in the set of the others, behind its hash
abbrev pub is_other : BTreeSet (ℕ × Bor (List ℕ)) → List ℕ → Bool
is_other others s =
    contains_by (λ e. ordering_then (nat_cmp (hash s) e.0) (slice_cmp nat_cmp s e.1.now)) others

-- These keys were seen and no others; no place is free that a key of the set would have; and numbers are those of keys.
pub record Knows (seen : Seen) (before : List (List ℕ)) : Type 0 where
  pub same : (s : List ℕ) → (is_key (numbered before (in_place seen s)) s || is_other seen.others s) ≡ is_among s before
  pub filled : (s : List ℕ) → is_other seen.others s ≡ true → in_place seen s ≢ 0
  pub within : (s : List ℕ) → in_place seen s ≤ length before
