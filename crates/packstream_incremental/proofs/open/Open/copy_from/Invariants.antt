use Rattle.std.proofs.Common.{◌≡◌, ◌≤◌, ◌<◌, ◌-◌, ℕ, slice_get}
use Rattle.packstream_incremental.proofs.open.Open.copy_from.Given as goal

abbrev pub invariant-loop-at : goal.invariant-loop-at
invariant-loop-at l =
    (l.at ≤ l.other.depth)
    × ((i : ℕ) → i < l.at → slice_get l.self.around i ≡ slice_get l.other.around i)

abbrev pub decreases-loop-at : goal.decreases-loop-at
decreases-loop-at l = l.other.depth - l.at
