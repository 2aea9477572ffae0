use Rattle.std.proofs.Common.{◌≡◌, map, take}
use Rattle.client_tracking.specs.Holding.{reply_view}
use Rattle.client_tracking.proofs.Taking.{AllOther}
use Rattle.client_tracking.proofs.replies.take_rows_in.Given as goal

abbrev pub invariant-loop-i : goal.invariant-loop-i
invariant-loop-i l = AllOther l.ordinal (map reply_view (take l.i l.initial.replies.items)) × (l.replies ≡ l.initial.replies)
