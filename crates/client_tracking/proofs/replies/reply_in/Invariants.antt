use Rattle.std.proofs.Common.{◌≡◌, drop, map}
use Rattle.client_tracking.specs.Account.{reply_in}
use Rattle.client_tracking.specs.Holding.{reply_view}
use Rattle.client_tracking.proofs.replies.reply_in.Given as goal

abbrev pub invariant-loop-reply : goal.invariant-loop-reply
invariant-loop-reply l = reply_in l.ordinal (map reply_view (drop l.reply-index l.replies)) ≡ reply_in l.ordinal (map reply_view l.replies)
