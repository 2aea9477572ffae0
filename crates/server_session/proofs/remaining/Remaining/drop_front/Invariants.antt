use Rattle.std.proofs.Common.{◌≡◌, ◌≤◌, drop}
use Rattle.server_session.specs.Prelude.{remaining_rows}
use Rattle.server_session.proofs.remaining.Remaining.drop_front.Given as goal

abbrev pub invariant-loop-gone : goal.invariant-loop-gone
invariant-loop-gone l = record { rows : remaining_rows l.self ≡ drop l._gone (remaining_rows l.fn.self); few : l.self.count ≤ l.fn.self.count }
