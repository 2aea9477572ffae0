use Rattle.server_session.specs.Views.{kept_of}
use Rattle.server_session.proofs.Owed.{Sent}
use Rattle.server_session.proofs.session.Session.write_rows.Given as goal

abbrev pub invariant-loop-count : goal.invariant-loop-count
invariant-loop-count l = Sent l.count (kept_of l.fn.self) (kept_of l.self)
