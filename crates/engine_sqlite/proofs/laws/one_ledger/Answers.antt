use Rattle.engine_sqlite.proofs.Alone.{one_ledger_is}
use Rattle.engine_sqlite.proofs.laws.one_ledger.Goals as goal

pub returns : goal.returns
returns c = one_ledger_is
