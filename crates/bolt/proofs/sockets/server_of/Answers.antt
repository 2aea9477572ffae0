use Rattle.std.proofs.Common.{subst, List}
use Rattle.engine.specs.Prelude.{EntryView, ledger_of}
use Rattle.server.specs.Prelude.{Fits, empty}
use Rattle.bolt.proofs.sockets.server_of.Goals as goal

pub returns-clause-new : goal.returns-clause-new
returns-clause-new c = record {
  gate = c.in-Ok.gate;
  fits = subst (λ (es : List EntryView). Fits ledger_of c.new-server.result (empty es c.in-Ok.gate)) c.new-2.ensures c.new-server.ensures;
  user = c.in-Ok.ensures.accepts_one;
}
