use Rattle.std.proofs.Common.{ap, ◌∙◌}
use Rattle.engine.specs.Prelude.{ledger_of}
use Rattle.server.specs.Prelude.{opened}
use Rattle.server_blocking.proofs.Firsts.{one, one_lives}
use Rattle.test_io.proofs.streams_of.served.Goals as goal

pub serve_one-ended-requires : goal.serve_one-ended-requires
serve_one-ended-requires c =
    let ledger = ledger_of c.new-2.result in
    let o = c.in_ok-conn.ensures in
    let first = o.1 ∙ ap (λ r. r.next) c.new-server.ensures in
    record { live = (one ledger c.in_ok-gate.gate c.in_ok-conn.conn first, o.2 ∙ ap opened c.new-server.ensures, one_lives ledger c.in_ok-gate.gate c.in_ok-conn.conn first); turns = λ s taken n few turn. tt }
