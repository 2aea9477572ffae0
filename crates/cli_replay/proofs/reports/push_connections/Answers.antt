use Rattle.std.proofs.Common.{ap, ◌∙◌, ◌++◌, string_bytes}
use Rattle.cli_replay.proofs.Printing.{connections_on, connections_all, connections_none}
use Rattle.cli_replay.proofs.reports.push_connections.Goals as goal

pub loop-conn-init : goal.loop-conn-init
loop-conn-init g c = λ gate brought w reached fits. connections_none (string_bytes c.args.text.now) w.conns

pub loop-conn-preserved : goal.loop-conn-preserved
loop-conn-preserved g c = λ gate brought w reached fits.
    let h = c.in-Some.ensures gate brought w reached fits in
    connections_on (string_bytes c.args.text.now) (string_bytes c.loop-conn.text) (string_bytes c.push_connection.new.text) w.conns c.loop-conn.conn h.0 h.1
    (c.loop-conn.invariant gate brought w reached fits) (c.in_ok-push_connection-in-Some.ensures h.0 h.2)

pub returns-in-None : goal.returns-in-None
returns-in-None g c = λ gate brought w reached fits.
    c.loop-conn.invariant gate brought w reached fits
    ∙ ap (λ z. string_bytes c.args.text.now ++ z) (connections_all 0 w.conns c.loop-conn.conn (c.in-None.ensures gate brought w reached fits))
