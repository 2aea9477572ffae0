use Rattle.std.proofs.Common.{string_bytes}
use Rattle.std.proofs.lemmas.Result.{on_ok_weaker}
use Rattle.cli_replay.proofs.Printing.{connection_is}
use Rattle.cli_replay.proofs.reports.push_connection.Goals as goal

pub returns : goal.returns
returns c = λ k is.
    on_ok_weaker c.push_standing.result
    (connection_is c.args.conn k c.args.connection (string_bytes c.args.text.now) (string_bytes c.push_conn.new.text) (string_bytes c.push_read.new.text) (string_bytes c.push_lost.new.text) (string_bytes c.push_waits.new.text) (string_bytes c.push_standing.new.text)
    is c.in_ok-push_conn.ensures c.in_ok-push_read.ensures c.in_ok-push_lost.ensures c.in_ok-push_waits.ensures)
    c.push_standing.ensures
