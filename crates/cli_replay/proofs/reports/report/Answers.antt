use Rattle.std.proofs.Common.{ap, ◌∙◌, ◌++◌, flat_map}
use Rattle.engine.specs.Prelude.{entries_view}
use Rattle.cli_output.specs.Prelude.{entry_line}
use Rattle.cli_replay.specs.Prelude.{connections_text}
use Rattle.cli_replay.proofs.reports.report.Goals as goal

pub returns : goal.returns
returns g c = λ gate brought w reached fits.
    c.in_ok-push_entries.ensures ∙ ap (λ z. z ++ flat_map entry_line (entries_view c.ledger_of.result.now)) (c.in_ok-push_connections.ensures gate brought w reached fits)
    ∙ ap (λ z. z ++ connections_text 0 w.conns ++ flat_map entry_line (entries_view c.ledger_of.result.now)) c.new-text.ensures.bytes
    ∙ ap (λ z. connections_text 0 w.conns ++ flat_map entry_line z) (c.ledger_of.ensures gate w fits)
