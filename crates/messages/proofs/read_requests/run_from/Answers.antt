use Rattle.messages.proofs.Words.{string_bytes, sym, token_view, entries}
use Rattle.messages.proofs.Scanned.{run_means}
use Rattle.messages.proofs.read_requests.run_from.Goals as goal

pub returns : goal.returns
returns g c =
    run_means c.args.version (string_bytes c.in_ok-text.text) c.in_ok-query.query.now (entries c.in_ok-params.params.items) c.in_ok-mode.mode (token_view c.in_ok-mode.token) (g.S.Source.left c.args.source) (g.S.Source.left c.in_ok-query.rest) (g.S.Source.left c.in_ok-params.rest) c.has_bytes.ensures (sym c.in_ok-text.ensures.ok)
    c.in_ok-query.ensures.spelled c.in_ok-query.ensures.good c.in_ok-params.ensures (c.in_ok-mode.ensures c.args.version)
