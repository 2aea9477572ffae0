use Rattle.std.proofs.Common.{◌≡◌, ◌++◌, ◌∷◌, [], map, rules}
use Rattle.messages.specs.Prelude.{request_view}
use Rattle.client_tracking.specs.Asking.{rows_view}
use Rattle.driver.proofs.Adding.{one_added}
use Rattle.driver.proofs.queries.add_queries.Goals as goal

pub loop-query-preserved : goal.loop-query-preserved
loop-query-preserved c =
    let first : c.push.new.self.items ≡ c.loop-query.requests.items ++ c.in_ok-run_of.field-0 ∷ [] = search rules in
    let second : c.push-in-loop-query.new.self.items ≡ c.push.new.self.items ++ c.rows_request.result ∷ [] = search rules in
    one_added c.args.mode (rows_view c.args.rows) (map request_view c.args.requests.now.items) c.args.queries.now c.loop-query.query-index c.query-item.result c.loop-query.requests.items c.push.new.self.items c.push-in-loop-query.new.self.items c.in_ok-run_of.field-0 c.rows_request.result
    c.loop-query-test.true c.query-item.is c.loop-query.invariant first c.in_ok-run_of.ensures second c.rows_request.ensures
