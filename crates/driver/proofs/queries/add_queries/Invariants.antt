use Rattle.std.proofs.Common.{◌≡◌, ◌++◌, map, take}
use Rattle.messages.specs.Prelude.{request_view}
use Rattle.client_tracking.specs.Asking.{rows_view}
use Rattle.driver.specs.Prelude.{asks_of, query_view}
use Rattle.driver.proofs.queries.add_queries.Given as goal

abbrev pub invariant-loop-query : goal.invariant-loop-query
invariant-loop-query l = map request_view l.requests.items ≡ map request_view l.fn.requests.items ++ asks_of l.mode (rows_view l.rows) (map query_view (take l.query-index l.queries))
