use Rattle.std.proofs.Common.{◌≡◌, ◌∙◌, refl, sym, ap, subst, rules, arith, suc, ◌-◌, List, Result, map, length, inl}
use Rattle.std.proofs.lemmas.List.{length-map}
use Rattle.messages.specs.Prelude.{RequestView, request_view}
use Rattle.client_tracking.specs.Account.{Account}
use Rattle.client_tracking.specs.Telling.{tells_of}
use Rattle.driver.specs.declared.breaks.Break.{Break}
use Rattle.driver.specs.Prelude.{stand_of, place, health, Exchanges, SendsInParts, asked_view, requests_of, streams, at_first}
use Rattle.driver.proofs.Reading.{stand_is, seen_by}
use Rattle.driver.proofs.Trying.{none_short, agreed, none_begun, heard_quiet, some_requests, attempted, ok_of, none_over}
use Rattle.driver.proofs.attempting.attempt_over.Goals as goal

-- no memory for a client: nothing was moved
pub returns-in_default : goal.returns-in_default
returns-in_default g c =
    let a = asked_view c.args.asked.now in
    let written = g.O.Sink.put c.args.sink.now in
    let s = streams (g.I.Source.given c.args.source.now) written (health (g.I.Source.has_ended c.args.source.now) (g.I.Source.has_failed c.args.source.now) (g.O.Sink.has_failed c.args.sink.now)) in
    none_short a s s (inl (refl, refl))

pub returns-then-is_err : goal.returns-then-is_err
returns-then-is_err g c =
    let a = asked_view c.args.asked.now in
    let from = place (stand_of c.in-Ok.tracking) (g.I.Source.given c.args.source.now) (g.O.Sink.put c.args.sink.now) in
    let heard = place (stand_of c.exchange-broken.new.tracking) (g.I.Source.given c.exchange-broken.new.source) (g.O.Sink.put c.exchange-broken.new.sink) in
    let start = stand_is (stand_of c.in-Ok.tracking) (at_first a.wish 0) c.in-Ok.ensures.client c.in-Ok.ensures.account in
    none_begun a from heard (health (g.I.Source.has_ended c.args.source.now) (g.I.Source.has_failed c.args.source.now) (g.O.Sink.has_failed c.args.sink.now)) (health (g.I.Source.has_ended c.exchange-broken.new.source) (g.I.Source.has_failed c.exchange-broken.new.source) (g.O.Sink.has_failed c.exchange-broken.new.sink)) c.exchange-broken.result start c.exchange-broken.ensures.exchanges (seen_by c.exchange-broken.result (health (g.I.Source.has_ended c.exchange-broken.new.source) (g.I.Source.has_failed c.exchange-broken.new.source) (g.O.Sink.has_failed c.exchange-broken.new.sink)) c.exchange-broken.ensures.ended c.exchange-broken.ensures.read c.exchange-broken.ensures.written)
    (none_over c.exchange-broken.result (sym c.is_err.ensures.value ∙ c.if-is_err.true))

pub returns-then-has_ended : goal.returns-then-has_ended
returns-then-has_ended g c =
    let a = asked_view c.args.asked.now in
    let from = place (stand_of c.in-Ok.tracking) (g.I.Source.given c.args.source.now) (g.O.Sink.put c.args.sink.now) in
    let heard = place (stand_of c.exchange-broken.new.tracking) (g.I.Source.given c.exchange-broken.new.source) (g.O.Sink.put c.exchange-broken.new.sink) in
    let start = stand_is (stand_of c.in-Ok.tracking) (at_first a.wish 0) c.in-Ok.ensures.client c.in-Ok.ensures.account in
    none_begun a from heard (health (g.I.Source.has_ended c.args.source.now) (g.I.Source.has_failed c.args.source.now) (g.O.Sink.has_failed c.args.sink.now)) (health (g.I.Source.has_ended c.exchange-broken.new.source) (g.I.Source.has_failed c.exchange-broken.new.source) (g.O.Sink.has_failed c.exchange-broken.new.sink)) c.exchange-broken.result start c.exchange-broken.ensures.exchanges (seen_by c.exchange-broken.result (health (g.I.Source.has_ended c.exchange-broken.new.source) (g.I.Source.has_failed c.exchange-broken.new.source) (g.O.Sink.has_failed c.exchange-broken.new.sink)) c.exchange-broken.ensures.ended c.exchange-broken.ensures.read c.exchange-broken.ensures.written)
    (λ _. sym c.has_ended.ensures ∙ c.if-has_ended.true)

pub returns-in_default-requests_of : goal.returns-in_default-requests_of
returns-in_default-requests_of g c =
    let a = asked_view c.args.asked.now in
    let from = place (stand_of c.in-Ok.tracking) (g.I.Source.given c.args.source.now) (g.O.Sink.put c.args.sink.now) in
    let heard = place (stand_of c.exchange-broken.new.tracking) (g.I.Source.given c.exchange-broken.new.source) (g.O.Sink.put c.exchange-broken.new.sink) in
    let start = stand_is (stand_of c.in-Ok.tracking) (at_first a.wish 0) c.in-Ok.ensures.client c.in-Ok.ensures.account in
    let had = health (g.I.Source.has_ended c.args.source.now) (g.I.Source.has_failed c.args.source.now) (g.O.Sink.has_failed c.args.sink.now) in
    let has = health (g.I.Source.has_ended c.exchange-broken.new.source) (g.I.Source.has_failed c.exchange-broken.new.source) (g.O.Sink.has_failed c.exchange-broken.new.sink) in
    none_short a (streams from.given from.written had) (streams heard.given heard.written has)
    (agreed a from heard had has c.exchange-broken.result start c.exchange-broken.ensures.exchanges (ok_of c.exchange-broken.result (sym c.is_err.ensures.value ∙ c.if-is_err.false)) (sym c.has_ended.ensures ∙ c.if-has_ended.false))

pub send_in_parts-sent-requires-clause-quiet : goal.send_in_parts-sent-requires-clause-quiet
send_in_parts-sent-requires-clause-quiet g c =
    let a = asked_view c.args.asked.now in
    let from = place (stand_of c.in-Ok.tracking) (g.I.Source.given c.args.source.now) (g.O.Sink.put c.args.sink.now) in
    let heard = place (stand_of c.exchange-broken.new.tracking) (g.I.Source.given c.exchange-broken.new.source) (g.O.Sink.put c.exchange-broken.new.sink) in
    heard_quiet a.wish from heard c.exchange-broken.result c.exchange-broken.ensures.exchanges (ok_of c.exchange-broken.result (sym c.is_err.ensures.value ∙ c.if-is_err.false))
    (stand_is (stand_of c.in-Ok.tracking) (at_first a.wish 0) c.in-Ok.ensures.client c.in-Ok.ensures.account)

pub returns : goal.returns
returns g c =
    let a = asked_view c.args.asked.now in
    let from = place (stand_of c.in-Ok.tracking) (g.I.Source.given c.args.source.now) (g.O.Sink.put c.args.sink.now) in
    let heard = place (stand_of c.exchange-broken.new.tracking) (g.I.Source.given c.exchange-broken.new.source) (g.O.Sink.put c.exchange-broken.new.sink) in
    let done = place (stand_of c.send_in_parts-sent.new.tracking) (g.I.Source.given c.send_in_parts-sent.new.source) (g.O.Sink.put c.send_in_parts-sent.new.sink) in
    let healthy = health (g.I.Source.has_ended c.send_in_parts-sent.new.source) (g.I.Source.has_failed c.send_in_parts-sent.new.source) (g.O.Sink.has_failed c.send_in_parts-sent.new.sink) in
    let login = c.is_login_in_hello-has_login.result in
    let requests = c.in-Ok-requests_of.requests.items in
    let n = c.send_in_parts-sent.result.asked in
    let broken = c.send_in_parts-sent.result.broken in
    let start = stand_is (stand_of c.in-Ok.tracking) (at_first a.wish 0) c.in-Ok.ensures.client c.in-Ok.ensures.account in
    let all : map request_view requests ≡ requests_of login a = search rules in
    let some = some_requests a login in
    let size : length (requests_of login a) ≡ length requests = ap length (sym all) ∙ length-map requests request_view in
    let len : c.len.result ≡ length requests = search rules in
    let count : length (requests_of login a) ≡ suc (c.len.result - 1) = omega (arith, size, len, some) in
    attempted a login from heard done start
    (subst (λ (r : Result (Unit {0}) Break). Exchanges from heard r) (ok_of c.exchange-broken.result (sym c.is_err.ensures.value ∙ c.if-is_err.false)) c.exchange-broken.ensures.exchanges)
    (search rules) healthy (health (g.I.Source.has_ended c.args.source.now) (g.I.Source.has_failed c.args.source.now) (g.O.Sink.has_failed c.args.sink.now)) n broken
    (subst (λ (qs : List RequestView). SendsInParts heard done healthy qs n broken) all c.send_in_parts-sent.ensures)
    (c.len.result - 1) count c.tells-tells.result
    (c.tells-tells.ensures ∙ ap (λ (z : Account). tells_of z (c.len.result - 1) n) c.lost.ensures.account)
