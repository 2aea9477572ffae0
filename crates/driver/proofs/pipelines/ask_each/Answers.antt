use Rattle.std.proofs.Common.{◌≡◌, ◌∙◌, ◌++◌, ◌∷◌, [], append_assoc, rules, sym, ap, subst, map, List, Err, Result}
use Rattle.std.specs.Result.{result_err}
use Rattle.std.proofs.lemmas.List.{map-append, nil_from_length}
use Rattle.streams.proofs.Parts.{all_done}
use Rattle.messages.specs.Prelude.{RequestView, request_view}
use Rattle.client.specs.declared.SubmitFault.{SubmitFault}
use Rattle.driver.specs.Prelude.{stand_of, AsksAll}
use Rattle.driver.proofs.Reading.{stand_is}
use Rattle.driver.proofs.Asking.{AskedSoFar, asked_none, asked_on, asked_stops}
use Rattle.driver.proofs.pipelines.ask_each.Goals as goal

pub loop-request-init : goal.loop-request-init
loop-request-init c = record { parts = c.into_iter-request-iterator.ensures.into_iter_gives.0; asked = asked_none (stand_of c.args.tracking.now) }

pub loop-request-preserved : goal.loop-request-preserved
loop-request-preserved c =
    let so = c.loop-request.invariant in
    let h = c.in_ok-ask.ensures.ok in
    record {
      parts = append_assoc c.loop-request.yielded (c.in-Some.request ∷ []) c.next.new.self.rest.items ∙ ap (λ xs. c.loop-request.yielded ++ xs) (sym c.in-Some.ensures.steps.0) ∙ so.parts;
      asked = subst (λ (qs : List RequestView). AskedSoFar (stand_of c.args.tracking.now) (stand_of c.ask.new.self) qs) (sym (map-append request_view c.loop-request.yielded (c.in-Some.request ∷ [])))
          (asked_on so.asked (stand_of c.ask.new.self) (request_view c.in-Some.request) h.0.allowed h.1 c.ask.ensures.account);
    }

pub returns-in_err-ask : goal.returns-in_err-ask
returns-in_err-ask c =
    let so = c.loop-request.invariant in
    let told : c.from_residual.result ≡ Err c.in_err-ask.field-0.0 = search rules in
    let all : c.loop-request.yielded ++ (c.in-Some.request ∷ c.next.new.self.rest.items) ≡ c.args.requests.items = ap (λ xs. c.loop-request.yielded ++ xs) (sym c.in-Some.ensures.steps.0) ∙ so.parts in
    subst (λ (z : Result (Unit {0}) SubmitFault). AsksAll (stand_of c.args.tracking.now) (stand_of c.ask.new.self) (map request_view c.args.requests.items) (result_err z)) (sym told)
    (asked_stops so.asked (stand_of c.ask.new.self) (request_view c.in-Some.request) (map request_view c.next.new.self.rest.items) (map request_view c.args.requests.items) c.in_err-ask.field-0.0
    (stand_is (stand_of c.ask.new.self) (stand_of c.loop-request.tracking) c.in_err-ask.ensures.err c.ask.ensures.account) c.in_err-ask.ensures.fault
    (sym (map-append request_view c.loop-request.yielded (c.in-Some.request ∷ c.next.new.self.rest.items)) ∙ ap (map request_view) all))

pub returns : goal.returns
returns c =
    let so = c.loop-request.invariant in
    rw (← all_done c.loop-request.yielded c.loop-request.request-iterator.rest.items c.args.requests.items (nil_from_length c.loop-request.request-iterator.rest.items (search rules)) so.parts) (so.asked.accepted, so.asked.stands)
