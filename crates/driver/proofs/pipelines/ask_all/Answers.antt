use Rattle.std.proofs.Common.{◌≡◌, ◌∷◌, ◌<◌, ◌^◌, refl, sym, subst, rules, map, Err, None, Some, ℕ, Result}
use Rattle.std.specs.Result.{result_err}
use Rattle.messages.specs.Prelude.{request_view}
use Rattle.client.specs.declared.SubmitFault.{SubmitFault}
use Rattle.driver.specs.Prelude.{stand_of, AsksAll}
use Rattle.driver.proofs.Reading.{stand_is}
use Rattle.driver.proofs.Asking.{asked_none, asked_stops, asks_then, accepted_short}
use Rattle.driver.proofs.pipelines.ask_all.Goals as goal

pub returns-in_err-ordinal-clause-asks : goal.returns-in_err-ordinal-clause-asks
returns-in_err-ordinal-clause-asks c =
    let told : c.from_residual.result ≡ Err c.in_err-ordinal.field-0.0 = search rules in
    let s = stand_of c.args.tracking.now in
    subst (λ (z : Result ℕ SubmitFault). AsksAll s (stand_of c.ask.new.self) (request_view c.args.first ∷ map request_view c.args.others.items) (result_err z)) (sym told)
    (asked_stops (asked_none s) (stand_of c.ask.new.self) (request_view c.args.first) (map request_view c.args.others.items) (request_view c.args.first ∷ map request_view c.args.others.items) c.in_err-ordinal.field-0.0
    (stand_is (stand_of c.ask.new.self) s c.in_err-ordinal.ensures.err c.ask.ensures.account) c.in_err-ordinal.ensures.fault refl)

pub returns-in_err-ask_each-clause-asks : goal.returns-in_err-ask_each-clause-asks
returns-in_err-ask_each-clause-asks c =
    let told : c.from_residual-in_err-ask_each.result ≡ Err c.in_err-ask_each.field-0.0 = search rules in
    let h = c.in_ok-ordinal.ensures.ok in
    subst (λ (z : Result ℕ SubmitFault). AsksAll (stand_of c.args.tracking.now) (stand_of c.ask_each.new.tracking) (request_view c.args.first ∷ map request_view c.args.others.items) (result_err z)) (sym told)
    (asks_then (stand_of c.args.tracking.now) (stand_of c.ask.new.self) (stand_of c.ask_each.new.tracking) (request_view c.args.first) (map request_view c.args.others.items) (Some c.in_err-ask_each.field-0.0) h.0.allowed h.1 c.ask.ensures.account c.in_err-ask_each.ensures)

pub returns-clause-asks : goal.returns-clause-asks
returns-clause-asks c =
    let h = c.in_ok-ordinal.ensures.ok in
    asks_then (stand_of c.args.tracking.now) (stand_of c.ask.new.self) (stand_of c.ask_each.new.tracking) (request_view c.args.first) (map request_view c.args.others.items) None h.0.allowed h.1 c.ask.ensures.account c.in_ok-ask_each.ensures

pub returns-clause-ordinal : goal.returns-clause-ordinal
returns-clause-ordinal c = c.in_ok-ordinal.ensures.ok.0.next

pub returns-clause-short : goal.returns-clause-short
returns-clause-short c =
    let h = c.in_ok-ordinal.ensures.ok in
    subst (λ n. n < 2 ^ 63) (sym h.0.next) (accepted_short (stand_of c.args.tracking.now).rest (request_view c.args.first) h.0.allowed)
