use Rattle.std.proofs.Common.{◌≡◌, ◌∙◌, Err, ◌++◌, ◌∷◌, ◌+◌, [], append_assoc, rules, sym, ap, subst, map, length, List, true, false, arith}
use Rattle.std.proofs.lemmas.List.{map-append, nil_from_length, length-map}
use Rattle.streams.proofs.Parts.{all_done}
use Rattle.messages.specs.declared.Request.{Request}
use Rattle.messages.specs.Prelude.{RequestView, request_view}
use Rattle.driver.specs.Prelude.{stand_of, place, health, SendsInParts}
use Rattle.driver.proofs.Reading.{stand_is, seen_by}
use Rattle.driver.proofs.Parting.{SoAsked, none_asked, room_made, no_room, one_more, none_more, all_sent}
use Rattle.driver.proofs.parts.send_in_parts.Goals as goal

pub loop-request-init : goal.loop-request-init
loop-request-init g c = record { parts = c.into_iter-request-iterator.ensures.into_iter_gives.0; asked = none_asked _ c.requires.quiet }

pub returns-then-not-done : goal.returns-then-not-done
returns-then-not-done g c =
    let so = c.loop-request.invariant in
    let q = request_view c.in-Some.request in
    let behind = map request_view c.next.new.self.rest.items in
    let lacks : c.makes_room-room.result.done ≡ false = search rules in
    let all : c.loop-request.yielded ++ (c.in-Some.request ∷ c.next.new.self.rest.items) ≡ c.args.requests.items = ap (λ xs. c.loop-request.yielded ++ xs) (sym c.in-Some.ensures.steps.0) ∙ so.parts in
    let from = place (stand_of c.args.tracking.now) (g.I.Source.given c.args.source.now) (g.O.Sink.put c.args.sink.now) in
    let now = place (stand_of c.loop-request.tracking) (g.I.Source.given c.loop-request.source) (g.O.Sink.put c.loop-request.sink) in
    let to = place (stand_of c.makes_room-room.new.tracking) (g.I.Source.given c.makes_room-room.new.source) (g.O.Sink.put c.makes_room-room.new.sink) in
    no_room from now to (map request_view c.loop-request.yielded) c.loop-request.asked (health (g.I.Source.has_ended c.makes_room-room.new.source) (g.I.Source.has_failed c.makes_room-room.new.source) (g.O.Sink.has_failed c.makes_room-room.new.sink)) so.asked c.makes_room-room.result.done c.makes_room-room.result.broken c.makes_room-room.ensures lacks (q ∷ behind) (map request_view c.args.requests.items)
    (ap (map request_view) (sym all) ∙ map-append request_view c.loop-request.yielded (c.in-Some.request ∷ c.next.new.self.rest.items))

pub returns-in-Err : goal.returns-in-Err
returns-in-Err g c =
    let so = c.loop-request.invariant in
    let q = request_view c.in-Some.request in
    let behind = map request_view c.next.new.self.rest.items in
    let has : c.makes_room-room.result.done ≡ true = search rules in
    let all : c.loop-request.yielded ++ (c.in-Some.request ∷ c.next.new.self.rest.items) ≡ c.args.requests.items = ap (λ xs. c.loop-request.yielded ++ xs) (sym c.in-Some.ensures.steps.0) ∙ so.parts in
    let from = place (stand_of c.args.tracking.now) (g.I.Source.given c.args.source.now) (g.O.Sink.put c.args.sink.now) in
    let now = place (stand_of c.loop-request.tracking) (g.I.Source.given c.loop-request.source) (g.O.Sink.put c.loop-request.sink) in
    let mid = place (stand_of c.makes_room-room.new.tracking) (g.I.Source.given c.makes_room-room.new.source) (g.O.Sink.put c.makes_room-room.new.sink) in
    let qs = map request_view c.loop-request.yielded in
    none_more from mid qs c.loop-request.asked (health (g.I.Source.has_ended c.makes_room-room.new.source) (g.I.Source.has_failed c.makes_room-room.new.source) (g.O.Sink.has_failed c.makes_room-room.new.sink)) (room_made from now mid qs c.loop-request.asked (health (g.I.Source.has_ended c.makes_room-room.new.source) (g.I.Source.has_failed c.makes_room-room.new.source) (g.O.Sink.has_failed c.makes_room-room.new.sink)) c.makes_room-room.result.done c.makes_room-room.result.broken so.asked c.makes_room-room.ensures has) so.asked.count q behind (map request_view c.args.requests.items)
    (ap (map request_view) (sym all) ∙ map-append request_view c.loop-request.yielded (c.in-Some.request ∷ c.next.new.self.rest.items))
    (stand_of c.ask.new.self) (stand_is (stand_of c.ask.new.self) (stand_of c.makes_room-room.new.tracking) c.in-Err.ensures.err c.ask.ensures.account)
    c.in-Err.rule c.in-Err.ensures.fault (λ e. c.in-Err.ensures.memory (ap Err e)) c.short_by.result c.short_by.ensures.short (c.short_by.ensures.blameless (health (g.I.Source.has_ended c.makes_room-room.new.source) (g.I.Source.has_failed c.makes_room-room.new.source) (g.O.Sink.has_failed c.makes_room-room.new.sink)))

pub loop-request-preserved : goal.loop-request-preserved
loop-request-preserved g c =
    let so = c.loop-request.invariant in
    let q = request_view c.in-Some.request in
    let has : c.makes_room-room.result.done ≡ true = search rules in
    let from = place (stand_of c.args.tracking.now) (g.I.Source.given c.args.source.now) (g.O.Sink.put c.args.sink.now) in
    let now = place (stand_of c.loop-request.tracking) (g.I.Source.given c.loop-request.source) (g.O.Sink.put c.loop-request.sink) in
    let mid = place (stand_of c.makes_room-room.new.tracking) (g.I.Source.given c.makes_room-room.new.source) (g.O.Sink.put c.makes_room-room.new.sink) in
    let qs = map request_view c.loop-request.yielded in
    let h = c.in-Ok.ensures.ok in
    record {
      parts = append_assoc c.loop-request.yielded (c.in-Some.request ∷ []) c.next.new.self.rest.items ∙ ap (λ xs. c.loop-request.yielded ++ xs) (sym c.in-Some.ensures.steps.0) ∙ so.parts;
      asked = subst (λ (rs : List RequestView). SoAsked from (place (stand_of c.ask.new.self) mid.given mid.written) rs (c.loop-request.asked + 1)) (sym (map-append request_view c.loop-request.yielded (c.in-Some.request ∷ [])))
          (one_more from mid qs c.loop-request.asked (room_made from now mid qs c.loop-request.asked (health (g.I.Source.has_ended c.makes_room-room.new.source) (g.I.Source.has_failed c.makes_room-room.new.source) (g.O.Sink.has_failed c.makes_room-room.new.sink)) c.makes_room-room.result.done c.makes_room-room.result.broken so.asked c.makes_room-room.ensures has) so.asked.count q (stand_of c.ask.new.self) h.0.allowed h.1 c.ask.ensures.account);
    }

pub returns : goal.returns
returns g c =
    let so = c.loop-request.invariant in
    let from = place (stand_of c.args.tracking.now) (g.I.Source.given c.args.source.now) (g.O.Sink.put c.args.sink.now) in
    let now = place (stand_of c.loop-request.tracking) (g.I.Source.given c.loop-request.source) (g.O.Sink.put c.loop-request.sink) in
    let to = place (stand_of c.exchange-last.new.tracking) (g.I.Source.given c.exchange-last.new.source) (g.O.Sink.put c.exchange-last.new.sink) in
    let done = all_done c.loop-request.yielded c.loop-request.request-iterator.rest.items c.args.requests.items (nil_from_length c.loop-request.request-iterator.rest.items (search rules)) so.parts in
    let some = c.requires.some in
    let count : length (map request_view c.loop-request.yielded) ≡ length c.args.requests.items = length-map c.loop-request.yielded request_view ∙ ap length done in
    subst (λ (xs : List Request). SendsInParts from to (health (g.I.Source.has_ended c.exchange-last.new.source) (g.I.Source.has_failed c.exchange-last.new.source) (g.O.Sink.has_failed c.exchange-last.new.sink)) (map request_view xs) c.loop-request.asked c.exchange-last.result) done
    (all_sent from now to (map request_view c.loop-request.yielded) c.loop-request.asked (health (g.I.Source.has_ended c.exchange-last.new.source) (g.I.Source.has_failed c.exchange-last.new.source) (g.O.Sink.has_failed c.exchange-last.new.sink)) so.asked (omega (arith, count, some)) c.exchange-last.result c.exchange-last.ensures.exchanges (seen_by c.exchange-last.result (health (g.I.Source.has_ended c.exchange-last.new.source) (g.I.Source.has_failed c.exchange-last.new.source) (g.O.Sink.has_failed c.exchange-last.new.sink)) c.exchange-last.ensures.ended c.exchange-last.ensures.read c.exchange-last.ensures.written))
