use Rattle.std.proofs.Common.{◌+◌, ◌∷◌, ap, rules, map, arith}
use Rattle.std.proofs.lemmas.List.{length-map}
use Rattle.messages.specs.Prelude.{request_view}
use Rattle.driver.specs.Prelude.{Stand, stand_of, place, health}
use Rattle.driver.proofs.Asking.{all_said, none_said, blames_told}
use Rattle.driver.proofs.Reading.{seen_by}
use Rattle.driver.proofs.pipelines.say.Goals as goal

pub returns-in-Err-clause-says : goal.returns-in-Err-clause-says
returns-in-Err-clause-says g c =
    let left = g.I.Source.given c.args.source.now in
    let written = g.O.Sink.put c.args.sink.now in
    none_said (place (stand_of c.args.tracking.now) left written) (place (stand_of c.give_up.new.tracking) left written) (request_view c.args.first ∷ map request_view c.args.others.items) (stand_of c.refresh.new.tracking) (stand_of c.ask_all.new.tracking) c.in-Err.rule
    c.refresh.ensures c.in-Err.ensures.asks (ap (λ (z : Stand). place z left written) c.give_up.ensures)

pub returns-clause-says : goal.returns-clause-says
returns-clause-says g c =
    all_said (place (stand_of c.args.tracking.now) (g.I.Source.given c.args.source.now) (g.O.Sink.put c.args.sink.now)) (place (stand_of c.exchange-broken.new.tracking) (g.I.Source.given c.exchange-broken.new.source) (g.O.Sink.put c.exchange-broken.new.sink))
    (request_view c.args.first ∷ map request_view c.args.others.items) (stand_of c.refresh.new.tracking) (stand_of c.ask_all.new.tracking) c.exchange-broken.result c.told_of.result c.in-Ok.ordinal (c.len.result + 1)
    c.refresh.ensures (search rules) c.exchange-broken.ensures.exchanges c.in-Ok.ensures.ordinal (grind (arith, length-map)) c.told_of.ensures.told

pub returns-clause-blames : goal.returns-clause-blames
returns-clause-blames g c =
    let h = health (g.I.Source.has_ended c.exchange-broken.new.source) (g.I.Source.has_failed c.exchange-broken.new.source) (g.O.Sink.has_failed c.exchange-broken.new.sink) in
    blames_told (stand_of c.exchange-broken.new.tracking).account c.in-Ok.ordinal (c.len.result + 1) c.exchange-broken.result h c.told_of.result c.told_of.ensures.told
    (seen_by c.exchange-broken.result h c.exchange-broken.ensures.ended c.exchange-broken.ensures.read c.exchange-broken.ensures.written)
