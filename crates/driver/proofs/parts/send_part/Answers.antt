use Rattle.std.proofs.Common.{sym, ◌∙◌, rules}
use Rattle.driver.specs.Prelude.{stand_of, place, health}
use Rattle.driver.proofs.Reading.{seen_by}
use Rattle.driver.proofs.Trying.{ok_of}
use Rattle.driver.proofs.Parting.{broken_undone, found_undone}
use Rattle.driver.proofs.parts.send_part.Goals as goal

pub returns-then-is_err : goal.returns-then-is_err
returns-then-is_err g c =
    let from = place (stand_of c.args.tracking.now) (g.I.Source.given c.args.source.now) (g.O.Sink.put c.args.sink.now) in
    let to = place (stand_of c.exchange-broken.new.tracking) (g.I.Source.given c.exchange-broken.new.source) (g.O.Sink.put c.exchange-broken.new.sink) in
    record {
      exchanged = c.exchange-broken.ensures.exchanges;
      seen = seen_by c.exchange-broken.result (health (g.I.Source.has_ended c.exchange-broken.new.source) (g.I.Source.has_failed c.exchange-broken.new.source) (g.O.Sink.has_failed c.exchange-broken.new.sink)) c.exchange-broken.ensures.ended c.exchange-broken.ensures.read c.exchange-broken.ensures.written;
      is_done = λ e. cc;
      is_undone = λ e. broken_undone from to c.exchange-broken.result c.args.first c.args.count (sym c.is_err.ensures.value ∙ c.if-is_err.true) c.exchange-broken.ensures.exchanges;
    }

pub returns : goal.returns
returns g c = record {
  exchanged = c.exchange-broken.ensures.exchanges;
  seen = seen_by c.exchange-broken.result (health (g.I.Source.has_ended c.exchange-broken.new.source) (g.I.Source.has_failed c.exchange-broken.new.source) (g.O.Sink.has_failed c.exchange-broken.new.sink)) c.exchange-broken.ensures.ended c.exchange-broken.ensures.read c.exchange-broken.ensures.written;
  is_done = λ e. (ok_of c.exchange-broken.result (sym c.is_err.ensures.value ∙ c.if-is_err.false), search rules);
  is_undone = λ e. found_undone c.exchange-broken.result (stand_of c.exchange-broken.new.tracking) c.args.first c.args.count c.first_undone.result c.is_none-done.result c.first_undone.ensures (search rules) e;
}
