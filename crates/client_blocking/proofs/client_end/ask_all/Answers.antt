use Rattle.std.proofs.Common.{◌∙◌, ◌++◌, sym, ap, subst, Option, List, [], map}
use Rattle.client.specs.Prelude.{Note, note, Fits}
use Rattle.streams.specs.declared.fault.StreamFault.{StreamFault}
use Rattle.streams.specs.declared.fault.StreamFault.TheVariants.{ReadFailed, WriteFailed}
use Rattle.std.specs.Result.{result_err}
use Rattle.client_blocking.specs.Prelude.{source_view, sink_view, Asks, GivesUp, hears_all}
use Rattle.client_blocking.proofs.Asked.{all_put, told_by_given, unless_err}
use Rattle.client_blocking.proofs.client_end.ask_all.Goals as goal

pub returns-clause-asks : goal.returns-clause-asks
returns-clause-asks g c = λ r f.
    let h = c.converse.ensures.asks r f in
    subst (λ (z : Option StreamFault). Asks r (source_view g.I.PeerSource.given g.I.PeerSource.left c.args.source.now) (source_view g.I.PeerSource.given g.I.PeerSource.left c.converse.new.source) (sink_view g.O.Sink.put g.O.Sink.taken c.args.sink.now) (sink_view g.O.Sink.put g.O.Sink.taken c.converse.new.sink) [] (map note c.converse.new.heard.items) (GivesUp (Fits c.give_up-losses.new.client) c.give_up-losses.result) z) (sym c.err-fault.ensures.value)
    (record {
      out = h.out;
      fed = h.fed;
      unheard = h.unheard;
      writes = h.writes;
      input = h.input;
      told = h.told ∙ ap (λ (z : List Note). z ++ (hears_all r h.fed).notes) (ap (map note) c.new-heard.ensures.items);
      now = c.give_up-losses.ensures _ h.now;
      needed = h.needed;
      whole = h.whole;
      ends = h.ends;
    })

pub returns-clause-source : goal.returns-clause-source
returns-clause-source g c = λ n. unless_err c.converse.result ReadFailed _ c.converse.ensures.source (λ e. n (c.err-fault.ensures.value ∙ e))

pub returns-clause-sink : goal.returns-clause-sink
returns-clause-sink g c = λ n. unless_err c.converse.result WriteFailed _ c.converse.ensures.sink (λ e. n (c.err-fault.ensures.value ∙ e))

pub returns-clause-given : goal.returns-clause-given
returns-clause-given g c = λ r bytes f grows never.
    told_by_given (c.converse.ensures.asks r f) (λ e. never (c.err-fault.ensures.value ∙ e)) bytes grows ∙ ap (λ (z : List Note). z ++ (hears_all r bytes).notes) (ap (map note) c.new-heard.ensures.items)

pub returns-clause-put : goal.returns-clause-put
returns-clause-put g c = λ r f never.
    let h = c.converse.ensures.asks r f in
    all_put r.unsent h.out (result_err c.converse.result) (sink_view g.O.Sink.put g.O.Sink.taken c.args.sink.now) (sink_view g.O.Sink.put g.O.Sink.taken c.converse.new.sink) h.writes (λ e. never (c.err-fault.ensures.value ∙ e))
