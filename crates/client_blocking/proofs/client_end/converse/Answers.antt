use Rattle.std.proofs.Common.{◌≡◌, ◌++◌, [], sym, ap, refl, inl, subst, rules, append-nil, Option, Err, map}
use Rattle.std.specs.Result.{result_err}
use Rattle.std.specs.Io.KnownBytes.{Appends}
use Rattle.client.specs.Prelude.{taken_out, note, Fits}
use Rattle.streams.specs.declared.fault.StreamFault.{StreamFault}
use Rattle.client_blocking.specs.Prelude.{source_view, sink_view, Asks}
use Rattle.client_blocking.proofs.Views.{gives_nil}
use Rattle.client_blocking.proofs.Asked.{needed_taken, written_all}
use Rattle.client_blocking.proofs.client_end.converse.Goals as goal

-- the output wasn't written
pub returns-in_err-write_out-clause-asks : goal.returns-in_err-write_out-clause-asks
returns-in_err-write_out-clause-asks g c = λ r f.
    let before = map note c.args.heard.now.items in
    let from = source_view g.I.PeerSource.given g.I.PeerSource.left c.args.source.now in
    let e : c.from_residual.result ≡ Err c.in_err-write_out.field-0.0 = search rules in
    let h = c.in_err-write_out.ensures.out r f in
    subst (λ (z : Option StreamFault). Asks r from from (sink_view g.O.Sink.put g.O.Sink.taken c.args.sink.now) (sink_view g.O.Sink.put g.O.Sink.taken c.write_out.new.sink) before before (Fits c.write_out.new.client) z) (sym (ap result_err e))
    (record {
      out = h.0;
      fed = [];
      unheard = [];
      writes = h.1;
      input = gives_nil from;
      told = sym (append-nil before);
      now = h.2;
      needed = inl refl;
      whole = λ _. inl refl;
      ends = λ e. absurd cc;
    })

pub read_on-requires : goal.read_on-requires
read_on-requires g c = λ s taken n few turn. c.requires s taken n few (λ r f.
    let out = c.in_ok-write_out.ensures.out r f in
    record { awaited = turn.1 (taken_out r out.0) out.2; asked = subst (λ z. Appends (g.O.Sink.taken c.args.sink.now) z r.unsent) (sym turn.0) out.1.0.known })

pub returns-clause-asks : goal.returns-clause-asks
returns-clause-asks g c = λ r f.
    let out = c.in_ok-write_out.ensures.out r f in
    let h = c.read_on.ensures.reads (taken_out r out.0) out.2 in
    record {
      out = out.0;
      fed = h.fed;
      unheard = h.unheard;
      writes = written_all r.unsent out.0 c.read_on.result (sink_view g.O.Sink.put g.O.Sink.taken c.args.sink.now) (sink_view g.O.Sink.put g.O.Sink.taken c.write_out.new.sink) c.read_on.ensures.fault out.1;
      input = h.input;
      told = h.told;
      now = h.now;
      needed = needed_taken r out.0 (h.fed ++ h.unheard) h.needed;
      whole = h.whole;
      ends = h.ends;
    }
