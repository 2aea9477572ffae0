use Rattle.std.proofs.Common.{refl, sym, ap, ◌∙◌, map, arith}
use Rattle.client.specs.Prelude.{note, awaits, Fits, Rest}
use Rattle.client_blocking.specs.Prelude.{source_view, after_all}
use Rattle.client_blocking.proofs.Asked.{is_awaited, reads_none, stops_waiting, hears_more, hears_end, hears_fault}
use Rattle.client_blocking.proofs.client_end.read_on.Goals as goal

pub loop-buffer-init : goal.loop-buffer-init
loop-buffer-init g c = record {
  reads = λ r f. reads_none r (source_view g.I.PeerSource.given g.I.PeerSource.left c.args.source.now) (map note c.args.heard.now.items) (Fits c.args.client.now) f;
  sound = λ h. h;
  stays = λ h. h;
}

pub hear_into-requires : goal.hear_into-requires
hear_into-requires g c = record {
  some = omega arith;
  few = omega arith;
  turn = λ n few.
      c.requires c.loop-buffer.source (g.O.Sink.taken c.args.sink.now) n few
      (refl, λ r f. let so = c.loop-buffer.invariant.reads r f in is_awaited so (sym (c.awaits.ensures ∙ ap (λ (x : Rest). awaits x.knows) so.now) ∙ c.loop-buffer-test.true));
}

pub returns-clause-reads : goal.returns-clause-reads
returns-clause-reads g c = λ r f.
    let so = c.loop-buffer.invariant.reads r f in
    stops_waiting so (sym (c.awaits.ensures ∙ ap (λ (x : Rest). awaits x.knows) so.now) ∙ c.loop-buffer-test.false)

pub loop-buffer-preserved : goal.loop-buffer-preserved
loop-buffer-preserved g c = record {
  reads = λ r f.
      let so = c.loop-buffer.invariant.reads r f in
      let waits = sym (c.awaits.ensures ∙ ap (λ (x : Rest). awaits x.knows) so.now) ∙ c.loop-buffer-test.true in
      hears_more so waits (rw c.in-Ok-true.field-0-test at (c.in-Ok-true.ensures.hears (after_all r so.fed) so.now));
  sound = λ h. c.loop-buffer.invariant.sound (c.in-Ok-true.ensures.sound h);
  stays = λ h. c.hear_into.ensures.stays (c.loop-buffer.invariant.stays h);
}

pub returns-in-Ok-false-clause-reads : goal.returns-in-Ok-false-clause-reads
returns-in-Ok-false-clause-reads g c = λ r f.
    let so = c.loop-buffer.invariant.reads r f in
    hears_end so (rw c.in-Ok-false.field-0-test at (c.in-Ok-false.ensures.hears (after_all r so.fed) so.now))

pub returns-in-Err-clause-reads : goal.returns-in-Err-clause-reads
returns-in-Err-clause-reads g c = λ r f.
    let so = c.loop-buffer.invariant.reads r f in
    let waits = sym (c.awaits.ensures ∙ ap (λ (x : Rest). awaits x.knows) so.now) ∙ c.loop-buffer-test.true in
    hears_fault so (source_view g.I.PeerSource.given g.I.PeerSource.left c.hear_into.new.source) (map note c.hear_into.new.heard.items) (Fits c.hear_into.new.client) c.in-Err.fault waits (c.in-Err.ensures.hears (after_all r so.fed) so.now)
