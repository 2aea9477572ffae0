use Rattle.std.proofs.Common.{◌++◌, ◌∙◌, ap, append_assoc, rules, take}
use Rattle.std.proofs.KnownBytes.{Appends-trans}
use Rattle.streams.proofs.Parts.{fed_more}
use Rattle.streams.proofs.writer.write_all.Goals as goal

pub loop-rest-preserved : goal.loop-rest-preserved
loop-rest-preserved g c =
    let done = c.loop-rest.invariant.0 in
    let more = take c.in_ok-used.used c.loop-rest.rest.now in (
      done ++ more,
      fed_more done c.loop-rest.rest.now c.split_at.result.1.now c.args.bytes.now c.in_ok-used.used c.loop-rest.invariant.1 c.split_at.ensures.back,
      Appends-trans (g.S.Sink.taken c.args.sink.now) (g.S.Sink.taken c.loop-rest.sink) (g.S.Sink.taken c.write.new.self) done more c.loop-rest.invariant.2 c.in_ok-used.ensures.bytes,
      c.in_ok-used.ensures.moves ∙ ap (λ l. l ++ more) c.loop-rest.invariant.3 ∙ append_assoc (g.S.Sink.put c.args.sink.now) done more,
      λ f. c.write.ensures.stays (c.loop-rest.invariant.4 f),
      λ f. let bad = c.write.ensures.failed.1 f in search rules,
    )
