use Rattle.std.proofs.Common.{Some, ap, sym, subst, ◌∙◌, arith}
use Rattle.std.proofs.lemmas.List.{take_more}
use Rattle.packstream_incremental.specs.Prelude.{AreTiny}
use Rattle.packstream_incremental.proofs.Heads.{tiny_more}
use Rattle.packstream_incremental.proofs.head.tiny_front.Goals as goal

pub loop-count-preserved : goal.loop-count-preserved
loop-count-preserved c =
    let bytes = c.args.bytes.now in
    let at = c.loop-count.count in (
      omega (arith, c.loop-count-test.true),
      (λ some. omega (arith, c.if-count-most.true)),
      subst AreTiny (sym (take_more bytes at 0 c.loop-count-test.true)) (tiny_more _ _ c.loop-count.invariant.2 (c.in-Some-Tiny.field-0-0, sym c.in-Some-Tiny.ensures ∙ ap Some c.in-Some-Tiny.field-0-is)),
    )
