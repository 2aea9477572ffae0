use Rattle.std.proofs.Common.{refl, length, ◌/◌, ◌-◌}
use Rattle.std.proofs.lemmas.Option.{slice_get_read, slice_get_past}
use Rattle.packstream_incremental.proofs.Treeing.{side_deep, side_past}
use Rattle.packstream_incremental.proofs.texts.is_right.Goals as goal

pub returns-in-Some : goal.returns-in-Some
returns-in-Some c =
    let s = c.args.text.now in
    let h = c.in-Some.ensures.lookup in
    side_deep c.args.digest s c.args.above c.in-Some.byte.now c.if-above-lt64.false (slice_get_read s (length s) ((c.args.above - 64) / 8) c.in-Some.byte.now refl h.3.0 h.1)

pub returns-in-None : goal.returns-in-None
returns-in-None c =
    let s = c.args.text.now in
    let h = c.in-None.ensures.lookup in
    side_past c.args.digest s c.args.above c.if-above-lt64.false (slice_get_past s ((c.args.above - 64) / 8) h.3)
