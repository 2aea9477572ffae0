use Rattle.std.proofs.Common.{sym, subst, ◌∙◌}
use Rattle.packstream.specs.Prelude.{AreBytes}
use Rattle.packstream.proofs.Ranges.{bytes_from_each, both_bytes}
use Rattle.packstream_incremental.specs.Prelude.{holds}
use Rattle.packstream_incremental.proofs.Taking.{has_bytes}
use Rattle.packstream_incremental.proofs.progress.Reading.take.Goals as goal

pub take_item-requires-clause-bytes : goal.take_item-requires-clause-bytes
take_item-requires-clause-bytes c =
    has_bytes _ (holds c.loop-first.self) c.loop-first.rest.now c.loop-first.invariant.0
    (subst AreBytes (sym (c.in_ok-rest.ensures.told.bytes ∙ c.in_ok-after_part.ensures.told.bytes)) (both_bytes (holds c.args.self.now).store c.args.piece.now c.requires.keeping.bytes (bytes_from_each c.args.piece.now c.type_inv.piece)))
