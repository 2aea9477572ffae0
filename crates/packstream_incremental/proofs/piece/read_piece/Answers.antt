use Rattle.std.proofs.Common.{[], refl, subst}
use Rattle.packstream.proofs.Ranges.{bytes_from_each}
use Rattle.packstream_incremental.specs.Prelude.{Points, Point, Takes, Finishes, nothing_read}
use Rattle.packstream_incremental.proofs.Pieces.{more_read, value_read, fault_read}
use Rattle.packstream_incremental.proofs.piece.read_piece.Goals as goal

pub returns : goal.returns
returns c =
    let b = c.args.bytes.now in
    let new : Point = c.feed.new.self.here in
    let takes = subst (λ (p : Points). Takes p.here b new) c.new-reader.ensures c.in-Ok.ensures.here in
    let reads = more_read nothing_read new [] b (tt, refl) (bytes_from_each b c.type_inv.bytes) takes in
    let told : Finishes new c.finish.result = record { value = c.finish.ensures.value; fault = c.finish.ensures.fault; bad = c.finish.ensures.bad } in
    record { value = value_read new b c.finish.result reads told; fault = fault_read new b c.finish.result reads told }
