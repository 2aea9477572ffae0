use Rattle.std.proofs.Common.{take, sym, subst}
use Rattle.packstream.proofs.Ranges.{bytes_from_each}
use Rattle.wire.specs.declared.parts.Part.{Part}
use Rattle.wire.specs.Prelude.{with_data}
use Rattle.packstream_incremental.specs.Prelude.{Reads}
use Rattle.packstream_incremental.proofs.Pieces.{good_before}
use Rattle.messages_deframer.proofs.Taken.{taken_bytes}
use Rattle.messages_deframer.proofs.stream.Stream.next.Goals as goal

pub returns-in_ok-feed-clause-reads : goal.returns-in_ok-feed-clause-reads
returns-in_ok-feed-clause-reads c = λ body reads.
    let cut = c.next-cut.result in
    let piece = c.args.piece.now in
    subst (λ (w : Part). Reads c.feed.new.self.here (with_data w cut.used piece body)) (sym c.in-Data.is)
    (c.reads_more.ensures c.args.self.now.reader.here c.feed.new.self.here body (take cut.used piece) reads (taken_bytes cut.used piece (bytes_from_each piece c.type_inv.piece)) c.in_ok-feed.ensures.here)

pub returns-in_ok-feed-clause-good : goal.returns-in_ok-feed-clause-good
returns-in_ok-feed-clause-good c = good_before c.args.self.now.reader.here c.feed.new.self.here (take c.next-cut.result.used c.args.piece.now) c.in_ok-feed.ensures.here
