use Rattle.std.proofs.Common.{ℕ, rules, subst, take}
use Rattle.streams.specs.Moving.{Grows}
use Rattle.driver.specs.Prelude.{stand_of}
use Rattle.driver.proofs.Reading.{reads_piece, reads_kept, reads_empty}
use Rattle.driver.proofs.exchanging.read_piece.Goals as goal

pub returns-in_default-clause-reads : goal.returns-in_default-clause-reads
returns-in_default-clause-reads g c = reads_kept (stand_of c.args.tracking.now) (g.I.Source.given c.args.source.now) (g.I.Source.given c.read.new.self) c.in_default.ensures.moves

pub returns-then-len-eq0-clause-reads : goal.returns-then-len-eq0-clause-reads
returns-then-len-eq0-clause-reads g c =
    reads_empty (stand_of c.args.tracking.now) (g.I.Source.given c.args.source.now) (g.I.Source.given c.read.new.self)
    (subst (λ (n : ℕ). Grows (g.I.Source.given c.args.source.now) (g.I.Source.given c.read.new.self) (take n c.read.new.buffer)) c.if-len-eq0.true c.in-Ok.ensures.moves)

pub returns-clause-reads : goal.returns-clause-reads
returns-clause-reads g c = reads_piece (search rules) c.feed_piece.ensures.feeds
