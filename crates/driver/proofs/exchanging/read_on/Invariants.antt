use Rattle.std.proofs.Common.{◌≡◌, true, Ok}
use Rattle.streams.specs.Prelude.{StaysSound}
use Rattle.driver.specs.Prelude.{stand_of, ReadsOn}
use Rattle.driver.proofs.exchanging.read_on.Given as goal

abbrev pub invariant-loop-buffer : goal.invariant-loop-buffer
invariant-loop-buffer g l = record {
  reads : ReadsOn (stand_of l.fn.tracking) (stand_of l.tracking) (g.I.Source.given l.fn.source) (g.I.Source.given l.source) (Ok tt);
  sound : StaysSound (g.I.Source.has_failed l.fn.source) (g.I.Source.has_failed l.source);
  stays : g.I.Source.has_failed l.fn.source ≡ true → g.I.Source.has_failed l.source ≡ true;
}

abbrev pub decreases-loop-buffer : goal.decreases-loop-buffer
decreases-loop-buffer g l = g.I.Source.reads l.source
