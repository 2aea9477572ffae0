use Rattle.std.proofs.Common.{◌≡◌, true, map}
use Rattle.client.specs.Prelude.{Rest, note, Fits}
use Rattle.client_blocking.specs.Prelude.{source_view, ReadsOn}
use Rattle.streams.specs.Prelude.{StaysSound}
use Rattle.client_blocking.proofs.client_end.read_on.Given as goal

abbrev pub invariant-loop-buffer : goal.invariant-loop-buffer
invariant-loop-buffer g l = record {
  reads : (r : Rest) → Fits l.fn.client r → ReadsOn r (source_view g.I.PeerSource.given g.I.PeerSource.left l.fn.source) (source_view g.I.PeerSource.given g.I.PeerSource.left l.source) (map note l.fn.heard.items) (map note l.heard.items) (Fits l.client);
  sound : StaysSound (g.I.PeerSource.has_failed l.fn.source) (g.I.PeerSource.has_failed l.source);
  stays : g.I.PeerSource.has_failed l.fn.source ≡ true → g.I.PeerSource.has_failed l.source ≡ true;
}

abbrev pub decreases-loop-buffer : goal.decreases-loop-buffer
decreases-loop-buffer g l = g.I.PeerSource.reads l.source
