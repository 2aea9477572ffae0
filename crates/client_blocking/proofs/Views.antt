-- Lemmas on the bytes that calls give and put, one after the other.
use Rattle.std.proofs.Common.{◌≡◌, ℕ, List, [], ◌++◌}
use Rattle.std.specs.Io.KnownBytes.{Keeps}
use Rattle.std.proofs.KnownBytes.{Consumes-kept, Consumes-nil, Consumes-trans}
use Rattle.streams.proofs.Moving.{Grows-kept, Grows-nil, Grows-trans}
use Rattle.client_blocking.specs.Prelude.{SourceView, GivesBytes}

pub gives_nil : (a : SourceView) → GivesBytes a a []
gives_nil a = record { grows = Grows-nil a.given; known = Consumes-nil a.left }

pub gives_trans : (a b c : SourceView) (bs cs : List ℕ) → GivesBytes a b bs → GivesBytes b c cs → GivesBytes a c (bs ++ cs)
gives_trans a b c bs cs p q = record {
  grows = Grows-trans a.given b.given c.given bs cs p.grows q.grows;
  known = Consumes-trans a.left b.left c.left bs cs p.known q.known;
}

-- a read that fails gives nothing
pub gives_kept : (a b : SourceView) → b.given ≡ a.given → Keeps a.left b.left → GivesBytes a b []
gives_kept a b e k = record { grows = Grows-kept a.given b.given e; known = Consumes-kept a.left a.left b.left [] (Consumes-nil a.left) k }
