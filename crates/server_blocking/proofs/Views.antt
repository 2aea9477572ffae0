-- Lemmas on the bytes that calls give and put, one after the other.
use Rattle.std.proofs.Common.{◌≡◌, sym, ◌∙◌, ap, ℕ, List, [], ◌++◌, append-nil, append_assoc}
use Rattle.std.specs.Io.KnownBytes.{Keeps}
use Rattle.std.proofs.KnownBytes.{Appends-nil, Appends-trans, Consumes-kept, Consumes-nil, Consumes-trans}
use Rattle.streams.proofs.Fronts.{front_whole}
use Rattle.streams.proofs.Moving.{Grows-kept, Grows-nil, Grows-trans, moved_whole}
use Rattle.server_blocking.specs.Prelude.{SourceView, SinkView, GivesBytes, PutsBytes, PutsFront, IsPartOut}

pub gives_nil : (a : SourceView) → GivesBytes a a []
gives_nil a = record { grows = Grows-nil a.given; known = Consumes-nil a.left }

pub gives_trans : (a b c : SourceView) (bs cs : List ℕ) → GivesBytes a b bs → GivesBytes b c cs → GivesBytes a c (bs ++ cs)
gives_trans a b c bs cs p q = record {
  grows = Grows-trans a.given b.given c.given bs cs p.grows q.grows;
  known = Consumes-trans a.left b.left c.left bs cs p.known q.known;
}

-- a read that fails gives nothing
pub gives_kept : (a b : SourceView) → b.given ≡ a.given → Keeps a.left b.left → GivesBytes a b []
gives_kept a b e k = record { grows = Grows-kept a.given b.given e; known = Consumes-kept a.left a.left b.left [] (Consumes-nil a.left) k }

pub puts_nil : (a : SinkView) → PutsBytes a a []
puts_nil a = record { grows = Grows-nil a.put; known = Appends-nil a.taken }

pub puts_trans : (a b c : SinkView) (bs cs : List ℕ) → PutsBytes a b bs → PutsBytes b c cs → PutsBytes a c (bs ++ cs)
puts_trans a b c bs cs p q = record {
  grows = Grows-trans a.put b.put c.put bs cs p.grows q.grows;
  known = Appends-trans a.taken b.taken c.taken bs cs p.known q.known;
}

-- all of the bytes are a prefix of them
pub puts_whole : (a b : SinkView) (bs : List ℕ) → PutsBytes a b bs → PutsFront a b bs
puts_whole a b bs p = record { grows = moved_whole a.put b.put bs p.grows; known = front_whole a.taken b.taken bs p.known }

-- A sink took these bytes, and then others.
module _ {First Then All : List ℕ → Type 0} (join : (bs cs : List ℕ) → First bs → Then cs → All (bs ++ cs)) where
  -- after all that went before, it took a part of what was held
  pub part_after : (gone : List ℕ) {held out unsent : List ℕ} → gone ++ held ≡ out → First gone → IsPartOut Then unsent held → IsPartOut All unsent out
  part_after gone {unsent = unsent} parts first p = record {
    gone = gone ++ p.gone;
    lost = p.lost;
    parts = append_assoc gone p.gone (unsent ++ p.lost) ∙ ap (λ (z : List ℕ). gone ++ z) p.parts ∙ parts;
    took = join gone p.gone first p.took;
  }

  -- after a part, it took a part of what was held
  pub part_then : {unsent held out : List ℕ} → IsPartOut First held out → IsPartOut Then unsent held → IsPartOut All unsent out
  part_then {unsent = unsent} h p = record {
    gone = h.gone ++ p.gone;
    lost = p.lost ++ h.lost;
    parts = append_assoc h.gone p.gone (unsent ++ (p.lost ++ h.lost)) ∙ ap (λ (z : List ℕ). h.gone ++ (p.gone ++ z)) (sym (append_assoc unsent p.lost h.lost))
        ∙ ap (λ (z : List ℕ). h.gone ++ z) (sym (append_assoc p.gone (unsent ++ p.lost) h.lost) ∙ ap (λ (z : List ℕ). z ++ h.lost) p.parts) ∙ h.parts;
    took = join h.gone p.gone h.took p.took;
  }

-- all that is held was taken
pub part_all : {Took : List ℕ → Type 0} (held : List ℕ) → Took held → IsPartOut Took [] held
part_all held took = record { gone = held; lost = []; parts = append-nil held; took = took }

-- a prefix of it was taken, and the rest is lost
pub part_front : {Took : List ℕ → Type 0} {held : List ℕ} → (front : List ℕ) × (rest : List ℕ) × (front ++ rest ≡ held) × Took front → IsPartOut Took [] held
part_front w = record { gone = w.0; lost = w.1; parts = w.2; took = w.3 }

-- nothing is lost
pub part_held : {Took : List ℕ → Type 0} (gone : List ℕ) {held out : List ℕ} → gone ++ held ≡ out → Took gone → IsPartOut Took held out
part_held gone {held = held} parts took = record { gone = gone; lost = []; parts = ap (λ (z : List ℕ). gone ++ z) (append-nil held) ∙ parts; took = took }

-- the bytes that were taken are a prefix
pub part_taken : {Took : List ℕ → Type 0} {unsent out : List ℕ} → IsPartOut Took unsent out → (front : List ℕ) × (rest : List ℕ) × (front ++ rest ≡ out) × Took front
part_taken {unsent = unsent} h = (h.gone, unsent ++ h.lost, h.parts, h.took)
