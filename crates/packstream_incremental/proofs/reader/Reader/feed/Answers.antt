use Rattle.std.proofs.Common.{Bool, sym, subst}
use Rattle.packstream_incremental.specs.Prelude.{holds, IsKept, IsKeptAt}
use Rattle.packstream_incremental.proofs.Held.{keeps_at, kept_marked}
use Rattle.packstream_incremental.proofs.reader.Reader.feed.Goals as goal

pub invariant_of-self : goal.invariant_of-self
invariant_of-self c =
    let i = c.self.inside in
    let m = c.mark_in.new.mark in
    let kept = kept_marked (holds i.reading) m c.mark_in.ensures (keeps_at i.is_still (holds i.reading) i.held c.self.invariant) in
    subst (λ (b : Bool). IsKeptAt b (holds c.feed.new.self) m) (sym c.if-self.true) (c.feed.ensures.held m kept).0.here

pub invariant_of-self-then-self : goal.invariant_of-self-then-self
invariant_of-self-then-self c =
    let i = c.self.inside in
    let m = c.mark_in.new.mark in
    (c.feed.ensures.held m (kept_marked (holds i.reading) m c.mark_in.ensures (keeps_at i.is_still (holds i.reading) i.held c.self.invariant))).0

pub invariant_of-self-2 : goal.invariant_of-self-2
invariant_of-self-2 c =
    let i = c.self.inside in
    let kept : IsKept (holds i.reading) i.held = subst (λ (b : Bool). IsKeptAt b (holds i.reading) i.held) c.if-self.false c.self.invariant in
    subst (λ (b : Bool). IsKeptAt b (holds c.feed-2.new.self) i.held) (sym c.if-self.false) (c.feed-2.ensures.held i.held kept).0
