use Rattle.std.proofs.Common.{Bool, sym, subst}
use Rattle.packstream_incremental.specs.Prelude.{Holds, holds, IsKept, IsKeptAt}
use Rattle.packstream_incremental.proofs.Held.{kept_back}
use Rattle.packstream_incremental.proofs.reader.Reader.back.Goals as goal

pub invariant_of-self : goal.invariant_of-self
invariant_of-self c =
    let i = c.self.inside in
    let still = c.if-not-self.true in
    let kept : IsKept (holds i.reading) i.held = subst (λ (b : Bool). IsKeptAt b (holds i.reading) i.held) still c.self.invariant in
    subst (λ (b : Bool). IsKeptAt b (holds c.cut.new.self) i.held) (sym still) (subst (λ (x : Holds). IsKept x i.held) (sym c.cut.ensures) (kept_back (holds i.reading) i.held kept))
