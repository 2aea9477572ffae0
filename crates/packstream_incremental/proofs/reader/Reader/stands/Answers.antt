use Rattle.std.proofs.Common.{ap, sym, subst, ◌∙◌}
use Rattle.packstream_incremental.specs.Prelude.{Point, Points, MayGoOn, Holds, holds}
use Rattle.packstream_incremental.proofs.Held.{keeps_at, here_at, may_go_on}
use Rattle.packstream_incremental.proofs.reader.Reader.stands.Goals as goal

pub returns-clause-good : goal.returns-clause-good
returns-clause-good c = λ good.
    let i = c.self.inside in
    let h : Holds = holds i.reading in
    let here = sym (here_at i.is_still h i.held) ∙ ap (λ (p : Points). p.here) c.self.view_is in
    subst (λ (p : Point). MayGoOn p.bytes) here (may_go_on h (keeps_at i.is_still h i.held c.self.invariant))
