use Rattle.std.proofs.Common.{◌≡◌, refl, sym, ◌∙◌}
use Rattle.packstream_incremental.specs.Prelude.{whole, still, ends}
use Rattle.packstream_incremental.proofs.Leveling.{step_out, stay_in, all_ended}
use Rattle.packstream_incremental.proofs.open.Open.value_ends.Goals as goal

pub loop-self-init : goal.loop-self-init
loop-self-init c = (refl, λ fs t h. (fs, t, h, refl))

pub loop-self-preserved : goal.loop-self-preserved
loop-self-preserved c = (
  c.loop-self.invariant.0,
  λ fs t h.
      (let i = c.loop-self.invariant.1 fs t h in
      let o = step_out _ i.0 i.1 c.loop-self.self.depth c.loop-self.self.around c.loop-self-test.true i.2 c.if-inner-gt1.false in
      (o.0, o.1, o.2, o.3 ∙ i.3)),
)

pub returns-then-inner-gt1 : goal.returns-then-inner-gt1
returns-then-inner-gt1 c = λ fs t h unread.
    (let i = c.loop-self.invariant.1 fs t h in
    let o = stay_in _ i.0 i.1 c.loop-self.self.depth c.loop-self.self.around c.loop-self-test.true i.2 c.if-inner-gt1.true in
    let left : ends fs t ≡ still o.0 = sym i.3 ∙ o.1 in
    rw left (c.loop-self.invariant.0 ∙ unread, rw c.with_member.ensures o.2))

pub returns : goal.returns
returns c = λ fs t h unread.
    (let i = c.loop-self.invariant.1 fs t h in
    let left : ends fs t ≡ whole i.1 = sym i.3 ∙ all_ended i.0 i.1 c.loop-self.self.depth c.loop-self.self.around c.loop-self-test.false i.2 in
    rw left refl)
