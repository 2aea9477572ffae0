use Rattle.std.proofs.Common.{arith, ◌≡◌, ℕ, ◌++◌, ◌∷◌, [], ap, ◌∙◌, length, true, false}
use Rattle.packstream_incremental.specs.Prelude.{hung}
use Rattle.packstream_incremental.proofs.Hanging.{hang_writes}
use Rattle.packstream_incremental.proofs.texts.hang.Goals as goal

pub returns-then-link-clause-ok : goal.returns-then-link-clause-ok
returns-then-link-clause-ok c =
    let n : c.len-number.result ≡ length c.args.keys.now.items = omega (arith, c.args.keys.now.ok.0, c.len-number.ensures) in
    hang_writes c.args.keys.now.items c.push.new.self.items c.args.key c.index_mut-parent.result.now c.args.key.above c.in-Some.link true c.len-number.result c.in-Some.is c.if-link.true c.in-Ok.ensures.items c.requires c.index_mut-parent.ensures.value
    ∙ ap (λ (n : ℕ). hung c.args.key.above n c.args.keys.now.items ++ c.args.key ∷ []) n

pub returns-else-link-clause-ok : goal.returns-else-link-clause-ok
returns-else-link-clause-ok c =
    let n : c.len-number.result ≡ length c.args.keys.now.items = omega (arith, c.args.keys.now.ok.0, c.len-number.ensures) in
    hang_writes c.args.keys.now.items c.push.new.self.items c.args.key c.index_mut-parent.result.now c.args.key.above c.in-Some.link false c.len-number.result c.in-Some.is c.if-link.false c.in-Ok.ensures.items c.requires c.index_mut-parent.ensures.value
    ∙ ap (λ (n : ℕ). hung c.args.key.above n c.args.keys.now.items ++ c.args.key ∷ []) n
