use Rattle.std.proofs.Common.{◌-◌, length, sym, subst, arith}
use Rattle.packstream_incremental.specs.declared.progress.Part.TheVariants as part
use Rattle.packstream_incremental.specs.Prelude.{Holds, holds, Goes}
use Rattle.packstream_incremental.proofs.Taking.{body_taken, stored_is, body_longer}
use Rattle.packstream_incremental.proofs.progress.Reading.take_body.Goals as goal

pub returns-then-bytes-lacks-clause-told : goal.returns-then-bytes-lacks-clause-told
returns-then-bytes-lacks-clause-told c =
    body_taken (holds c.args.self.now) c.args.marker c.args.number c.args.lacks (c.args.lacks - length c.args.bytes.now) c.extend.new.self.bytes c.args.bytes.now c.extend.new.self.names
    c.in_ok-extend.ensures.ok c.in_ok-extend.ensures.keys c.requires.goes (omega arith) (omega arith) c.requires.good

pub end_item-requires-2-clause-goes : goal.end_item-requires-2-clause-goes
end_item-requires-2-clause-goes c =
    let h : Holds = holds c.args.self.now in
    let s = c.split_at.result.0.now in
    subst (λ (x : Holds). Goes x (part.Body c.args.marker c.args.number 0)) (sym (stored_is h c.extend-2.new.self.bytes s c.extend-2.new.self.names c.in_ok-extend-2.ensures.ok c.in_ok-extend-2.ensures.keys))
    (body_longer h c.args.marker c.args.number c.args.lacks 0 s c.requires.goes (omega (arith, c.split_at.ensures.front_len)))
