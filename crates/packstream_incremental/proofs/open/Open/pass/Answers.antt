use Rattle.std.proofs.Common.{◌-◌, arith, ap, sym, ◌∙◌}
use Rattle.std.proofs.lemmas.Option.{get_or_from_slice_get}
use Rattle.packstream_incremental.specs.declared.open.Level.{Level}
use Rattle.packstream_incremental.specs.declared.open.Inside.TheVariants as inside
use Rattle.packstream_incremental.proofs.Leveling.{last_level, passes}
use Rattle.packstream_incremental.proofs.open.Open.pass.Goals as goal

pub returns-clause-frames : goal.returns-clause-frames
returns-clause-frames c = λ f fs levels.
    (let d : Level = record { next = inside.Member; lacks = 0; keys = 0 } in
    let r = c.requires in
    let around = c.args.self.now.around in
    let is = sym (get_or_from_slice_get around (c.args.self.now.depth - 1) r.last d r.there) ∙ last_level d f fs c.args.self.now.depth around levels in
    record {
      member = sym (ap (λ (l : Level). l.next) is) ∙ r.member;
      fewer = omega (arith, r.fewer, ap (λ (l : Level). l.lacks) is);
      levels = λ g next. passes d c.args.members c.args.self.now.depth around f fs g levels next;
    })
