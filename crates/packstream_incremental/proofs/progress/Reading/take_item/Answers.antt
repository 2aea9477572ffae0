use Rattle.std.proofs.Common.{◌≡◌, [], ◌∷◌, sym, subst, ◌∙◌}
use Rattle.packstream.specs.declared.fault.Reason.TheVariants as reason
use Rattle.packstream_incremental.specs.Prelude.{place, Holds, holds, Goes}
use Rattle.packstream_incremental.specs.declared.progress.Part.TheVariants as part
use Rattle.packstream_incremental.proofs.Opening.{refused, no_marker}
use Rattle.packstream_incremental.proofs.Taking.{stored_is, goes_of, done_of, trails, head_bad, head_starts}
use Rattle.packstream_incremental.proofs.progress.Reading.take_item.Goals as goal

pub returns-then-is_whole-clause-told : goal.returns-then-is_whole-clause-told
returns-then-is_whole-clause-told c =
    let h : Holds = holds c.args.self.now in
    trails h c.args.marker c.args.bytes.now (done_of h c.requires.stands (sym c.is_whole.ensures ∙ c.if-is_whole.true)) c.requires.bytes

pub returns-in_default-clause-told : goal.returns-in_default-clause-told
returns-in_default-clause-told c =
    let h : Holds = holds c.args.self.now in
    let g = goes_of h c.requires.stands c.requires.none (sym c.is_whole.ensures ∙ c.if-is_whole.false) in
    head_bad h c.args.marker c.args.bytes.now reason.Marker g (no_marker (place g.frames) c.args.marker c.args.bytes.now (sym c.in_default.ensures), λ (e : reason.Marker ≡ reason.Short). cc)

pub returns-in-Some-refuses-clause-told : goal.returns-in-Some-refuses-clause-told
returns-in-Some-refuses-clause-told c =
    let h : Holds = holds c.args.self.now in
    let g = goes_of h c.requires.stands c.requires.none (sym c.is_whole.ensures ∙ c.if-is_whole.false) in
    head_bad h c.args.marker c.args.bytes.now c.in-Some-refuses.reason g
    (refused (place g.frames) c.args.marker c.in-Some.announced c.args.bytes.now c.in-Some-refuses.reason (sym c.in-Some.ensures) (sym (c.in-Some-refuses.ensures g.frames g.levels)))

pub take_head-requires-clause-goes : goal.take_head-requires-clause-goes
take_head-requires-clause-goes c =
    let h : Holds = holds c.args.self.now in
    let g = goes_of h c.requires.stands c.requires.none (sym c.is_whole.ensures ∙ c.if-is_whole.false) in
    subst (λ (x : Holds). Goes x (part.Head c.args.marker 0 0)) (sym (stored_is h c.extend.new.self.bytes (c.args.marker ∷ []) c.extend.new.self.names c.in_ok-extend.ensures.ok c.in_ok-extend.ensures.keys))
    (head_starts h c.args.marker g (c.in-Some.announced, sym c.in-Some.ensures, sym (c.in_default-refuses.ensures g.frames g.levels)))
