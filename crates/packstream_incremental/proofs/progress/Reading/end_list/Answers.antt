use Rattle.std.proofs.Common.{◌<◌, ap, sym, subst, ◌∙◌}
use Rattle.packstream_incremental.specs.declared.open.Open.{Open}
use Rattle.packstream_incremental.specs.Prelude.{AreLevels, Holds, holds}
use Rattle.packstream_incremental.proofs.Standing.{after, has_taken}
use Rattle.packstream_incremental.proofs.Values.{list_has_room, list_stands}
use Rattle.packstream_incremental.proofs.progress.Reading.end_list.Goals as goal

pub open-requires : goal.open-requires
open-requires c =
    subst (λ (x : Open). x.depth < 32) (sym c.end_here.ensures.opened)
    (list_has_room (holds c.args.self.now) c.args.marker c.args.number c.args.count c.args.announced c.requires.announced c.requires.list c.requires.goes)

pub returns-clause-told : goal.returns-clause-told
returns-clause-told c =
    let h : Holds = holds c.args.self.now in
    let o : Open = c.open.new.self in
    has_taken h _ o c.args.rest.now (ap (λ (x : Holds). after o x) c.end_here.ensures.item) c.requires.good
    (list_stands h c.args.marker c.args.number c.args.count c.args.announced o c.requires.announced c.requires.list c.if-count-eq0.false c.requires.goes
    (λ fs f levels e. c.open.ensures.frames fs f (subst (λ (x : Open). AreLevels fs x.depth x.around) (sym c.end_here.ensures.opened) levels) e)
    (c.open.ensures.is_whole ∙ ap (λ (x : Open). x.is_whole) c.end_here.ensures.opened))
