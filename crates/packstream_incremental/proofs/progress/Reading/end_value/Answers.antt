use Rattle.std.proofs.Common.{ap, sym, subst, ◌∙◌}
use Rattle.packstream_incremental.specs.declared.open.Open.{Open}
use Rattle.packstream_incremental.specs.Prelude.{AreLevels, Holds, holds}
use Rattle.packstream_incremental.proofs.Standing.{after, value_stands, has_taken}
use Rattle.packstream_incremental.proofs.progress.Reading.end_value.Goals as goal

pub returns-clause-told : goal.returns-clause-told
returns-clause-told c =
    let h : Holds = holds c.args.self.now in
    let o : Open = c.value_ends.new.self in
    has_taken h _ o c.args.rest.now (ap (λ (x : Holds). after o x) c.end_here.ensures.item) c.requires.good
    (value_stands h c.args.marker c.args.number o c.requires.goes c.requires.value
    (λ fs t levels unread. c.value_ends.ensures fs t (subst (λ (x : Open). AreLevels fs x.depth x.around) (sym c.end_here.ensures.opened) levels) (ap (λ (x : Open). x.is_whole) c.end_here.ensures.opened ∙ unread)))
