use Rattle.std.proofs.Common.{◌≡◌, ◌<◌, ◌∷◌, ℕ, length, refl, ap, sym, subst, ◌∙◌}
use Rattle.packstream.specs.declared.marker.Marker.TheVariants as announces
use Rattle.packstream_incremental.specs.declared.open.Open.{Open}
use Rattle.packstream_incremental.specs.Prelude.{AreLevels, waits, Holds, holds}
use Rattle.packstream_incremental.proofs.Standing.{after, has_taken}
use Rattle.packstream_incremental.proofs.Values.{has_room, dict_stands}
use Rattle.packstream_incremental.proofs.progress.Reading.end_dict.Goals as goal

pub open_dict-requires : goal.open_dict-requires
open_dict-requires c =
    subst (λ (x : Open). x.depth < 32) (sym c.end_here.ensures.opened)
    (has_room (holds c.args.self.now) c.args.marker c.args.number (announces.Dict c.args.size) c.requires.announced refl refl c.requires.goes)

pub returns-clause-told : goal.returns-clause-told
returns-clause-told c =
    let h : Holds = holds c.args.self.now in
    let o : Open = c.open_dict.new.self in
    let keys : c.count-keys.result ≡ length h.names = c.count-keys.ensures ∙ ap (λ (x : Holds). length x.names) c.end_here.ensures.item in
    has_taken h _ o c.args.rest.now (ap (λ (x : Holds). after o x) c.end_here.ensures.item) c.requires.good
    (dict_stands h c.args.marker c.args.number c.size_in-count.result c.args.size o c.requires.announced (sym c.size_in-count.ensures) c.if-count-eq0.false c.requires.goes
    (λ fs f levels e. subst (λ (k : ℕ). AreLevels (waits f c.size_in-count.result k ∷ fs) o.depth o.around) keys (c.open_dict.ensures.frames fs f (subst (λ (x : Open). AreLevels fs x.depth x.around) (sym c.end_here.ensures.opened) levels) e))
    (c.open_dict.ensures.is_whole ∙ ap (λ (x : Open). x.is_whole) c.end_here.ensures.opened))
