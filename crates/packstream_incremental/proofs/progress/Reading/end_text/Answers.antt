use Rattle.std.proofs.Common.{◌≡◌, ℕ, List, false, sym, subst, ◌∙◌, IsUtf8}
use Rattle.std.specs.Str.{is_utf8}
use Rattle.packstream.proofs.Texts.{not_utf8}
use Rattle.packstream_incremental.specs.Prelude.{Holds, holds}
use Rattle.packstream_incremental.proofs.Values.{text_value}
use Rattle.packstream_incremental.proofs.Taking.{text_bad, text_told}
use Rattle.packstream_incremental.proofs.progress.Reading.end_text.Goals as goal

pub returns-in_default-clause-told : goal.returns-in_default-clause-told
returns-in_default-clause-told c =
    let h : Holds = holds c.args.self.now in
    let g = c.requires.goes in
    let there = text_told h c.args.marker c.args.number c.len.result c.size_in.result c.args.size _ c.requires.announced g c.len.ensures c.size_in.ensures c.bytes.ensures in
    text_bad h c.args.marker c.args.number c.args.size c.args.rest.now c.requires.announced g (subst (λ (s : List ℕ). is_utf8 s ≡ false) there (not_utf8 _ c.in_default.ensures))

pub end_value-requires-clause-value : goal.end_value-requires-clause-value
end_value-requires-clause-value c =
    let h : Holds = holds c.args.self.now in
    text_value h c.args.marker c.args.number c.args.size c.requires.announced
    (λ g. subst (λ (s : List ℕ). IsUtf8 s) (text_told h c.args.marker c.args.number c.len.result c.size_in.result c.args.size _ c.requires.announced g c.len.ensures c.size_in.ensures c.bytes.ensures) c.in-Ok.ensures.1)
    (λ g. sym (c.waits_for_key.ensures g.frames g.levels) ∙ c.if-waits_for_key.false)
