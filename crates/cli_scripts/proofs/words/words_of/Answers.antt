use Rattle.std.proofs.Common.{◌≡◌, map, false, sym, ap, ◌∙◌, Some}
use Rattle.std.specs.List.{list_any}
use Rattle.cli_scripts.specs.Prelude.{parts_of, is_empty}
use Rattle.cli_scripts.proofs.Parted.{no_words, whole_words}
use Rattle.cli_scripts.proofs.words.words_of.Goals as goal

pub returns-in_default : goal.returns-in_default
returns-in_default c = no_words c.args.line.now c.in_default.ensures.cases.0

pub returns : goal.returns
returns c =
    let all : map (λ w. w.now) c.in-Ok-parted.words.items ≡ parts_of c.args.line.now = c.in-Ok-parted.ensures ∙ ap parts_of c.in-Ok.ensures.cases.0 in
    let none : list_any is_empty (parts_of c.args.line.now) ≡ false =
    ap (list_any is_empty) (sym all) ∙ ap (λ ws. list_any is_empty (map (λ w. w.now) ws)) (sym c.as_slice.ensures.value) ∙ sym c.has_empty.ensures ∙ c.if-has_empty.false in
    whole_words c.args.line.now c.in-Ok.ensures.cases.1 none ∙ ap Some (sym all)
