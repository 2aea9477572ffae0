use Rattle.std.proofs.Common.{◌≡◌, true, sym, ap, ◌∙◌}
use Rattle.cli_scripts.specs.Prelude.{is_decimal, without_minus}
use Rattle.cli_scripts.proofs.Numbers.{parsed_whole}
use Rattle.cli_scripts.proofs.words.whole_of.Goals as goal

pub returns : goal.returns
returns c =
    let digits : is_decimal (without_minus c.args.word.now) ≡ true = ap (λ b. is_decimal (without_minus b)) (sym c.as_bytes.ensures.value) ∙ ap is_decimal (sym c.without_minus.ensures) ∙ sym c.is_decimal.ensures ∙ c.if-not-is_decimal.false in
    c.ok.ensures.value ∙ parsed_whole c.args.word.now c.parse.result c.parse.ensures.value.0 digits
