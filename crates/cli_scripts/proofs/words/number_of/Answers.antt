use Rattle.std.proofs.Common.{◌≡◌, true, sym, ap, ◌∙◌}
use Rattle.cli_scripts.specs.Prelude.{is_decimal}
use Rattle.cli_scripts.proofs.Numbers.{parsed_number}
use Rattle.cli_scripts.proofs.words.number_of.Goals as goal

pub returns : goal.returns
returns c =
    let digits : is_decimal c.args.word.now ≡ true = ap is_decimal (sym c.as_bytes.ensures.value) ∙ sym c.is_decimal.ensures ∙ c.if-not-is_decimal.false in
    c.ok.ensures.value ∙ parsed_number c.args.word.now c.parse.result c.parse.ensures.value.0 digits
