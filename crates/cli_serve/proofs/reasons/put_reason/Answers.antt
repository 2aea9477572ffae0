use Rattle.std.proofs.Common.{refl}
use Rattle.cli_output.proofs.Gets.{gets_then}
use Rattle.cli_serve.proofs.reasons.put_reason.Goals as goal

pub returns-clause-text : goal.returns-clause-text
returns-clause-text g c =
    let words = c.put_words.ensures in
    (_, (words.0, words.1, refl), gets_then _ _ _ _ _ _ _ _ c.put_fault_of-status.ensures.text words.2)
