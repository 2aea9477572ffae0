use Rattle.std.proofs.Common.{subst, List, ℕ, ◌∙◌, IfOk, string_bytes}
use Rattle.cli_serve.specs.Reasons.{IsErrorOf}
use Rattle.cli_serve.proofs.reasons.unbound_words.Goals as goal

pub returns : goal.returns
returns c = subst (λ (name : List ℕ). IfOk c.error_words.result (λ words. IsErrorOf name (string_bytes words))) (c.as_str.ensures.value ∙ c.in_ok-place.ensures) c.error_words.ensures
