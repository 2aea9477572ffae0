use Rattle.std.proofs.Common.{◌≡◌, ap, ◌∙◌, ℕ, List, ◌&&◌, codes, bytes_eq}
use Rattle.engine.specs.Prelude.{principal_of, credentials_of, ledger_of, fixed_answer, under_own_name, EntryView}
use Rattle.server_blocking.specs.Prelude.{Talk, conversation, end_of, setting_of}
use Rattle.cli_commands.specs.Answers.{talk_of}
use Rattle.cli_commands.proofs.answers.answer_bytes.Goals as goal

-- a conversation with a server that lets in one user
abbrev talk_by : List ℕ → List ℕ → List EntryView → List ℕ → Talk
talk_by principal credentials ledger bytes = conversation (setting_of fixed_answer (under_own_name (λ p c. bytes_eq p principal && bytes_eq c credentials))) 0 ledger bytes

pub returns : goal.returns
returns c =
    let bytes = c.args.bytes.now in
    let ledger = ledger_of c.new-2.result in
    let t : talk_by (principal_of c.in_ok-gate.gate) (credentials_of c.in_ok-gate.gate) ledger bytes ≡ talk_of bytes = ap (λ x. talk_by x (credentials_of c.in_ok-gate.gate) ledger bytes) c.in_ok-gate.ensures.principal
    ∙ ap (λ x. talk_by (codes "user") x ledger bytes) c.in_ok-gate.ensures.credentials ∙ ap (λ x. talk_by (codes "user") (codes "pass") x bytes) c.new-2.ensures in
    (c.in-Ok.ensures.out ∙ ap (λ (x : Talk). x.out) t, c.in-Ok.ensures.last ∙ ap (λ (x : Talk). end_of x.kept) t)
