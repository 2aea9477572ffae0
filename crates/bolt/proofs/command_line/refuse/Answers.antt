use Rattle.std.proofs.Common.{List, ℕ, ◌++◌, codes, sym, ap, ◌∙◌, subst}
use Rattle.cli_output.specs.Prelude.{Gets}
use Rattle.cli_output.proofs.Gets.{gets_then}
use Rattle.bolt.specs.Starting.{unread_text}
use Rattle.bolt.proofs.command_line.refuse.Goals as goal

pub returns-in-NotText-clause-text : goal.returns-in-NotText-clause-text
returns-in-NotText-clause-text g c =
    let Told : List ℕ → Type 0 = Gets (g.E.Sink.has_failed c.args.err.now) (g.E.Sink.has_failed c.tell-in-NotText-2.new.err) (g.E.Sink.taken c.args.err.now) (g.E.Sink.taken c.tell-in-NotText-2.new.err) in
    let all : Told _ = gets_then _ _ _ _ _ _ _ _ c.tell-in-NotText.ensures c.tell-in-NotText-2.ensures in
    subst Told (sym (ap unread_text c.in-NotText.is)) (subst (λ (t : List ℕ). Told (codes "error: a word is not UTF-8\n" ++ t)) (c.as_bytes.ensures.value ∙ c.help_text.ensures) all)
