use Rattle.messages.proofs.Words.{sym, refl, on_ok_weaker, tree}
use Rattle.messages.proofs.Sent.{err_is, good_text, bad_text, nothing_appended}
use Rattle.messages.proofs.codec.put.Goals as goal

pub returns-in_err-packed-clause-text : goal.returns-in_err-packed-clause-text
returns-in_err-packed-clause-text c = nothing_appended _ _ _ _ (err_is _ _ c.from_residual.ensures.1) (bad_text (tree c.args.value) c.in_err-packed.field-0.0 c.in_err-packed.ensures.fault c.in_err-packed.ensures.memory)

pub returns-clause-text : goal.returns-clause-text
returns-clause-text c = rw (good_text (tree c.args.value) c.in_ok-packed.packed c.in_ok-packed.ensures.fault, sym c.in_ok-packed.ensures.value) c.put_packed.ensures.text

pub returns-clause-spells : goal.returns-clause-spells
returns-clause-spells c = on_ok_weaker c.put_packed.result (λ s. (c.in_ok-packed.ensures.good.0 refl, rw c.in_ok-packed.ensures.value at s)) c.put_packed.ensures.spells
