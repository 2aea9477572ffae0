use Rattle.messages.proofs.Words.{refl, ap, bytes_from_each, whole_value, value_told}
use Rattle.messages.proofs.Sent.{bad_answers, err_is}
use Rattle.messages.proofs.codec.value_in.Goals as goal

pub returns-in_err-decode : goal.returns-in_err-decode
returns-in_err-decode c = bad_answers (λ p. p) c.args.bytes.now (bytes_from_each c.args.bytes.now c.type_inv.bytes) c.in_err-decode.field-0.0 _ c.in_err-decode.ensures.fault (err_is _ _ c.from_residual.ensures.1)

pub returns : goal.returns
returns c = ap value_told ((whole_value c.args.bytes.now (bytes_from_each c.args.bytes.now c.type_inv.bytes) c.in_ok-decode.field-0).1 ((c.in_ok-decode.ensures.value c.in_ok-decode.field-0).0 refl))
