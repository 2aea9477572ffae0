use Rattle.cli_sessions.proofs.Followed.{take, Gets, losses_text}
use Rattle.cli_sessions.proofs.errors.put_losses.Given as goal

-- those before it are told
abbrev pub invariant-loop-ordinal : goal.invariant-loop-ordinal
invariant-loop-ordinal g l =
    Gets (g.E.Sink.has_failed l.fn.err) (g.E.Sink.has_failed l.err) (g.E.Sink.taken l.fn.err) (g.E.Sink.taken l.err)
    (losses_text (take l.ordinal-index l.losses))
