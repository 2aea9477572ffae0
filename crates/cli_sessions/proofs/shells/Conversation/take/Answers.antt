use Rattle.cli_sessions.proofs.Followed.{◌≡◌, ◌++◌, ◌+◌, ◌∷◌, append_assoc, arith, common_steps, drop, get_or, take}
use Rattle.cli_sessions.proofs.shells.Conversation.take.Goals as goal

pub returns-in-Err-clause-takes : goal.returns-in-Err-clause-takes
returns-in-Err-clause-takes g c = λ start script p.
    let t = c.args.piece.now in
    let i = c.loop-byte.byte-index in
    let all : take i t ++ get_or t i 0 ∷ drop (i + 1) t ≡ t = grind (arith, common_steps, c.loop-byte-test.true) in
    rw (append_assoc, all) at (c.in-Err.ensures.takes start (script ++ take i t) (c.loop-byte.invariant start script p) (drop (i + 1) t))

pub take_byte-requires : goal.take_byte-requires
take_byte-requires g c = λ s taken n few turn.
    c.requires s taken n few (λ start script p. turn start (script ++ take c.loop-byte.byte-index c.args.piece.now) (c.loop-byte.invariant start script p))
