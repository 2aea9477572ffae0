use Rattle.cli_sessions.proofs.Looped.{Fits, buffer_of, [], append_assoc, refl, setting, sits_takes, ◌++◌}
use Rattle.cli_sessions.proofs.passing.give.Goals as goal

pub returns-in-Over-clause-sits : goal.returns-in-Over-clause-sits
returns-in-Over-clause-sits g c = λ r sent i h.
    let s = rw c.in-Over.is at h in
    rw c.in-Over.is (record { front = s.front; rest = s.rest ++ c.args.piece.now; parts = rw (← append_assoc s.front s.rest c.args.piece.now, s.parts) refl; stands = s.stands; over = s.over })

pub returns-in-Ok-clause-sits : goal.returns-in-Ok-clause-sits
returns-in-Ok-clause-sits g c = λ r sent i h.
    let k = rw c.in-Open.is at h in
    let S = setting g.E.Engine.answer g.G.Gate.welcomes r in
    sits_takes r c.args.conn S (Fits g.E.Engine.entries c.take_piece.new.server) sent c.args.piece.now c.take_piece.new.sink.bytes.items c.in-Ok.after
    (c.in-Ok.ensures.takes r (buffer_of []) sent i k.1 k.0)
