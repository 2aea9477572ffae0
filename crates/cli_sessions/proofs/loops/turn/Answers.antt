use Rattle.cli_sessions.proofs.Looped.{Fits, answer_to, breaks_here, broken_off, grows_by, hears_so, inl, arith, outset, setting, sits_talk, source_after, turn_goes, ◌++◌, ◌≡◌}
use Rattle.cli_sessions.proofs.loops.turn.Goals as goal

pub returns-in-Err-clause-goes : goal.returns-in-Err-clause-goes
returns-in-Err-clause-goes g c = λ r start t sent after i parts m0.
    let m = rw (← c.ways.view_is) at m0 in
    let k = c.in-Err.ensures in
    broken_off c.in-Err.fault m.lives (λ e. inl (source_after m.up (k.read e))) (λ e. inl (k.written e)) (breaks_here t sent m (c.args.piece.now ++ after) parts)

pub returns-in-Err-give-clause-goes : goal.returns-in-Err-give-clause-goes
returns-in-Err-give-clause-goes g c = λ r start t sent after i parts m0.
    let m = rw (← c.ways.view_is) at m0 in
    let lives = grows_by c.args.conn (Fits g.E.Engine.entries c.args.server.now) (Fits g.E.Engine.entries c.give.new.server) c.give.ensures.grows r i m.lives in
    rw c.in-Err-give.ensures.fault (lives, tt, breaks_here t sent m (c.args.piece.now ++ after) parts)

pub returns-clause-on : goal.returns-clause-on
returns-clause-on g c = grind (arith, c.hand_over.ensures.lets, c.give.ensures.live, c.in-Ok.ensures.lets)

pub returns-clause-goes : goal.returns-clause-goes
returns-clause-goes g c = λ r start t sent after i parts m0.
    let m = rw (← c.ways.view_is) at m0 in
    let Was = Fits g.E.Engine.entries c.args.server.now in
    let Then = Fits g.E.Engine.entries c.give.new.server in
    let S = setting g.E.Engine.answer g.G.Gate.welcomes r in
    let to = answer_to S c.args.conn r.ledger in
    let lives = grows_by c.args.conn Was Then c.give.ensures.grows r i m.lives in
    let s = c.in-Ok-give.ensures.sits r (t.sent ++ sent) i m.session in
    let old = sits_talk r c.args.conn S Was (t.sent ++ sent) _ _ m.session in
    let new = sits_talk r c.args.conn S Then ((t.sent ++ sent) ++ c.args.piece.now) _ _ s in
    let due : c.put_out_behind-answer.result.now ≡ to (t.sent ++ sent) c.args.piece.now = cc (c.put_out_behind-answer.ensures, c.bytes-before.ensures, old.2, new.2) in
    let k = c.hand_over.ensures in
    let heard = rw due at (k.hears (outset r c.args.conn S start t) (to t.sent sent) (to ((t.sent ++ sent) ++ c.args.piece.now) after) (hears_so t sent m)) in
    turn_goes t sent m _ _ c.args.piece.now after c.hand_over.result parts lives c.in-Ok.ensures.passes s heard k.read k.written
