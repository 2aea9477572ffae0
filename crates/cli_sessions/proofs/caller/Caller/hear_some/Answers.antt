use Rattle.cli_sessions.proofs.Followed.{refl, Appends-nil, more_heard}
use Rattle.cli_sessions.proofs.caller.Caller.hear_some.Goals as goal

pub hear_piece-done-requires : goal.hear_piece-done-requires
hear_piece-done-requires g c = λ n few. c.requires.turn c.streams.inside.source (g.T.Sink.taken c.streams.inside.sink) n few
    (rw (← c.streams.view_is) (Appends-nil (g.T.Sink.taken c.streams.inside.sink), refl))

pub returns-clause-hears : goal.returns-clause-hears
returns-clause-hears g c = λ p start s.
    let so = rw (← c.streams.view_is) at s in
    let k = c.hear_piece-done in
    let h = rw (c.new-heard.ensures.items, ← c.put_all.ensures.client) at (k.ensures.hears _ so.at.fits) in
    rw c.and.ensures (more_heard _ _ _ _ _ so c.requires.waits c.put_all.ensures.version (refl, refl) c.put_all.result k.result c.put_all.ensures.read h c.put_all.ensures.puts k.ensures.sound)
