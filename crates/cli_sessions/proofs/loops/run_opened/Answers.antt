use Rattle.cli_sessions.proofs.Looped.{AreQuiet, Comes, Fits, Rest, ap, breaks_lines, breaks_none, ends_at, entries_view, inl, inr, opened, said_requests, setting, subst, turns_of, ℕ, ◌∙◌}
use Rattle.cli_sessions.proofs.loops.run_opened.Goals as goal

pub returns-in-Err : goal.returns-in-Err
returns-in-Err g c = λ r f none. rw c.in-Err.ensures.fault (inl (c.in-Err.ensures.opens r f none), (tt, breaks_none _ _ _))

pub run_lines-requires : goal.run_lines-requires
run_lines-requires g c =
    let v = c.requires.vacant in let o = c.in-Ok.ensures.opens v.0 v.1 v.2 in ((opened v.0, o.now, o.found), (c.requires.near, c.requires.far))

pub returns-in-Err-run_lines : goal.returns-in-Err-run_lines
returns-in-Err-run_lines g c = λ r f none.
    let o = c.in-Ok.ensures.opens r f none in
    let k = rw o.number at (c.in-Err-run_lines.ensures (opened r) c.args.ways.now.at o.found (o.comes _)) in
    (inr k.0, (k.1, breaks_lines _ _ _ k.2))

pub returns : goal.returns
returns g c = λ r f none.
    let o = c.in-Ok.ensures.opens r f none in
    let S = setting g.E.Engine.answer g.G.Gate.welcomes r in
    let lines = said_requests c.args.lines.items in
    let Now = Fits g.E.Engine.entries c.run_lines.new.server in
    let Came = λ (n : ℕ). Comes (opened r) n S c.args.ways.now.at c.run_lines.new.ways.at (turns_of S n r.ledger lines) c.run_lines.new.pair Now in
    let came = c.in-Ok-run_lines.ensures (opened r) c.args.ways.now.at o.found (o.comes _) in
    let k = rw (← c.ways.view_is) at (subst (λ (n : ℕ). Came n × AreQuiet S n r.ledger lines) o.number came) in
    let p = c.put_entries.ensures in
    ends_at r S lines (g.O.Sink.taken c.put_entries.new.out) k (entries_view c.ledger.result.now)
    (λ x e. c.ledger.ensures.lends ∙ c.engine.ensures ∙ ap (λ (z : Rest g.row.G.Denot). z.ledger) e) _ p.told p.front p.read p.written
