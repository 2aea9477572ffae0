use Rattle.cli_sessions.proofs.Looped.{BreaksIn, Comes, Fits, Turns, [], all_done, ap, lines_break, lines_more, nil_from_length, no_turns, rules, said_requests, setting, take-nil, turns_of}
use Rattle.cli_sessions.proofs.loops.run_lines.Goals as goal

pub returns-in-Err : goal.returns-in-Err
returns-in-Err g c = λ r start i h. let k = c.in-Err.ensures.goes r start no_turns i h in (k.0, k.1, (0, k.2))

pub loop-line-init : goal.loop-line-init
loop-line-init g c = record {
  on = c.in-Ok.ensures.on;
  goes = λ r start i h.
      let k = c.in-Ok.ensures.goes r start no_turns i h in
      let parts = ap said_requests c.into_iter-line-iterator.ensures.into_iter_gives.0 in
      ([], parts, k.0, λ n. rw take-nil k.1);
}

pub loop-line-preserved : goal.loop-line-preserved
loop-line-preserved g c = record {
  on = c.in-Ok-run_line.ensures.on;
  goes = λ r start i h.
      let p = c.loop-line.invariant.goes r start i h in
      let S = setting g.E.Engine.answer g.G.Gate.welcomes r in
      let Came = λ (z : Turns). Comes r c.args.conn S start c.run_line.new.ways.at z c.run_line.new.pair (Fits g.E.Engine.entries c.run_line.new.server) in
      lines_more S c.args.conn r.ledger p.0 _ _ _ (rw c.in-Some.ensures.steps.0 at p.1) Came p.3 (c.in-Ok-run_line.ensures.goes r start _ i p.2);
}

pub returns-in-Err-run_line : goal.returns-in-Err-run_line
returns-in-Err-run_line g c = λ r start i h.
    let p = c.loop-line.invariant.goes r start i h in
    let S = setting g.E.Engine.answer g.G.Gate.welcomes r in
    let k = c.in-Err-run_line.ensures.goes r start (turns_of S c.args.conn r.ledger p.0) i p.2 in
    (k.0, k.1, lines_break S c.args.conn r.ledger p.0 _ _ _ (rw c.in-Some.ensures.steps.0 at p.1) (BreaksIn S c.args.conn r.ledger start c.run_line.new.ways.at) k.2)

pub returns : goal.returns
returns g c = λ r start i h.
    let p = c.loop-line.invariant.goes r start i h in
    let rest = c.loop-line.line-iterator.rest.items in
    let none = ap said_requests (nil_from_length rest (search rules)) in
    rw (← all_done p.0 (said_requests rest) (said_requests c.args.lines.items) none p.1) (p.2, p.3)
