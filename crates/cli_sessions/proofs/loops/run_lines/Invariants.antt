use Rattle.cli_sessions.proofs.Looped.{AreQuiet, Comes, Fits, IsLive, IsSome, LetBothRead, List, Rest, ScriptRequestView, Ways, find, no_turns, said_requests, setting, turns_of, ℕ, ◌++◌, ◌≡◌}
use Rattle.cli_sessions.proofs.loops.run_lines.Given as goal

-- some lines were run, no answer is still to come, and the others follow
abbrev pub invariant-loop-line : goal.invariant-loop-line
invariant-loop-line g l = record {
  on : IsLive g.E.Engine.entries l.fn.conn l.server × LetBothRead g.A.PeerSource.left g.A.PeerSource.may_read g.C.PeerSource.left g.C.PeerSource.may_read l.ways.at;
  goes : (r : Rest g.row.G.Denot) (start : Ways) → IsSome (find l.fn.conn r.sessions)
      → (let S = setting g.E.Engine.answer g.G.Gate.welcomes r in
      Comes r l.fn.conn S start l.fn.ways.at no_turns l.fn.pair (Fits g.E.Engine.entries l.fn.server)
      → (done : List (ℕ × ScriptRequestView)) × (done ++ said_requests l.line-iterator.rest.items ≡ said_requests l.fn.lines.items)
      × Comes r l.fn.conn S start l.ways.at (turns_of S l.fn.conn r.ledger done) l.pair (Fits g.E.Engine.entries l.server)
      × AreQuiet S l.fn.conn r.ledger done);
}
