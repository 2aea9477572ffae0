use Rattle.cli_sessions.proofs.Looped.{Comes, Fits, IsLive, IsSome, LetBothRead, List, Meets, Rest, Turns, Ways, find, length, setting, ℕ, ◌++◌, ◌≡◌}
use Rattle.cli_sessions.proofs.loops.exchange.Given as goal

-- some of what the client has to send was sent, and its answers were heard
abbrev pub invariant-loop-rest : goal.invariant-loop-rest
invariant-loop-rest g l = record {
  on : IsLive g.E.Engine.entries l.fn.conn l.server × LetBothRead g.A.PeerSource.left g.A.PeerSource.may_read g.C.PeerSource.left g.C.PeerSource.may_read l.ways.at;
  goes : (r : Rest g.row.G.Denot) (start : Ways) (t : Turns) → IsSome (find l.fn.conn r.sessions)
      → (let S = setting g.E.Engine.answer g.G.Gate.welcomes r in
      Comes r l.fn.conn S start l.fn.ways.at t l.fn.pair (Fits g.E.Engine.entries l.fn.server)
      → (sent : List ℕ) × (sent ++ l.rest ≡ t.place.rest.unsent) × Meets r l.fn.conn S start l.ways.at t sent l.pair (Fits g.E.Engine.entries l.server));
}

abbrev pub decreases-loop-rest : goal.decreases-loop-rest
decreases-loop-rest g l = length l.rest
