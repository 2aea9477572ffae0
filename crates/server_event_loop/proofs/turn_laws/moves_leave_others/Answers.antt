use Rattle.server_event_loop.proofs.Living.{moves_leave, moves_live}
use Rattle.server_event_loop.proofs.turn_laws.moves_leave_others.Goals as goal

pub returns-clause-others : goal.returns-clause-others
returns-clause-others g c = λ most asks ends r s old new before after other p differ. moves_leave g.E.Engine.answer g.G.Gate.welcomes p other differ

pub returns-clause-lives : goal.returns-clause-lives
returns-clause-lives g c = λ most asks r s old new before after p lives. moves_live g.E.Engine.answer g.G.Gate.welcomes p lives
