use Rattle.cli_sessions.proofs.Followed.{◌∙◌, heard_place, moves_told, parting}
use Rattle.cli_sessions.proofs.caller.Caller.ask.Goals as goal

pub returns-clause-asks : goal.returns-clause-asks
returns-clause-asks g c = λ p at.
    let x = rw (← c.streams.view_is) at (c.converse-asked.ensures.converses p at) in
    let k = (heard_place x.0.heard).rest in
    let told = rw c.err.ensures.value at (c.part.ensures.tells k x.0.at.fits) in
    record {
      exchange = record { out = x.0.out; heard = x.0.heard; moves = moves_told _ _ (parting _ k.knows) x.0.moves told; ends = λ e. (x.0.all e, x.1 e) };
      at = record { fits = c.part.ensures.gives_up k x.0.at.fits; version = c.part.ensures.version ∙ x.0.at.version };
    }
