use Rattle.std.proofs.Common.{refl}
use Rattle.driver.specs.Prelude.{stand_of, lost_stand}
use Rattle.driver.proofs.Reading.{stand_is}
use Rattle.driver.proofs.exchanging.exchange.Goals as goal

pub returns-in-Ok-clause-exchanges : goal.returns-in-Ok-clause-exchanges
returns-in-Ok-clause-exchanges g c = record { answered = stand_of c.converse.new.tracking; converses = c.in-Ok.ensures.converses; settles = refl }

pub returns-in-Err-clause-exchanges : goal.returns-in-Err-clause-exchanges
returns-in-Err-clause-exchanges g c = record {
  answered = stand_of c.converse.new.tracking;
  converses = c.in-Err.ensures.converses;
  settles = stand_is (stand_of c.lost.new.self) (lost_stand (stand_of c.converse.new.tracking)) c.lost.ensures.client c.lost.ensures.account;
}
