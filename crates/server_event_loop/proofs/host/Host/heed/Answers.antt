use Rattle.std.proofs.Common.{◌∙◌, List, map, ap}
use Rattle.server_event_loop.specs.declared.seat.Seat.{Seat}
use Rattle.server_event_loop.specs.declared.closing.Closing.{Closing}
use Rattle.server_event_loop.specs.ConnectionPrelude.{seat_held}
use Rattle.server_event_loop.specs.Prelude.{closing_owed}
use Rattle.server_event_loop.proofs.Lists.{all_held_woken, all_owed_woken}
use Rattle.server_event_loop.proofs.host.Host.heed.Goals as goal

pub returns-in-Conn-clause-seats : goal.returns-in-Conn-clause-seats
returns-in-Conn-clause-seats c = ap (λ (ss : List Seat). map seat_held ss) c.wake.ensures.seats ∙ all_held_woken _ _ c.args.self.now.seats.items

pub returns-in-Conn-clause-closings : goal.returns-in-Conn-clause-closings
returns-in-Conn-clause-closings c = ap (λ (cs : List Closing). map closing_owed cs) c.wake.ensures.closings ∙ all_owed_woken _ _ c.args.self.now.closings.items
