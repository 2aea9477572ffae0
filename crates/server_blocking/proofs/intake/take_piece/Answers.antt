use Rattle.std.proofs.Common.{sym, subst}
use Rattle.server.specs.Prelude.{setting, rest_of, Fits}
use Rattle.server_blocking.specs.Prelude.{TakesPiece, sink_view}
use Rattle.server_blocking.proofs.Called.{live_by, lives_by}
use Rattle.server_blocking.proofs.Conversings.{begins_held, piece_due, piece_taken}
use Rattle.server_blocking.proofs.intake.take_piece.Goals as goal

pub returns-clause-takes : goal.returns-clause-takes
returns-clause-takes g c = λ r before up i e s.
    let S = setting g.E.Engine.answer g.G.Gate.welcomes r in
    let taken = sink_view g.O.Sink.put g.O.Sink.taken c.put_out-put.new.sink in
    subst (TakesPiece r c.args.conn S (Fits g.E.Engine.entries c.put_out-put.new.server) before taken up c.args.piece.now) (sym c.both_of.ensures)
    (piece_taken r c.args.conn i S before (sink_view g.O.Sink.put g.O.Sink.taken c.take_items-taken.new.sink) taken up (rest_of g.E.Engine.entries c.take_items-taken.new.server) (rest_of g.E.Engine.entries c.put_out-put.new.server) c.args.piece.now c.take_items-taken.result c.put_out-put.result
    (c.take_items-taken.ensures.takes r before up i e (begins_held r c.args.conn S up s)) c.put_out-put.ensures.puts)

pub returns-clause-failed : goal.returns-clause-failed
returns-clause-failed g c = piece_due c.both_of.result c.take_items-taken.result c.put_out-put.result c.both_of.ensures c.take_items-taken.ensures.failed c.put_out-put.ensures.failed c.put_out-put.ensures.stays

pub returns-clause-grows : goal.returns-clause-grows
returns-clause-grows g c = lives_by c.args.conn _ (Fits g.E.Engine.entries c.put_out-put.new.server) (λ r i h. c.put_out-put.ensures.grows r i (c.take_items-taken.ensures.grows r i h))

pub returns-clause-live : goal.returns-clause-live
returns-clause-live g c = live_by c.args.conn _ (Fits g.E.Engine.entries c.put_out-put.new.server) (λ r i h. c.put_out-put.ensures.grows r i (c.take_items-taken.ensures.grows r i h)) c.requires
