use Rattle.std.proofs.Common.{◌-◌, length, arith}
use Rattle.packstream_incremental.specs.Prelude.{holds}
use Rattle.packstream_incremental.proofs.Taking.{body_taken}
use Rattle.packstream_incremental.proofs.progress.Reading.take_data.Goals as goal

pub returns-clause-taken : goal.returns-clause-taken
returns-clause-taken c = λ e.
    body_taken (holds c.args.self.now) c.args.marker c.args.number c.args.lacks (c.args.lacks - length c.args.piece.now) c.extend.new.self.bytes c.args.piece.now c.extend.new.self.names
    c.in_ok-extend.ensures.ok c.in_ok-extend.ensures.keys c.requires.goes (omega arith) (omega arith) c.requires.good
