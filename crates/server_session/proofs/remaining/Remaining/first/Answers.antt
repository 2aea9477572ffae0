use Rattle.std.proofs.Common.{◌≡◌, ◌+◌, ◌-◌, arith}
use Rattle.engine.specs.Prelude.{cells_in}
use Rattle.server_session.proofs.Listed.{row_first}
use Rattle.server_session.proofs.remaining.Remaining.first.Goals as goal

pub returns : goal.returns
returns c = λ row rest e.
    let s = c.args.self.now in
    let n : s.start + s.width - s.start ≡ s.width = omega arith in
    rw (n, c.as_slice.ensures) (row_first (cells_in s.cells) s.start s.width s.count row rest c.requires e)
