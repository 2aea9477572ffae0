use Rattle.packstream_incremental.proofs.Pieces.{value_read, fault_read, alike}
use Rattle.packstream_incremental.proofs.laws.decodes_alike.Goals as goal

pub returns : goal.returns
returns c = λ b p decoded read value fault reads told.
    alike b decoded read value fault (value_read p b read reads told) (fault_read p b read reads told)
