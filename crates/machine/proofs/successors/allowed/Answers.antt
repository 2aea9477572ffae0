use Rattle.std.proofs.Common.{refl}
use Rattle.machine.proofs.Gathered.{allowed_by}
use Rattle.machine.proofs.successors.allowed.Goals as goal

pub returns : goal.returns
returns c =
    rw (c.admits.ensures, c.admits-2.ensures, c.admits-3.ensures, c.admits-4.ensures, c.admits-5.ensures, c.admits-6.ensures, c.admits-7.ensures)
    (allowed_by c.args.version c.args.set c.args.kind _ c.is_live.result c.is_live.ensures refl)
