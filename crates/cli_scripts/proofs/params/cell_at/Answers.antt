use Rattle.std.proofs.Common.{Ok, Err, subst}
use Rattle.structures.specs.Prelude.{Reads}
use Rattle.structures.proofs.Clauses.{reads_by}
use Rattle.cli_scripts.proofs.Dictionaries.{cell_is, no_cell}
use Rattle.cli_scripts.proofs.params.cell_at.Goals as goal

pub returns-in-Ok : goal.returns-in-Ok
returns-in-Ok c = cell_is c.args.version c.args.packed.now c.in-Ok.cell (reads_by c.args.version c.args.packed.now (Ok c.in-Ok.cell) c.in-Ok.ensures.cell c.in-Ok.ensures.fault c.in-Ok.ensures.memory)

pub returns-in-Err-Refused : goal.returns-in-Err-Refused
returns-in-Err-Refused c =
    no_cell c.args.version c.args.packed.now c.in-Err-Refused.field-0-0 c.in-Err-Refused.field-0-1 (subst (λ e. Reads c.args.version c.args.packed.now (Err e)) c.in-Err-Refused.field-0-is (reads_by c.args.version c.args.packed.now (Err c.in-Err-Refused.field-0) c.in-Err-Refused.ensures.cell c.in-Err-Refused.ensures.fault c.in-Err-Refused.ensures.memory))
