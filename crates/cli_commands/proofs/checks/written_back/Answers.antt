use Rattle.std.proofs.Common.{Err, inr}
use Rattle.structures_cells.specs.Prelude.{shape}
use Rattle.structures.proofs.Clauses.{writes_by}
use Rattle.std.proofs.lemmas.Result.{IfOk-weaker}
use Rattle.cli_commands.proofs.checks.written_back.Goals as goal

pub returns-in-Err : goal.returns-in-Err
returns-in-Err c =
    let w = writes_by c.args.version (shape c.args.cell.now) (Err c.in-Err.fault) c.in-Err.ensures.value c.in-Err.ensures.fault c.in-Err.ensures.pack c.in-Err.ensures.memory in
    IfOk-weaker c.unfit.result _ _ (λ r h. inr (c.in-Err.fault, w, h)) c.unfit.ensures
