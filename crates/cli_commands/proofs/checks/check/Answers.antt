use Rattle.std.proofs.Common.{Err, refl}
use Rattle.packstream.specs.Prelude.{IsGood, Spells}
use Rattle.structures_cells.specs.Prelude.{shape}
use Rattle.structures.proofs.Clauses.{reads_by}
use Rattle.std.proofs.lemmas.Result.{IfOk-weaker}
use Rattle.cli_commands.proofs.Checkings.{refused_checks, unfit_is, written_checks}
use Rattle.cli_commands.proofs.checks.check.Goals as goal

pub returns-in-Err : goal.returns-in-Err
returns-in-Err c = c.refused.ensures c.args.version c.args.bytes.now (refused_checks c.args.bytes.now c.in-Err.fault c.decode.result c.in-Err.is c.decode.ensures.fault)

pub returns : goal.returns
returns c =
    let spelled : IsGood c.in-Ok.packed × Spells c.in-Ok.packed c.args.bytes.now = (c.in-Ok.ensures.value c.in-Ok.packed).0 refl in
    IfOk-weaker c.written_back.result _ _ (λ r h. written_checks c.args.version c.args.bytes.now c.in-Ok.packed (shape c.in-Ok-read.cell) r spelled.0 spelled.1 ((c.in-Ok-read.ensures.cell (shape c.in-Ok-read.cell)).0 refl) h) c.written_back.ensures

pub returns-in-Err-read : goal.returns-in-Err-read
returns-in-Err-read c =
    let spelled : IsGood c.in-Ok.packed × Spells c.in-Ok.packed c.args.bytes.now = (c.in-Ok.ensures.value c.in-Ok.packed).0 refl in
    let w = reads_by c.args.version c.in-Ok.packed (Err c.in-Err-read.fault) c.in-Err-read.ensures.cell c.in-Err-read.ensures.fault c.in-Err-read.ensures.memory in
    IfOk-weaker c.unfit.result _ _ (λ r h. unfit_is c.args.version c.args.bytes.now c.in-Ok.packed c.in-Err-read.fault r spelled.0 spelled.1 w h) c.unfit.ensures
