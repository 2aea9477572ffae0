use Rattle.std.proofs.Common.{refl, ap}
use Rattle.std.specs.Result.{result_ok}
use Rattle.packstream.proofs.Ranges.{bytes_from_each}
use Rattle.packstream.proofs.Deciding.{whole_value, whole_fault}
use Rattle.cli_scripts.proofs.params.value_of.Goals as goal

pub returns-in-Ok : goal.returns-in-Ok
returns-in-Ok c = ap result_ok ((whole_value c.args.bytes.now (bytes_from_each c.args.bytes.now c.type_inv.bytes) c.in-Ok.packed).1 ((c.in-Ok.ensures.value c.in-Ok.packed).0 refl))

pub returns-in-Err-Refused : goal.returns-in-Err-Refused
returns-in-Err-Refused c =
    let r = c.in-Err-Refused.field-0-0 in
    let o = c.in-Err-Refused.field-0-1 in
    ap result_ok ((whole_fault c.args.bytes.now (bytes_from_each c.args.bytes.now c.type_inv.bytes) r o).1 ((rw c.in-Err-Refused.field-0-is at (c.in-Err-Refused.ensures.fault r o)).0 refl))
