use Rattle.messages.proofs.Words.{refl, ◌∙◌, Ok, Err, ap, sym, dict, entries_of, entries, writes_by}
use Rattle.messages.proofs.Fields.{put_value, put_fault, told_fault}
use Rattle.messages.proofs.write_parts.cells_value.Goals as goal

pub returns-in_err-packed : goal.returns-in_err-packed
returns-in_err-packed c = told_fault _ _ _ _ c.from_residual.ensures.1 (put_fault c.args.version (dict (entries_of (entries c.args.cells.now.items))) c.in_err-packed.field-0.0 (writes_by c.args.version (dict (entries_of (entries c.args.cells.now.items))) (Err c.in_err-packed.field-0.0) c.in_err-packed.ensures.value c.in_err-packed.ensures.fault c.in_err-packed.ensures.pack c.in_err-packed.ensures.memory))

pub returns : goal.returns
returns c = put_value c.args.version (dict (entries_of (entries c.args.cells.now.items))) c.in_ok-packed.packed ((c.in_ok-packed.ensures.value c.in_ok-packed.packed).0 refl) ∙ ap Ok (sym c.into_value.ensures)
