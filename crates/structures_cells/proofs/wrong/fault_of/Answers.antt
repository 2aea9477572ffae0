use Rattle.std.proofs.Common.{refl, sym, ◌∙◌, true, false}
use Rattle.structures_cells.proofs.Faulty.{fault_is, wrong_is, counts_agree, counts_differ}
use Rattle.structures_cells.proofs.wrong.fault_of.Goals as goal

pub returns-then-fields-kinds : goal.returns-then-fields-kinds
returns-then-fields-kinds c = sym (fault_is c.args.version c.args.tag _ c.in-Ok.kinds.now c.in-Ok.ensures ∙ wrong_is c.in-Ok.kinds.now c.args.tag _ false _ _ _ (counts_differ c.args.fields.now c.in-Ok.kinds.now c.if-fields-kinds.true) refl refl refl)

pub returns-then-not-all_hold : goal.returns-then-not-all_hold
returns-then-not-all_hold c = sym (fault_is c.args.version c.args.tag _ c.in-Ok.kinds.now c.in-Ok.ensures ∙ wrong_is c.in-Ok.kinds.now c.args.tag _ true false _ _ (counts_agree c.args.fields.now c.in-Ok.kinds.now c.if-fields-kinds.false) (sym c.if-not-all_hold.ensures) refl refl)

pub returns-then-not-in_ranges : goal.returns-then-not-in_ranges
returns-then-not-in_ranges c = sym (fault_is c.args.version c.args.tag _ c.in-Ok.kinds.now c.in-Ok.ensures ∙ wrong_is c.in-Ok.kinds.now c.args.tag _ true true false _ (counts_agree c.args.fields.now c.in-Ok.kinds.now c.if-fields-kinds.false) (sym c.if-not-all_hold.ensures) (sym c.if-not-in_ranges.ensures) refl)

pub returns-else-not-is_shaped_at : goal.returns-else-not-is_shaped_at
returns-else-not-is_shaped_at c = sym (fault_is c.args.version c.args.tag _ c.in-Ok.kinds.now c.in-Ok.ensures ∙ wrong_is c.in-Ok.kinds.now c.args.tag _ true true true true (counts_agree c.args.fields.now c.in-Ok.kinds.now c.if-fields-kinds.false) (sym c.if-not-all_hold.ensures) (sym c.if-not-in_ranges.ensures) (sym c.if-not-is_shaped_at.ensures))
