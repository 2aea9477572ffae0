use Rattle.std.proofs.Common.{◌≡◌, ◌++◌, ap, refl, sym, subst, ◌∙◌}
use Rattle.std.proofs.lemmas.List.{append-nil}
use Rattle.packstream.proofs.Ranges.{bytes_from_each}
use Rattle.packstream_incremental.specs.declared.read_fault.ReadFault.{ReadFault}
use Rattle.packstream_incremental.specs.Prelude.{Holds, holds, at_mark, with_fault, HoldsOn, IsFaultOf}
use Rattle.packstream_incremental.proofs.Held.{keeps_on, keeps_cut, joins, on_taken, on_cut, on_bad, turns_back}
use Rattle.packstream_incremental.proofs.progress.Reading.feed.Goals as goal

pub cut-requires : goal.cut-requires
cut-requires c = keeps_cut (holds c.args.self.now) (holds c.take.new.self) c.args.before.now c.requires.before c.take.ensures.grown c.requires.keeping

pub cut-requires-in-Err-Fault : goal.cut-requires-in-Err-Fault
cut-requires-in-Err-Fault c = keeps_cut (holds c.args.self.now) (holds c.take.new.self) c.args.before.now c.requires.before c.take.ensures.grown c.requires.keeping

pub returns-in-Ok : goal.returns-in-Ok
returns-in-Ok c =
    let old : Holds = holds c.args.self.now in
    let new : Holds = holds c.take.new.self in
    let t = c.in-Ok.ensures.told in
    let bytes = sym (append-nil new.store) ∙ t.bytes in
    let keeps = keeps_on old new c.args.piece.now c.requires.keeping (bytes_from_each c.args.piece.now c.type_inv.piece) t.stands bytes in
    record { here = joins old new _ c.args.piece.now refl keeps c.requires.good bytes t.bad; held = on_taken old new c.args.piece.now c.take.ensures.grown keeps bytes; err = tt }

pub returns-in-Err-Memory-clause-held : goal.returns-in-Err-Memory-clause-held
returns-in-Err-Memory-clause-held c =
    let old : Holds = holds c.args.self.now in
    subst (λ (h : Holds). HoldsOn old h) (sym c.cut.ensures) (on_cut old (holds c.take.new.self) c.args.before.now c.requires.before c.take.ensures.grown)

pub returns-in-Err-Fault : goal.returns-in-Err-Fault
returns-in-Err-Fault c =
    let f = c.in-Err-Fault in
    let old : Holds = holds c.args.self.now in
    let new : Holds = holds c.take.new.self in
    let b = c.args.before.now in
    let bad : holds c.turn_bad.new.self ≡ with_fault f.reason f.place (at_mark b new) = c.turn_bad.ensures ∙ ap (with_fault f.reason f.place) c.cut-in-Err-Fault.ensures in
    record {
      here = turns_back old new (holds c.turn_bad.new.self) b c.args.piece.now f.reason f.place c.requires.before c.take.ensures.grown c.requires.good bad (subst (λ (s : ReadFault). IsFaultOf s (old.store ++ c.args.piece.now)) f.field-0-is f.ensures.told);
      held = on_bad old new (holds c.turn_bad.new.self) b f.reason f.place c.requires.before c.take.ensures.grown bad;
      err = tt;
    }
