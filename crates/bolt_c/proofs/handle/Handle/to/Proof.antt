-- What is owned at the place is the handle's.
use Rattle.std.proofs.Common.{[], ◌∷◌, refl, Some}
use Rattle.std.proofs.raw_atomic.Walks.{proved, leaves}
use base.Logic.{emp}
use base.Fml.{ftrue}
use types.Kit.{‵, raw, ◌⊛◌, ◌$◌, ◌∵◌, !, qed, done, keep, use1, split, drop, fsplit, fjoin, suffices, frame}
use types.Run.{enter, of_opd, stop, fld, no_more, and_then, returns}
use types.ByLocal.{alloc_all, pass_all, free_all, look_at, get, get_in, sets}
use types.Part.{agg, sub, whole}
use denote.Exit.{yes}
use denote.RawPtr.{rawptr_Lawful}
use denote.Signature.{Slot, plain}
use denote.Steps.{nothing}
use denote.Triple.Walked.{Stays, says, stay_dropped, Goes-dropped}
use Rattle.bolt_c.proofs.Words.{word, fits, place_told, handed, lodged}
use Rattle.bolt_c.specs.Owning.{lies}
use Rattle.bolt_c.specs.contracts.held.Held as Held
use Rattle.bolt_c.specs.contracts.handle.Handle as Handle
use Rattle.bolt_c.specs.contracts.handle.Place as Place
use Rattle.bolt_c.specs.contracts.handle.Handle.to as f
use Rattle.bolt_c.proofs.handle.Handle.to.Statement.{statement}
use Rattle.bolt_c.proofs.handle.Handle.to.Code as code

abbrev Given : Slot 0
Given = plain (λ _. Place.the_row Held.the_row)

abbrev stayed : Stays f.ended.signature.params f.ended.kept
stayed = (stay_dropped Given yes, tt)

pub to_spec : {M : Type 1} → statement M
to_spec 𝓤 𝓛 𝓜 𝓡 w =
    let c = f.clauses 𝓛 𝓜.mem 𝓡.returns in
    proved 𝓛 f.ended stayed c 𝓜 𝓡 (Goes-dropped 𝓛 0 Given yes (λ κs x w. refl), tt) f.Key.name code.function (code.unfolded 𝓤 𝓛.H 𝓜 𝓡 w)
    (λ κs. ((λ h. word h.at ∷ []), tt)) (λ κs. (place_told Held.the_row, tt)) (λ κs qs bounds a g are.
    let p = a.0.at in let x = a.0.value in let made : Handle.the_row.Denot = record { at = p; held = Some x } in
    let ok = ((rawptr_Lawful 𝓛).typed p _ refl).0 in
    qed 𝓛 ((‵ ftrue ⊛ ‵ ((Place.the_row Held.the_row).own_val a.0 (word p ∷ [])) ⊛ ‵ ftrue) ∷ raw (emp 𝓤) ∷ []) ∵
    split ! $ drop ! $ split ! $ fsplit ! $ keep ! (1 ∷ []) $
    enter ! _ _ _ _ _ $ alloc_all ! (λ l. pass_all ! refl (fits p, tt) $
    sets ! (of_opd ! (get_in ! (fld ! refl (stop !)) (sub ! 0 refl (whole !)))) refl ok $ sets ! (of_opd ! (get ! refl)) refl ok $
    sets ! (agg ! (and_then ! (get ! refl) (no_more !))) refl (fits p) $ returns ! (look_at ! 0 refl) $ free_all ! refl $
    use1 𝓛 (‵ (lies (Some x) p)) (lodged 𝓛 p x) $ use1 𝓛 (‵ (Handle.the_row.own_val made (word p ∷ []))) (handed 𝓛 p (Some x)) $
    suffices ! _ (leaves 𝓛 f.ended stayed c ((κs, qs, bounds, a, (word p ∷ [], tt)), g) (word p) made (tt, tt) (tt, tt)) $
    nothing ! $ frame ! $ nothing ! $ nothing ! $ fjoin ! $ frame ! $ says ! refl $ done !))
