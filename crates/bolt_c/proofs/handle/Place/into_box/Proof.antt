-- The library makes a box of what lies there.
use Rattle.std.proofs.Common.{◌≡◌, List, [], ◌∷◌, refl}
use Rattle.std.proofs.raw_atomic.Walks.{proved, leaves}
use base.Fraction.{full_share}
use base.Logic.{SProp, emp, id⊢}
use base.Fml.{ftrue, fsep, flft}
use contract.Monad.{fact, fact_i}
use contract.BorrowLft.{◌⊑◌, ⊑_static}
use mir.MapTy.{inst_fn}
use mir.Syntax.{Fn, Args, a_type, dcons, dnil}
use types.Kit.{‵, raw, some, later, at_ret, ◌⊛◌, ◌$◌, ◌∵◌, !, qed, done, keep, move, use0, use1, split, join, drop, pick, feq_i, await, fsplit, fjoin, suffices, frame}
use types.Run.{enter, of_opd, stop, fld, no_more, and_then, first, blocks, exec, returns}
use types.ByLocal.{alloc_all, pass_all, free_all, look_at, get, get_in, sets, lands_last, env}
use types.Part.{sub, whole}
use types.Tokens.{lft_new}
use denote.Exit.{no, yes}
use denote.Param.{bounded, param}
use denote.RawPtr.{ptr_val, rawptr_Lawful}
use denote.Signature.{Slot, plain}
use denote.RattleType.{RattleType}
use denote.Steps.{nothing, heard, peeks}
use denote.Laws.{Is, shows}
use Rattle.core.proofs.alloc.Shapes.{after}
use mir.Val.{Val}
use denote.Triple.Call.{calls_at_last}
use denote.Triple.Spec.{triple_of}
use denote.Triple.Table.{framed}
use denote.Triple.Walked.{Stays, walk_of, says, stay_dropped, Goes-dropped}
use contract.Running.{tables}
use Rattle.core.proofs.alloc.Calls.{Goes-blank}
use Rattle.std.proofs.impls.GlobalAllocator.TheImpl.Met as heap_met
use Rattle.std.specs.contracts.impls.GlobalAllocator.TheImpl.{ghosts, dict}
use Rattle.std.specs.contracts.alloc.Global as heap
use Rattle.std.proofs.alloc.Global.TheLaws as heap_laws
use Rattle.std_alloc.specs.contracts.boxed.Box.from_raw as callee
use Rattle.std_alloc.proofs.boxed.Box.from_raw.Met.{met}
use Rattle.bolt_c.proofs.Heap.{Heap, Heap_laws, let_go, goes}
use Rattle.bolt_c.proofs.Words.{word, fits, Boxed, box_fits, place_told}
use Rattle.bolt_c.specs.contracts.handle.Place as Place
use Rattle.bolt_c.specs.contracts.handle.Place.into_box as f
use Rattle.bolt_c.proofs.handle.Place.into_box.Statement.{statement}
use Rattle.bolt_c.proofs.handle.Place.into_box.Code as code

abbrev Given : (T : RattleType) → Slot 1
Given T = plain (λ _. Place.the_row (param 0 T))

abbrev Freeing : Slot 1
Freeing = plain (λ _. heap.the_row)

pub into_box_spec : {M : Type 1} → statement M
into_box_spec {M} 𝓤 𝓛 𝓜 𝓡 w T LT dt glue =
    let R = param 0 T in let given : Args = bounded (a_type ∷ []) (T, tt) (dcons dt dnil) in let function : Fn = inst_fn given code.function in let Box = Boxed R in
    let En = f.ended T dt in let c = f.clauses T dt 𝓛 𝓜.mem 𝓡.returns in
    let stayed : Stays En.signature.params En.kept = (stay_dropped (Given T) no, (stay_dropped Freeing yes, tt)) in
    let frees = heap_met.passed 𝓡.env (code.calls-std_heap::GlobalAllocator::allocate 𝓡.env w) (code.calls-std_heap::GlobalAllocator::deallocate 𝓡.env w)
    (code.calls-std_heap::GlobalAllocator::grow 𝓡.env w) (code.calls-std_heap::GlobalAllocator::shrink 𝓡.env w) M 𝓤 𝓛 𝓜 𝓡 in
    let Call = triple_of 𝓛 (callee.signature T Heap ghosts dict let_go) (callee.spec T Heap ghosts dict let_go 𝓛 𝓜.mem 𝓡.returns) in let 𝓣 = tables 𝓤 𝓛.H 𝓜 𝓡 𝓡.env in
    let its = met 𝓤 𝓛 𝓜 𝓡 (code.calls-std_alloc::boxed::Box::from_raw 𝓡.env w) T Heap LT Heap_laws ghosts dict let_go frees (goes 𝓤 𝓛 𝓜 𝓡 (code.calls-bolt_c::Destruct++none::drop 𝓡.env w)) in
    proved 𝓛 En stayed c 𝓜 𝓡 (Goes-blank 𝓛 1 (Given T) no (λ κs x w. tt), (Goes-dropped 𝓛 1 Freeing yes (λ κs x w. refl), tt)) (f.Key.name given) function
    (code.unfolded 𝓤 𝓛.H 𝓜 𝓡 w (T, tt) dt) (λ κs. ((λ h. word h.at ∷ []), ((λ al. heap_laws.lowered al ∷ []), tt))) (λ κs. (place_told R, (heap_laws.lowers.val_is, tt))) (λ κs qs bounds a g are.
    let κ = κs.0 in let q = qs.0 in let p = a.0.at in let x = a.0.value in let al = a.1.0 in let ok = ((rawptr_Lawful 𝓛).typed p _ refl).0 in
    let heap_fits = ((heap_laws.the_row_laws.lawful 𝓛).typed al (heap_laws.lowered al ∷ []) are.1.0).0 in
    let y0 : (walk_of 𝓛 En stayed c).Ghost = ((κs, qs, bounds, a, (word p ∷ [], (heap_laws.lowered al ∷ [], tt))), g) in let Post : Val → SProp 𝓤 = (walk_of 𝓛 En stayed c).post y0 in
    qed 𝓛 (((‵ (flft κ q) ⊛ ‵ ftrue) ⊛ ‵ ((Place.the_row R).own_val a.0 (word p ∷ [])) ⊛ ‵ (heap.the_row.own_val al (heap_laws.lowered al ∷ [])) ⊛ ‵ ftrue)
    ∷ (raw (fact 𝓤 (κ ⊑ T.lives)) ⊛ ‵ ftrue) ∷ []) ∵
    split ! $ move ! (1 ∷ []) $ split ! $ fsplit ! $ drop ! $ move ! (1 ∷ []) $ split ! $ move ! (3 ∷ []) $ split ! $ keep ! (0 ∷ 2 ∷ 4 ∷ 5 ∷ []) $
    -- [the token of κ; the heap's handle; what is on the heap; that κ is within T's lifetimes]
    enter ! _ _ _ _ _ $ alloc_all ! (λ l. pass_all ! refl (fits p, (heap_fits, tt)) $
    sets ! (of_opd ! (get_in ! (fld ! refl (stop !)) (sub ! 0 refl (whole !)))) refl ok $ lft_new ! tt (λ α.
    let y : Call.Ghost = (((κ, (α ∷ [], tt)), (q, (full_share, tt)), tt, (al, (p, tt)), (heap_laws.lowered al ∷ [], (ptr_val p ∷ [], tt))), x) in
    let alive = ‵ (flft κ q) ⊛ ‵ (flft (α ∷ []) full_share) ⊛ ‵ ftrue in
    move ! (4 ∷ []) $ split ! $ move ! (5 ∷ []) $ use0 𝓛 (raw (fact 𝓤 ((α ∷ []) ⊑ Heap.lives))) (fact_i 𝓤 ((α ∷ []) ⊑ Heap.lives) (emp 𝓤) (⊑_static (α ∷ []))) $ join ! $
    move ! (1 ∷ 0 ∷ []) $ join ! $ move ! (1 ∷ []) $ feq_i ! (List Val) (ptr_val p ∷ []) (ptr_val p ∷ []) refl $ fjoin ! $ move ! (4 ∷ 0 ∷ []) $ fjoin ! $
    nothing ! $ move ! (3 ∷ 0 ∷ []) $ join ! $ move ! (3 ∷ 0 ∷ []) $ join ! $ join ! $ join ! $ use1 𝓛 (raw (Call.pre y)) (id⊢ 𝓤 _) $
    first ! $ blocks ! $ calls_at_last ! (framed 𝓤 𝓛.H 𝓜 𝓣) Call its y (and_then ! (get ! refl) (and_then ! (get ! refl) (no_more !))) (λ v.
    use1 𝓛 (later (some (λ (r : Box.Denot). (alive ⊛ ‵ (Box.own_val r (v ∷ []))) ⊛ some (λ (_ : Unit {0} × (Unit {0} × Unit {0})).
    ‵ (fsep ftrue (fsep ftrue ftrue)) ⊛ (raw (fact 𝓤 (r.value ≡ x)) ⊛ raw (fact 𝓤 (r.alloc ≡ al))))))) (id⊢ 𝓤 _) $
    await ! tt $ pick ! (λ r. split ! $ move ! (1 ∷ []) $ pick ! (λ _. split ! $ drop ! $ split ! $ heard ! (r.value ≡ x) (λ same. drop ! $ split ! $ split ! $ move ! (2 ∷ []) $
    -- [the box; the token of κ; the token of α]
    peeks ! Box (Is Box) (shows 𝓛 Box) r (v ∷ []) (λ is. let fit = box_fits R 𝓛 r v is in
    lands_last ! refl fit $ exec ! 𝓣.C 𝓣.Λ (env function.locals l) (after 2 function.body) (at_ret (env function.locals l) Post) $ sets ! (of_opd ! (get ! refl)) refl fit $
    returns ! (look_at ! 0 refl) $ free_all ! refl $ nothing ! $ move ! (2 ∷ 0 ∷ []) $ join ! $ keep ! (0 ∷ 1 ∷ []) $
    suffices ! _ (leaves 𝓛 En stayed c y0 v r (tt, (tt, tt)) (tt, (tt, tt))) $
    frame ! $ nothing ! $ nothing ! $ fjoin ! $ nothing ! $ fjoin ! $ frame ! $ says ! same $ done !))))))))
