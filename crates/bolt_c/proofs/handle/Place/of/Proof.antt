-- The library gives the place of what the box owned.
use Rattle.std.proofs.Common.{[], ◌∷◌, refl, ap}
use Rattle.std.proofs.raw_atomic.Walks.{proved, leaves}
use base.Fraction.{full_share}
use base.Logic.{emp, id⊢}
use base.Fml.{ftrue, fsep, flft}
use contract.Monad.{fact, fact_i}
use contract.BorrowLft.{◌⊑◌, ⊑_static}
use mir.MapTy.{inst_fn}
use mir.Syntax.{Fn, Args, a_type, dcons, dnil}
use types.Kit.{‵, raw, some, later, ◌⊛◌, ◌$◌, ◌∵◌, !, qed, done, keep, move, use0, use1, split, join, drop, pick, feq_l, await, fjoin, suffices, frame}
use types.Run.{enter, of_opd, no_more, and_then, returns}
use types.ByLocal.{alloc_all, pass_all, free_all, look_at, get, sets, lands_as}
use types.Part.{agg}
use types.Tokens.{lft_new}
use denote.Exit.{no}
use denote.Param.{bounded, param}
use denote.RawPtr.{Ptr, RawPtr, rawptr_Lawful}
use denote.Signature.{Slot, plain}
use denote.RattleType.{RattleType}
use denote.Steps.{nothing, only}
use denote.Triple.Call.{calls_at}
use denote.Triple.Spec.{triple_of}
use denote.Triple.Table.{framed}
use denote.Triple.Walked.{Stays, says, stay_dropped}
use contract.Running.{tables}
use Rattle.core.proofs.alloc.Calls.{Goes-blank}
use Rattle.std.proofs.impls.GlobalAllocator.TheImpl.Met as heap_met
use Rattle.std.specs.contracts.impls.GlobalAllocator.TheImpl.{ghosts, dict}
use Rattle.std_alloc.specs.contracts.boxed.Box.into_raw as callee
use Rattle.std_alloc.proofs.boxed.Box.into_raw.Met.{met}
use Rattle.bolt_c.proofs.Heap.{Heap, Heap_laws, let_go, goes}
use Rattle.bolt_c.proofs.Words.{word, fits, Boxed, box_word, box_told, box_fits, placed}
use Rattle.bolt_c.specs.Owning.{on_heap}
use Rattle.bolt_c.specs.contracts.handle.Place as Place
use Rattle.bolt_c.specs.contracts.handle.Place.of as f
use Rattle.bolt_c.proofs.handle.Place.of.Statement.{statement}
use Rattle.bolt_c.proofs.handle.Place.of.Code as code

abbrev Given : (T : RattleType) → Slot 1
Given T = plain (λ _. Boxed (param 0 T))

pub of_spec : {M : Type 1} → statement M
of_spec {M} 𝓤 𝓛 𝓜 𝓡 w T LT dt glue =
    let R = param 0 T in let given : Args = bounded (a_type ∷ []) (T, tt) (dcons dt dnil) in let function : Fn = inst_fn given code.function in
    let En = f.ended T dt in let c = f.clauses T dt 𝓛 𝓜.mem 𝓡.returns in let stayed : Stays En.signature.params En.kept = (stay_dropped (Given T) no, tt) in
    let frees = heap_met.passed 𝓡.env (code.calls-std_heap::GlobalAllocator::allocate 𝓡.env w) (code.calls-std_heap::GlobalAllocator::deallocate 𝓡.env w)
    (code.calls-std_heap::GlobalAllocator::grow 𝓡.env w) (code.calls-std_heap::GlobalAllocator::shrink 𝓡.env w) M 𝓤 𝓛 𝓜 𝓡 in
    let Call = triple_of 𝓛 (callee.signature T Heap ghosts dict let_go dt) (callee.spec T Heap ghosts dict let_go dt 𝓛 𝓜.mem 𝓡.returns) in
    let its = met 𝓤 𝓛 𝓜 𝓡 (code.calls-std_alloc::boxed::Box::into_raw 𝓡.env w) T Heap LT Heap_laws ghosts dict let_go dt frees (goes 𝓤 𝓛 𝓜 𝓡 (code.calls-bolt_c::Destruct++none::drop 𝓡.env w)) glue in
    proved 𝓛 En stayed c 𝓜 𝓡 (Goes-blank 𝓛 1 (Given T) no (λ κs x w. tt), tt) (f.Key.name given) function (code.unfolded 𝓤 𝓛.H 𝓜 𝓡 w (T, tt) dt)
    (λ κs. ((λ d. box_word d.ptr d.alloc ∷ []), tt)) (λ κs. (box_told R, tt)) (λ κs qs bounds a g are.
    let κ = κs.0 in let q = qs.0 in let d = a.0 in let v = box_word d.ptr d.alloc in let ok = box_fits R 𝓛 d v are.0 in
    qed 𝓛 (((‵ (flft κ q) ⊛ ‵ ftrue) ⊛ ‵ ((Boxed R).own_val d (v ∷ [])) ⊛ ‵ ftrue) ∷ (raw (fact 𝓤 (κ ⊑ T.lives)) ⊛ ‵ ftrue) ∷ []) ∵
    split ! $ split ! $ move ! (2 ∷ []) $ split ! $ keep ! (0 ∷ 2 ∷ 4 ∷ []) $
    enter ! _ _ _ _ _ $ alloc_all ! (λ l. pass_all ! refl (ok, tt) $
    sets ! (of_opd ! (get ! refl)) refl ok $ lft_new ! tt (λ α.
    -- [the token of α; the box; the token of κ; that it is within T's lifetimes]
    let y : Call.Ghost = (((κ, (α ∷ [], tt)), (q, (full_share, tt)), tt, (d, tt), (v ∷ [], tt)), tt) in let alive = ‵ (flft κ q) ⊛ ‵ (flft (α ∷ []) full_share) ⊛ ‵ ftrue in
    move ! (3 ∷ []) $ split ! $ move ! (1 ∷ []) $ use0 𝓛 (raw (fact 𝓤 ((α ∷ []) ⊑ Heap.lives))) (fact_i 𝓤 _ (emp 𝓤) (⊑_static (α ∷ []))) $ join ! $ move ! (1 ∷ 0 ∷ []) $ join ! $
    nothing ! $ move ! (3 ∷ 0 ∷ []) $ fjoin ! $ nothing ! $ move ! (3 ∷ 0 ∷ []) $ join ! $ move ! (3 ∷ 0 ∷ []) $ join ! $ join ! $ join ! $ use1 𝓛 (raw (Call.pre y)) (id⊢ 𝓤 _) $
    calls_at ! (framed 𝓤 𝓛.H 𝓜 (tables 𝓤 𝓛.H 𝓜 𝓡 𝓡.env)) Call its y (and_then ! (get ! refl) (no_more !)) (λ u.
    use1 𝓛 (later (some (λ (r : Ptr). (alive ⊛ ‵ (RawPtr.own_val r (u ∷ []))) ⊛ some (λ (_ : (Unit {0} × (Unit {0} × Unit {0})) × Unit {0}).
    ‵ (fsep (fsep ftrue (fsep ftrue ftrue)) ftrue) ⊛ ‵ (on_heap R r d.value))))) (id⊢ 𝓤 _) $
    await ! tt $ pick ! (λ r. split ! $ split ! $ split ! $ move ! (2 ∷ []) $ feq_l ! (λ is. move ! (2 ∷ []) $ pick ! (λ _. split ! $ drop ! $
    -- [what is on the heap; the token of κ; the token of α]
    lands_as ! (ap only is) refl ((rawptr_Lawful 𝓛).typed r _ refl).0 $ sets ! (agg ! (and_then ! (get ! refl) (no_more !))) refl (fits r) $
    returns ! (look_at ! 0 refl) $ free_all ! refl $ use1 𝓛 (‵ ((Place.the_row R).own_val (record { at = r; value = d.value }) (word r ∷ []))) (placed 𝓛 R r d.value) $
    nothing ! $ move ! (2 ∷ 0 ∷ []) $ join ! $ keep ! (0 ∷ 1 ∷ []) $
    suffices ! _ (leaves 𝓛 En stayed c ((κs, qs, bounds, a, (v ∷ [], tt)), g) (word r) (record { at = r; value = d.value }) (tt, tt) (tt, tt)) $
    frame ! $ nothing ! $ nothing ! $ fjoin ! $ frame ! $ says ! refl $ done !)))))))
