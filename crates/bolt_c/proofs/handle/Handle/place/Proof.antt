-- At null there is none; elsewhere the handle's client is a place's.
use Rattle.std.proofs.Common.{◌≡◌, ℕ, ◌<◌, ◌^◌, zero, [], ◌∷◌, refl, sym, subst, Option, None, Some, lit<}
use Rattle.std.proofs.raw_atomic.Walks.{proved, leaves}
use seplogic.Ra.Ura.{Ura}
use base.Logic.{SProp, ent, emp, never_e, snd∗, via}
use base.Fml.{ftrue}
use contract.Lifetimes.{Lfts, Shares}
use contract.Monad.{fact, fact_use}
use contract.Running.{Running, tables}
use lib.Dec.{T}
use mir.Raw.{raw as bare}
use mir.Syntax.{ty_ptr, ty_struct, tcons, tnil}
use mir.Val.{Val, vnull, of_list, has_ty, WT}
use prog.Model.{Model}
use prog.Wired.{Wired}
use prog.Wp.{WpFn}
use types.Logic.{Logic, sem}
use types.Kit.{‵, raw, at_ret, ◌⊛◌, ◌$◌, ◌∵◌, !, qed, by, done, keep, use0, use1, split, drop, fsplit, fjoin, suffices, frame}
use types.Match.{live}
use types.Run.{enter, of_opd, lit, bin, stop, fld, no_more, and_then, first, branches, skips, exec, returns, returns_within}
use types.ByLocal.{alloc_all, pass_all, free_all, look_at, get, get_in, sets, env}
use types.Part.{agg, sub, whole}
use denote.Exit.{yes}
use denote.Memory.{lone}
use denote.RattleType.{RattleType}
use denote.RawPtr.{Ptr, block_ptr, null_ptr, Testable, tests_null}
use denote.Signature.{Slot, plain, type_at}
use denote.Steps.{nothing}
use denote.Triple.Statement.{Contract}
use denote.Triple.Walked.{Stays, walk_of, says, stay_dropped, Goes-dropped}
use Rattle.core.proofs.option.Made.{Some-of, none_of}
use Rattle.core.specs.Ptr.{points_to}
use Rattle.libc.specs.Heap.{chunk, chunk_start}
use Rattle.std.specs.Option.{MatchOption}
use Rattle.std_alloc.proofs.ResultValues.{and_tt}
use Rattle.bolt_c.proofs.Words.{word, fits, handle_told, placed}
use Rattle.bolt_c.specs.Owning.{lies}
use Rattle.bolt_c.specs.contracts.held.Held as Held
use Rattle.bolt_c.specs.contracts.handle.Handle as Handle
use Rattle.bolt_c.specs.contracts.handle.Place as Place
use Rattle.bolt_c.specs.contracts.handle.Handle.place as f
use Rattle.bolt_c.proofs.handle.Handle.place.Statement.{statement}
use Rattle.bolt_c.proofs.handle.Handle.place.Code as code

abbrev Given : Slot 0
Given = plain (λ _. Handle.the_row)

abbrev stayed : Stays f.ended.signature.params f.ended.kept
stayed = (stay_dropped Given yes, tt)

module _ {M : Type 1} (𝓤 : Ura M) (𝓛 : Logic 𝓤) (𝓜 : Model 𝓤 𝓛.H) (𝓡 : Running 𝓤 𝓛.H 𝓜) (w : Wired 𝓡.env code.code) (κs : Lfts 0) (qs : Shares 0) where
  abbrev To : RattleType
  To = type_at f.ended.signature.result κs

  abbrev Ends : Contract 𝓤
  Ends = walk_of 𝓛 f.ended stayed (f.clauses 𝓛 𝓜.mem 𝓡.returns)

  abbrev y : Ptr → Option Held.the_row.Denot → Ends.Ghost
  y p k = ((κs, qs, tt, (record { at = p; held = k }, tt), (word p ∷ [], tt)), tt)

  abbrev runs_at : (p : Ptr) (k : Option Held.the_row.Denot) → SProp 𝓤
  runs_at p k = WpFn 𝓤 𝓛.H (tables 𝓤 𝓛.H 𝓜 𝓡 𝓡.env).C (tables 𝓤 𝓛.H 𝓜 𝓡 𝓡.env).Λ code.function (word p ∷ []) (Ends.post (y p k))

  -- what may be freed is the start of its block
  starts : (b o : ℕ) (x : Held.the_row.Denot) → ent 𝓤 (sem 𝓛 (lies (Some x) (block_ptr b o))) (fact 𝓤 (o ≡ zero))
  starts b o x = let at = block_ptr b o in let token = chunk (bare (lone Held.the_row.mir)) at in
      via 𝓤 (sem 𝓛 token) (snd∗ 𝓤 (sem 𝓛 (points_to Held.the_row at x)) (sem 𝓛 token)) (chunk_start 𝓛 (bare (lone Held.the_row.mir)) at)

  -- the end, whatever is answered
  leaves_with : (p : Ptr) (k : Option Held.the_row.Denot) (r : To.Denot) (v : Val) → MatchOption r (k ≡ None) (λ d. k ≡ Some d.value)
      → ent 𝓤 (sem 𝓛 (To.own_val r (v ∷ []))) (Ends.post (y p k) v)
  leaves_with p k r v right =
      qed 𝓛 (‵ (To.own_val r (v ∷ [])) ∷ []) ∵ suffices ! _ (leaves 𝓛 f.ended stayed (f.clauses 𝓛 𝓜.mem 𝓡.returns) (y p k) v r (tt, tt) (tt, tt)) $
      nothing ! $ frame ! $ nothing ! $ nothing ! $ fjoin ! $ frame ! $ says ! right $ done !

  at_null : ent 𝓤 (sem 𝓛 (lies None null_ptr)) (runs_at null_ptr None)
  at_null =
      let ok : T (has_ty ty_ptr vnull) × WT vnull = (tt, record { fits = lit< tt }) in
      qed 𝓛 (‵ ftrue ∷ []) ∵ drop ! $ enter ! _ _ _ _ _ $ alloc_all ! (λ l. pass_all ! refl (fits null_ptr, tt) $
      sets ! (of_opd ! (get_in ! (fld ! refl (stop !)) (sub ! 0 refl (whole !)))) refl ok $
      sets ! (bin ! (get ! refl) (lit ! tt) (tests_null null_ptr (lit< tt))) refl (tt, tt) $ first ! $ branches ! (get ! refl)
      (λ _. sets ! (agg ! (and_then ! (lit ! tt) (no_more !))) refl (tt, (record { fits = lit< tt }, tt)) $
      returns_within ! (Ends.post (y null_ptr None)) refl (look_at ! 0 refl) $ free_all ! refl $
      use0 𝓛 (‵ (To.own_val None (live 0 (of_list []) ∷ []))) (none_of 𝓛 (Place.the_row Held.the_row)) $ by ! (leaves_with null_ptr None None (live 0 (of_list [])) refl))
      (λ wrong. absurd wrong))

  at_a_block : (b o : ℕ) (x : Held.the_row.Denot) → Testable (block_ptr b o) → ent 𝓤 (sem 𝓛 (lies (Some x) (block_ptr b o))) (runs_at (block_ptr b o) (Some x))
  at_a_block b o x ok =
      let at = block_ptr b o in let H = Held.the_row in let found : (Place.the_row H).Denot = record { at = at; value = x } in let Post : Val → SProp 𝓤 = Ends.post (y at (Some x)) in
      qed 𝓛 (‵ (lies (Some x) at) ∷ []) ∵ enter ! _ _ _ _ _ $ alloc_all ! (λ l. pass_all ! refl (fits at, tt) $
      sets ! (of_opd ! (get_in ! (fld ! refl (stop !)) (sub ! 0 refl (whole !)))) refl (tt, tt) $
      sets ! (bin ! (get ! refl) (lit ! tt) (tests_null at ok)) refl (tt, tt) $ first ! $ branches ! (get ! refl) (λ wrong. absurd wrong)
      (λ _. skips ! $ exec ! (tables 𝓤 𝓛.H 𝓜 𝓡 𝓡.env).C (tables 𝓤 𝓛.H 𝓜 𝓡 𝓡.env).Λ (env code.function.locals l) code.Mir.t-4 (at_ret (env code.function.locals l) Post) $
      sets ! (of_opd ! (get ! refl)) refl (tt, tt) $ sets ! (agg ! (and_then ! (get ! refl) (no_more !))) refl (fits at) $
      sets ! (agg ! (and_then ! (lit ! tt) (and_then ! (get ! refl) (no_more !)))) refl (and_tt (has_ty (ty_struct [] (tcons ty_ptr tnil)) (word at)) (fits at).0, (record { fits = lit< tt }, ((fits at).1, tt))) $
      returns ! (look_at ! 0 refl) $ free_all ! refl $ use1 𝓛 (‵ ((Place.the_row H).own_val found (word at ∷ []))) (placed 𝓛 H at x) $
      use1 𝓛 (‵ (To.own_val (Some found) (live 1 (of_list (word at ∷ [])) ∷ []))) (Some-of 𝓛 (Place.the_row H) found (word at)) $
      by ! (leaves_with at (Some x) (Some found) (live 1 (of_list (word at ∷ []))) refl)))

  anywhere : (p : Ptr) (k : Option Held.the_row.Denot) → ent 𝓤 (sem 𝓛 (lies k p)) (runs_at p k)
  anywhere null_ptr None = at_null
  anywhere (block_ptr b o) (Some x) = fact_use 𝓤 (o ≡ zero) (starts b o x) (λ e. at_a_block b o x (subst (λ n. n < 2 ^ 63) (sym e) (lit< tt)))
  anywhere null_ptr (Some x) = never_e 𝓤 _
  anywhere (block_ptr b o) None = never_e 𝓤 _

pub place_spec : {M : Type 1} → statement M
place_spec 𝓤 𝓛 𝓜 𝓡 w =
    proved 𝓛 f.ended stayed (f.clauses 𝓛 𝓜.mem 𝓡.returns) 𝓜 𝓡 (Goes-dropped 𝓛 0 Given yes (λ κs x w. refl), tt) f.Key.name code.function
    (code.unfolded 𝓤 𝓛.H 𝓜 𝓡 w) (λ κs. ((λ h. word h.at ∷ []), tt)) (λ κs. (handle_told, tt)) (λ κs qs bounds a g are.
    qed 𝓛 ((‵ ftrue ⊛ ‵ (Handle.the_row.own_val a.0 (word a.0.at ∷ [])) ⊛ ‵ ftrue) ∷ raw (emp 𝓤) ∷ []) ∵
    split ! $ drop ! $ split ! $ fsplit ! $ drop ! $ keep ! (0 ∷ []) $ by ! (anywhere 𝓤 𝓛 𝓜 𝓡 w κs qs a.0.at a.0.held))
