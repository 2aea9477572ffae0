-- The machine values of what holds a pointer alone, a handle or a place: a struct of that pointer. And how a function comes by a handle.
use Rattle.std.proofs.Common.{◌≡◌, List, [], ◌∷◌, refl, Option, Some, lit<}
use lib.Dec.{T}
use mir.Raw.{raw}
use mir.Syntax.{ty_ptr, ty_struct, tcons, tnil}
use denote.Memory.{lone}
use Rattle.libc.specs.Heap.{chunk}
use seplogic.Ra.Ura.{Ura}
use mir.Val.{Val, vstruct, vcons, vnil, has_ty, WT}
use base.Logic.{ent, never, id⊢, fst∗}
use types.Logic.{Logic, sem}
use types.Kit.{‵, ◌$◌, ◌∵◌, !, qed, done, use0, fjoin}
use denote.Laws.{Is}
use denote.RattleType.{RattleType}
use denote.RawPtr.{Ptr, block_ptr, null_ptr, ptr_val, rawptr_vals, rawptr_Tells, rawptr_Lawful}
use denote.Struct.Struct.{Shape, layout, Struct, Struct-Tells, Struct-Makes, Struct-Lawful}
use denote.Struct.Owning.{shape}
use Rattle.std.specs.contracts.impls.GlobalAllocator.TheImpl.{ghosts}
use Rattle.std.specs.contracts.alloc.Global as heap
use Rattle.std.proofs.alloc.Global.TheLaws as heap_laws
use Rattle.std_alloc.specs.contracts.boxed.Box as Box
use Rattle.bolt_c.specs.Owning.{on_heap, lies}
use Rattle.bolt_c.specs.contracts.held.Held
use Rattle.bolt_c.specs.contracts.handle.Handle as Handle
use Rattle.bolt_c.specs.contracts.handle.Place as Place

abbrev pub word : Ptr → Val
word p = vstruct (vcons (ptr_val p) vnil)

pub fits : (p : Ptr) → T (has_ty (ty_struct [] (tcons ty_ptr tnil)) (word p)) × WT (word p)
fits (block_ptr b o) = (tt, (tt, tt))
fits null_ptr = (tt, (record { fits = lit< tt }, tt))

pub handle_told : (h : Handle.the_row.Denot) (vs : List Val) → Is Handle.the_row h vs → vs ≡ word h.at ∷ []
handle_told h vs is = Struct-Tells (shape Handle.the_type) (rawptr_vals, tt) (rawptr_Tells, tt) (h.at, tt) vs is.0

pub place_told : (R : RattleType) (h : (Place.the_row R).Denot) (vs : List Val) → Is (Place.the_row R) h vs → vs ≡ word h.at ∷ []
place_told R h vs is = Struct-Tells (shape (Place.the_type R)) (rawptr_vals, tt) (rawptr_Tells, tt) (h.at, tt) vs is.0

-- a box's is its pointer and the heap's handle
abbrev pub box_word : Ptr → heap.the_row.Denot → Val
box_word p a = vstruct (vcons (ptr_val p) (vcons (heap_laws.lowered a) vnil))

module _ (R : RattleType) where
  abbrev pub Boxed : RattleType
  Boxed = Box.the_row R heap.the_row ghosts

  abbrev Both : Shape
  Both = shape (Box.the_type R heap.the_row ghosts)

  pub box_told : (d : Boxed.Denot) (vs : List Val) → Is Boxed d vs → vs ≡ box_word d.ptr d.alloc ∷ []
  box_told d vs is = Struct-Tells Both (rawptr_vals, ((λ a. heap_laws.lowered a ∷ []), tt)) (rawptr_Tells, (heap_laws.lowers.val_is, tt)) (d.ptr, (d.alloc, tt)) vs is.0

  pub box_fits : {M : Type 1} {𝓤 : Ura M} (𝓛 : Logic 𝓤) (d : Boxed.Denot) (v : Val) → Is Boxed d (v ∷ []) → T (has_ty (layout Both) v) × WT v
  box_fits 𝓛 d v is = ((Struct-Lawful 𝓛 Both (rawptr_Lawful 𝓛, (heap_laws.the_row_laws.lawful 𝓛, tt))).typed (d.ptr, (d.alloc, tt)) (v ∷ []) is.0).0

module _ {M : Type 1} {𝓤 : Ura M} (𝓛 : Logic 𝓤) where
  -- whoever owns what lies at a pointer owns a handle
  pub handed : (p : Ptr) (k : Option Held.the_row.Denot) → ent 𝓤 (sem 𝓛 (lies k p)) (sem 𝓛 (Handle.the_row.own_val (record { at = p; held = k }) (word p ∷ [])))
  handed p k =
      qed 𝓛 (‵ (lies k p) ∷ []) ∵ use0 𝓛 (‵ ((Struct (shape Handle.the_type)).own_val (p, tt) (word p ∷ [])))
      (Struct-Makes 𝓛 (shape Handle.the_type) ((λ _ _. tt), tt) (p, tt) (word p ∷ []) ((ptr_val p ∷ [], tt), (refl, (refl, tt)))) $ fjoin ! $ done !

  -- the same of a place
  pub placed : (R : RattleType) (p : Ptr) (x : R.Denot) → ent 𝓤 (sem 𝓛 (on_heap R p x)) (sem 𝓛 ((Place.the_row R).own_val (record { at = p; value = x }) (word p ∷ [])))
  placed R p x =
      qed 𝓛 (‵ (on_heap R p x) ∷ []) ∵ use0 𝓛 (‵ ((Struct (shape (Place.the_type R))).own_val (p, tt) (word p ∷ [])))
      (Struct-Makes 𝓛 (shape (Place.the_type R)) ((λ _ _. tt), tt) (p, tt) (word p ∷ []) ((ptr_val p ∷ [], tt), (refl, (refl, tt)))) $ fjoin ! $ done !

  -- what is on the heap lies there, since nothing lies at null
  pub lodged : (p : Ptr) (x : Held.the_row.Denot) → ent 𝓤 (sem 𝓛 (on_heap Held.the_row p x)) (sem 𝓛 (lies (Some x) p))
  lodged (block_ptr b o) x = id⊢ 𝓤 _
  lodged null_ptr x = fst∗ 𝓤 (never 𝓤) (sem 𝓛 (chunk (raw (lone Held.the_row.mir)) null_ptr))
