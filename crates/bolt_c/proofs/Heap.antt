-- The heap of C as a call of a generic function takes it: its row with the laws, and the drop of its handle, which has nothing to let go.
use Rattle.std.proofs.Common.{[], ◌∷◌, refl}
use seplogic.Ra.Ura.{Ura}
use contract.Running.{Running}
use prog.Model.{Model}
use prog.Wired.{Wired}
use types.Logic.{Logic}
use denote.Param.Glue.{Met}
use denote.Param.NoDrop.{glues}
use Rattle.bolt_c.proofs.Destruct++none.drop.Code as nothing_dropped
use mir.Raw.{raw}
use mir.Syntax.{Dict, impl, tcons, tnil, dnil}
use denote.Exit.{no}
use denote.Param.{arg, layout}
use denote.Param.Laws.{Laws, arg_laws}
use denote.RattleType.{RattleType}
use Rattle.std.specs.contracts.alloc.Global as heap
use Rattle.std.proofs.alloc.Global.TheLaws as laws

abbrev pub Heap : RattleType
Heap = arg (raw (layout heap.the_row)) no heap.the_row

abbrev pub Heap_laws : Laws Heap
Heap_laws = arg_laws (raw (layout heap.the_row)) no heap.the_row laws.the_row_laws refl

abbrev pub let_go : Dict
let_go = impl ("bolt_c::Destruct++none::drop" ∷ []) (tcons (layout Heap) tnil) dnil

-- whatever is let go
pub goes : {M : Type 1} (𝓤 : Ura M) (𝓛 : Logic 𝓤) (𝓜 : Model 𝓤 𝓛.H) (𝓡 : Running 𝓤 𝓛.H 𝓜) → Wired 𝓡.env nothing_dropped.code → Met 𝓛 𝓜 𝓡 𝓡.env Heap let_go
unfolding nothing_dropped.code
goes {M} 𝓤 𝓛 𝓜 𝓡 w = glues "bolt_c::Destruct++none::drop" 𝓡.env w Heap Heap_laws M 𝓤 𝓛 𝓜 𝓡
