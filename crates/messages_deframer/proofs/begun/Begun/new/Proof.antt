-- It owns nothing, so any item may be noted: the fresh one is.
use Rattle.std.proofs.Common.{[], ◌∷◌, refl}
use Rattle.std.proofs.raw_atomic.Walks.{proved, leaves}
use seplogic.Ra.Ura.{Ura}
use mir.Val.{Val, vstruct, vnil}
use base.Logic.{ent, emp}
use types.Logic.{Logic, sem}
use types.Kit.{‵, raw, ◌$◌, ◌∵◌, !, qed, done, drop, use0, frame, suffices}
use types.Run.{enter, no_more, returns}
use types.ByLocal.{alloc_all, pass_all, free_all, look_at, sets}
use types.Part.{agg}
use denote.Shadow.{makes_shadow}
use denote.Steps.{nothing}
use denote.Triple.Entry.{on_entry}
use denote.Triple.Walked.{says}
use Rattle.wire.specs.Unfinished.{fresh}
use Rattle.messages_deframer.specs.contracts.begun.Begun.{the_row as Row}
use Rattle.messages_deframer.specs.contracts.begun.Begun.new as f
use Rattle.messages_deframer.proofs.begun.Begun.new.Statement.{statement}
use Rattle.messages_deframer.proofs.begun.Begun.new.Code as code

abbrev first : Row.Denot
first = record { item = fresh }

abbrev no_bytes : Val
no_bytes = vstruct vnil

made : {M : Type 1} {𝓤 : Ura M} (𝓛 : Logic 𝓤) → ent 𝓤 (emp 𝓤) (sem 𝓛 (Row.own_val first (no_bytes ∷ [])))
made 𝓛 = makes_shadow 𝓛 (Row.own_val first (no_bytes ∷ [])) ((λ fields. (tt, tt)), tt) ((tt, (refl, tt)), tt)

pub new_spec : {M : Type 1} → statement M
new_spec 𝓤 𝓛 𝓜 𝓡 w =
    let c = f.clauses 𝓛 𝓜.mem 𝓡.returns in
    proved 𝓛 f.ended tt c 𝓜 𝓡 tt f.Key.name code.function (code.unfolded 𝓤 𝓛.H 𝓜 𝓡 w) (λ κs. tt) (λ κs. tt) (λ κs qs bounds a g are.
    qed 𝓛 (raw (on_entry 𝓛 f.signature κs qs a tt) ∷ raw (emp 𝓤) ∷ []) ∵ drop ! $ drop ! $
    enter ! _ _ _ _ _ $ alloc_all ! (λ l. pass_all ! refl tt $
    sets ! (agg ! (no_more !)) refl (tt, tt) $
    returns ! (look_at ! 0 refl) $ free_all ! refl $ use0 𝓛 (‵ (Row.own_val first (no_bytes ∷ []))) (made 𝓛) $
    suffices ! _ (leaves 𝓛 f.ended tt c ((κs, qs, bounds, a, tt), g) no_bytes first tt tt) $ nothing ! $ frame ! $ nothing ! $ frame ! $ says ! refl $ done !))
