-- The null handle owns nothing.
use Rattle.std.proofs.Common.{[], ◌∷◌, refl, lit<, None}
use Rattle.std.proofs.raw_atomic.Walks.{proved, leaves}
use base.Logic.{emp}
use types.Kit.{‵, raw, ◌$◌, ◌∵◌, !, qed, done, drop, use1, suffices, frame}
use types.Run.{enter, lit, no_more, and_then, returns}
use types.ByLocal.{alloc_all, pass_all, free_all, look_at, sets}
use types.Part.{agg}
use denote.RawPtr.{null_ptr}
use denote.Steps.{nothing}
use denote.Triple.Entry.{on_entry}
use denote.Triple.Walked.{says}
use Rattle.bolt_c.proofs.Words.{word, handed}
use Rattle.bolt_c.specs.contracts.handle.Handle as Handle
use Rattle.bolt_c.specs.contracts.handle.Handle.null as f
use Rattle.bolt_c.proofs.handle.Handle.null.Statement.{statement}
use Rattle.bolt_c.proofs.handle.Handle.null.Code as code

pub null_spec : {M : Type 1} → statement M
null_spec 𝓤 𝓛 𝓜 𝓡 w =
    let c = f.clauses 𝓛 𝓜.mem 𝓡.returns in
    proved 𝓛 f.ended tt c 𝓜 𝓡 tt f.Key.name code.function (code.unfolded 𝓤 𝓛.H 𝓜 𝓡 w) (λ κs. tt) (λ κs. tt) (λ κs qs bounds a g are.
    let made : Handle.the_row.Denot = record { at = null_ptr; held = None } in
    qed 𝓛 (raw (on_entry 𝓛 f.signature κs qs a tt) ∷ raw (emp 𝓤) ∷ []) ∵ drop ! $ drop ! $
    enter ! _ _ _ _ _ $ alloc_all ! (λ l. pass_all ! refl tt $
    sets ! (agg ! (and_then ! (lit ! tt) (no_more !))) refl (tt, (record { fits = lit< tt }, tt)) $
    returns ! (look_at ! 0 refl) $ free_all ! refl $
    nothing ! $ use1 𝓛 (‵ (Handle.the_row.own_val made (word null_ptr ∷ []))) (handed 𝓛 null_ptr None) $
    suffices ! _ (leaves 𝓛 f.ended tt c ((κs, qs, bounds, a, tt), g) (word null_ptr) made tt tt) $ nothing ! $ frame ! $ nothing ! $ frame ! $ says ! refl $ done !))
