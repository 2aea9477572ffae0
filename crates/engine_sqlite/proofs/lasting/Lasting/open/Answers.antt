use Rattle.std.proofs.Common.{◌≡◌, ◌∙◌, ap, false, length, subst, sym, to_z, of_z, w64, rules}
use Rattle.std.proofs.lemmas.List.{length-map}
use Rattle.engine.specs.Views.{entry_view}
use Rattle.engine_sqlite.specs.Kept.{Kept}
use Rattle.engine_sqlite.specs.Shown.{IsOpenedFrom}
use Rattle.engine_sqlite.proofs.Front.{take_whole}
use Rattle.engine_sqlite.proofs.Opened.{opened_endures, opened_finds}
use Rattle.engine_sqlite.proofs.lasting.Lasting.open.Goals as goal

pub returns-in-Ok-clause-opened : goal.returns-in-Ok-clause-opened
returns-in-Ok-clause-opened g c clean =
    let last = c.take_ledger.new.conn in
    let es = g.E.Engine.entries c.take_ledger.new.inner in
    let kept = length c.ledger-kept.result.now in
    let len : length es ≡ kept = ap length (sym c.ledger-kept.ensures.lends) ∙ length-map c.ledger-kept.result.now entry_view in
    let same : to_z w64 (of_z w64 c.in-Ok.opening) ≡ c.in-Ok.opening = search rules in
    subst (λ xs. IsOpenedFrom g.S.Store c.args.conn last xs (to_z w64 (of_z w64 c.in-Ok.opening))) (sym (take_whole es kept len))
    (subst (IsOpenedFrom g.S.Store c.args.conn last es) (sym same) (c.in-Ok.ensures.opened clean))

pub returns-in-Ok-clause-endures : goal.returns-in-Ok-clause-endures
returns-in-Ok-clause-endures g c =
    let opening = to_z w64 (of_z w64 c.in-Ok.opening) in
    let l : Kept _ _ = record { inner = c.take_ledger.new.inner; conn = c.take_ledger.new.conn; count = length c.ledger-kept.result.now; is_stopped = false; opening = opening } in
    opened_endures g.E.Engine.entries g.S.Store c.args.conn l opening (λ db. g.met.S.Store.settled c.take_ledger.new.conn.store db) (returns-in-Ok-clause-opened g c)

pub returns-in-Ok-clause-finds : goal.returns-in-Ok-clause-finds
returns-in-Ok-clause-finds g c others there clean =
    opened_finds g.S.Store c.args.conn c.take_ledger.new.conn _ others _ (returns-in-Ok-clause-opened g c clean) there

pub invariant_of-result : goal.invariant_of-result
invariant_of-result g c = record {
  idle = c.in-Ok.ensures.idle;
  counted = ap length (sym c.ledger-kept.ensures.lends) ∙ length-map c.ledger-kept.result.now entry_view;
  endures = returns-in-Ok-clause-endures g c;
}
