-- What a database holds and a crash leaves, from step to step of a commit.
use Rattle.std.proofs.Common.{◌≡◌, inl, inr, sym, ap, subst, ◌∙◌, arith, ◌+◌, true, false, List, [], ◌∷◌, ◌++◌, length, IsTrue}
use Rattle.engine.specs.Views.{EntryView}
use Rattle.engine_sqlite.specs.Ledger.{HasLedger, HoldsLedger, IsRowOf, LeavesEither, LeavesLedger}
use Rattle.engine_sqlite.specs.Table.{IsPut, ledger_schema}
use Rattle.engine_sqlite.proofs.Rowed.{holds_more}
use Rattle.sqlite.specs.Effect.{Database}
use Rattle.sqlite.specs.Order.{Row}
use Rattle.sqlite_catalog.specs.Listing.{IsSound}
use Rattle.sqlite.specs.State.{State, HasCleanDisk, IsRolledBack, KeepsCommit, Shows, Survives}
use Rattle.sqlite.specs.Tree.{Trees}
use Rattle.sqlite.proofs.StateLemmas.{survives_then}

-- `begun` is `old` with a transaction open, `mid` has the row of the entry, and `new` is what the end of the transaction leaves
module _ (old begun mid new : State) (es : List EntryView) (e : EntryView) (row : Row)
    (now : begun.now ≡ old.now) (committed : begun.committed ≡ old.committed) (is_open : begun.is_open ≡ old.is_open) (step : Survives old mid (λ _. ⊥)) (has : HasLedger old es) where
  old_clean : HasCleanDisk mid → HasCleanDisk old
  old_clean clean = omega (arith, step.clean)

  module _ (next : IsRowOf (length es + 1) e row) (shown : HasCleanDisk mid → Shows begun mid mid.now begun.committed true)
      (puts : HasCleanDisk mid → begun.now.schema ≡ ledger_schema → IsPut row begun mid) where
    old_open : HasCleanDisk mid → IsTrue old.is_open
    old_open clean = subst IsTrue is_open (shown clean).was_open

    put : HasCleanDisk mid → IsPut row begun mid
    put clean = puts clean (ap (λ (d : Database). d.schema) now ∙ has.schema (old_clean clean) (old_open clean))

    holds : HasCleanDisk mid → HoldsLedger mid.now.trees (es ++ e ∷ [])
    holds clean = holds_more begun.now.trees mid.now.trees es e row (subst (λ s. IsSound s mid.now.trees) (put clean).schema (put clean).sound) (put clean).rows
        (subst (λ (d : Database). HoldsLedger d.trees es) (sym now) (has.rows (old_clean clean) (old_open clean))) next

    -- the COMMIT went through
    module _ (end : Survives mid new (λ trees. trees ≡ mid.now.trees)) (ok : HasCleanDisk new → Shows mid new mid.now mid.now false) where
      mid_clean : HasCleanDisk new → HasCleanDisk mid
      mid_clean clean = omega (arith, end.clean)

      pub added : HasLedger new (es ++ e ∷ [])
      added = record {
        schema = λ clean _. ap (λ (d : Database). d.schema) (ok clean).now_is ∙ (put (mid_clean clean)).schema;
        rows = λ clean _. subst (λ (d : Database). HoldsLedger d.trees (es ++ e ∷ [])) (sym (ok clean).now_is) (holds (mid_clean clean));
      }

      pub left : ((trees : Trees) → IsTrue new.is_open → new.may_leave trees → trees ≡ new.committed.trees) → LeavesLedger new (es ++ e ∷ [])
      left settled clean trees may =
          subst (λ t. HoldsLedger t (es ++ e ∷ [])) (sym (settled trees (ok clean).is_open may ∙ ap (λ (d : Database). d.trees) (ok clean).committed_is)) (holds (mid_clean clean))

    -- whatever became of the COMMIT
    pub survives : Survives mid new (λ trees. trees ≡ mid.now.trees) → Survives old new (λ trees. HoldsLedger trees (es ++ e ∷ []))
    survives end = survives_then old mid new _ _ _ (λ _ _ none. absurd none)
        (λ clean trees is. subst (λ t. HoldsLedger t (es ++ e ∷ [])) (sym is) (holds (omega (arith, end.clean)))) step end

  -- the transaction was rolled back
  pub lacks : (HasCleanDisk old → IsTrue old.is_open → old.now ≡ old.committed) → (HasCleanDisk mid → KeepsCommit begun mid) → (HasCleanDisk new → HasCleanDisk mid)
      → (HasCleanDisk new → IsRolledBack mid new) → HasLedger new es
  lacks settled kept before back = record {
    schema = λ clean h. ap (λ (d : Database). d.schema) (same clean h) ∙ has.schema (old_clean (before clean)) (opened clean h);
    rows = λ clean h. subst (λ (d : Database). HoldsLedger d.trees es) (sym (same clean h)) (has.rows (old_clean (before clean)) (opened clean h));
  }
    where
      opened : HasCleanDisk new → IsTrue new.is_open → IsTrue old.is_open
      opened clean h = subst IsTrue is_open ((kept (before clean)).was_open ((back clean).was_open h))

      same : HasCleanDisk new → IsTrue new.is_open → new.now ≡ old.now
      same clean h = ((back clean).undone h).0 ∙ (kept (before clean)).committed ((back clean).was_open h) ∙ committed ∙ sym (settled (old_clean (before clean)) (opened clean h))

-- what a crash leaves after calls that may have committed
pub either : (old new : State) (es others : List EntryView) (P : Trees → Type 0) → LeavesLedger old es → ((trees : Trees) → P trees → HoldsLedger trees others) → Survives old new P → LeavesEither new es others
either old new es others P left then survives clean trees may = elim (survives.crash clean trees may) [
  | inl before ↦ inl (left (omega (arith, survives.clean)) trees before)
  | inr after ↦ inr (then trees after)
]
