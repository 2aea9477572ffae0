use Rattle.std.proofs.Common.{◌≡◌, refl, sym, ap, subst, rules, ◌+◌, ◌++◌, ◌∷◌, [], length}
use Rattle.engine.specs.Views.{entry_of, token_view}
use Rattle.engine_sqlite.specs.Ledger.{HoldsLedger, IsRowOf, Lasts, LeavesEither}
use Rattle.engine_sqlite.specs.Table.{row_of}
use Rattle.engine_sqlite.proofs.Keeping.{added, either, left, survives}
use Rattle.sqlite.specs.Held.{state}
use Rattle.sqlite.specs.State.{Survives}
use Rattle.sqlite.proofs.Callers.{survives_begin}
use Rattle.engine_sqlite.proofs.adding.add_to_both.Goals as goal

pub returns-in-Ok-commit-clause-lasts : goal.returns-in-Ok-commit-clause-lasts
returns-in-Ok-commit-clause-lasts g c h =
    let old = c.args.conn.now in
    let begun = c.transaction-tx.result.conn.now in
    let mid = c.insert.new.tx.conn.now in
    let end = c.commit-in-Ok-Added.new.self.0 in
    let es = g.E.Engine.entries c.args.inner.now in
    let e = entry_of c.args.id c.args.token c.args.writes in
    let key = c.args.key in
    let row = row_of key.number key.opening key.connection key.ordinal (token_view c.args.token) c.args.bytes.now in
    let is = c.transaction-tx.ensures.begun in
    let now : (state g.S.Store begun).now ≡ (state g.S.Store old).now = ap (λ h. (state g.S.Store h).now) is in
    let committed : (state g.S.Store begun).committed ≡ (state g.S.Store old).committed = ap (λ h. (state g.S.Store h).committed) is in
    let is_open : (state g.S.Store begun).is_open ≡ (state g.S.Store old).is_open = ap (λ h. (state g.S.Store h).is_open) is in
    let step : Survives (state g.S.Store old) (state g.S.Store mid) (λ _. ⊥) = survives_begin g.S.Store old (state g.S.Store mid) (λ _. ⊥) (rw is at c.insert.ensures.survives) in
    let next : IsRowOf (length es + 1) e row =
    record { opening = key.opening; bytes = c.args.bytes.now; spelled = c.requires.spelled; is = rw (c.requires.number, c.requires.id.0, c.requires.id.1) refl } in
    let same : end ≡ c.conn-in-Ok-Added-1.given.0 = search rules in
    let grown : g.E.Engine.entries c.commit.new.self ≡ es ++ e ∷ [] = search rules in
    let ended = c.commit-in-Ok-Added.ensures.survives in
    let has = added (state g.S.Store old) (state g.S.Store begun) (state g.S.Store mid) (state g.S.Store end) es e row now committed is_open step h.has next c.in-Ok-insert.ensures.shown c.in-Ok-insert.ensures.puts
    ended (λ clean. (c.in-Ok-commit.ensures.ok clean).1) in
    let leaves = left (state g.S.Store old) (state g.S.Store begun) (state g.S.Store mid) (state g.S.Store end) es e row now committed is_open step h.has next c.in-Ok-insert.ensures.shown c.in-Ok-insert.ensures.puts
    ended (λ clean. (c.in-Ok-commit.ensures.ok clean).1) (λ trees. g.met.S.Store.settled end.store trees) in
    let lasts : Lasts (state g.S.Store end) (es ++ e ∷ []) = record { has = has; left = leaves } in
    subst (λ k. Lasts (state g.S.Store k) (g.E.Engine.entries c.commit.new.self)) same (subst (Lasts (state g.S.Store end)) (sym grown) lasts)

pub returns-in-Ok-commit-clause-survives : goal.returns-in-Ok-commit-clause-survives
returns-in-Ok-commit-clause-survives g c h =
    let old = c.args.conn.now in
    let begun = c.transaction-tx.result.conn.now in
    let mid = c.insert.new.tx.conn.now in
    let end = c.commit-in-Ok-Added.new.self.0 in
    let es = g.E.Engine.entries c.args.inner.now in
    let e = entry_of c.args.id c.args.token c.args.writes in
    let key = c.args.key in
    let row = row_of key.number key.opening key.connection key.ordinal (token_view c.args.token) c.args.bytes.now in
    let is = c.transaction-tx.ensures.begun in
    let now : (state g.S.Store begun).now ≡ (state g.S.Store old).now = ap (λ h. (state g.S.Store h).now) is in
    let committed : (state g.S.Store begun).committed ≡ (state g.S.Store old).committed = ap (λ h. (state g.S.Store h).committed) is in
    let is_open : (state g.S.Store begun).is_open ≡ (state g.S.Store old).is_open = ap (λ h. (state g.S.Store h).is_open) is in
    let step : Survives (state g.S.Store old) (state g.S.Store mid) (λ _. ⊥) = survives_begin g.S.Store old (state g.S.Store mid) (λ _. ⊥) (rw is at c.insert.ensures.survives) in
    let next : IsRowOf (length es + 1) e row =
    record { opening = key.opening; bytes = c.args.bytes.now; spelled = c.requires.spelled; is = rw (c.requires.number, c.requires.id.0, c.requires.id.1) refl } in
    let same : end ≡ c.conn-in-Ok-Added-1.given.0 = search rules in
    let whole = survives (state g.S.Store old) (state g.S.Store begun) (state g.S.Store mid) (state g.S.Store end) es e row now committed is_open step h.has next c.in-Ok-insert.ensures.shown c.in-Ok-insert.ensures.puts
    c.commit-in-Ok-Added.ensures.survives in
    subst (λ k. Survives (state g.S.Store old) (state g.S.Store k) (λ trees. HoldsLedger trees (es ++ e ∷ []))) same whole

pub returns-in-Err-commit-clause-survives : goal.returns-in-Err-commit-clause-survives
returns-in-Err-commit-clause-survives g c h =
    let old = c.args.conn.now in
    let begun = c.transaction-tx.result.conn.now in
    let mid = c.insert.new.tx.conn.now in
    let end = c.commit-in-Ok-Added.new.self.0 in
    let es = g.E.Engine.entries c.args.inner.now in
    let e = entry_of c.args.id c.args.token c.args.writes in
    let key = c.args.key in
    let row = row_of key.number key.opening key.connection key.ordinal (token_view c.args.token) c.args.bytes.now in
    let is = c.transaction-tx.ensures.begun in
    let now : (state g.S.Store begun).now ≡ (state g.S.Store old).now = ap (λ h. (state g.S.Store h).now) is in
    let committed : (state g.S.Store begun).committed ≡ (state g.S.Store old).committed = ap (λ h. (state g.S.Store h).committed) is in
    let is_open : (state g.S.Store begun).is_open ≡ (state g.S.Store old).is_open = ap (λ h. (state g.S.Store h).is_open) is in
    let step : Survives (state g.S.Store old) (state g.S.Store mid) (λ _. ⊥) = survives_begin g.S.Store old (state g.S.Store mid) (λ _. ⊥) (rw is at c.insert.ensures.survives) in
    let next : IsRowOf (length es + 1) e row =
    record { opening = key.opening; bytes = c.args.bytes.now; spelled = c.requires.spelled; is = rw (c.requires.number, c.requires.id.0, c.requires.id.1) refl } in
    let same : end ≡ c.conn-in-Ok-Added-1.given.0 = search rules in
    let whole = survives (state g.S.Store old) (state g.S.Store begun) (state g.S.Store mid) (state g.S.Store end) es e row now committed is_open step h.has next c.in-Ok-insert.ensures.shown c.in-Ok-insert.ensures.puts
    c.commit-in-Ok-Added.ensures.survives in
    subst (λ k. Survives (state g.S.Store old) (state g.S.Store k) (λ trees. HoldsLedger trees (es ++ e ∷ []))) same whole

pub returns-in-Err-commit-clause-either : goal.returns-in-Err-commit-clause-either
returns-in-Err-commit-clause-either g c h =
    let old = c.args.conn.now in
    let begun = c.transaction-tx.result.conn.now in
    let mid = c.insert.new.tx.conn.now in
    let end = c.commit-in-Ok-Added.new.self.0 in
    let es = g.E.Engine.entries c.args.inner.now in
    let e = entry_of c.args.id c.args.token c.args.writes in
    let key = c.args.key in
    let row = row_of key.number key.opening key.connection key.ordinal (token_view c.args.token) c.args.bytes.now in
    let is = c.transaction-tx.ensures.begun in
    let now : (state g.S.Store begun).now ≡ (state g.S.Store old).now = ap (λ h. (state g.S.Store h).now) is in
    let committed : (state g.S.Store begun).committed ≡ (state g.S.Store old).committed = ap (λ h. (state g.S.Store h).committed) is in
    let is_open : (state g.S.Store begun).is_open ≡ (state g.S.Store old).is_open = ap (λ h. (state g.S.Store h).is_open) is in
    let step : Survives (state g.S.Store old) (state g.S.Store mid) (λ _. ⊥) = survives_begin g.S.Store old (state g.S.Store mid) (λ _. ⊥) (rw is at c.insert.ensures.survives) in
    let next : IsRowOf (length es + 1) e row =
    record { opening = key.opening; bytes = c.args.bytes.now; spelled = c.requires.spelled; is = rw (c.requires.number, c.requires.id.0, c.requires.id.1) refl } in
    let same : end ≡ c.conn-in-Ok-Added-1.given.0 = search rules in
    let grown : g.E.Engine.entries c.commit.new.self ≡ es ++ e ∷ [] = search rules in
    let whole = survives (state g.S.Store old) (state g.S.Store begun) (state g.S.Store mid) (state g.S.Store end) es e row now committed is_open step h.has next c.in-Ok-insert.ensures.shown c.in-Ok-insert.ensures.puts
    c.commit-in-Ok-Added.ensures.survives in
    let all : LeavesEither (state g.S.Store end) es (es ++ e ∷ []) = either (state g.S.Store old) (state g.S.Store end) es (es ++ e ∷ []) _ h.left (λ _ holds. holds) whole in
    subst (λ k. LeavesEither (state g.S.Store k) es (g.E.Engine.entries c.commit.new.self)) same (subst (LeavesEither (state g.S.Store end) es) (sym grown) all)
