use Rattle.std.proofs.Common.{◌≡◌, ◌++◌, ◌∷◌, [], ◌∙◌, inl, ap, subst, sym, length, length-append, take, arith, rules}
use Rattle.engine.specs.Tokens.{Free, found_in}
use Rattle.engine.specs.Views.{entry_of, token_view, writes_view}
use Rattle.engine_sqlite.specs.Kept.{ledger_of}
use Rattle.engine_sqlite.specs.Ledger.{HoldsLedger}
use Rattle.engine_sqlite.proofs.Enduring.{added_has, added_left, counted_new, lacking_has, lacking_left, lasts_all, leaves_shown, shows_more}
use Rattle.engine_sqlite.proofs.Front.{take_whole}
use Rattle.sqlite.specs.Held.{state}
use Rattle.sqlite.specs.State.{Survives}
use Rattle.engine_sqlite.proofs.lasting.Lasting.add.Goals as goal

pub returns-in-Ok-add_to_both-clause-adds : goal.returns-in-Ok-add_to_both-clause-adds
returns-in-Ok-add_to_both-clause-adds g c =
    let inside = c.self.inside in
    let all = g.E.Engine.entries inside.inner in
    let new = g.E.Engine.entries c.add_to_both.new.inner in
    let e = entry_of c.args.id c.args.token c.args.writes in
    let len : length all ≡ inside.kept = search rules in
    let grown : new ≡ all ++ e ∷ [] = c.in-Ok-add_to_both.ensures.adds in
    let shown = ledger_of g.E.Engine.entries c.args.self.now in
    let front : shown ≡ take inside.kept all = ap (ledger_of g.E.Engine.entries) (sym c.self.view_is) in
    let found = found_in (token_view c.args.token) (writes_view c.args.writes.items) shown in
    let free : found ≡ Free = search rules in
    shows_more all new e inside.kept len grown shown found front free

pub returns-in-Ok-add_to_both-clause-endures : goal.returns-in-Ok-add_to_both-clause-endures
returns-in-Ok-add_to_both-clause-endures g c =
    let inside = c.self.inside in
    let all = g.E.Engine.entries inside.inner in
    let new = g.E.Engine.entries c.add_to_both.new.inner in
    let e = entry_of c.args.id c.args.token c.args.writes in
    let len : length all ≡ inside.kept = search rules in
    let was = c.self.invariant.endures in
    let lasts = lasts_all (state g.S.Store inside.conn) all inside.kept len was.has was.left in
    let grown : new ≡ all ++ e ∷ [] = c.in-Ok-add_to_both.ensures.adds in
    let after = c.in-Ok-add_to_both.ensures.lasts lasts in
    let left = added_left all new e inside.kept len grown (state g.S.Store c.add_to_both.new.conn) after in
    record { has = added_has all new e inside.kept len grown (state g.S.Store c.add_to_both.new.conn) after; left = λ clean trees may. inl (left clean trees may) }

pub invariant_of-self : goal.invariant_of-self
invariant_of-self g c =
    let inside = c.self.inside in
    let all = g.E.Engine.entries inside.inner in
    let new = g.E.Engine.entries c.add_to_both.new.inner in
    let e = entry_of c.args.id c.args.token c.args.writes in
    let len : length all ≡ inside.kept = search rules in
    let was = c.self.invariant.endures in
    let lasts = lasts_all (state g.S.Store inside.conn) all inside.kept len was.has was.left in
    let grown : new ≡ all ++ e ∷ [] = c.in-Ok-add_to_both.ensures.adds in
    let after = c.in-Ok-add_to_both.ensures.lasts lasts in
    let left = added_left all new e inside.kept len grown (state g.S.Store c.add_to_both.new.conn) after in
    record {
      idle = c.in-Ok-add_to_both.ensures.idle;
      counted = rw c.if-self.false (ap length grown ∙ length-append all (e ∷ []) ∙ omega (arith, len));
      endures = record { has = added_has all new e inside.kept len grown (state g.S.Store c.add_to_both.new.conn) after; left = λ clean trees may. inl (left clean trees may) };
    }

pub returns-in-Ok-add_to_both-clause-left : goal.returns-in-Ok-add_to_both-clause-left
returns-in-Ok-add_to_both-clause-left g c runs =
    let inside = c.self.inside in
    let all = g.E.Engine.entries inside.inner in
    let new = g.E.Engine.entries c.add_to_both.new.inner in
    let e = entry_of c.args.id c.args.token c.args.writes in
    let len : length all ≡ inside.kept = search rules in
    let was = c.self.invariant.endures in
    let lasts = lasts_all (state g.S.Store inside.conn) all inside.kept len was.has was.left in
    let grown : new ≡ all ++ e ∷ [] = c.in-Ok-add_to_both.ensures.adds in
    added_left all new e inside.kept len grown (state g.S.Store c.add_to_both.new.conn) (c.in-Ok-add_to_both.ensures.lasts lasts)

pub returns-in-Ok-add_to_both-clause-survives : goal.returns-in-Ok-add_to_both-clause-survives
returns-in-Ok-add_to_both-clause-survives g c =
    let inside = c.self.inside in
    let all = g.E.Engine.entries inside.inner in
    let new = g.E.Engine.entries c.add_to_both.new.inner in
    let e = entry_of c.args.id c.args.token c.args.writes in
    let len : length all ≡ inside.kept = search rules in
    let was = c.self.invariant.endures in
    let lasts = lasts_all (state g.S.Store inside.conn) all inside.kept len was.has was.left in
    let end = state g.S.Store c.add_to_both.new.conn in
    let shown = subst (λ xs. Survives (state g.S.Store inside.conn) end (λ trees. HoldsLedger trees (xs ++ e ∷ []))) (sym (take_whole all inside.kept len)) (c.add_to_both.ensures.survives lasts) in
    subst (λ l. Survives (state g.S.Store l.conn) end (λ trees. HoldsLedger trees (ledger_of g.E.Engine.entries l ++ e ∷ []))) c.self.view_is shown

pub invariant_of-self-in-Err : goal.invariant_of-self-in-Err
invariant_of-self-in-Err g c =
    let inside = c.self.inside in
    let all = g.E.Engine.entries inside.inner in
    let new = g.E.Engine.entries c.add_to_both.new.inner in
    let e = entry_of c.args.id c.args.token c.args.writes in
    let len : length all ≡ inside.kept = search rules in
    let was = c.self.invariant.endures in
    let lasts = lasts_all (state g.S.Store inside.conn) all inside.kept len was.has was.left in
    let end = state g.S.Store c.add_to_both.new.conn in
    let ahead = c.in-Err.unadded.is_ahead in
    let grown = c.in-Err.ensures.refused in
    record {
      idle = c.in-Err.ensures.idle;
      counted = counted_new all new e inside.kept ahead len grown;
      endures = record {
        has = lacking_has all new e inside.kept ahead len grown end (c.in-Err.ensures.lacks lasts);
        left = lacking_left all new e inside.kept ahead len grown end (c.in-Err.ensures.either lasts);
      };
    }

pub returns-clause-endures : goal.returns-clause-endures
returns-clause-endures g c =
    let inside = c.self.inside in
    let all = g.E.Engine.entries inside.inner in
    let new = g.E.Engine.entries c.add_to_both.new.inner in
    let e = entry_of c.args.id c.args.token c.args.writes in
    let len : length all ≡ inside.kept = search rules in
    let was = c.self.invariant.endures in
    let lasts = lasts_all (state g.S.Store inside.conn) all inside.kept len was.has was.left in
    let end = state g.S.Store c.add_to_both.new.conn in
    let ahead = c.in-Err.unadded.is_ahead in
    let grown = c.in-Err.ensures.refused in
    record { has = lacking_has all new e inside.kept ahead len grown end (c.in-Err.ensures.lacks lasts); left = lacking_left all new e inside.kept ahead len grown end (c.in-Err.ensures.either lasts) }

pub returns-clause-left : goal.returns-clause-left
returns-clause-left g c runs =
    let inside = c.self.inside in
    let all = g.E.Engine.entries inside.inner in
    let new = g.E.Engine.entries c.add_to_both.new.inner in
    let e = entry_of c.args.id c.args.token c.args.writes in
    let len : length all ≡ inside.kept = search rules in
    let was = c.self.invariant.endures in
    let lasts = lasts_all (state g.S.Store inside.conn) all inside.kept len was.has was.left in
    leaves_shown all new e inside.kept c.in-Err.unadded.is_ahead len c.in-Err.ensures.refused (state g.S.Store c.add_to_both.new.conn) runs (c.in-Err.ensures.either lasts)

pub returns-clause-survives : goal.returns-clause-survives
returns-clause-survives g c =
    let inside = c.self.inside in
    let all = g.E.Engine.entries inside.inner in
    let new = g.E.Engine.entries c.add_to_both.new.inner in
    let e = entry_of c.args.id c.args.token c.args.writes in
    let len : length all ≡ inside.kept = search rules in
    let was = c.self.invariant.endures in
    let lasts = lasts_all (state g.S.Store inside.conn) all inside.kept len was.has was.left in
    let end = state g.S.Store c.add_to_both.new.conn in
    let shown = subst (λ xs. Survives (state g.S.Store inside.conn) end (λ trees. HoldsLedger trees (xs ++ e ∷ []))) (sym (take_whole all inside.kept len)) (c.add_to_both.ensures.survives lasts) in
    subst (λ l. Survives (state g.S.Store l.conn) end (λ trees. HoldsLedger trees (ledger_of g.E.Engine.entries l ++ e ∷ []))) c.self.view_is shown
