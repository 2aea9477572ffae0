use Rattle.std.proofs.Common.{List, [], ◌++◌, append-nil, sym, subst}
use Rattle.std.proofs.lemmas.List.Elements.{All-nil, All-push}
use Rattle.engine.specs.Prelude.{IsCellPair, AreCellPairs, AreCellEntries, IsOfCells, Found, Free, There, Other, found_in, added_by, EntryView, entry_of, parameters_view}
use Rattle.engine.proofs.Reading.{holds_by}
use Rattle.engine.proofs.laws.commit_and_run.Goals as goal

longer : (es : List EntryView) (e : EntryView) (f : Found) → AreCellEntries es → AreCellPairs e.writes → AreCellEntries (es ++ added_by e f)
longer es e Free ledger writes = All-push (λ (x : EntryView). AreCellPairs x.writes) es e ledger writes
longer es e (There n) ledger writes = subst AreCellEntries (sym (append-nil es)) ledger
longer es e Other ledger writes = subst AreCellEntries (sym (append-nil es)) ledger

pub returns-in-Ok-clause-of_cells : goal.returns-in-Ok-clause-of_cells
returns-in-Ok-clause-of_cells g c = λ ledger writes params.
    let old = g.E.Engine.entries c.args.engine.now in
    let entry = entry_of c.args.id c.args.token c.args.writes in
    let new = g.E.Engine.entries c.commit.new.self in
    let are : AreCellEntries new = subst AreCellEntries (sym c.in-Ok.ensures.adds) (longer old entry (found_in entry.token entry.writes old) ledger writes) in
    holds_by IsOfCells c.run.result _ c.run.ensures.defined
    (g.met.E.Engine.answers_are_of_cells new [] c.args.text.now (parameters_view c.args.params.now) c.args.mode are (All-nil IsCellPair) params)
