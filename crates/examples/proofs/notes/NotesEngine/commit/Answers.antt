use Rattle.std.proofs.Common.{◌≡◌, List, ◌++◌, ◌∷◌, [], None, ap, sym, ◌∙◌, subst, rules}
use Rattle.std.proofs.lemmas.List.{map-append}
use Rattle.engine.proofs.Once.{once_after}
use Rattle.engine.specs.Prelude.{TokensOnce, Found, Free, There, Other, added_by, found_in, known_by, EntryView, entry_view, entries_view, token_view, writes_view}
use Rattle.engine.specs.declared.ledger.Entry.{Entry}
use Rattle.examples.proofs.notes.NotesEngine.commit.Goals as goal

-- an entry whose token was free leaves the tokens apart
added : (es : List EntryView) (e : EntryView) (f : Found) → TokensOnce (es ++ added_by e f) → known_by f ≡ None → TokensOnce (es ++ e ∷ [])
added es e Free once h = once
added es e (There n) once h = absurd cc
added es e Other once h = absurd cc

pub invariant_of-self-2 : goal.invariant_of-self-2
invariant_of-self-2 c =
    let items = c.self.inside.ledger.items in
    let es = entries_view items in
    let e : Entry = record { id = c.args.id; token = c.args.token; writes = c.args.writes } in
    let known : known_by (found_in (token_view c.args.token) (writes_view c.args.writes.items) es) ≡ None = search rules in
    let pushed : c.push.new.self.items ≡ items ++ e ∷ [] = search rules in
    let all : entries_view c.push.new.self.items ≡ es ++ entry_view e ∷ [] = ap entries_view pushed ∙ map-append entry_view items (e ∷ []) in
    subst TokensOnce (sym all) (added es (entry_view e) (found_in (token_view c.args.token) (writes_view c.args.writes.items) es) (once_after es (entry_view e) c.self.invariant) known)
