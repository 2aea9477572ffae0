use Rattle.messages.proofs.Words.{ℕ, List, ◌++◌, map, sym, ◌∙◌, Bor, named_text, at_drop_all, canon_entries, entries_of}
use Rattle.messages.proofs.Named.{texts_put}
use Rattle.messages.proofs.put_entries.put_texts.Goals as goal

pub returns-clause-added : goal.returns-clause-added
returns-clause-added c =
    let rest = λ (xs : List (Bor (List ℕ) × Bor (List ℕ))). c.loop-name.out.more ++ canon_entries (entries_of (map named_text xs)) in
    texts_put c.args.tag c.args.named.now _ _ _ _ c.in_ok-put_structure.ensures.ok c.in_ok-put_head.ensures.ok (sym (at_drop_all rest c.args.named.now c.loop-name.name-index c.loop-name-test.false) ∙ c.loop-name.invariant.1)
