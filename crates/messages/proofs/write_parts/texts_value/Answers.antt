use Rattle.messages.proofs.Words.{◌≡◌, ℕ, List, ◌++◌, Ok, append-nil, map, ap, sym, ◌∙◌, Bor, at_drop_all, Tree, structure, tree_then, no_trees, value_entries, tree_of_dict, named_text, of_texts}
use Rattle.messages.proofs.write_parts.texts_value.Goals as goal

pub returns : goal.returns
returns c =
    let es = value_entries c.loop-name.pairs.items in
    let rest = λ (xs : List (Bor (List ℕ) × Bor (List ℕ))). es ++ map named_text xs in
    let all : es ≡ map named_text c.args.named.now = sym (append-nil es) ∙ sym (at_drop_all rest c.args.named.now c.loop-name.name-index c.loop-name-test.false) ∙ c.loop-name.invariant in
    ap Ok (sym (c.in_ok-of_one.ensures ∙ ap (λ (t : Tree). structure c.args.tag (tree_then t no_trees)) (tree_of_dict c.loop-name.pairs) ∙ ap (λ (ps : List (List ℕ × Tree)). of_texts c.args.tag ps) all))
