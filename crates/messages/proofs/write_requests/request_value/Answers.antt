use Rattle.messages.proofs.Words.{◌≡◌, ◌∙◌, rules, string_bytes, structure, tree, tree_then, no_trees, Dict, Struct, Text, the_lemmas, tree_of_dict, text_of, entries, token_view}
use Rattle.messages.proofs.Fields.{tree_of_text, run_put}
use Rattle.messages.proofs.write_requests.request_value.Goals as goal

pub returns-in_ok-fields-in-Run : goal.returns-in_ok-fields-in-Run
returns-in_ok-fields-in-Run c =
    let same : text_of c.in_ok-text-in-Run.text ≡ text_of c.in-Run.text = search rules in
    let all : tree (Struct 16 c.in_ok-fields-in-Run.fields) ≡ structure 16 (tree_then (tree (Text c.in_ok-text-in-Run.text)) (tree_then (tree c.in_ok-field-in-Run.field) (tree_then (tree (Dict c.in_ok-pairs-in-Run.pairs)) no_trees))) = search (rules, the_lemmas) in
    rw c.in-Run.is (run_put c.args.version (string_bytes c.in-Run.text) (entries c.in-Run.params.items) c.in-Run.mode (token_view c.in-Run.token) _ _ _
    c.in_ok-pairs-in-Run.ensures c.in_ok-field-in-Run.ensures (rw (tree_of_text c.in_ok-text-in-Run.text ∙ same, tree_of_dict c.in_ok-pairs-in-Run.pairs) at all))
