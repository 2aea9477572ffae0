use Rattle.messages.proofs.Words.{request_view, request_contents, ◌≡◌, ◌∙◌, ℕ, List, [], ◌∷◌, Result, Ok, ap, sym, subst, Version, MsgFault, Tree, Trees, Entries, trees, trees_of, ◌>>=◌, Answers, Contents, contents_of_row, contents_of_run, entries_of_dict, three_fields, field_text, RUN, text_field, cells, extra, ignored, of_transaction}
use Rattle.messages.proofs.Fields.{run_row}
use Rattle.messages.proofs.read_requests.run_of.Goals as goal

run_is : {X : Type 0} (view : X → Contents) (r : Result X MsgFault) (v : Version) (ts : Trees) (t u w : Tree) (s : List ℕ) (ps es : Entries) → three_fields ts ≡ Ok (t, u, w) → field_text t ≡ Ok s → entries_of_dict u ≡ Ok ps → entries_of_dict w ≡ Ok es
    → Answers view r (contents_of_run v s u es) → Answers view r (contents_of_row v RUN (text_field ∷ cells ∷ extra ignored of_transaction ∷ []) ts)
run_is view r v ts t u w s ps es a b d e h = subst (λ (x : Result Contents MsgFault). Answers view r x) (sym (run_row v ts ∙ ap (λ q. q >>= λ p. field_text p.0 >>= λ x. entries_of_dict p.1 >>= λ y. entries_of_dict p.2 >>= λ z. contents_of_run v x p.1 z) a
    ∙ ap (λ q. q >>= λ x. entries_of_dict u >>= λ y. entries_of_dict w >>= λ z. contents_of_run v x u z) b ∙ ap (λ q. q >>= λ y. entries_of_dict w >>= λ z. contents_of_run v s u z) d ∙ ap (λ q. q >>= λ z. contents_of_run v s u z) e)) h

pub returns : goal.returns
returns c = run_is (λ r. request_contents (request_view r)) c.run_with.result c.args.version (trees_of (trees c.args.fields.now)) _ _ _ _ _ _ c.in_ok-text.ensures c.in_ok-text-2.ensures c.in_ok-entries_in.ensures c.in_ok-pairs.ensures c.run_with.ensures
