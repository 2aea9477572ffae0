use Rattle.messages.proofs.Words.{[], ◌∷◌, ap, arith, refl, RECORD, contents, on_ok_weaker, list, trees_of, shapes}
use Rattle.messages.proofs.Added.{field_of_cells, formed_cells}
use Rattle.messages.proofs.Named.{failure_added}
use Rattle.messages.proofs.write_responses.put_response.Goals as goal

pub returns-in-Failure-clause-adds : goal.returns-in-Failure-clause-adds
returns-in-Failure-clause-adds c =
    rw c.in-Failure.is (on_ok_weaker c.put_texts.result (λ a. failure_added c.args.version c.in-Failure.code c.in-Failure.message _ _ _ c.error_texts.ensures a) c.put_texts.ensures.added)

pub returns-in_ok-put_list-in-Record-clause-adds : goal.returns-in_ok-put_list-in-Record-clause-adds
returns-in_ok-put_list-in-Record-clause-adds c =
    let p = c.in_ok-put_list-in-Record.ensures in
    rw c.in-Record.is (field_of_cells c.args.version (λ x. contents RECORD (x ∷ []) []) 0x71 _ _ _ _ (omega arith) (λ x e. rw e refl) c.in_ok-put_structure-in-Record.ensures.ok
    (formed_cells c.args.version _ _ _ _ (ap (λ cs. list (trees_of (shapes cs))) c.as_slice.ensures.value) p.spelled p.good p.deep p.writable))
