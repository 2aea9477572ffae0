use Rattle.messages.proofs.Words.{◌≡◌, codes, rules, FitsSigned, to_z, of_z, w64, int, rows_put}
use Rattle.messages.proofs.Added.{in_dict, number_added, one_entry, rows_good}
use Rattle.messages.proofs.write_requests.put_count.Goals as goal

pub returns-clause-adds : goal.returns-clause-adds
returns-clause-adds c =
    let z : to_z w64 (of_z w64 c.in-Ok.number) ≡ c.in-Ok.number = search rules in
    let fits : FitsSigned w64 c.in-Ok.number = search rules in
    in_dict c.args.tag (rows_put c.args.count) _ _ _ (search rules) c.in_ok-put_structure.ensures.ok (number_added c.args.count c.in-Ok.number _ _ c.in-Ok.ensures (rows_good c.in-Ok.number fits)
    (one_entry (codes "n") (int c.in-Ok.number) _ _ _ _ c.in_ok-push.ensures.ok c.in_ok-put_text.ensures.ok (rw z at c.in_ok-put_int.ensures.ok)))
