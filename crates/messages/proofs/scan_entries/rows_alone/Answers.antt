use Rattle.messages.proofs.Words.{◌≡◌, rules, to_z, of_z, w64}
use Rattle.messages.proofs.Scanned.{rows_scanned}
use Rattle.messages.proofs.scan_entries.rows_alone.Goals as goal

pub returns : goal.returns
returns g c =
    let z : to_z w64 (of_z w64 c.in_ok-number.number) ≡ c.in_ok-number.number = search rules in
    λ v. rows_scanned v c.in_ok-count_of.field-0 c.in_ok-number.number (g.S.Source.left c.args.source) (g.S.Source.left c.in_ok-rest.rest) (g.S.Source.left c.in_ok-number.rest) c.has_bytes.ensures c.in_ok-rest.ensures c.in_ok-number.ensures.spelled c.in_ok-number.ensures.good c.in_ok-end.ensures
    (rw z at c.in_ok-count_of.ensures)
