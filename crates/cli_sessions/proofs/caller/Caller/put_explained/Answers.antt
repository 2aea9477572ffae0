use Rattle.structures_cells.specs.Prelude.{shapes}
use Rattle.cli_sessions.proofs.Followed.{refl, sym, ap, [], append-nil, ◌∙◌, Appends-nil, ⊎_elim, WriteFailed, unless_err, row_text, in_line, unmade, note_line, whole}
use Rattle.cli_sessions.proofs.caller.Caller.put_explained.Goals as goal

pub returns-in-Nothing-clause-puts : goal.returns-in-Nothing-clause-puts
returns-in-Nothing-clause-puts g c = λ v e.
    ⊎_elim (λ n. rw n (whole (Appends-nil _) (λ s. s))) (λ n. rw n.1 (whole (Appends-nil _) (λ s. s))) c.in-Nothing.is

pub returns-in-Row-clause-puts : goal.returns-in-Row-clause-puts
returns-in-Row-clause-puts g c = λ v e.
    let cells = shapes c.in-Row.cells.items in
    let same = ap (λ w. row_text w cells) (rw c.in-Row.is at e) in
    rw c.in-Row.is (note_line [] (row_text c.args.self.now.version cells) _ c.put_row.result (Appends-nil _) c.put_row.ensures.puts
    (unless_err c.put_row.result WriteFailed _ c.put_row.ensures.sound) (same ∙ sym (append-nil _)) (λ t f. in_line t (f.0, f.1 ∙ same)) (unmade cells refl))

pub returns-in-Summary-clause-puts : goal.returns-in-Summary-clause-puts
returns-in-Summary-clause-puts g c = λ v e. rw c.in-Summary.is (c.put_summary.ensures.puts v)
