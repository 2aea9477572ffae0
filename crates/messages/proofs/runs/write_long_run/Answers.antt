use Rattle.messages.proofs.Words.{◌++◌, List, ℕ, ap, subst, sym, ◌∙◌, request_view}
use Rattle.messages.proofs.Sent.{Fits, request_fits}
use Rattle.messages.proofs.runs.write_long_run.Goals as goal

pub put_run-requires : goal.put_run-requires
put_run-requires c =
    let t = c.in_ok-write_request.ensures.text in
    let fits : Fits t.0 = request_fits c.args.version (request_view c.args.request.now) t.0 t.1 (c.in_ok-write_request.ensures.read_back t.0 t.1) in
    let same = subst Fits (sym (c.deref.ensures ∙ t.2 ∙ ap (λ (x : List ℕ). x ++ t.0) c.new-text.ensures.items)) fits in
    record { some = same.0; fits = same.1 }
