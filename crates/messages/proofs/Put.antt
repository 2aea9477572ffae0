-- A text between the place of its header and the end of its run.
use Rattle.messages.proofs.Words.{Ok, ◌≡◌, ◌≤◌, ◌-◌, ℕ, List, [], ◌∷◌, ◌++◌, length, drop, sym, ap, ◌∙◌, append_assoc, length-drop, arith, w16, Version, Request, drop-append-le, to_be_bytes, written_run, text_of-short, request_view, request_contents, request_spelling, form_put, run_of_result, Adds, PutsRequest}
use Rattle.messages.proofs.Added.{appended}
use Rattle.messages.proofs.Rounds.{asks_again}

-- it is the run, once its header is written
pub run_closed : (more new : List ℕ) (count : ℕ) → 2 ≤ length more → count ≡ length more - 2 → count ≤ 65535
    → new ≡ to_be_bytes w16 count ++ drop 2 (more ++ 0 ∷ 0 ∷ []) → new ≡ written_run (drop 2 more)
run_closed more new count some is few e =
    let size : count ≡ length (drop 2 more) = omega (arith, is, length-drop 2 more) in
    let short : length (drop 2 more) ≤ 65535 = omega (arith, size, few) in
    e ∙ ap (λ (x : List ℕ). to_be_bytes w16 count ++ x) (drop-append-le 2 more (0 ∷ 0 ∷ []) some)
    ∙ ap (λ (n : ℕ). to_be_bytes w16 n ++ (drop 2 more ++ 0 ∷ 0 ∷ [])) size
    ∙ sym (append_assoc (to_be_bytes w16 (length (drop 2 more))) (drop 2 more) (0 ∷ 0 ∷ [])) ∙ sym (text_of-short (drop 2 more) short)

-- and of a spelling that was added there, it is a request's run
pub request_put : (v : Version) (r : Request) (more new : List ℕ) → Adds (form_put v (request_contents (request_view r))) (0 ∷ 0 ∷ []) more → length more ≤ 65537 → new ≡ written_run (drop 2 more) → PutsRequest v (request_view r) new
unfolding request_spelling
request_put v r more new a short e =
    let t = appended (form_put v (request_contents (request_view r))) (0 ∷ 0 ∷ []) more a (omega (arith, short)) in
    let said : request_spelling v (request_view r) ≡ Ok t.0 = t.1 in
    record {
      written = (t.0, said, asks_again v r a.value t.0 a.is a.good said);
      run = e ∙ ap (λ (x : List ℕ). written_run (drop 2 x)) t.2 ∙ sym (ap run_of_result said);
    }
