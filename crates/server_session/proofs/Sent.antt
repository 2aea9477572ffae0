-- A row that is spelled where it goes out, as the model's step.
use Rattle.std.proofs.Common.{◌≡◌, ◌<◌, ◌≤◌, ℕ, suc, true, List, [], ◌∷◌, ◌++◌, length, drop, Ok, refl, sym, ap, subst, ◌∙◌, arith}
use Rattle.std.proofs.lemmas.List.{append-nil}
use Rattle.packstream.specs.Prelude.{Tree, list, trees_of, canon, IsGood, depth}
use Rattle.wire.specs.declared.Version.{Version}
use Rattle.wire.specs.Prelude.{written_run}
use Rattle.structures_cells.specs.declared.cell.Cell.{Cell}
use Rattle.structures_cells.specs.Prelude.{shapes, structures, fault_of_structure, IsWritable, are_typed}
use Rattle.structures_cells.proofs.Both.{both_true}
use Rattle.structures_cells.proofs.Fine.{fine_scan}
use Rattle.structures_cells.proofs.Typed.{typed_shape}
use Rattle.structures.specs.Prelude.{form}
use Rattle.structures.proofs.Formed.{form_typed}
use Rattle.messages.specs.Prelude.{RequestView, ResponseView, Arrival, RECORD, contents, form_put, response_contents, response_spelling, IsCell, Adds, Told, run_of_result}
use Rattle.messages.proofs.Added.{field_of_cells, formed_cells, appended}
use Rattle.messages.proofs.Rounds.{response_reads_back}
use Rattle.engine.specs.Prelude.{EntryView}
use Rattle.server_session.specs.declared.kinds.Worked.TheVariants as worked
use Rattle.server_session.specs.Prelude.{Open, Reply, OneRow, Kept, Steps, replies, puts, row_reply, version_of, IsPut, SendsRow, fits, IsBody, one_less}
use Rattle.server_session.specs.Acts.{after_bytes}
use Rattle.server_session.proofs.Fitting.{said_fits, said_body}

-- a row of cells is typed
pub typed_row : (cs : List Cell) → are_typed (trees_of (shapes cs)) ≡ true
typed_row [] = refl
typed_row (c ∷ cs) = both_true _ _ (typed_shape c) (typed_row cs)

-- The spelling of a row's form, behind the head of a RECORD, is the RECORD.
pub record_body : (v : Version) (ts : List Tree) (b : List ℕ) → are_typed (trees_of ts) ≡ true → b ≡ (0xB1 ∷ 0x71 ∷ []) ++ canon (form v (list (trees_of ts))) → length b ≤ 65536 → IsGood (form v (list (trees_of ts))) → depth (form v (list (trees_of ts))) ≤ 31 → IsWritable v (list (trees_of ts))
    → IsBody v (ResponseView.Record ts) b × (fits v (ResponseView.Record ts) ≡ true)
unfolding response_spelling
record_body v ts b k e short g d w =
    let m = ResponseView.Record ts in
    let t = list (trees_of ts) in
    let adds : Adds (form_put v (response_contents m)) [] b = field_of_cells v (λ x. contents RECORD (x ∷ []) []) 0x71 t [] (0xB1 ∷ 0x71 ∷ []) b (omega arith) (λ x h. rw h refl) refl (formed_cells v t t (0xB1 ∷ 0x71 ∷ []) b refl e g d w) in
    let a = appended (form_put v (response_contents m)) [] b adds short in
    let said : response_spelling v m ≡ Ok b = a.1 ∙ ap Ok (sym a.2) in
    let cell : IsCell v t = (form v t, g.plain, form_typed v t k (fine_scan (fault_of_structure v) 0 w.0 (structures t) w.1)) in
    let back = (response_reads_back v m b cell said).0 in
    (said_body v m b said back, said_fits v m b said back)

-- so its run was put
pub record_put : (v : Version) (ts : List Tree) (before more run old : List ℕ) → are_typed (trees_of ts) ≡ true → more ≡ ([] ++ 0 ∷ 0 ∷ 0xB1 ∷ 0x71 ∷ []) ++ canon (form v (list (trees_of ts))) → length more ≤ 65537 → IsGood (form v (list (trees_of ts))) → depth (form v (list (trees_of ts))) ≤ 31 → IsWritable v (list (trees_of ts))
    → before ≡ old → run ≡ written_run (drop 2 more) → IsPut v (ResponseView.Record ts) old (before ++ run)
record_put v ts before more run old k e few g d w was r =
    let text : List ℕ = (0xB1 ∷ 0x71 ∷ []) ++ canon (form v (list (trees_of ts))) in
    let is : more ≡ 0 ∷ 0 ∷ text = e in
    let short : length text ≤ 65536 = omega (arith, few, ap length is) in
    let b = record_body v ts text k refl short g d w in
    record { body = text; spelled = b.0; fits = b.1; run = ap (λ x. x ++ run) was ∙ ap (λ x. old ++ x) (r ∙ ap (λ x. written_run (drop 2 x)) is) }

-- The first row, sent.
pub row_sent : (ledger : List EntryView) (k new : Kept) (q : RequestView) (later : List Arrival) (conn : ℕ) → 0 < length k.result.rows → SendsRow k new → Steps (replies ledger k q later (row_reply (version_of k) k.result.rows k.result)) conn k.first worked.Row new ledger ledger
row_sent ledger k new q later conn some h = by_rows k.result.rows refl some
  where
    by_rows : (rows : List (List Tree)) → k.result.rows ≡ rows → 0 < length rows → Steps (replies ledger k q later (row_reply (version_of k) rows k.result)) conn k.first worked.Row new ledger ledger
    by_rows [] e some = absurd (omega arith)
    by_rows (r ∷ rs) e some =
        let s = h r rs e in
        let left : Open = record k.result { rows = rs; written = suc k.result.written } in
        let same : row_reply (version_of k) (r ∷ rs) k.result ≡ OneRow r left = rw s.0.fits refl in
        let said : puts k (Told (ResponseView.Record r)) ≡ new.unsent = ap (λ x. k.unsent ++ run_of_result x) s.0.spelled.text ∙ sym s.0.run in
        let gone : rs ≡ drop 1 k.result.rows = ap (drop 1) (sym e) in
        let kept : record k { result = left; unsent = puts k (Told (ResponseView.Record r)) } ≡ new =
        ap (λ (x : List ℕ). record k { result = left; unsent = x }) said ∙ ap (λ (x : List (List Tree)). record k { result = record k.result { rows = x; written = suc k.result.written }; unsent = new.unsent }) gone ∙ sym s.1 in
        subst (λ (x : Reply). Steps (replies ledger k q later x) conn k.first worked.Row new ledger ledger) (sym same) (record { told = refl; kept = kept; ledger = sym (append-nil ledger) })

-- The first row, spelled and then put.
pub row_put : (ledger : List EntryView) (k new : Kept) (body : List ℕ) (q : RequestView) (later : List Arrival) (conn : ℕ) → 0 < length k.result.rows
    → ((row : List Tree) (rest : List (List Tree)) → k.result.rows ≡ row ∷ rest → IsBody (version_of k) (ResponseView.Record row) body × (fits (version_of k) (ResponseView.Record row) ≡ true))
    → new ≡ after_bytes body k → Steps (replies ledger k q later (row_reply (version_of k) k.result.rows k.result)) conn k.first worked.Row new ledger ledger
row_put ledger k new body q later conn some spelled h =
    let unsent : new.unsent ≡ k.unsent ++ written_run body = ap (λ (x : Kept). x.unsent) h in
    let sends : SendsRow k new = λ row rest e. let s = spelled row rest e in
    (record { body = body; spelled = s.0; fits = s.1; run = unsent }, h ∙ ap (λ (x : List ℕ). record k { result = one_less k.result; unsent = x }) (sym unsent)) in
    row_sent ledger k new q later conn some sends
