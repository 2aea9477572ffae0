-- What a request is answered with, by what is open then and what is committed.
use Rattle.std.proofs.Common.{◌≡◌, refl, ap, ℕ, suc, ◌≤◌, false, true, cond, List, [], ◌∷◌, length, length-drop, Option, Some, None, Result, Ok, Err, arith, is_some, nat_le, ◌&&◌}
use Rattle.std.proofs.lemmas.Bool.{cond_both}
use Rattle.packstream.specs.Prelude.{Tree}
use Rattle.wire.specs.declared.Version.{Version}
use Rattle.wire.specs.Prelude.{hello_has_login}
use Rattle.messages.specs.declared.request.Count.{Count}
use Rattle.messages.specs.declared.request.Count.TheVariants as counts
use Rattle.messages.specs.Prelude.{RequestView, AuthView, ResponseView, response_of_summary, Closing, Committed, response_spelling}
use Rattle.machine.specs.declared.states.State.{State}
use Rattle.machine.specs.declared.states.Phase.{Phase}
use Rattle.machine.specs.declared.kinds.Kind.{Kind}
use Rattle.machine.specs.declared.rows.Verdict.{Verdict}
use Rattle.machine.specs.Prelude.{phase_of, kind_of, is_goodbye, is_reset, row_at, commits}
use Rattle.engine.specs.declared.answer.Mode.{Mode as QueryMode}
use Rattle.engine.specs.Prelude.{Found, Free, There, Other, found_in, WriteView, ParameterView, Token, EntryView, AnswerView, QueryFault}
use Rattle.server_session.specs.declared.fault.Fault.TheVariants as fault
use Rattle.server_session.specs.Prelude.{fits, Setting, Open, no_result, Tx, no_tx, Change, Reply, OneRow, Summary, Bye, fails, succeeds, commits_as, commits_over, change_alone, change_inside, close, left_after, rows_of, if_fits, unwritable, pull, used_up, greets, reply_to_hello, reply_to_login, reply_to_run, result_of_answer, with_write, in_transaction, fields_said, perform, serve, passed_over, is_halted}

pub data Served (S : Setting) (ledger : List EntryView) (s : State) (left : Open) (tx : Tx) (k : Kind) : Reply → Type 0 where
  leaves : Served S ledger s left tx k Bye
  says : (d : Verdict) (m : ResponseView) → Served S ledger s left tx k (Summary d m no_result no_tx None)
  finishes : (d : Verdict) (m : ResponseView) → Served S ledger s left tx k (Summary d m no_result tx None)
  begins : (d : Verdict) (m : ResponseView) (new : Tx) → new.writes ≡ [] → Served S ledger s left tx k (Summary d m no_result new None)
  opens_result : (v : Version) (d : Verdict) (m : ResponseView) (token : Token) (a : AnswerView) (own : List WriteView) (query : List ℕ) (params : List ParameterView) (mode : QueryMode) → S.run ledger own query params mode ≡ Ok a
      → (in_transaction s && (is_some a.write && nat_le 1024 (length tx.writes))) ≡ false → Served S ledger s left tx k (Summary d m (result_of_answer v s token a) (cond (in_transaction s) (with_write tx a.write) no_tx) None)
  keeps_rows : (d : Verdict) (m : ResponseView) (rows : List (List Tree)) → length rows ≤ length left.rows → Served S ledger s left tx k (Summary d m (record left { rows = rows; written = 0 }) tx None)
  writes_row : (r : List Tree) (rs : List (List Tree)) → left.rows ≡ r ∷ rs → Served S ledger s left tx k (OneRow r (record left { rows = rs; written = suc left.written }))
  adds : (d : Verdict) (m : ResponseView) (change : Change) → found_in change.token change.writes ledger ≡ Free → commits (phase_of s) k ≡ true → Served S ledger s left tx k (Summary d m no_result no_tx (Some change))

module _ (S : Setting) (ledger : List EntryView) (s : State) (left : Open) (tx : Tx) (k : Kind) where
  abbrev Is : Reply → Type 0
  Is reply = Served S ledger s left tx k reply

  fitting : (v : Version) (m : ResponseView) (reply : Reply) → Is reply → Is (if_fits v m reply)
  fitting v m reply h = cond_both (fits v m) reply (fails (unwritable (response_spelling v m))) Is (λ e. h) (λ e. says _ _)

  committing : (change : Change) (said : ℕ → ResponseView) → commits (phase_of s) k ≡ true → Is (commits_over ledger change said)
  committing change said row = go (found_in change.token change.writes ledger) refl
    where
      go : (f : Found) → found_in change.token change.writes ledger ≡ f → Is (commits_as (length ledger) change said f)
      go Free e = adds _ _ change e row
      go (There n) e = says _ _
      go Other e = says _ _

  admitting : (a : AuthView) (m : ResponseView) → Is (reply_to_login S a m)
  admitting a m = cond_both _ (succeeds m) (fails fault.Unauthorized) Is (λ e. says _ _) (λ e. says _ _)

  greeting : (v : Version) (c : ℕ) (auth : Option AuthView) → Is (greets S v c auth)
  greeting v c auth = cond_both (hello_has_login v) (reply_to_hello S auth _) (succeeds _) Is (λ e. by_auth auth _) (λ e. says _ _)
    where
      by_auth : (auth : Option AuthView) (m : ResponseView) → Is (reply_to_hello S auth m)
      by_auth None m = says _ _
      by_auth (Some a) m = admitting a m

  running : (v : Version) (token : Token) (own : List WriteView) (query : List ℕ) (params : List ParameterView) (mode : QueryMode) → Is (reply_to_run v s tx token (S.run ledger own query params mode))
  running v token own query params mode = go (S.run ledger own query params mode) refl
    where
      go : (a : Result AnswerView QueryFault) → S.run ledger own query params mode ≡ a → Is (reply_to_run v s tx token a)
      go (Err e) h = says _ _
      go (Ok a) h =
          let m = fields_said a.fields in
          let done : Reply = Summary Verdict.Success m (result_of_answer v s token a) (cond (in_transaction s) (with_write tx a.write) no_tx) None in
          cond_both (in_transaction s && (is_some a.write && nat_le 1024 (length tx.writes))) (fails fault.TooManyWrites) (if_fits v m done) Is (λ e. says _ _) (λ e. fitting v m done (opens_result v Verdict.Success m token a own query params mode h e))

module _ (S : Setting) (ledger : List EntryView) (left : Open) (tx : Tx) where
  closing : (s : State) (k : Kind) (rows : List (List Tree)) → length rows ≤ length left.rows → commits Phase.Streaming k ≡ true → Served S ledger s left tx k (close s ledger rows left tx)
  closing s k (r ∷ rs) few row = keeps_rows _ _ (r ∷ rs) few
  closing State.Streaming k [] few row = committing S ledger State.Streaming left tx k (change_alone left) (λ n. response_of_summary (Closing (Some n) left.mode)) row
  closing s k [] few row = finishes _ _

  pulling : (s : State) (v : Version) (n : Count) (rows : List (List Tree)) → left.rows ≡ rows → Served S ledger s left tx Kind.Pull (pull v s ledger n rows left tx)
  pulling s v n [] e = closing s Kind.Pull [] (omega arith) refl
  pulling s v n (r ∷ rs) e =
      let few : length (r ∷ rs) ≤ length left.rows = let n = ap length e in omega (arith, n) in
      let row : Reply = OneRow r (record left { rows = rs; written = suc left.written }) in
      cond_both (used_up n left.written) (close s ledger (r ∷ rs) left tx) (if_fits v (ResponseView.Record r) row) (λ x. Served S ledger s left tx Kind.Pull x) (λ u. keeps_rows _ _ (r ∷ rs) few)
      (λ u. fitting S ledger s left tx Kind.Pull v (ResponseView.Record r) row (writes_row r rs e))

  few_left : (n : Count) (rows : List (List Tree)) → length (left_after n rows) ≤ length rows
  few_left counts.All rows = omega arith
  few_left (counts.Of z) rows = omega (arith, length-drop (rows_of z) rows)

  -- a COMMIT has a row in a transaction alone
  commit_row : (v : Version) (s : State) → is_some (row_at v s Kind.Commit Verdict.Success) ≡ true → commits (phase_of s) Kind.Commit ≡ true
  commit_row v State.TxReady h = refl
  commit_row v s h = cc

  performing : (s : State) (v : Version) (c : ℕ) (q : RequestView) → is_some (row_at v s (kind_of q) Verdict.Success) ≡ true → Served S ledger s left tx (kind_of q) (perform S v c ledger s left tx q)
  performing s v c (RequestView.Hello agent auth) h = greeting S ledger s left tx Kind.Hello v c auth
  performing s v c (RequestView.Logon a) h = admitting S ledger s left tx Kind.Logon a _
  performing s v c (RequestView.Run query params mode token) h =
      cond_both (in_transaction s) _ _ (λ x. Served S ledger s left tx Kind.Run x) (λ e. running S ledger s left tx Kind.Run v token tx.writes query params _) (λ e. running S ledger s left tx Kind.Run v token [] query params _)
  performing s v c (RequestView.Begin mode token) h = begins _ _ _ refl
  performing s v c RequestView.Commit h = committing S ledger s left tx Kind.Commit (change_inside tx) (λ n. response_of_summary (Committed n)) (commit_row v s h)
  performing s v c (RequestView.Pull n) h = pulling s v n left.rows refl
  performing s v c (RequestView.Discard n) h = closing s Kind.Discard (left_after n left.rows) (few_left n left.rows) refl
  performing s v c q h = says _ _

pub serving : (S : Setting) (v : Version) (c : ℕ) (ledger : List EntryView) (s : State) (left : Open) (tx : Tx) (q : RequestView) → Served S ledger s left tx (kind_of q) (serve S v c ledger s left tx q)
serving S v c ledger s left tx q =
    let P : Reply → Type 0 = λ x. Served S ledger s left tx (kind_of q) x in
    cond_both (is_goodbye (kind_of q)) Bye _ P (λ e. leaves)
    (λ e. cond_both (is_halted s) (passed_over (is_reset (kind_of q))) _ P (λ e. cond_both (is_reset (kind_of q)) _ _ P (λ e. says _ _) (λ e. says _ _))
    (λ e. cond_both (is_some (row_at v s (kind_of q) Verdict.Success)) _ _ P (performing S ledger left tx s v c q) (λ e. says _ _)))
