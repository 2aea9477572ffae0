-- What is decided, as the model's reply.
use Rattle.std.proofs.Common.{◌≡◌, ◌∙◌, ap, sym, subst, refl, ℕ, ◌<◌, ◌≤◌, Bool, true, false, not, ◌&&◌, ◌==◌, List, [], ◌∷◌, length, drop, None, arith, length-drop, Result, Ok, Err, IfOk}
use Rattle.std.specs.declared.alloc.AllocError.{AllocError}
use Rattle.server_session.specs.declared.acts.Act.{Act}
use Rattle.std.proofs.lemmas.List.{drop_all}
use Rattle.packstream.specs.Prelude.{Tree}
use Rattle.wire.specs.declared.Version.{Version}
use Rattle.messages.specs.declared.request.Count.{Count}
use Rattle.messages.specs.declared.request.Count.TheVariants as counts
use Rattle.messages.specs.Prelude.{RequestView, ResponseView, response_of_summary, response_spelling, RowsLeft}
use Rattle.machine.specs.declared.states.State.{State}
use Rattle.machine.specs.declared.states.State.TheVariants as states
use Rattle.machine.specs.declared.rows.Verdict.{Verdict}
use Rattle.engine.specs.Prelude.{EntryView, Token}
use Rattle.server_session.specs.declared.fault.Fault.{Fault}
use Rattle.server_session.specs.declared.spelling.Unwritten.{Unwritten}
use Rattle.server_session.specs.declared.spelling.Unwritten.TheVariants as unwritten
use Rattle.server_session.specs.Prelude.{Setting, Open, Tx, Reply, Summary, close, close_last, used_up, count_at, left_after, pull, serve, fits, fails, if_fits, unwritable, IsBody, IsRefused, Refuses, reply_of, streams, owes_row, runs, asked_by, token_of, reply_to_run, row_reply}

-- of an act whose reply is another name of the same
pub acts_same : (left : Open) (tx : Tx) (r : Result Act AllocError) (x y : Reply) → x ≡ y → IfOk r (λ act. (token : Token) → reply_of left tx token act ≡ x) → IfOk r (λ act. (token : Token) → reply_of left tx token act ≡ y)
acts_same left tx r x y e h = subst (λ (z : Reply). IfOk r (λ act. (token : Token) → reply_of left tx token act ≡ z)) e h

-- the same of one token
pub acts_told : (left : Open) (tx : Tx) (t : Token) (r : Result Act AllocError) (x : Reply) → IfOk r (λ act. (token : Token) → reply_of left tx token act ≡ x) → IfOk r (λ act. reply_of left tx t act ≡ x)
acts_told left tx t (Ok act) x h = h t
acts_told left tx t (Err e) x h = tt

-- with these rows left
abbrev pub more_left : List (List Tree) → Open → Tx → Reply
more_left rows left tx = Summary Verdict.More (response_of_summary RowsLeft) (record left { rows = rows; written = 0 }) tx None

some_left : (s : State) (ledger : List EntryView) (rows : List (List Tree)) (left : Open) (tx : Tx) → 0 < length rows → more_left rows left tx ≡ close s ledger rows left tx
some_left s ledger [] left tx h = absurd (omega arith)
some_left s ledger (r ∷ rs) left tx h = refl

none_left : (s : State) (ledger : List EntryView) (rows : List (List Tree)) (left : Open) (tx : Tx) → length rows ≡ 0 → close_last s ledger left tx ≡ close s ledger rows left tx
none_left s ledger [] left tx h = refl
none_left s ledger (r ∷ rs) left tx h = absurd (omega arith)

-- a summary after which rows are left, and the last
pub ends_some : (s : State) (ledger : List EntryView) (n : ℕ) (rows : List (List Tree)) (left : Open) (tx : Tx) → n < length rows → more_left (drop n rows) left tx ≡ close s ledger (drop n rows) left tx
ends_some s ledger n rows left tx h = some_left s ledger (drop n rows) left tx (omega (arith, h, length-drop n rows))

pub ends_all : (s : State) (ledger : List EntryView) (n : ℕ) (rows : List (List Tree)) (left : Open) (tx : Tx) → length rows ≤ n → close_last s ledger left tx ≡ close s ledger (drop n rows) left tx
ends_all s ledger n rows left tx h = none_left s ledger (drop n rows) left tx (omega (arith, h, length-drop n rows))

-- what a DISCARD leaves
pub left_is : (count : Count) (rows : List (List Tree)) (n : ℕ) → n ≡ count_at count (length rows) → drop n rows ≡ left_after count rows
left_is counts.All rows n e = ap (λ k. drop k rows) e ∙ drop_all (length rows) rows (omega arith)
left_is (counts.Of z) rows n e = ap (λ k. drop k rows) e

-- .. and one that is owed a row, by the first.
isnt_used : (u e : Bool) → (not u && not e) ≡ true → (u ≡ false) × (e ≡ false)
isnt_used false false h = (refl, refl)
isnt_used false true h = absurd cc
isnt_used true e h = absurd cc

owed_rows : (v : Version) (s : State) (ledger : List EntryView) (n : Count) (rows : List (List Tree)) (left : Open) (tx : Tx) → (not (used_up n left.written) && not (length rows == 0)) ≡ true → row_reply v rows left ≡ pull v s ledger n rows left tx
owed_rows v s ledger n [] left tx h = let w = isnt_used (used_up n left.written) true h in absurd cc
owed_rows v s ledger n (r ∷ rs) left tx h = let u : used_up n left.written ≡ false = (isnt_used (used_up n left.written) (length (r ∷ rs) == 0) h).0 in rw u refl

pub owed_served : (S : Setting) (v : Version) (c : ℕ) (ledger : List EntryView) (s : State) (left : Open) (tx : Tx) (q : RequestView) → owes_row s left q ≡ true → row_reply v left.rows left ≡ serve S v c ledger s left tx q
owed_served S v c ledger states.Streaming left tx (RequestView.Pull n) h = owed_rows v states.Streaming ledger n left.rows left tx h
owed_served S v c ledger states.TxStreaming left tx (RequestView.Pull n) h = owed_rows v states.TxStreaming ledger n left.rows left tx h
owed_served S v c ledger s left tx (RequestView.Pull n) h = absurd cc
owed_served S v c ledger s left tx q h = absurd cc

pub owed_some : (s : State) (left : Open) (q : RequestView) → owes_row s left q ≡ true → 0 < length left.rows
owed_some s left (RequestView.Pull n) h = some (used_up n left.written) left.rows (both s _ h)
  where
    both : (s : State) (b : Bool) → (streams s && b) ≡ true → b ≡ true
    both states.Streaming b h = h
    both states.TxStreaming b h = h
    both s b h = absurd cc

    some : (u : Bool) (rows : List (List Tree)) → (not u && not (length rows == 0)) ≡ true → 0 < length rows
    some u [] h = let w = isnt_used u true h in absurd cc
    some u (r ∷ rs) h = omega arith
owed_some s left q h = absurd cc

-- what is spelled of the first row fits a message
pub first_sized : (v : Version) (rows : List (List Tree)) (b : List ℕ) → 0 < length rows → ((row : List Tree) (rest : List (List Tree)) → rows ≡ row ∷ rest → IsBody v (ResponseView.Record row) b × (fits v (ResponseView.Record row) ≡ true)) → (0 < length b) × (length b ≤ 65536)
first_sized v [] b h w = absurd (omega arith)
first_sized v (r ∷ rs) b h w = let x = (w r rs refl).0 in (x.some, x.few)

-- Neither is worked in Interrupted.
pub owed_elsewhere : (s : State) (left : Open) (q : RequestView) → owes_row s left q ≡ true → s ≡ states.Interrupted → ⊥
owed_elsewhere states.Interrupted left (RequestView.Pull n) h e = cc
owed_elsewhere s left (RequestView.Pull n) h e = cc
owed_elsewhere s left q h e = absurd cc

pub runs_elsewhere : (v : Version) (s : State) (q : RequestView) → runs v s q ≡ true → s ≡ states.Interrupted → ⊥
runs_elsewhere v states.Interrupted (RequestView.Run query params mode token) h e = cc
runs_elsewhere v s (RequestView.Run query params mode token) h e = cc
runs_elsewhere v s q h e = absurd cc

-- A RUN that has a row in its state is answered by what its engine answers.
pub run_served : (S : Setting) (v : Version) (c : ℕ) (ledger : List EntryView) (s : State) (left : Open) (tx : Tx) (q : RequestView) → runs v s q ≡ true → reply_to_run v s tx (token_of q) (asked_by S.run ledger s tx q) ≡ serve S v c ledger s left tx q
run_served S v c ledger states.Ready left tx (RequestView.Run query params mode token) h = refl
run_served S v c ledger states.TxReady left tx (RequestView.Run query params mode token) h = refl
run_served S v c ledger s left tx (RequestView.Run query params mode token) h = absurd cc
run_served S v c ledger s left tx q h = absurd cc

-- What can't be written is answered by a FAILURE.
pub unfit : (w v : Version) (m n : ResponseView) (reply : Reply) (f : Fault) (u : Unwritten) → w ≡ v → m ≡ n → Refuses w m u → u ≡ unwritten.Because f → fails f ≡ if_fits v n reply
unfit w v m n reply f u e d h is =
    let r : IsRefused w m f = subst (Refuses w m) is h in
    let misfit : fits v n ≡ false = ap (fits v) (sym d) ∙ ap (λ x. fits x m) (sym e) ∙ r.misfit in
    let why : unwritable (response_spelling v n) ≡ f = ap (λ x. unwritable (response_spelling v x)) (sym d) ∙ ap (λ x. unwritable (response_spelling x m)) (sym e) ∙ r.why in
    rw misfit (ap fails (sym why))

pub row_unfit : (w v : Version) (rows : List (List Tree)) (left : Open) (f : Fault) (u : Unwritten) → w ≡ v → 0 < length rows → ((row : List Tree) (rest : List (List Tree)) → rows ≡ row ∷ rest → Refuses w (ResponseView.Record row) u) → u ≡ unwritten.Because f → fails f ≡ row_reply v rows left
row_unfit w v [] left f u e some h is = absurd (omega arith)
row_unfit w v (r ∷ rs) left f u e some h is = unfit w v (ResponseView.Record r) (ResponseView.Record r) _ f u e refl (h r rs refl) is
