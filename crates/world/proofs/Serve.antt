-- What one answer of the session keeps, for a request that its phase allows: what it commits, and that it can be written.
use Rattle.std.proofs.Common.{◌≡◌, ◌≤◌, sym, ◌∙◌, ap, ℕ, suc, Some, None, List, [], ◌∷◌, ◌++◌, length, append_assoc, arith, refl, ap₂, true, ◌&&◌, Result, Ok, Err, lit≤, nat_lt, Bool, Option, codes, false, if◌then◌else◌, is_some, nat_le, not, slice_get, subst, true≢false, ◌+◌, ◌<◌, ◌^◌, bytes_eq}
use Rattle.std.proofs.lemmas.Option.{slice_get_within}
use Rattle.engine.proofs.Once.{Has, found_at, under-append}
use Rattle.engine.specs.Prelude.{There, found_in, under_token, Found, Free, Other, EntryView, Token, WriteView, AnswerView, ParameterView, QueryFault, unknown_text}
use Rattle.std.proofs.lemmas.Bool.{and_parts, ltb-true, cond_both}
use Rattle.packstream.specs.Prelude.{Tree, AreBytes}
use Rattle.wire.specs.declared.Version.{Version}
use Rattle.messages.specs.declared.MsgFault.{MsgFault}
use Rattle.messages.specs.Prelude.{responses, ResponseView, AuthView, RequestView, response_contents, contents_in, response_held, response_of, response_spelling, IsSaid, response_of_summary, IsShort, HasTexts}
use Rattle.messages.specs.Summaries as summaries
use Rattle.messages.proofs.Sayings.{means_told, told_says, responses_are_made}
use Rattle.messages.proofs.Fitting.{reads_back}
use Rattle.structures_cells.specs.Prelude.{same_tree}
use Rattle.structures_cells.proofs.Equality.{bytes_are, trees_are}
use Rattle.server_session.specs.Prelude.{same_cells, same_metadata, same_say, is_reading, are_bytes, is_text, fits, code_of, message_of, failure, of_query, Bye, Change, OneRow, Open, Reply, Setting, Summary, Tx, change_alone, change_inside, close, commits_as, commits_over, no_result, fails, fields_said, is_halted, if_fits, left_after, no_tx, perform, pull, query_mode, reply_to_hello, reply_to_login, reply_to_run, serve, succeeds, unwritable, used_up}
use Rattle.server_session.proofs.Fitting.{fits_with_text}
use Rattle.server_session.specs.declared.fault.Fault.{Fault}
use Rattle.std.specs.List.{list_all}
use Rattle.wire.specs.Prelude.{bytes_in_order, versions, hello_has_login}
use Rattle.messages.specs.declared.MsgFault.TheVariants as msg_fault
use Rattle.messages.specs.declared.Count.{Count}
use Rattle.messages.specs.declared.Mode.{Mode}
use Rattle.machine.proofs.Tables.{at_rows, at_version, implies, implies_at}
use Rattle.machine.specs.Prelude.{in_part, is_part, kind_of, is_goodbye, is_reset, allows, commits, row_at, phase_of, same_state}
use Rattle.machine.specs.declared.Kind.{Kind}
use Rattle.machine.specs.declared.State.{State}
use Rattle.machine.specs.declared.Verdict.{Verdict}
use Rattle.world.specs.Prelude.{alone_after, commit_of, is_invalid, is_success, tx_after}
use Rattle.client.specs.Prelude.{outcome_of, verdict_of}
use Rattle.client.specs.declared.Outcome.{Outcome}
use Rattle.world.proofs.Trace.{Pays, Denies}
use Rattle.machine.proofs.Leading.{same_state-true}

-- what stands under a token in a front of a ledger, or behind one
pub has_left : (t : List ℕ) (xs ys : List EntryView) (w : List WriteView) → Has (under_token t xs) w → Has (under_token t (xs ++ ys)) w
has_left t xs ys w h = (h.0, h.1 ++ under_token t ys, under-append t xs ys ∙ ap (λ z. z ++ under_token t ys) h.2 ∙ append_assoc h.0 (w ∷ h.1) (under_token t ys))

pub has_right : (t : List ℕ) (xs ys : List EntryView) (w : List WriteView) → Has (under_token t ys) w → Has (under_token t (xs ++ ys)) w
has_right t xs ys w h = (under_token t xs ++ h.0, h.1, under-append t xs ys ∙ ap (λ z. under_token t xs ++ z) h.2 ∙ sym (append_assoc (under_token t xs) h.0 (w ∷ h.1)))

-- a place that a ledger has for a change is one of its places, from 1
pub place_within : (token : Token) (w : List WriteView) (es : List EntryView) (n : ℕ) → found_in token w es ≡ There n → n ≤ length es
place_within None w es n h = cc
place_within (Some t) w es n h = let r = found_at t w es n h in let l = slice_get_within es r.0 r.1 r.3 in omega (arith, r.2, l)

-- What has one name is one.
cells_are : (ts us : List Tree) → same_cells ts us ≡ true → ts ≡ us
cells_are [] [] h = refl
cells_are (t ∷ ts) (u ∷ us) h = let r = and_parts (same_tree t u) (same_cells ts us) h in ap₂ (λ a b. a ∷ b) (trees_are t u r.0) (cells_are ts us r.1)
cells_are _ _ h = cc

metadata_are : (es fs : List (List ℕ × Tree)) → same_metadata es fs ≡ true → es ≡ fs
metadata_are [] [] h = refl
metadata_are (e ∷ es) (f ∷ fs) h =
    let r = and_parts (bytes_eq e.0 f.0) (same_tree e.1 f.1 && same_metadata es fs) h in
    let p = and_parts (same_tree e.1 f.1) (same_metadata es fs) r.1 in
    ap₂ (λ (a : List ℕ × Tree) (b : List (List ℕ × Tree)). a ∷ b) (ap₂ (λ (x : List ℕ) (y : Tree). (x, y)) (bytes_are e.0 f.0 r.0) (trees_are e.1 f.1 p.0)) (metadata_are es fs p.1)
metadata_are _ _ h = cc

pub says_are : (m n : ResponseView) → same_say m n ≡ true → m ≡ n
says_are (ResponseView.Success ps) (ResponseView.Success qs) h = ap (λ x. ResponseView.Success x) (metadata_are ps qs h)
says_are (ResponseView.Record ts) (ResponseView.Record us) h = ap (λ x. ResponseView.Record x) (cells_are ts us h)
says_are ResponseView.Ignored ResponseView.Ignored h = refl
says_are (ResponseView.Failure c m) (ResponseView.Failure d n) h = let r = and_parts (bytes_eq c d) (bytes_eq m n) h in ap₂ (λ s t. ResponseView.Failure s t) (bytes_are c d r.0) (bytes_are m n r.1)
says_are _ _ h = cc

are_bytes-true : (bs : List ℕ) → are_bytes bs ≡ true → AreBytes bs
are_bytes-true [] h = tt
are_bytes-true (b ∷ bs) h = let r = and_parts (nat_lt b 256) (are_bytes bs) h in (ltb-true b 256 r.0, are_bytes-true bs r.1)

read_is : (m : ResponseView) (r : Result ResponseView MsgFault) → is_reading r m ≡ true → r ≡ Ok m
read_is m (Ok n) h = ap (λ x. Ok x) (says_are n m h)
read_is m (Err e) h = cc

stands : (v : Version) (m : ResponseView) (r : Result (List ℕ) MsgFault) → is_text v m r ≡ true → (b : List ℕ) × (r ≡ Ok b) × AreBytes b × (response_of v b ≡ Ok m)
stands v m (Ok b) h = let p = and_parts (are_bytes b) (is_reading (response_of v b) m) h in (b, refl, are_bytes-true b p.0, read_is m (response_of v b) p.1)
stands v m (Err e) h = cc

-- what fits can be read
pub fits_said : (v : Version) (m : ResponseView) → fits v m ≡ true → IsSaid v m
unfolding fits response_of
fits_said v m h = let r = stands v m (response_spelling v m) h in (r.0, r.1, means_told response_contents response_held v responses (told_says v) r.0 r.2 m (contents_in v responses r.0) refl r.3)

-- each short answer fits
pub short_fits : (v : Version) (s : summaries.Summary) → IsShort s → HasTexts s → fits v (response_of_summary s) ≡ true
short_fits v s h t = let r = reads_back v s h t in (fits_with_text v (response_of_summary s) (responses_are_made v (response_of_summary s) r.0 r.2)).1 (r.0, r.1)

-- a failure's texts are short, and UTF-8
pub failure_texts : (f : Fault) → IsShort (failure f) × HasTexts (failure f)
unfolding lib.Utf8.encode
failure_texts Fault.UnknownText = (lit≤ tt, ((code_of Fault.UnknownText, (refl, refl)), (message_of Fault.UnknownText, (refl, refl))))
failure_texts f = (lit≤ tt, ((code_of f, (refl, refl)), (message_of f, (refl, refl))))

-- what is open agrees with the transaction t and the change w that the summaries tell
abbrev pub Held : State → Open → Tx → Tx → Change → Type 0
Held State.Streaming left tx t w = change_alone left ≡ w
Held State.TxReady left tx t w = tx ≡ t
Held State.TxStreaming left tx t w = tx ≡ t
Held _ left tx t w = Unit {0}

abbrev pub tx_then : Setting → List EntryView → RequestView → ResponseView → Tx → Tx
tx_then S front q a t = if is_success a then tx_after S front t q else t

abbrev pub alone_then : Setting → List EntryView → RequestView → ResponseView → Change → Change
alone_then S front q a w = if is_success a then alone_after S front w q else w

-- a commit after this ledger leaves one shorter than 2^63
abbrev pub Counted : List EntryView → Option Change → Type 0
Counted front None = Unit {0}
Counted front (Some u) = length front + 1 < 2 ^ 63

pub record Closes (S : Setting) (v : Version) (front : List EntryView) (s : State) (q : RequestView) (t : Tx) (w : Change)
    (d : Verdict) (a : ResponseView) (left : Open) (tx : Tx) (entry : Option Change) : Type 0 where
  pub told : verdict_of (in_part q) a ≡ Some d
  pub written : Counted front entry → fits v a ≡ true
  pub valid : is_invalid a ≡ false
  pub state : State
  pub rows : row_at v s (kind_of q) d ≡ Some state
  pub holds : Held state left tx (tx_then S front q a t) (alone_then S front q a w)
  pub paid : Pays front (commit_of (Some q) t w) (outcome_of (phase_of s) (kind_of q) d) entry
  pub denied : Denies front (commit_of (Some q) t w) d q
  pub commit : is_some entry ≡ true → commits (phase_of s) (kind_of q) ≡ true

abbrev pub Keeps : Setting → Version → List EntryView → State → RequestView → Tx → Change → Tx → Reply → Type 0
Keeps S v front s q t w tx (OneRow row left) = ((n : Count) × (q ≡ RequestView.Pull n)) × (fits v (ResponseView.Record row) ≡ true) × Held s left tx t w
Keeps S v front s q t w tx Bye = Unit {0}
Keeps S v front s q t w tx (Summary d a left tx2 entry) = Closes S v front s q t w d a left tx2 entry

-- none of the faults of queries and of rows is that of a request without a row
unwritable_valid : (r : Result (List ℕ) MsgFault) → is_invalid (response_of_summary (failure (unwritable r))) ≡ false
unwritable_valid (Err msg_fault.Size) = refl
unwritable_valid _ = refl

query_valid : (e : QueryFault) → is_invalid (response_of_summary (failure (of_query e))) ≡ false
query_valid unknown_text = refl
query_valid _ = refl

-- what is there is this one, by a test of sameness
abbrev pub option_is : {A : Type 0} → (A → A → Bool) → Option A → A → Bool
option_is same None x = false
option_is same (Some y) x = same y x

pub option_is-true : {A : Type 0} (same : A → A → Bool) → ((x y : A) → same x y ≡ true → x ≡ y) → (o : Option A) (x : A) → option_is same o x ≡ true → o ≡ Some x
option_is-true same is None x h = cc
option_is-true same is (Some y) x h = ap (λ z. Some z) (is y x h)

-- a request with a row of Success has this other one, at each version
row_beside : (s : State) (k : Kind) (d : Verdict) (to : State) → list_all (λ v. implies (is_some (row_at v s k Verdict.Success)) (option_is same_state (row_at v s k d) to)) versions ≡ true
    → (v : Version) → is_some (row_at v s k Verdict.Success) ≡ true → row_at v s k d ≡ Some to
row_beside s k d to all v r =
    option_is-true same_state same_state-true (row_at v s k d) to
    (implies_at (is_some (row_at v s k Verdict.Success)) _ (at_version (λ v. implies (is_some (row_at v s k Verdict.Success)) (option_is same_state (row_at v s k d) to)) all v) r)

-- a request with a row of Success at no version
no_row : (s : State) (k : Kind) → list_all (λ v. not (is_some (row_at v s k Verdict.Success))) versions ≡ true
    → (v : Version) → is_some (row_at v s k Verdict.Success) ≡ true → true ≡ false
no_row s k all v r = sym (at_version (λ v. not (is_some (row_at v s k Verdict.Success))) all v) ∙ ap not r

-- where a HELLO leads, by whether it carries who the client is
abbrev after_hello : Bool → State
after_hello b = if b then State.Ready else State.Unauth

hello_row : (v : Version) (b : Bool) → hello_has_login v ≡ b → row_at v State.Fresh Kind.Hello Verdict.Success ≡ Some (after_hello b)
hello_row v b e =
    option_is-true same_state same_state-true (row_at v State.Fresh Kind.Hello Verdict.Success) (after_hello (hello_has_login v))
    (at_version (λ v. option_is same_state (row_at v State.Fresh Kind.Hello Verdict.Success) (after_hello (hello_has_login v))) refl v) ∙ ap (λ b. Some (after_hello b)) e

module _ (S : Setting) (c : ℕ) (numbered : c < 2 ^ 64) (front : List EntryView) (few : length front < 2 ^ 64) where
  keeps_fails : (v : Version) (s s2 : State) (q : RequestView) (t : Tx) (w : Change) (tx : Tx) (f : Fault) → is_invalid (response_of_summary (failure f)) ≡ false
      → row_at v s (kind_of q) Verdict.Failure ≡ Some s2 → Held s2 no_result no_tx t w → Denies front (commit_of (Some q) t w) Verdict.Failure q → Keeps S v front s q t w tx (fails f)
  keeps_fails v s s2 q t w tx f ok e h n =
      record { told = refl; written = λ _. let texts = failure_texts f in short_fits v (failure f) texts.0 texts.1; valid = ok; state = s2; rows = e; holds = h; paid = λ p. cc; denied = n; commit = λ p. cc }

  keeps_fits : (v : Version) (s s2 : State) (q : RequestView) (t : Tx) (w : Change) (tx : Tx) (a : ResponseView) (x : Reply) → row_at v s (kind_of q) Verdict.Failure ≡ Some s2 → Held s2 no_result no_tx t w → Denies front (commit_of (Some q) t w) Verdict.Failure q
      → (fits v a ≡ true → Keeps S v front s q t w tx x) → Keeps S v front s q t w tx (if_fits v a x)
  keeps_fits v s s2 q t w tx a x e h n f =
      cond_both (fits v a) _ _ (Keeps S v front s q t w tx) f (λ _. keeps_fails v s s2 q t w tx (unwritable (response_spelling v a)) (unwritable_valid (response_spelling v a)) e h n)

  is_denied : (q : RequestView) (its : Change) → found_in its.token its.writes front ≡ Other → Denies front its Verdict.Failure q
  is_denied RequestView.Commit its h = h
  is_denied _ its h = tt

  -- a commit of what the summaries tell, by what the ledger has of it; said is the SUCCESS, by the place that it tells
  keeps_commit : (v : Version) (s : State) (q : RequestView) (t : Tx) (w : Change) (tx : Tx) (its : Change) (said : ℕ → ResponseView) → its ≡ commit_of (Some q) t w
      → ((n : ℕ) → verdict_of (in_part q) (said n) ≡ Some Verdict.Success) → ((n : ℕ) → is_invalid (said n) ≡ false) → ((n : ℕ) → n < 2 ^ 64 → fits v (said n) ≡ true)
      → row_at v s (kind_of q) Verdict.Success ≡ Some State.Ready → row_at v s (kind_of q) Verdict.Failure ≡ Some State.Failed → commits (phase_of s) (kind_of q) ≡ true
      → Keeps S v front s q t w tx (commits_over front its said)
  keeps_commit v s q t w tx its said same told valid fit done failed comes = go (found_in its.token its.writes front) refl
    where
      go : (f : Found) → found_in its.token its.writes front ≡ f → Keeps S v front s q t w tx (commits_as (length front) its said f)
      go Free h = record { told = told (length front + 1); written = λ n. fit (length front + 1) (omega arith); valid = valid (length front + 1); state = State.Ready; rows = done; holds = tt; paid = (same, ap (λ b. if b then Outcome.Committed else Outcome.Done) comes); denied = tt; commit = λ p. comes }
      go (There n) h =
          record { told = told n; written = λ _. fit n (omega (arith, few, place_within its.token its.writes front n h)); valid = valid n; state = State.Ready; rows = done; holds = tt; paid = λ _. (n, subst (λ z. found_in z.token z.writes front ≡ There n) same h); denied = tt; commit = λ p. cc }
      go Other h = keeps_fails v s State.Failed q t w tx Fault.TokenClash refl failed tt (subst (λ z. Denies front z Verdict.Failure q) same (is_denied q its h))

  -- a PULL or DISCARD closes outside a transaction
  close_alone : (v : Version) (n : Count) (rows : List (List Tree)) (left : Open) (tx t : Tx) (w : Change)
      → change_alone left ≡ w → (is_some (slice_get rows 0) ≡ true → is_part n ≡ true)
      → Keeps S v front State.Streaming (RequestView.Pull n) t w tx (close State.Streaming front rows left tx)
      × Keeps S v front State.Streaming (RequestView.Discard n) t w tx (close State.Streaming front rows left tx)
  close_alone v n [] left tx t w h part = (closed (RequestView.Pull n) h (λ m. refl) refl refl refl, closed (RequestView.Discard n) h (λ m. refl) refl refl refl)
    where
      said : ℕ → ResponseView
      said m = response_of_summary (summaries.Closing (Some m) left.mode)

      closed : (q : RequestView) → change_alone left ≡ commit_of (Some q) t w → ((m : ℕ) → verdict_of (in_part q) (said m) ≡ Some Verdict.Success)
          → row_at v State.Streaming (kind_of q) Verdict.Success ≡ Some State.Ready → row_at v State.Streaming (kind_of q) Verdict.Failure ≡ Some State.Failed → commits (phase_of State.Streaming) (kind_of q) ≡ true
          → Keeps S v front State.Streaming q t w tx (commits_over front (change_alone left) said)
      closed q same told done failed comes =
          keeps_commit v State.Streaming q t w tx (change_alone left) said same told (λ m. refl) (λ m l. short_fits v (summaries.Closing (Some m) left.mode) l tt) done failed comes
  close_alone v Count.All (r ∷ rs) left tx t w h part = let no : false ≡ true = part refl in cc
  close_alone v (Count.Of m) (r ∷ rs) left tx t w h part = (record { told = refl; written = λ _. short_fits v (summaries.RowsLeft) tt tt; valid = refl; state = State.Streaming; rows = refl; holds = h; paid = λ p. cc; denied = tt; commit = λ p. cc }, record { told = refl; written = λ _. short_fits v (summaries.RowsLeft) tt tt; valid = refl; state = State.Streaming; rows = refl; holds = h; paid = λ p. cc; denied = tt; commit = λ p. cc })

  -- and inside one
  close_inside : (v : Version) (n : Count) (rows : List (List Tree)) (left : Open) (tx t : Tx) (w : Change)
      → tx ≡ t → (is_some (slice_get rows 0) ≡ true → is_part n ≡ true)
      → Keeps S v front State.TxStreaming (RequestView.Pull n) t w tx (close State.TxStreaming front rows left tx)
      × Keeps S v front State.TxStreaming (RequestView.Discard n) t w tx (close State.TxStreaming front rows left tx)
  close_inside v n [] left tx t w h part = (record { told = refl; written = λ _. short_fits v (summaries.Closing None left.mode) tt tt; valid = refl; state = State.TxReady; rows = refl; holds = h; paid = λ p. cc; denied = tt; commit = λ p. cc }, record { told = refl; written = λ _. short_fits v (summaries.Closing None left.mode) tt tt; valid = refl; state = State.TxReady; rows = refl; holds = h; paid = λ p. cc; denied = tt; commit = λ p. cc })
  close_inside v Count.All (r ∷ rs) left tx t w h part = let no : false ≡ true = part refl in cc
  close_inside v (Count.Of m) (r ∷ rs) left tx t w h part = (record { told = refl; written = λ _. short_fits v (summaries.RowsLeft) tt tt; valid = refl; state = State.TxStreaming; rows = refl; holds = h; paid = λ p. cc; denied = tt; commit = λ p. cc }, record { told = refl; written = λ _. short_fits v (summaries.RowsLeft) tt tt; valid = refl; state = State.TxStreaming; rows = refl; holds = h; paid = λ p. cc; denied = tt; commit = λ p. cc })

  used_part : (n : Count) (k : ℕ) → used_up n k ≡ true → is_part n ≡ true
  used_part Count.All k h = cc
  used_part (Count.Of m) k h = refl

  -- a row, or the close where none is left or so many were asked for
  pulls : (v : Version) (s : State) (n : Count) (rows : List (List Tree)) (left : Open) (tx t : Tx) (w : Change) → row_at v s Kind.Pull Verdict.Failure ≡ Some State.Failed
      → ((rs : List (List Tree)) (i : ℕ) → Held s (record left { rows = rs; written = i }) tx t w) → ((is_some (slice_get rows 0) ≡ true → is_part n ≡ true) → Keeps S v front s (RequestView.Pull n) t w tx (close s front rows left tx))
      → Keeps S v front s (RequestView.Pull n) t w tx (pull v s front n rows left tx)
  pulls v s n [] left tx t w f h closes = closes (λ e. cc)
  pulls v s n (r ∷ rs) left tx t w f h closes =
      cond_both (used_up n left.written) _ _ (Keeps S v front s (RequestView.Pull n) t w tx) (λ used. closes (λ e. used_part n left.written used))
      (λ on. keeps_fits v s State.Failed _ t w tx (ResponseView.Record r) _ f tt tt (λ f. ((n, refl), f, h rs (suc left.written))))

  discard_part : (n : Count) (rows : List (List Tree)) → is_some (slice_get (left_after n rows) 0) ≡ true → is_part n ≡ true
  discard_part Count.All rows h = cc
  discard_part (Count.Of m) rows h = refl

  ran_alone : (v : Version) (query : List ℕ) (params : List ParameterView) (mode : Mode) (token : Token) (tx t : Tx) (w : Change) (res : Result AnswerView QueryFault) → S.run front [] query params (query_mode mode) ≡ res
      → Keeps S v front State.Ready (RequestView.Run query params mode token) t w tx (reply_to_run v State.Ready tx token res)
  ran_alone v query params mode token tx t w (Err e) h = keeps_fails v State.Ready State.Failed _ t w tx (of_query e) (query_valid e) refl tt tt
  ran_alone v query params mode token tx t w (Ok a) h =
      keeps_fits v State.Ready State.Failed _ t w tx (fields_said a.fields) _ refl tt tt
      (λ f. record { told = refl; written = λ _. f; valid = refl; state = State.Streaming; rows = refl; holds = rw h refl; paid = λ p. cc; denied = tt; commit = λ p. cc })

  ran_inside : (v : Version) (query : List ℕ) (params : List ParameterView) (mode : Mode) (token : Token) (t : Tx) (w : Change) (res : Result AnswerView QueryFault) → S.run front t.writes query params (query_mode t.mode) ≡ res
      → Keeps S v front State.TxReady (RequestView.Run query params mode token) t w t (reply_to_run v State.TxReady t token res)
  ran_inside v query params mode token t w (Err e) h = keeps_fails v State.TxReady State.Failed _ t w t (of_query e) (query_valid e) refl tt tt
  ran_inside v query params mode token t w (Ok a) h =
      cond_both (is_some a.write && nat_le 1024 (length t.writes)) _ _ (Keeps S v front State.TxReady (RequestView.Run query params mode token) t w t)
      (λ f. keeps_fails v State.TxReady State.Failed _ t w t Fault.TooManyWrites refl refl tt tt)
      (λ few. keeps_fits v State.TxReady State.Failed _ t w t (fields_said a.fields) _ refl tt tt
      (λ f. record { told = refl; written = λ _. f; valid = refl; state = State.TxStreaming; rows = refl; holds = rw h refl; paid = λ p. cc; denied = tt; commit = λ p. cc }))

  keeps_succeeds : (v : Version) (s s2 : State) (q : RequestView) (t : Tx) (w : Change) (tx : Tx) (x : summaries.Summary) → IsShort x → HasTexts x
      → verdict_of (in_part q) (response_of_summary x) ≡ Some Verdict.Success → is_invalid (response_of_summary x) ≡ false
      → row_at v s (kind_of q) Verdict.Success ≡ Some s2 → Held s2 no_result no_tx (tx_then S front q (response_of_summary x) t) (alone_then S front q (response_of_summary x) w)
      → commits (phase_of s) (kind_of q) ≡ false → Keeps S v front s q t w tx (succeeds (response_of_summary x))
  keeps_succeeds v s s2 q t w tx x short bytes_in_order told valid e h none =
      record { told = told; written = λ _. short_fits v x short bytes_in_order; valid = valid; state = s2; rows = e; holds = h; paid = λ p. let no : Outcome.Done ≡ Outcome.Committed = sym (ap (λ b. if b then Outcome.Committed else Outcome.Done) none) ∙ p in cc; denied = tt; commit = λ p. cc }

  logs_on : (v : Version) (s : State) (q : RequestView) (a : AuthView) (tx t : Tx) (w : Change) (x : summaries.Summary) → Keeps S v front s q t w tx (succeeds (response_of_summary x)) → Keeps S v front s q t w tx (fails Fault.Unauthorized)
      → Keeps S v front s q t w tx (reply_to_login S a (response_of_summary x))
  logs_on v s q a tx t w x let_in refused = cond_both (bytes_eq a.scheme (codes "basic") && S.welcome.accepts a.principal a.credentials) _ _ (Keeps S v front s q t w tx) (λ e. let_in) (λ e. refused)

  -- a HELLO, by whether it carries who the client is
  greets_keep : (v : Version) (b : Bool) (agent : List ℕ) (auth : Option AuthView) (tx t : Tx) (w : Change) → hello_has_login v ≡ b
      → Keeps S v front State.Fresh (RequestView.Hello agent auth) t w tx (if b then reply_to_hello S auth (response_of_summary (summaries.Greeting S.welcome.agent c)) else succeeds (response_of_summary (summaries.Greeting S.welcome.agent c)))
  greets_keep v false agent auth tx t w e = keeps_succeeds v State.Fresh State.Unauth (RequestView.Hello agent auth) t w tx (summaries.Greeting S.welcome.agent c) (S.welcome.short, numbered) S.welcome.text refl refl (hello_row v false e) tt refl
  greets_keep v true agent None tx t w e = keeps_fails v State.Fresh State.Defunct (RequestView.Hello agent None) t w tx Fault.Unauthorized refl refl tt tt
  greets_keep v true agent (Some a) tx t w e =
      logs_on v State.Fresh (RequestView.Hello agent (Some a)) a tx t w (summaries.Greeting S.welcome.agent c)
      (keeps_succeeds v State.Fresh State.Ready (RequestView.Hello agent (Some a)) t w tx (summaries.Greeting S.welcome.agent c) (S.welcome.short, numbered) S.welcome.text refl refl (hello_row v true e) tt refl)
      (keeps_fails v State.Fresh State.Defunct (RequestView.Hello agent (Some a)) t w tx Fault.Unauthorized refl refl tt tt)

  performs : (v : Version) (s : State) (left : Open) (tx t : Tx) (w : Change) (q : RequestView) → Held s left tx t w
      → is_some (row_at v s (kind_of q) Verdict.Success) ≡ true → Keeps S v front s q t w tx (perform S v c front s left tx q)
  performs v State.Fresh left tx t w (RequestView.Hello agent auth) h r = greets_keep v (hello_has_login v) agent auth tx t w refl
  performs v State.Unauth left tx t w (RequestView.Logon a) h r =
      logs_on v State.Unauth (RequestView.Logon a) a tx t w summaries.Plain
      (keeps_succeeds v State.Unauth State.Ready (RequestView.Logon a) t w tx summaries.Plain tt tt refl refl (row_beside State.Unauth Kind.Logon Verdict.Success State.Ready refl v r) tt refl)
      (keeps_fails v State.Unauth State.Defunct (RequestView.Logon a) t w tx Fault.Unauthorized refl (row_beside State.Unauth Kind.Logon Verdict.Failure State.Defunct refl v r) tt tt)
  performs v State.Ready left tx t w RequestView.Logoff h r =
      keeps_succeeds v State.Ready State.Unauth RequestView.Logoff t w tx summaries.Plain tt tt refl refl (row_beside State.Ready Kind.Logoff Verdict.Success State.Unauth refl v r) tt refl
  performs v State.Ready left tx t w (RequestView.Run query params mode token) h r = ran_alone v query params mode token tx t w _ refl
  performs v State.Ready left tx t w (RequestView.Begin mode token) h r = record { told = refl; written = λ _. short_fits v (summaries.Plain) tt tt; valid = refl; state = State.TxReady; rows = refl; holds = refl; paid = λ p. cc; denied = tt; commit = λ p. cc }
  performs v State.Streaming left tx t w (RequestView.Pull n) h r = pulls v State.Streaming n left.rows left tx t w refl (λ _ _. h) (λ p. (close_alone v n left.rows left tx t w h p).0)
  performs v State.Streaming left tx t w (RequestView.Discard n) h r = (close_alone v n (left_after n left.rows) left tx t w h (discard_part n left.rows)).1
  performs v State.TxReady left tx t w (RequestView.Run query params mode token) h r = subst (λ (u : Tx). Keeps S v front State.TxReady (RequestView.Run query params mode token) u w tx (reply_to_run v State.TxReady tx token (S.run front tx.writes query params (query_mode tx.mode)))) h (ran_inside v query params mode token tx w _ refl)
  performs v State.TxReady left tx t w RequestView.Commit h r =
      keeps_commit v State.TxReady RequestView.Commit t w tx (change_inside tx) (λ n. response_of_summary (summaries.Committed n)) (ap (λ (u : Tx). change_inside u) h) (λ n. refl) (λ n. refl) (λ n l. short_fits v (summaries.Committed n) l tt) refl refl refl
  performs v State.TxReady left tx t w RequestView.Rollback h r = keeps_succeeds v State.TxReady State.Ready _ t w tx summaries.Plain tt tt refl refl refl tt refl
  performs v State.TxStreaming left tx t w (RequestView.Pull n) h r = pulls v State.TxStreaming n left.rows left tx t w refl (λ _ _. h) (λ p. (close_inside v n left.rows left tx t w h p).0)
  performs v State.TxStreaming left tx t w (RequestView.Discard n) h r = (close_inside v n (left_after n left.rows) left tx t w h (discard_part n left.rows)).1
  performs v s left tx t w RequestView.Reset h r = keeps_succeeds v s State.Ready _ t w tx summaries.Plain tt tt refl refl (row_beside s Kind.Reset Verdict.Success State.Ready refl v r) tt refl
  performs v s left tx t w (RequestView.Logon a) h r = absurd (true≢false (no_row s Kind.Logon refl v r))
  performs v s left tx t w RequestView.Logoff h r = absurd (true≢false (no_row s Kind.Logoff refl v r))
  performs v _ left tx t w _ h r = cc

  -- a request that its phase allows has a row
  has_row : (v : Version) (s : State) (k : Kind) → allows v (phase_of s) k ≡ true → is_goodbye k ≡ false → is_halted s ≡ false → is_some (row_at v s k Verdict.Success) ≡ true
  has_row v s k a g h =
      let g2 : not (is_goodbye k) ≡ true = ap not g in let h2 : not (is_halted s) ≡ true = ap not h in
      implies_at (not (is_halted s)) _ (implies_at (not (is_goodbye k)) _ (implies_at (allows v (phase_of s) k) _ (at_rows (λ v s k. implies (allows v (phase_of s) k) (implies (not (is_goodbye k)) (implies (not (is_halted s)) (is_some (row_at v s k Verdict.Success))))) refl v s k) a) g2) h2

  ignored_row : (v : Version) (s : State) (k : Kind) → allows v (phase_of s) k ≡ true → is_goodbye k ≡ false → is_halted s ≡ true → is_reset k ≡ false → row_at v s k Verdict.Ignored ≡ Some s
  ignored_row v s k a g h r =
      let g2 : not (is_goodbye k) ≡ true = ap not g in let r2 : not (is_reset k) ≡ true = ap not r in
      option_is-true same_state same_state-true (row_at v s k Verdict.Ignored) s
      (implies_at (not (is_reset k)) _ (implies_at (is_halted s) _ (implies_at (not (is_goodbye k)) _ (implies_at (allows v (phase_of s) k) _ (at_rows (λ v s k. implies (allows v (phase_of s) k) (implies (not (is_goodbye k)) (implies (is_halted s) (implies (not (is_reset k)) (option_is same_state (row_at v s k Verdict.Ignored) s))))) refl v s k) a) g2) h) r2)

  halted_held : (s : State) (tx t : Tx) (w : Change) → is_halted s ≡ true → Held s no_result no_tx t w
  halted_held State.Failed tx t w h = tt
  halted_held State.Interrupted tx t w h = tt
  halted_held _ tx t w h = cc

  reset_keeps : (v : Version) (s : State) (q : RequestView) (tx t : Tx) (w : Change) → is_halted s ≡ true → is_reset (kind_of q) ≡ true → Keeps S v front s q t w tx (succeeds (response_of_summary summaries.Plain))
  reset_keeps v State.Failed RequestView.Reset tx t w h r = keeps_succeeds v State.Failed State.Ready _ t w tx summaries.Plain tt tt refl refl refl tt refl
  reset_keeps v State.Interrupted RequestView.Reset tx t w h r = keeps_succeeds v State.Interrupted State.Ready _ t w tx summaries.Plain tt tt refl refl refl tt refl
  reset_keeps _ _ _ tx t w h r = cc

  pub serves : (v : Version) (s : State) (left : Open) (tx t : Tx) (w : Change) (q : RequestView) → Held s left tx t w
      → allows v (phase_of s) (kind_of q) ≡ true → Keeps S v front s q t w tx (serve S v c front s left tx q)
  serves v s left tx t w q h a =
      let K : Reply → Type 0 = Keeps S v front s q t w tx in
      cond_both (is_goodbye (kind_of q)) _ _ K (λ g. tt)
      (λ g. cond_both (is_halted s) _ _ K
      (λ e. cond_both (is_reset (kind_of q)) _ _ K (λ r. reset_keeps v s q tx t w e r)
      (λ r. record { told = refl; written = λ _. short_fits v summaries.Passed tt tt; valid = refl; state = s; rows = ignored_row v s (kind_of q) a g e r; holds = halted_held s tx t w e; paid = λ p. cc; denied = tt; commit = λ p. cc }))
      (λ e. cond_both (is_some (row_at v s (kind_of q) Verdict.Success)) _ _ K
      (λ r. performs v s left tx t w q h r)
      (λ r. absurd (true≢false (sym (has_row v s (kind_of q) a g e) ∙ r)))))
