-- The account over lists of calls.
use Rattle.std.proofs.Common.{◌≡◌, refl, sym, ◌∙◌, ap, ap₂, subst, ℕ, suc, ◌≤◌, ◌==◌, Bool, true, false, ◌||◌, if◌then◌else◌, Option, Some, None, option_map, Result, Ok, Err, List, [], ◌∷◌, ◌++◌, take, drop, append-nil, arith, eqb-true}
use Rattle.std.specs.Option.{option_or}
use Rattle.std.proofs.lemmas.Bool.{cond_both, cond-true, cond-false}
use Rattle.packstream.specs.Tree.{Tree}
use Rattle.wire.specs.declared.Wish.{Wish}
use Rattle.wire.specs.Prelude.{takes, at_client, Item}
use Rattle.messages.specs.Prelude.{Heard}
use Rattle.client.specs.declared.Outcome.{Outcome}
use Rattle.client.specs.declared.ClientFault.{ClientFault}
use Rattle.client.specs.declared.ClientFault.TheVariants as client_fault
use Rattle.client.specs.declared.SubmitFault.{SubmitFault}
use Rattle.client.specs.Prelude.{Told, Got, GotRow, Note, Nothing, Chose, Row, Summary, note_of, Knows, Rest, Hearing, heard_as, Fed, fed_item, fed_open, feed_of, refuses, losses, reading_of, knows_of, Submits, Feeds, TakesOut, Loses, Run, submits, used_of, tellings, tellings_in, call, IsByBytes}
use Rattle.client.proofs.Makes.{Makes, makes, spoils, turns_away, takes_version, tells_none, tells_row, tells_summary}
use Rattle.client.proofs.Runs.{Holds, calls_hold, starts_hold}
use Rattle.client_tracking.specs.Account.{Account, ReplyView, keeps_row, with_row, with_note, with_losses, reply_in, outcome_lost, outcome_of, without_rows, taken_or}
use Rattle.client_tracking.specs.Feeding.{is_full, Tracked, with_answer, used_by}
use Rattle.client_tracking.specs.declared.faults.FeedFault.TheVariants as feed_fault
use Rattle.client_tracking.specs.Attempts.{outcome_heard, told_of}
use Rattle.client_tracking.specs.Runs.{TrackedCall, Asks, Hears, Sends, TakesRows, IsLost, TrackedRun, tracking, tracked_call, tracked_calls, attempt_of, AccountsByBytes}

-- A summary is of the first that waits, and then the next is the first; else none is answered.
abbrev pub NoteStep : ℕ → Note → ℕ → Type 0
NoteStep n (Summary j p o x) m = (j ≡ n) × (m ≡ suc n)
NoteStep n x m = m ≡ n

abbrev pub Step : ℕ → Result (ℕ × Note) ClientFault → ℕ → Type 0
Step n (Ok used) m = NoteStep n used.1 m
Step n (Err e) m = m ≡ n

made_step : (wish : Wish) (k : Knows) (used : ℕ) (x : Heard) (h : Hearing) → Makes wish k x h → Step k.first (if h.bad then Err client_fault.BadPeer else Ok (used, note_of x h)) h.knows.first
made_step wish k used x h (spoils y) = refl
made_step wish k used x h (turns_away n) = refl
made_step wish k used x h (takes_version v n i) = refl
made_step wish k used x h tells_none = refl
made_step wish k used x h (tells_row cells n later w) = refl
made_step wish k used x h (tells_summary a s) = (refl, refl)

pub feed_step : (r : Rest) (piece : List ℕ) → Step r.knows.first (feed_of r piece).answer (feed_of r piece).rest.knows.first
feed_step r piece =
    cond_both r.knows.over (let f : Fed = record { rest = r; answer = Err client_fault.Closed } in f) (fed_open r (takes at_client r.item piece)) (λ (f : Fed). Step r.knows.first f.answer f.rest.knows.first) (λ _. refl)
    (λ _. by_item (record r { item = (takes at_client r.item piece).rest }) (takes at_client r.item piece).used (takes at_client r.item piece).item)
  where
    by_item : (r : Rest) (used : ℕ) (o : Option Item) → Step r.knows.first (fed_item r used o).answer (fed_item r used o).rest.knows.first
    by_item r used None = refl
    by_item r used (Some x) = made_step r.wish r.knows used (heard_as r.knows.version x) _ (makes r.wish r.knows (heard_as r.knows.version x))

or_none : (o : Option Outcome) → option_or o None ≡ o
or_none None = refl
or_none (Some x) = refl

-- the outcome that a reply of this ordinal has
abbrev outcome_told : ℕ → List ReplyView → Option Outcome
outcome_told i rs = option_map (λ (r : ReplyView). r.outcome) (reply_in i rs)

-- one at the head of both
told_first : (i : ℕ) (x : ReplyView) (xs rs : List ReplyView) (o : Option Outcome) → outcome_told i xs ≡ option_or (outcome_told i rs) o → (b : Bool) → option_map (λ (r : ReplyView). r.outcome) (if b then Some x else reply_in i xs) ≡ option_or (option_map (λ (r : ReplyView). r.outcome) (if b then Some x else reply_in i rs)) o
told_first i x xs rs o e true = refl
told_first i x xs rs o e false = e

told_last : (r : ReplyView) (b : Bool) → option_map (λ (r : ReplyView). r.outcome) (if b then Some r else None) ≡ (if b then Some r.outcome else None)
told_last r true = refl
told_last r false = refl

told_append : (i : ℕ) (rs : List ReplyView) (r : ReplyView) → outcome_told i (rs ++ r ∷ []) ≡ option_or (outcome_told i rs) (if r.ordinal == i then Some r.outcome else None)
told_append i [] r = told_last r (r.ordinal == i)
told_append i (x ∷ rs) r = told_first i x (rs ++ r ∷ []) rs (if r.ordinal == i then Some r.outcome else None) (told_append i rs r) (x.ordinal == i)

-- rows that are taken leave the outcomes
told_beside : (j : ℕ) (x y : ReplyView) (xs ys : List ReplyView) → x.outcome ≡ y.outcome → outcome_told j xs ≡ outcome_told j ys → (b : Bool) → option_map (λ (r : ReplyView). r.outcome) (if b then Some x else reply_in j xs) ≡ option_map (λ (r : ReplyView). r.outcome) (if b then Some y else reply_in j ys)
told_beside j x y xs ys same e true = ap Some same
told_beside j x y xs ys same e false = e

told_without : (j i : ℕ) (rs : List ReplyView) → outcome_told j (without_rows i rs) ≡ outcome_told j rs
told_without j i [] = refl
told_without j i (r ∷ rs) =
    cond_both (r.ordinal == i) (record r { rows = [] } ∷ rs) (r ∷ without_rows i rs) (λ (xs : List ReplyView). outcome_told j xs ≡ outcome_told j (r ∷ rs))
    (λ _. told_beside j (record r { rows = [] }) r rs rs refl refl (r.ordinal == j))
    (λ _. told_beside j r r (without_rows i rs) rs refl (told_without j i rs) (r.ordinal == j))

told_taken : (j i : ℕ) (o : Option ReplyView) (waits : Bool) (a : Account) → outcome_told j (taken_or o waits a (without_rows i a.replies)).replies ≡ outcome_told j a.replies
told_taken j i (Some r) waits a = told_without j i a.replies
told_taken j i None true a = refl
told_taken j i None false a = refl

taken_keeps : (o : Option ReplyView) (waits : Bool) (a : Account) (rs : List ReplyView) → (taken_or o waits a rs).lost ≡ a.lost
taken_keeps (Some r) waits a rs = refl
taken_keeps None true a rs = refl
taken_keeps None false a rs = refl

-- a row leaves the replies
pub row_replies : (a : Account) (cells : List Tree) → (with_row a cells).replies ≡ a.replies
row_replies a cells = cond_both (keeps_row a) _ _ (λ (z : Account). z.replies ≡ a.replies) (λ _. refl) (λ _. refl)

-- what is kept of an account and of what was told
pub record Same (first : ℕ) (a : Account) (told : List Told) : Type 0 where
  pub same : (i : ℕ) → outcome_told i a.replies ≡ outcome_heard i told
  pub past : (i : ℕ) → first ≤ i → outcome_heard i told ≡ None

note_same : (n m : ℕ) (x : Note) (a : Account) (told : List Told) → NoteStep n x m → Same n a told → Same m (with_note a x) (tellings x ++ told)
note_same n m Nothing a told s h = subst (λ k. Same k a told) (sym s) h
note_same n m (Chose o) a told s h = subst (λ k. Same k a told) (sym s) h
note_same n m (Row cells) a told s h =
    subst (λ k. Same k (with_row a cells) (GotRow cells ∷ told)) (sym s)
    (record { same = λ i. ap (outcome_told i) (row_replies a cells) ∙ h.same i; past = h.past })
note_same n m (Summary j p o r) a told s h =
    record {
      same = λ i. told_append i a.replies (record { ordinal = j; outcome = o; response = r; rows = a.rows; left = a.left })
          ∙ cond_both (j == i) (Some o) None (λ z. option_or (outcome_told i a.replies) z ≡ outcome_heard i (Got j p o r ∷ told))
          (λ e. let same : j ≡ i = eqb-true j i e in ap (λ z. option_or z (Some o)) (h.same i ∙ h.past i (omega (arith, same, s.0))) ∙ sym (cond-true (j == i) (Some o) (outcome_heard i told) e))
          (λ e. or_none (outcome_told i a.replies) ∙ h.same i ∙ sym (cond-false (j == i) (Some o) (outcome_heard i told) e));
      past = λ i l. cond_both (j == i) (Some o) (outcome_heard i told) (λ z. z ≡ None) (λ e. let same : j ≡ i = eqb-true j i e in absurd (omega (arith, same, s.0, s.1, l))) (λ e. h.past i (omega (arith, s.1, l)));
    }

answer_same : (n m : ℕ) (x : Result (ℕ × Note) ClientFault) (a : Account) (told : List Told) → Step n x m → Same n a told → Same m (with_answer a x) (tellings_in x ++ told)
answer_same n m (Ok used) a told s h = note_same n m used.1 a told s h
answer_same n m (Err e) a told s h = subst (λ k. Same k a told) (sym s) h

note_keeps : (a : Account) (x : Note) → (with_note a x).lost ≡ a.lost
note_keeps a Nothing = refl
note_keeps a (Chose o) = refl
note_keeps a (Row cells) = cond_both (keeps_row a) _ _ (λ (z : Account). z.lost ≡ a.lost) (λ _. refl) (λ _. refl)
note_keeps a (Summary j p o r) = refl

answer_keeps : (a : Account) (x : Result (ℕ × Note) ClientFault) → (with_answer a x).lost ≡ a.lost
answer_keeps a (Ok used) = note_keeps a used.1
answer_keeps a (Err e) = refl

-- a loss leaves the replies, and says what is lost
losses_replies : (a : Account) (ls : List (ℕ × Outcome)) → (with_losses a ls).replies ≡ a.replies
losses_replies a [] = refl
losses_replies a (x ∷ xs) = refl

first_losses : (a : Account) (ls : List (ℕ × Outcome)) → a.lost ≡ [] → (with_losses a ls).lost ≡ ls
first_losses a [] e = e
first_losses a (x ∷ xs) e = refl

module _ (wish : Wish) where
  abbrev at_loss : Run → List (ℕ × Outcome)
  at_loss x = losses (knows_of (reading_of wish x.sent x.took) x.sent false)

  pub record Fine (x : Run) (a : Account) : Type 0 where
    pub holds : Holds wish x
    pub told : Same x.rest.knows.first a x.told
    pub none_lost : x.lost ≡ false → a.lost ≡ []
    pub all_lost : x.lost ≡ true → a.lost ≡ at_loss x

  over_then : (x : Run) → Holds wish x → x.lost ≡ true → x.rest.knows.over ≡ true
  over_then x h e = let r = reading_of wish x.sent x.took in ap (λ k. k.over) h.by_bytes.knows ∙ ap (λ b. b || (r.ended || r.bad)) e

  nothing_waits : (x : Run) → Holds wish x → x.lost ≡ true → x.rest.knows.waiting ≡ []
  nothing_waits x h e = ap (λ k. k.waiting) h.by_bytes.knows ∙ ap (λ (b : Bool). if b then [] else drop (reading_of wish x.sent x.took).count x.sent) e

  asks_fine : (x : Run) (a : Account) (q : _) → Fine x a → Fine (call x (Submits q)) a
  asks_fine x a q f = go (refuses x.rest.knows q) refl
    where
      go : (o : Option SubmitFault) → refuses x.rest.knows q ≡ o → Fine (submits x q o) a
      go (Some fault) e = f
      go None e = record {
        holds = subst (λ o. Holds wish (submits x q o)) e (calls_hold wish (Submits q ∷ []) x f.holds);
        told = record { same = f.told.same; past = f.told.past };
        none_lost = f.none_lost;
        all_lost = λ l. let no : None ≡ Some SubmitFault.Closed = sym e ∙ closed l in cc;
      }
        where
          closed : x.lost ≡ true → refuses x.rest.knows q ≡ Some SubmitFault.Closed
          closed l = rw (over_then x f.holds l) refl

  hears_fine : (x : Run) (a : Account) (piece : List ℕ) → Fine x a → Fine (call x (Feeds piece)) (with_answer a (feed_of x.rest piece).answer)
  hears_fine x a piece f = record {
    holds = calls_hold wish (Feeds piece ∷ []) x f.holds;
    told = answer_same x.rest.knows.first _ (feed_of x.rest piece).answer a x.told (feed_step x.rest piece) f.told;
    none_lost = λ l. answer_keeps a (feed_of x.rest piece).answer ∙ f.none_lost l;
    all_lost = λ l.
        let none : used_of x.rest piece ≡ 0 = cond-true x.rest.knows.over 0 _ (over_then x f.holds l) in
        let took : x.took ++ take (used_of x.rest piece) piece ≡ x.took = ap (λ n. x.took ++ take n piece) none ∙ append-nil x.took in
        answer_keeps a (feed_of x.rest piece).answer ∙ f.all_lost l ∙ ap (λ b. losses (knows_of (reading_of wish x.sent b) x.sent false)) (sym took);
  }

  lost_fine : (x : Run) (a : Account) → Fine x a → Fine (call x Loses) (with_losses a (losses x.rest.knows))
  lost_fine x a f = record {
    holds = calls_hold wish (Loses ∷ []) x f.holds;
    told = record { same = λ i. ap (outcome_told i) (losses_replies a (losses x.rest.knows)) ∙ f.told.same i; past = f.told.past };
    none_lost = λ l. cc;
    all_lost = λ _. go x.lost refl;
  }
    where
      go : (b : Bool) → x.lost ≡ b → (with_losses a (losses x.rest.knows)).lost ≡ at_loss x
      go false e = first_losses a (losses x.rest.knows) (f.none_lost e) ∙ ap losses f.holds.by_bytes.knows ∙ ap (λ b. losses (knows_of (reading_of wish x.sent x.took) x.sent b)) e
      go true e = ap (λ ws. (with_losses a (losses (record x.rest.knows { waiting = ws }))).lost) (nothing_waits x f.holds e) ∙ f.all_lost e

  tracked_fine : (x : TrackedRun) (c : TrackedCall) → Fine x.run x.account → Fine (tracked_call x c).run (tracked_call x c).account
  tracked_fine x (Asks q) f = asks_fine x.run x.account q f
  tracked_fine x (Hears piece) f = go (is_full x.run.rest.knows x.account)
    where
      go : (b : Bool) → Fine (if b then x.run else call x.run (Feeds piece)) (let t : Tracked = (if b then record { rest = x.run.rest; account = x.account; answer = Err feed_fault.Full } else record { rest = (feed_of x.run.rest piece).rest; account = with_answer x.account (feed_of x.run.rest piece).answer; answer = used_by (feed_of x.run.rest piece).answer }) in t.account)
      go true = f
      go false = hears_fine x.run x.account piece f
  tracked_fine x (Sends max) f = record {
    holds = calls_hold wish (TakesOut max ∷ []) x.run f.holds;
    told = record { same = f.told.same; past = f.told.past };
    none_lost = f.none_lost;
    all_lost = f.all_lost;
  }
  tracked_fine x (TakesRows i) f =
      let o = reply_in i x.account.replies in
      let waits = x.run.rest.knows.first == i in
      let kept = taken_keeps o waits x.account (without_rows i x.account.replies) in
      record {
        holds = f.holds;
        told = record { same = λ j. told_taken j i o waits x.account ∙ f.told.same j; past = f.told.past };
        none_lost = λ l. kept ∙ f.none_lost l;
        all_lost = λ l. kept ∙ f.all_lost l;
      }
  tracked_fine x IsLost f = lost_fine x.run x.account f

  calls_fine : (cs : List TrackedCall) (x : TrackedRun) → Fine x.run x.account → Fine (tracked_calls x cs).run (tracked_calls x cs).account
  calls_fine [] x f = f
  calls_fine (c ∷ cs) x f = calls_fine cs (tracked_call x c) (tracked_fine x c f)

  tracking_fine : (limit : ℕ) → Fine (tracking wish limit).run (tracking wish limit).account
  tracking_fine limit = record { holds = starts_hold wish; told = record { same = λ i. refl; past = λ i l. refl }; none_lost = λ l. refl; all_lost = λ l. cc }

  lost_is : (x : Run) (a : Account) → Fine x a → a.lost ≡ (if x.lost then at_loss x else [])
  lost_is x a f = go x.lost refl
    where
      go : (b : Bool) → x.lost ≡ b → a.lost ≡ (if b then at_loss x else [])
      go true e = f.all_lost e
      go false e = f.none_lost e

  by_bytes : (x : Run) (a : Account) → Fine x a → (i : ℕ) → outcome_of a i ≡ told_of (attempt_of wish x) i
  by_bytes x a f i = ap₂ option_or (f.told.same i ∙ ap (outcome_heard i) f.holds.by_bytes.told) (ap (outcome_lost i) (lost_is x a f))

pub accounts_by_bytes : AccountsByBytes
accounts_by_bytes wish limit cs i =
    let x = tracked_calls (tracking wish limit) cs in
    by_bytes wish x.run x.account (calls_fine wish cs (tracking wish limit) (tracking_fine wish limit)) i

-- the client of a run is what its wish, its requests and its bytes make of it
pub run_by_bytes : (wish : Wish) (limit : ℕ) (cs : List TrackedCall) → IsByBytes wish (tracked_calls (tracking wish limit) cs).run
run_by_bytes wish limit cs = (calls_fine wish cs (tracking wish limit) (tracking_fine wish limit)).holds.by_bytes
