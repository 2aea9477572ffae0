-- Which rows an account holds of a request.
use Rattle.std.proofs.Common.{◌≡◌, refl, sym, ◌∙◌, ap, ap₂, subst, ℕ, suc, ◌+◌, ◌-◌, ◌^◌, ◌<◌, ◌≤◌, ◌==◌, Bool, true, false, ◌&&◌, if◌then◌else◌, Option, Some, None, Result, Ok, Err, List, [], ◌∷◌, ◌++◌, length, take, nat_lt, ⊎_elim, arith, eq-eqb, length-append}
use Rattle.std.specs.Option.{option_or}
use Rattle.std.proofs.lemmas.Bool.{cond_both, cond-true, cond-false, and_parts, ne_eqb, cases_eq, cases_Bool}
use Rattle.std.proofs.lemmas.Bool.Decides.{nat_tests}
use Rattle.std.proofs.lemmas.List.{take_all, take-append-le, length-take}
use Rattle.packstream.specs.Tree.{Tree}
use Rattle.messages.specs.Prelude.{RequestView, ResponseView}
use Rattle.machine.specs.declared.Phase.{Phase}
use Rattle.client.specs.declared.ClientFault.{ClientFault}
use Rattle.client.specs.declared.SubmitFault.{SubmitFault}
use Rattle.client.specs.declared.Outcome.{Outcome}
use Rattle.client.specs.Prelude.{Told, Got, GotRow, Note, Nothing, Chose, Row, Summary, feed_of, refuses, losses, tellings, tellings_in, submits, Feeds, Run, call}
use Rattle.client_tracking.specs.declared.faults.FeedFault.TheVariants as feed_fault
use Rattle.client_tracking.specs.Account.{Account, ReplyView, keeps_row, one_more, with_row, with_summary, with_note, with_losses, reply_in, rows_or, rows_of}
use Rattle.client_tracking.specs.Feeding.{is_full, Tracked, with_answer, used_by}
use Rattle.client_tracking.specs.Runs.{TrackedCall, Asks, Hears, Sends, TakesRows, IsLost, TrackedRun, tracking, tracked_call, tracked_calls, NoneTaken, summaries_in, rows_told, HoldsItsRows}
use Rattle.client_tracking.proofs.Accounts.{NoteStep, Step, feed_step}

-- a reply more
reply_first : (i : ℕ) (x r : ReplyView) (rs : List ReplyView) → reply_in i (rs ++ r ∷ []) ≡ option_or (reply_in i rs) (if r.ordinal == i then Some r else None) → (b : Bool)
    → (if b then Some x else reply_in i (rs ++ r ∷ [])) ≡ option_or (if b then Some x else reply_in i rs) (if r.ordinal == i then Some r else None)
reply_first i x r rs e true = refl
reply_first i x r rs e false = e

reply_append : (i : ℕ) (rs : List ReplyView) (r : ReplyView) → reply_in i (rs ++ r ∷ []) ≡ option_or (reply_in i rs) (if r.ordinal == i then Some r else None)
reply_append i [] r = refl
reply_append i (x ∷ rs) r = reply_first i x r rs (reply_append i rs r) (x.ordinal == i)

-- some rows weren't kept
some_left : (n : ℕ) → (one_more n == 0) ≡ false
some_left n = cond_both (nat_lt n (2 ^ 64 - 1)) (suc n) n (λ z. (z == 0) ≡ false) (λ _. ne_eqb (suc n) 0 (λ e. omega (arith, e))) (λ f. ne_eqb n 0 (λ e. let no : nat_lt 0 (2 ^ 64 - 1) ≡ false = subst (λ z. nat_lt z (2 ^ 64 - 1) ≡ false) e f in cc))

-- what was told and what is held
pub record Ordered (limit first : ℕ) (a : Account) (told : List Told) : Type 0 where
  pub named : a.limit ≡ limit
  pub count : summaries_in told ≡ first
  -- of the first that waits
  pub now : a.rows ≡ take limit (rows_told first told)
  pub kept : (a.left == 0) ≡ true → length (rows_told first told) ≤ limit
  pub cut : (a.left == 0) ≡ false → limit ≤ length (rows_told first told)
  -- of those before it, and of those behind it
  pub past : (i : ℕ) → i < first → (r : ReplyView) × ((reply_in i a.replies ≡ Some r) × (r.rows ≡ take limit (rows_told i told)))
  pub none : (i : ℕ) → first ≤ i → reply_in i a.replies ≡ None
  pub later : (i : ℕ) → first < i → rows_told i told ≡ []

module _ (limit first : ℕ) (a : Account) (told : List Told) (o : Ordered limit first a told) where
  abbrev R : List (List Tree)
  R = rows_told first told

  module _ (cells : List Tree) where
    own : rows_told first (GotRow cells ∷ told) ≡ R ++ cells ∷ []
    own = cond-true (summaries_in told == first) (R ++ cells ∷ []) R (eq-eqb (summaries_in told) first o.count)

    other : (i : ℕ) → (first ≡ i → ⊥) → rows_told i (GotRow cells ∷ told) ≡ rows_told i told
    other i n = cond-false (summaries_in told == i) (rows_told i told ++ cells ∷ []) (rows_told i told) (ne_eqb (summaries_in told) i (λ e. n (sym o.count ∙ e)))

    -- one row more
    more : (a2 : Account) → a2.limit ≡ limit → a2.replies ≡ a.replies → a2.rows ≡ take limit (R ++ cells ∷ []) → ((a2.left == 0) ≡ true → length (R ++ cells ∷ []) ≤ limit) → ((a2.left == 0) ≡ false → limit ≤ length (R ++ cells ∷ []))
        → Ordered limit first a2 (GotRow cells ∷ told)
    more a2 named replies rows kept cut = record {
      named = named;
      count = o.count;
      now = rows ∙ ap (take limit) (sym own);
      kept = λ e. subst (λ (z : List (List Tree)). length z ≤ limit) (sym own) (kept e);
      cut = λ e. subst (λ (z : List (List Tree)). limit ≤ length z) (sym own) (cut e);
      past = λ i l. let h = o.past i l in (h.0, (ap (reply_in i) replies ∙ h.1.0, h.1.1 ∙ ap (take limit) (sym (other i (λ e. omega (arith, l, e))))));
      none = λ i l. ap (reply_in i) replies ∙ o.none i l;
      later = λ i l. other i (λ e. omega (arith, l, e)) ∙ o.later i l;
    }

    keeps : keeps_row a ≡ true → Ordered limit first (record a { rows = a.rows ++ cells ∷ [] }) (GotRow cells ∷ told)
    keeps e = more (record a { rows = a.rows ++ cells ∷ [] }) o.named refl (ap (λ z. z ++ cells ∷ []) whole ∙ sym (take_all limit (R ++ cells ∷ []) fits)) (λ _. fits) (λ q. let no : true ≡ false = sym p.0 ∙ q in cc)
      where
        p : ((a.left == 0) ≡ true) × (nat_lt (length a.rows) a.limit ≡ true)
        p = and_parts (a.left == 0) (nat_lt (length a.rows) a.limit) e

        whole : a.rows ≡ R
        whole = o.now ∙ take_all limit R (o.kept p.0)

        fits : length (R ++ cells ∷ []) ≤ limit
        fits =
            let less : length a.rows < a.limit = grind (arith, nat_tests, p.1) in
            let same : length a.rows ≡ length R = ap length whole in
            let one : length (R ++ cells ∷ []) ≡ length R + 1 = length-append R (cells ∷ []) in
            omega (arith, less, same, one, o.named)

    counts : keeps_row a ≡ false → Ordered limit first (record a { left = one_more a.left }) (GotRow cells ∷ told)
    counts e = more (record a { left = one_more a.left }) o.named refl (o.now ∙ sym (take-append-le limit R (cells ∷ []) long)) (λ q. let no : false ≡ true = sym (some_left a.left) ∙ q in cc) (λ _. let one : length (R ++ cells ∷ []) ≡ length R + 1 = length-append R (cells ∷ []) in omega (arith, long, one))
      where
        go : (b : Bool) → (a.left == 0) ≡ b → limit ≤ length R
        go true q =
            let full : nat_lt (length a.rows) a.limit ≡ false = sym (ap (λ b. b && nat_lt (length a.rows) a.limit) q) ∙ e in
            let bound : a.limit ≤ length a.rows = grind (arith, nat_tests, full) in
            let same : length a.rows ≡ length (take limit R) = ap length o.now in
            let shorter = length-take limit R in
            omega (arith, bound, same, shorter, o.named)
        go false q = o.cut q

        long : limit ≤ length R
        long = go (a.left == 0) refl

    row_ordered : Ordered limit first (with_row a cells) (GotRow cells ∷ told)
    row_ordered = cond_both (keeps_row a) _ _ (λ (z : Account). Ordered limit first z (GotRow cells ∷ told)) keeps counts

  summary_ordered : (j : ℕ) (p : Phase) (x : Outcome) (r : ResponseView) → j ≡ first → Ordered limit (suc first) (with_summary a j x r) (Got j p x r ∷ told)
  summary_ordered j p x r e =
      record {
        named = o.named;
        count = ap suc o.count;
        now = sym (ap (take limit) next ∙ take_all limit [] (omega arith));
        kept = λ _. let n = ap length next in omega (arith, n);
        cut = λ q. cc;
        past = λ i l. ⊎_elim (λ same. last i same) (λ apart. before i (omega (arith, l, apart))) (cases_eq i first);
        none = λ i l. reply_append i a.replies reply ∙ ap₂ option_or (o.none i (omega (arith, l))) (cond-false (j == i) (Some reply) None (ne_eqb j i (λ q. omega (arith, l, q, e))));
        later = λ i l. o.later i (omega (arith, l));
      }
    where
      reply : ReplyView
      reply = record { ordinal = j; outcome = x; response = r; rows = a.rows; left = a.left }

      next : rows_told (suc first) told ≡ []
      next = o.later (suc first) (omega arith)

      last : (i : ℕ) → i ≡ first → (y : ReplyView) × ((reply_in i (a.replies ++ reply ∷ []) ≡ Some y) × (y.rows ≡ take limit (rows_told i told)))
      last i same = (reply, (reply_append i a.replies reply ∙ ap₂ option_or (o.none i (omega (arith, same))) (cond-true (j == i) (Some reply) None (eq-eqb j i (e ∙ sym same))), o.now ∙ ap (λ n. take limit (rows_told n told)) (sym same)))

      before : (i : ℕ) → i < first → (y : ReplyView) × ((reply_in i (a.replies ++ reply ∷ []) ≡ Some y) × (y.rows ≡ take limit (rows_told i told)))
      before i l = let h = o.past i l in (h.0, (reply_append i a.replies reply ∙ ap (λ z. option_or z (if j == i then Some reply else None)) h.1.0, h.1.1))

note_ordered : (limit n m : ℕ) (x : Note) (a : Account) (told : List Told) → NoteStep n x m → Ordered limit n a told → Ordered limit m (with_note a x) (tellings x ++ told)
note_ordered limit n m Nothing a told s o = subst (λ k. Ordered limit k a told) (sym s) o
note_ordered limit n m (Chose v) a told s o = subst (λ k. Ordered limit k a told) (sym s) o
note_ordered limit n m (Row cells) a told s o = subst (λ k. Ordered limit k (with_row a cells) (GotRow cells ∷ told)) (sym s) (row_ordered limit n a told o cells)
note_ordered limit n m (Summary j p x r) a told s o = subst (λ k. Ordered limit k (with_summary a j x r) (Got j p x r ∷ told)) (sym s.1) (summary_ordered limit n a told o j p x r s.0)

answer_ordered : (limit n m : ℕ) (x : Result (ℕ × Note) ClientFault) (a : Account) (told : List Told) → Step n x m → Ordered limit n a told → Ordered limit m (with_answer a x) (tellings_in x ++ told)
answer_ordered limit n m (Ok used) a told s o = note_ordered limit n m used.1 a told s o
answer_ordered limit n m (Err e) a told s o = subst (λ k. Ordered limit k a told) (sym s) o

losses_ordered : (limit first : ℕ) (a : Account) (told : List Told) (ls : List (ℕ × Outcome)) → Ordered limit first a told → Ordered limit first (with_losses a ls) told
losses_ordered limit first a told [] o = o
losses_ordered limit first a told (x ∷ xs) o = record { named = o.named; count = o.count; now = o.now; kept = o.kept; cut = o.cut; past = o.past; none = o.none; later = o.later }

abbrev InOrder : ℕ → TrackedRun → Type 0
InOrder limit x = Ordered limit x.run.rest.knows.first x.account x.run.told

asks_ordered : (limit : ℕ) (x : Run) (a : Account) (q : RequestView) (f : Option SubmitFault) → Ordered limit x.rest.knows.first a x.told → Ordered limit (submits x q f).rest.knows.first a (submits x q f).told
asks_ordered limit x a q (Some fault) o = o
asks_ordered limit x a q None o = o

call_ordered : (limit : ℕ) (x : TrackedRun) (c : TrackedCall) → NoneTaken (c ∷ []) → InOrder limit x → InOrder limit (tracked_call x c)
call_ordered limit x (Asks q) n o = asks_ordered limit x.run x.account q (refuses x.run.rest.knows q) o
call_ordered limit x (Hears piece) n o = go (is_full x.run.rest.knows x.account)
  where
    go : (b : Bool) → let run : Run = (if b then x.run else call x.run (Feeds piece)) in
        Ordered limit run.rest.knows.first (let t : Tracked = (if b then record { rest = x.run.rest; account = x.account; answer = Err feed_fault.Full } else record { rest = (feed_of x.run.rest piece).rest; account = with_answer x.account (feed_of x.run.rest piece).answer; answer = used_by (feed_of x.run.rest piece).answer }) in t.account) run.told
    go true = o
    go false = answer_ordered limit x.run.rest.knows.first _ (feed_of x.run.rest piece).answer x.account x.run.told (feed_step x.run.rest piece) o
call_ordered limit x (Sends max) n o = o
call_ordered limit x (TakesRows i) n o = absurd n
call_ordered limit x IsLost n o = losses_ordered limit x.run.rest.knows.first x.account x.run.told (losses x.run.rest.knows) o

calls_ordered : (limit : ℕ) (cs : List TrackedCall) (x : TrackedRun) → NoneTaken cs → InOrder limit x → InOrder limit (tracked_calls x cs)
calls_ordered limit [] x n o = o
calls_ordered limit (Asks q ∷ cs) x n o = calls_ordered limit cs (tracked_call x (Asks q)) n (call_ordered limit x (Asks q) tt o)
calls_ordered limit (Hears piece ∷ cs) x n o = calls_ordered limit cs (tracked_call x (Hears piece)) n (call_ordered limit x (Hears piece) tt o)
calls_ordered limit (Sends max ∷ cs) x n o = calls_ordered limit cs (tracked_call x (Sends max)) n (call_ordered limit x (Sends max) tt o)
calls_ordered limit (TakesRows i ∷ cs) x n o = absurd n
calls_ordered limit (IsLost ∷ cs) x n o = calls_ordered limit cs (tracked_call x IsLost) n (call_ordered limit x IsLost tt o)

rows_are : (limit first : ℕ) (a : Account) (told : List Told) → Ordered limit first a told → (i : ℕ) → rows_of first a i ≡ take limit (rows_told i told)
rows_are limit first a told o i =
    ⊎_elim (λ e. let l : i < first = grind (arith, nat_tests, e) in let h = o.past i l in ap (λ z. rows_or z (first == i) a.rows) h.1.0 ∙ h.1.1)
    (λ e. let l : first ≤ i = grind (arith, nat_tests, e) in ⊎_elim (λ same. waits same) (λ apart. behind (omega (arith, l, apart))) (cases_eq first i)) (cases_Bool (nat_lt i first))
  where
    waits : first ≡ i → rows_of first a i ≡ take limit (rows_told i told)
    waits same = ap₂ (λ z w. rows_or z w a.rows) (o.none i (omega (arith, same))) (eq-eqb first i same) ∙ o.now ∙ ap (λ n. take limit (rows_told n told)) same

    behind : first < i → rows_of first a i ≡ take limit (rows_told i told)
    behind l = ap₂ (λ z w. rows_or z w a.rows) (o.none i (omega (arith, l))) (ne_eqb first i (λ e. omega (arith, l, e))) ∙ sym (ap (take limit) (o.later i l) ∙ take_all limit [] (omega arith))

pub holds_its_rows : HoldsItsRows
holds_its_rows wish limit cs n i =
    let x = tracked_calls (tracking wish limit) cs in
    rows_are limit x.run.rest.knows.first x.account x.run.told
    (calls_ordered limit cs (tracking wish limit) n (record {
      named = refl;
      count = refl;
      now = sym (take_all limit [] (omega arith));
      kept = λ _. omega arith;
      cut = λ q. cc;
      past = λ i l. absurd (omega (arith, l));
      none = λ i l. refl;
      later = λ i l. refl;
    })) i
