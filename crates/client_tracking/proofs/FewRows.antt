-- How many rows an account holds.
use Rattle.std.proofs.Common.{◌≡◌, refl, ℕ, ◌+◌, ◌<◌, ◌≤◌, ◌==◌, Bool, true, false, if◌then◌else◌, Option, Some, None, Result, Ok, Err, List, [], ◌∷◌, ◌++◌, length, nat_lt, arith, length-append}
use Rattle.std.proofs.lemmas.Bool.{cond_both, and_parts}
use Rattle.std.proofs.lemmas.Bool.Decides.{nat_tests}
use Rattle.packstream.specs.Tree.{Tree}
use Rattle.client.specs.declared.ClientFault.{ClientFault}
use Rattle.client.specs.declared.Outcome.{Outcome}
use Rattle.client.specs.Prelude.{Note, Nothing, Chose, Row, Summary, feed_of, losses}
use Rattle.client_tracking.specs.Account.{Account, ReplyView, keeps_row, with_row, with_note, with_losses, reply_in, without_rows, taken_or}
use Rattle.client_tracking.specs.Feeding.{is_full, Tracked, with_answer, used_by}
use Rattle.client_tracking.specs.declared.faults.FeedFault.TheVariants as feed_fault
use Rattle.client_tracking.specs.Runs.{TrackedCall, Asks, Hears, Sends, TakesRows, IsLost, TrackedRun, tracking, tracked_call, tracked_calls, FewRows, KeepsFewRows}

pub record Few (limit : ℕ) (a : Account) : Type 0 where
  pub named : a.limit ≡ limit
  pub waiting : length a.rows ≤ limit
  pub replies : FewRows limit a.replies

few_append : (limit : ℕ) (rs : List ReplyView) (r : ReplyView) → FewRows limit rs → length r.rows ≤ limit → FewRows limit (rs ++ r ∷ [])
few_append limit [] r h l = (l, tt)
few_append limit (x ∷ rs) r h l = (h.0, few_append limit rs r h.1 l)

few_without : (limit i : ℕ) (rs : List ReplyView) → FewRows limit rs → FewRows limit (without_rows i rs)
few_without limit i [] h = tt
few_without limit i (r ∷ rs) h =
    let none : 0 ≤ limit = omega arith in
    cond_both (r.ordinal == i) (record r { rows = [] } ∷ rs) (r ∷ without_rows i rs) (λ (xs : List ReplyView). FewRows limit xs) (λ _. (none, h.1)) (λ _. (h.0, few_without limit i rs h.1))

few_row : (limit : ℕ) (a : Account) (cells : List Tree) → Few limit a → Few limit (with_row a cells)
few_row limit a cells f = cond_both (keeps_row a) _ _ (λ (z : Account). Few limit z) kept (λ _. record { named = f.named; waiting = f.waiting; replies = f.replies })
  where
    kept : keeps_row a ≡ true → Few limit (record a { rows = a.rows ++ cells ∷ [] })
    kept e = record {
      named = f.named;
      waiting =
          let less = (and_parts (a.left == 0) (nat_lt (length a.rows) a.limit) e).1 in
          let room : length a.rows < a.limit = grind (arith, nat_tests, less) in
          let one : length (a.rows ++ cells ∷ []) ≡ length a.rows + 1 = length-append a.rows (cells ∷ []) in
          omega (arith, room, one, f.named);
      replies = f.replies;
    }

few_note : (limit : ℕ) (a : Account) (x : Note) → Few limit a → Few limit (with_note a x)
few_note limit a Nothing f = f
few_note limit a (Chose o) f = f
few_note limit a (Row cells) f = few_row limit a cells f
few_note limit a (Summary j p o r) f = record {
  named = f.named;
  waiting = omega arith;
  replies = few_append limit a.replies (record { ordinal = j; outcome = o; response = r; rows = a.rows; left = a.left }) f.replies f.waiting;
}

few_answer : (limit : ℕ) (a : Account) (x : Result (ℕ × Note) ClientFault) → Few limit a → Few limit (with_answer a x)
few_answer limit a (Ok used) f = few_note limit a used.1 f
few_answer limit a (Err e) f = f

few_taken : (limit i : ℕ) (o : Option ReplyView) (waits : Bool) (a : Account) → Few limit a → Few limit (taken_or o waits a (without_rows i a.replies))
few_taken limit i (Some r) waits a f = record { named = f.named; waiting = f.waiting; replies = few_without limit i a.replies f.replies }
few_taken limit i None true a f = record { named = f.named; waiting = omega arith; replies = f.replies }
few_taken limit i None false a f = f

few_losses : (limit : ℕ) (a : Account) (ls : List (ℕ × Outcome)) → Few limit a → Few limit (with_losses a ls)
few_losses limit a [] f = f
few_losses limit a (x ∷ xs) f = record { named = f.named; waiting = f.waiting; replies = f.replies }

few_call : (limit : ℕ) (x : TrackedRun) (c : TrackedCall) → Few limit x.account → Few limit (tracked_call x c).account
few_call limit x (Asks q) f = f
few_call limit x (Hears piece) f = go (is_full x.run.rest.knows x.account)
  where
    go : (b : Bool) → Few limit (let t : Tracked = (if b then record { rest = x.run.rest; account = x.account; answer = Err feed_fault.Full } else record { rest = (feed_of x.run.rest piece).rest; account = with_answer x.account (feed_of x.run.rest piece).answer; answer = used_by (feed_of x.run.rest piece).answer }) in t.account)
    go true = f
    go false = few_answer limit x.account (feed_of x.run.rest piece).answer f
few_call limit x (Sends max) f = f
few_call limit x (TakesRows i) f = few_taken limit i (reply_in i x.account.replies) (x.run.rest.knows.first == i) x.account f
few_call limit x IsLost f = few_losses limit x.account (losses x.run.rest.knows) f

few_calls : (limit : ℕ) (cs : List TrackedCall) (x : TrackedRun) → Few limit x.account → Few limit (tracked_calls x cs).account
few_calls limit [] x f = f
few_calls limit (c ∷ cs) x f = few_calls limit cs (tracked_call x c) (few_call limit x c f)

pub keeps_few_rows : KeepsFewRows
keeps_few_rows wish limit cs =
    let f = few_calls limit cs (tracking wish limit) (record { named = refl; waiting = omega arith; replies = tt }) in
    (f.waiting, f.replies)
