-- A tracking client of which calls are made in any order.
use Rattle.std.specs.Prelude.{◌≡◌, ◌≤◌, ◌==◌, ℕ, suc, if◌then◌else◌, List, [], ◌∷◌, ◌++◌, length, take}
use Rattle.packstream.specs.Tree.{Tree}
use Rattle.wire.specs.declared.Wish.{Wish}
use Rattle.messages.specs.View.{RequestView}
use Rattle.client.specs.Verdicts.{Told, GotRow, Got}
use Rattle.client.specs.Rest.{losses}
use Rattle.client.specs.Moments.{Run, Submits, Feeds, TakesOut, Loses, starts, call}
use Rattle.client_tracking.specs.Account.{Account, ReplyView, untold, with_losses, rows_taken, rows_of, outcome_of, failure_of}
use Rattle.client_tracking.specs.Feeding.{is_full, tracked_feed}
use Rattle.client_tracking.specs.Telling.{is_clash, any_final, tells_of}
use Rattle.client_tracking.specs.Attempts.{Attempt, told_of, tells}

-- one call: a request, a piece, how many bytes may be taken out, the rows of a request, or the loss
pub data TrackedCall : Type 0 where
  Asks : RequestView → TrackedCall
  Hears : List ℕ → TrackedCall
  Sends : ℕ → TrackedCall
  TakesRows : ℕ → TrackedCall
  IsLost : TrackedCall

-- the run of its client, and its account
pub record TrackedRun : Type 0 where
  pub run : Run
  pub account : Account

-- before the first call
abbrev pub tracking : Wish → ℕ → TrackedRun
tracking wish limit = record { run = starts wish; account = untold limit }

-- after one call
abbrev pub tracked_call : TrackedRun → TrackedCall → TrackedRun
tracked_call x (Asks q) = record x { run = call x.run (Submits q) }
tracked_call x (Hears piece) = record {
  run = (if is_full x.run.rest.knows x.account then x.run else call x.run (Feeds piece));
  account = (tracked_feed x.run.rest x.account piece).account;
}
tracked_call x (Sends max) = record x { run = call x.run (TakesOut max) }
tracked_call x (TakesRows i) =
    record x { account = rows_taken x.run.rest.knows.first x.account i }
tracked_call x IsLost = record {
  run = call x.run Loses;
  account = with_losses x.account (losses x.run.rest.knows);
}

-- after calls, one after the other
abbrev pub tracked_calls : TrackedRun → List TrackedCall → TrackedRun
tracked_calls x [] = x
tracked_calls x (c ∷ cs) = tracked_calls (tracked_call x c) cs

-- what a caller saw of a run
abbrev pub attempt_of : Wish → Run → Attempt
attempt_of wish x = record { wish = wish; sent = x.sent; took = x.took; lost = x.lost }

-- After every list of calls, what the account says of each request is what its client makes of the bytes that it took.
abbrev pub AccountsByBytes : Type 0
AccountsByBytes =
    (wish : Wish) (limit : ℕ) (cs : List TrackedCall) (i : ℕ)
    → let x = tracked_calls (tracking wish limit) cs in
    outcome_of x.account i ≡ told_of (attempt_of wish x.run) i

-- After every list of calls, what the account tells is what the attempt tells, at whatever connection it was.
abbrev pub AccountTells : Type 0
AccountTells =
    (wish : Wish) (limit : ℕ) (cs : List TrackedCall) (commit conn : ℕ)
    → let x = tracked_calls (tracking wish limit) cs in
    tells_of x.account commit (length x.run.sent)
    ≡ tells (record {
      attempt = attempt_of wish x.run;
      commit = commit;
      clash = is_clash (failure_of x.account commit);
      final = any_final x.account (length x.run.sent);
      conn = conn;
    })

-- so many rows at most are kept of each
abbrev pub FewRows : ℕ → List ReplyView → Type 0
FewRows limit [] = Unit {0}
FewRows limit (r ∷ rs) = (length r.rows ≤ limit) × FewRows limit rs

-- After every list of calls, so many rows at most are kept of each request as the caller named.
abbrev pub KeepsFewRows : Type 0
KeepsFewRows =
    (wish : Wish) (limit : ℕ) (cs : List TrackedCall)
    → let a = (tracked_calls (tracking wish limit) cs).account in
    (length a.rows ≤ limit) × FewRows limit a.replies

-- no rows are taken
abbrev pub NoneTaken : List TrackedCall → Type 0
NoneTaken [] = Unit {0}
NoneTaken (TakesRows i ∷ cs) = ⊥
NoneTaken (c ∷ cs) = NoneTaken cs

-- how many summaries were told, the newest first
abbrev pub summaries_in : List Told → ℕ
summaries_in [] = 0
summaries_in (GotRow row ∷ ts) = summaries_in ts
summaries_in (Got j p o x ∷ ts) = suc (summaries_in ts)

-- The rows of a request, in order: those that were told behind as many summaries as its ordinal says.
abbrev pub rows_told : ℕ → List Told → List (List Tree)
rows_told i [] = []
rows_told i (GotRow row ∷ ts) = if summaries_in ts == i then rows_told i ts ++ row ∷ []
    else rows_told i ts
rows_told i (Got j p o x ∷ ts) = rows_told i ts

-- After every list of calls by which no rows are taken, the rows that are held of each request are the first of its own.
abbrev pub HoldsItsRows : Type 0
HoldsItsRows =
    (wish : Wish) (limit : ℕ) (cs : List TrackedCall) → NoneTaken cs → (i : ℕ)
    → let x = tracked_calls (tracking wish limit) cs in
    rows_of x.run.rest.knows.first x.account i ≡ take limit (rows_told i x.run.told)
