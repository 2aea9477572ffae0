-- What an account tells is what the attempt tells.
use Rattle.std.proofs.Common.{◌≡◌, refl, ap₂, ℕ, zero, suc, Bool, not, ◌&&◌, if◌then◌else◌, Option, length}
use Rattle.client.specs.declared.Outcome.{Outcome}
use Rattle.client_tracking.specs.declared.attempts.Tells.{Tells}
use Rattle.client_tracking.specs.Account.{outcome_of, failure_of}
use Rattle.client_tracking.specs.Telling.{adds_nothing, is_committed, is_refused, all_nothing, is_clash, any_final, tells_by}
use Rattle.client_tracking.specs.Attempts.{told_of}
use Rattle.client_tracking.specs.Runs.{tracking, tracked_calls, attempt_of, AccountTells}
use Rattle.client_tracking.proofs.Accounts.{accounts_by_bytes}

abbrev by_tests : Bool → Bool → Bool → Bool → Tells
by_tests c k a r = if c then Tells.Stands else (if k then Tells.Clash else (if not a then Tells.Doubt else (if r then Tells.Refused else Tells.Nothing)))

-- the same outcomes tell the same
module _ (told other : ℕ → Option Outcome) (same : (i : ℕ) → told i ≡ other i) where
  same_nothing : (n : ℕ) → all_nothing told n ≡ all_nothing other n
  same_nothing zero = refl
  same_nothing (suc n) = ap₂ (λ (o : Option Outcome) (b : Bool). adds_nothing o && b) (same n) (same_nothing n)

  pub same_tells : (commit : ℕ) (clash final : Bool) (n : ℕ) → tells_by told commit clash final n ≡ tells_by other commit clash final n
  same_tells commit clash final n = ap₂ (λ (o : Option Outcome) (b : Bool). by_tests (is_committed o) (is_refused o && clash) b final) (same commit) (same_nothing n)

pub account_tells : AccountTells
account_tells wish limit cs commit conn =
    let x = tracked_calls (tracking wish limit) cs in
    let n = length x.run.sent in
    same_tells (outcome_of x.account) (told_of (attempt_of wish x.run)) (accounts_by_bytes wish limit cs) commit (is_clash (failure_of x.account commit)) (any_final x.account n) n
