-- What an attempt tells, by the outcomes of its requests.
use Rattle.std.specs.Prelude.{nat_eq, ℕ, zero, suc, Bool, true, false, not, ◌&&◌, ◌||◌, if◌then◌else◌, Option, Some, None, List, codes}
use Rattle.std.specs.List.{starts_with}
use Rattle.std.specs.Str.{bytes_eq}
use Rattle.client.specs.declared.Outcome.{Outcome}
use Rattle.client.specs.declared.Outcome.TheVariants as outcome
use Rattle.client_tracking.specs.declared.attempts.Tells.{Tells}
use Rattle.client_tracking.specs.declared.attempts.Tells.TheVariants as tells
use Rattle.client_tracking.specs.Account.{Account, outcome_of, failure_of}

-- an outcome that says for sure that nothing was committed
abbrev pub adds_nothing : Option Outcome → Bool
adds_nothing (Some outcome.Done) = true
adds_nothing (Some outcome.Refused) = true
adds_nothing (Some outcome.Ignored) = true
adds_nothing (Some outcome.Lost) = true
adds_nothing o = false

-- COMMIT, or what else commits, was answered SUCCESS
abbrev pub is_committed : Option Outcome → Bool
is_committed (Some outcome.Committed) = true
is_committed o = false

-- it has a FAILURE
abbrev pub is_refused : Option Outcome → Bool
is_refused (Some outcome.Refused) = true
is_refused o = false

-- each of the first n requests is told to have committed nothing
abbrev pub all_nothing : (ℕ → Option Outcome) → ℕ → Bool
all_nothing told zero = true
all_nothing told (suc n) = adds_nothing (told n) && all_nothing told n

-- What n requests tell of which this is the COMMIT's ordinal; clash: it was refused for other writes; final: one was refused for good. Where
-- nothing else is sure, a doubt.
abbrev pub tells_by : (ℕ → Option Outcome) → ℕ → Bool → Bool → ℕ → Tells
tells_by told commit clash final n =
    if is_committed (told commit) then tells.Stands
    else (if is_refused (told commit) && clash then tells.Clash
    else (if not (all_nothing told n) then tells.Doubt
    else (if final then tells.Refused
    else tells.Nothing)))

-- the FAILURE says that other writes stand under the token
abbrev pub is_clash : Option (List ℕ × List ℕ) → Bool
is_clash (Some failure) = bytes_eq failure.0 (codes "Neo.ClientError.Transaction.TokenClash")
is_clash None = false

-- the FAILURE is of the client's making, and comes each time (Neo4j status codes, the class ClientError)
abbrev pub is_final : Option (List ℕ × List ℕ) → Bool
is_final (Some failure) = starts_with nat_eq failure.0 (codes "Neo.ClientError.")
is_final None = false

-- one of the first n is refused for good
abbrev pub any_final : Account → ℕ → Bool
any_final a zero = false
any_final a (suc n) = is_final (failure_of a n) || any_final a n

-- the same by the account, if the FAILUREs say what they are for
abbrev pub tells_of : Account → ℕ → ℕ → Tells
tells_of a commit n =
    tells_by (outcome_of a) commit (is_clash (failure_of a commit)) (any_final a n) n
