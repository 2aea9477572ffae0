-- Requests that are sent as one pipeline, and what is reported of them.
use Rattle.std.specs.Prelude.{◌≡◌, ℕ, zero, suc, ◌+◌, Bool, true, false, if◌then◌else◌, Option, Some, None, Result, Ok, Err, List, [], ◌∷◌, ◌++◌, length, string_bytes}
use Rattle.std.specs.Result.{result_err}
use Rattle.messages.specs.View.{RequestView}
use Rattle.client.specs.declared.Outcome.{Outcome}
use Rattle.client.specs.declared.Outcome.TheVariants as outcome
use Rattle.client.specs.declared.SubmitFault.{SubmitFault}
use Rattle.client.specs.Rest.{refuses, after_submit, next_ordinal}
use Rattle.client_tracking.specs.Account.{Account, settled, outcome_of, failure_of}
use Rattle.client_tracking.specs.Feeding.{is_idle}
use Rattle.driver.specs.declared.breaks.Break.{Break}
use Rattle.driver.specs.declared.faults.Fault.{Fault}
use Rattle.driver.specs.declared.faults.Fault.TheVariants as fault
use Rattle.driver.specs.Stands.{Stand, lost_stand, Place, place, Health}
use Rattle.driver.specs.Exchanges.{IsSeen, Exchanges}

-- once a request is accepted
abbrev pub asked_stand : Stand → RequestView → Stand
asked_stand s q = record s { rest = after_submit s.rest q }

-- once each is, in order
abbrev pub asked_all : Stand → List RequestView → Stand
asked_all s [] = s
asked_all s (q ∷ qs) = asked_all (asked_stand s q) qs

-- each is accepted after those before it
abbrev pub AcceptsEach : Stand → List RequestView → Type 0
AcceptsEach s [] = Unit {0}
AcceptsEach s (q ∷ qs) = (refuses s.rest.knows q ≡ None) × AcceptsEach (asked_stand s q) qs

-- One isn't accepted, and none after it was submitted. Unless memory ran out, the rule is its first fault.
pub record StopsAt (from to : Stand) (qs : List RequestView) (rule : SubmitFault) : Type 0 where
  pub before : List RequestView
  pub request : RequestView
  pub behind : List RequestView
  pub parts : qs ≡ before ++ request ∷ behind
  pub accepted : AcceptsEach from before
  pub stays : to ≡ asked_all from before
  pub first : (rule ≡ SubmitFault.Memory → ⊥) → refuses to.rest.knows request ≡ Some rule

-- All were asked, or those before the first that isn't accepted.
abbrev pub AsksAll : Stand → Stand → List RequestView → Option SubmitFault → Type 0
AsksAll from to qs None = AcceptsEach from qs × (to ≡ asked_all from qs)
AsksAll from to qs (Some rule) = StopsAt from to qs rule

-- SUCCESS was its answer
abbrev pub is_done : Option Outcome → Bool
is_done (Some outcome.Done) = true
is_done (Some outcome.Committed) = true
is_done o = false

-- an ordinal that was found, or else this one, unless it is done
abbrev pub or_undone : Option ℕ → ℕ → Option Outcome → Option ℕ
or_undone (Some i) n o = Some i
or_undone None n o = if is_done o then None else Some n

-- the first of so many ordinals from one on that isn't told to be done
abbrev pub first_undone : (ℕ → Option Outcome) → ℕ → ℕ → Option ℕ
first_undone told first zero = None
first_undone told first (suc n) = or_undone (first_undone told first n) (first + n) (told (first + n))

-- The result of so many requests from an ordinal on: Ok if each is done; else by the first that isn't, which was
-- refused, or the exchange was broken off. Memory may lack for the text of a refusal alone.
abbrev pub Told : {A : Type 0} → Account → ℕ → ℕ → Result (Unit {0}) Break → Result A Fault → Type 0
Told a first count broken (Ok x) = first_undone (outcome_of a) first count ≡ None
Told a first count broken (Err (fault.Refused i code message)) =
    (first_undone (outcome_of a) first count ≡ Some i)
    × (failure_of a i ≡ Some (string_bytes code, string_bytes message))
Told a first count broken (Err (fault.Broken why)) =
    (i : ℕ) × (first_undone (outcome_of a) first count ≡ Some i) × (failure_of a i ≡ None)
    × (why ≡ result_err broken)
Told a first count broken (Err fault.Memory) =
    (i : ℕ) × (first_undone (outcome_of a) first count ≡ Some i) × (failure : List ℕ × List ℕ) × (failure_of a i ≡ Some failure)
Told a first count broken (Err (fault.NotSent rule)) = ⊥

-- the account without earlier replies, if no request is pending
abbrev pub fresh : Stand → Stand
fresh s = record s { account = (if is_idle s.rest.knows then settled s.account else s.account) }

-- Each was accepted before a byte went out, and the result is that of the exchange.
pub record Sent {A : Type 0} (from to : Place) (qs : List RequestView) (result : Result A Fault)
    : Type 0 where
  pub broken : Result (Unit {0}) Break
  pub accepted : AcceptsEach (fresh from.stand) qs
  pub exchanged : Exchanges (place (asked_all (fresh from.stand) qs) from.given from.written) to broken
  pub told : Told to.stand.account (next_ordinal from.stand.rest) (length qs) broken result

-- If requests wait that were accepted, the client is lost, so that their bytes never go out.
abbrev pub given_up : Stand → Stand
given_up s = if is_idle s.rest.knows then s else lost_stand s

-- One wasn't accepted: nothing was read or written, and the client is lost, unless that was the first.
pub record IsNotSent (from to : Place) (qs : List RequestView) (rule : SubmitFault) : Type 0 where
  pub stopped : Stand
  pub stops : StopsAt (fresh from.stand) stopped qs rule
  pub unsent : to ≡ place (given_up stopped) from.given from.written

-- These were asked as one pipeline, and this is what is answered.
abbrev pub Says : {A : Type 0} → Place → Place → List RequestView → Result A Fault → Type 0
Says from to qs (Err (fault.NotSent rule)) = IsNotSent from to qs rule
Says from to qs result = Sent from to qs result

-- it holds if nothing was sent
abbrev pub WhenNotSent : {A : Type 0} → Result A Fault → Type 0 → Type 0
WhenNotSent (Err (fault.NotSent rule)) So = So
WhenNotSent result So = Unit {0}

-- a fault that blames a stream is true of that stream
abbrev pub Blames : {A : Type 0} → Result A Fault → Health → Type 0
Blames (Err (fault.Broken (Some why))) h = IsSeen (Err why) h
Blames result h = Unit {0}
