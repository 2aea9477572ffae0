-- Requests that are sent in parts. Each part is one pipeline, of at most as many requests as may be pending.
use Rattle.std.specs.Prelude.{◌≡◌, ◌⊎◌, ℕ, ◌-◌, ◌*◌, ◌<◌, ◌≤◌, ◌==◌, Bool, true, false, ◌||◌, if◌then◌else◌, Some, None, option_map, Result, Ok, Err, List, [], ◌∷◌, ◌++◌, length}
use Rattle.streams.specs.Moving.{Grows}
use Rattle.wire.specs.Framing.{bytes_in_order}
use Rattle.messages.specs.View.{RequestView}
use Rattle.machine.specs.Limits.{max_waiting}
use Rattle.client.specs.declared.SubmitFault.{SubmitFault}
use Rattle.client.specs.declared.SubmitFault.TheVariants as submit_fault
use Rattle.client.specs.Rest.{refuses, refuses_at_once, asking_bytes}
use Rattle.streams.specs.Moving.{MovesFront}
use Rattle.client_tracking.specs.Account.{Account, reply_in, outcome_of}
use Rattle.client_tracking.specs.Runs.{TrackedCall}
use Rattle.driver.specs.declared.breaks.Break.{Break}
use Rattle.driver.specs.declared.breaks.Break.TheVariants as break
use Rattle.driver.specs.Stands.{Stand, Leads, EndsBy, lost_stand, Place, Health}
use Rattle.driver.specs.Reasons.{StopsBy}
use Rattle.driver.specs.Exchanges.{is_short, IsSeen, Exchanges}
use Rattle.driver.specs.Pipelines.{is_done, first_undone}

-- All these bytes were written; or the sink has failed, and it took a prefix of them.
abbrev pub IsWritten : List ℕ → List ℕ → Bool → List ℕ → Type 0
IsWritten before after failed bytes =
    Grows before after bytes ⊎ ((failed ≡ true) × MovesFront before after bytes)

-- a part is complete if it has as many requests as may be pending, or no request is left after it
abbrev pub is_whole : List RequestView → List RequestView → Bool
is_whole last later = length last == max_waiting || length later == 0

-- the requests that go out: those of the parts before the last, and those of the last if it is complete
abbrev pub gone : List RequestView → List RequestView → List RequestView → List RequestView
gone before last later = if is_whole last later then before ++ last else before

-- its summary was a SUCCESS
abbrev pub is_answered : Account → ℕ → Bool
is_answered a i = is_done (option_map (λ r. r.outcome) (reply_in i a.replies))

-- no request is pending, no byte is to be sent, and no request was lost
pub record IsQuiet (s : Stand) : Type 0 where
  pub waits : s.rest.knows.waiting ≡ []
  pub unsent : s.rest.unsent ≡ []
  pub lost : s.account.lost ≡ []

-- their exchange was broken off, and the client is lost; or one of so many requests from an ordinal on isn't done
abbrev pub IsUndone : Result (Unit {0}) Break → Stand → ℕ → ℕ → Type 0
IsUndone broken to first count =
    (((why : Break) × (broken ≡ Err why)) × ((answered : Stand) × (to ≡ lost_stand answered)))
    ⊎ ((i : ℕ) × (first_undone (outcome_of to.account) first count ≡ Some i))

-- The pending requests were sent, or this broke it off. done: each of so many requests from an ordinal on is done.
pub record SendsPart (from to : Place) (health : Health) (first count : ℕ) (done : Bool) (broken : Result (Unit {0}) Break) : Type 0 where
  pub exchanged : Exchanges from to broken
  pub seen : IsSeen broken health
  pub is_done : done ≡ true
      → (broken ≡ Ok tt) × (first_undone (outcome_of to.stand.account) first count ≡ None)
  pub is_undone : done ≡ false → IsUndone broken to.stand first count

-- One more request can be submitted after so many: fewer are pending than may be, or the pending part was sent and each of it is done.
abbrev pub MakesRoom : Place → Place → Health → ℕ → Bool → Result (Unit {0}) Break → Type 0
MakesRoom from to health asked room broken =
    ((length from.stand.rest.knows.waiting < max_waiting) × ((to ≡ from) × (room ≡ true)))
    ⊎ ((max_waiting ≤ length from.stand.rest.knows.waiting)
    × SendsPart from to health (asked - max_waiting) max_waiting room broken)

-- the reason that is reported if a request isn't accepted by this rule: only a lack of memory breaks off the attempt
abbrev pub short_of : SubmitFault → Result (Unit {0}) Break
short_of submit_fault.Memory = Err break.Memory
short_of rule = Ok tt

-- Why the first of these requests wasn't accepted, and what is reported of it.
pub record IsRefused (s : Stand) (later : List RequestView) (broken : Result (Unit {0}) Break) : Type 0 where
  pub request : RequestView
  pub behind : List RequestView
  pub parts : later ≡ request ∷ behind
  pub rule : SubmitFault
  pub first : (rule ≡ SubmitFault.Memory → ⊥) → refuses s.rest.knows request ≡ Some rule
  -- memory is needed only for a request that the client would write
  pub needed : rule ≡ SubmitFault.Memory → refuses_at_once s.rest.knows request ≡ None
  pub told : broken ≡ short_of rule

-- Why requests are left that weren't submitted: the first of them isn't accepted; or the part before them was sent
-- and isn't done. broken: the reported reason.
abbrev pub WhyLeft : Stand → List RequestView → List RequestView → List RequestView → Result (Unit {0}) Break → Type 0
WhyLeft to before last later broken = (later ≡ []) ⊎ (IsRefused to later broken
    ⊎ ((length last ≡ max_waiting) × IsUndone broken to (length before) max_waiting))

-- So many of the requests were accepted; the others weren't submitted. Those of complete parts were done before the
-- next part was submitted. The client took all that was read, up to its end, unless memory ran out or there are more
-- rows than the limit. broken: why the last exchange was broken off, or that memory ran out for a request.
pub record SendsInParts (from to : Place) (health : Health) (all : List RequestView) (n : ℕ) (broken : Result (Unit {0}) Break) : Type 0 where
  pub before : List RequestView
  pub last : List RequestView
  pub later : List RequestView
  pub asks : all ≡ before ++ (last ++ later)
  pub why : WhyLeft to.stand before last later broken
  pub seen : IsSeen broken health
  pub count : n ≡ length (before ++ last)
  pub parts : ℕ
  pub whole : length before ≡ max_waiting * parts
  pub few : length last ≤ max_waiting
  pub done : (i : ℕ) → i < length before → is_answered to.stand.account i ≡ true
  pub calls : List TrackedCall
  pub heard : List ℕ
  pub unheard : List ℕ
  pub out : List ℕ
  pub lost : Bool
  pub leads : Leads from.stand calls to.stand (before ++ last) heard out lost
  pub input : Grows from.given to.given (heard ++ unheard)
  pub ends : is_short broken ≡ false → (unheard ≡ []) ⊎ EndsBy from.stand (before ++ last) heard out
  -- an open client doesn't accept the first request that is left; or it had ended before; or the last exchange stopped
  pub stops : (IsRefused to.stand later broken × (to.stand.rest.knows.over ≡ false)) ⊎ ((from.stand.rest.knows.over ≡ true)
      ⊎ StopsBy from.stand (before ++ last) heard out unheard broken)
  pub written : IsWritten from.written to.written health.write_failed out
  pub unsent : to.stand.rest.unsent ≡ (if is_whole last later then []
      else bytes_in_order (asking_bytes to.stand.rest.knows.version) last)
