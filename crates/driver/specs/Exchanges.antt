-- The bytes of a tracking client that are written, and the bytes that it is fed.
use Rattle.std.specs.Prelude.{◌≡◌, ◌⊎◌, ℕ, Bool, true, false, Result, Ok, Err, List, [], ◌++◌}
use Rattle.streams.specs.Moving.{Grows}
use Rattle.streams.specs.Moving.{MovesFront}
use Rattle.client_tracking.specs.declared.faults.FeedFault.{FeedFault}
use Rattle.client_tracking.specs.declared.faults.FeedFault.TheVariants as feed_fault
use Rattle.driver.specs.declared.breaks.Break.{Break}
use Rattle.driver.specs.declared.breaks.Break.TheVariants as break
use Rattle.driver.specs.Stands.{Stand, lost_stand, emptied_stand, Place, place, Health}
use Rattle.driver.specs.Reasons.{Hears, WhyUnfed, Stops}

-- the client took all bytes, or it has ended
abbrev pub IsWhole : List ℕ → Stand → Type 0
IsWhole unheard to = (unheard ≡ []) ⊎ (to.rest.knows.over ≡ true)

-- why the exchange is broken off if the client refuses a piece
abbrev pub break_by : FeedFault → Break
break_by feed_fault.Closed = break.Ended
break_by feed_fault.Memory = break.Memory
break_by feed_fault.BadPeer = break.BadAnswer
break_by feed_fault.Full = break.TooManyRows

-- the exchange was broken off during a piece by a client that hasn't ended: memory ran out, or there are more rows than the limit
abbrev pub is_short : Result (Unit {0}) Break → Bool
is_short (Err break.Memory) = true
is_short (Err break.TooManyRows) = true
is_short result = false

-- a break that blames a stream is true of that stream
abbrev pub IsSeen : Result (Unit {0}) Break → Health → Type 0
IsSeen (Err break.ReadFailed) h = h.read_failed ≡ true
IsSeen (Err break.WriteFailed) h = h.write_failed ≡ true
IsSeen (Err break.AtEnd) h = h.ended ≡ true
IsSeen result h = Unit {0}

-- it holds if nothing broke it off
abbrev pub Unbroken : Result (Unit {0}) Break → Type 0 → Type 0
Unbroken (Ok u) So = So
Unbroken (Err e) So = Unit {0}

-- A piece was fed: all of it, or up to the client's end; or less, if memory ran out or there are more rows than the limit.
pub record Feeds (from to : Stand) (piece : List ℕ) (result : Result (Unit {0}) Break)
    : Type 0 where
  pub heard : List ℕ
  pub unheard : List ℕ
  pub parts : piece ≡ heard ++ unheard
  pub hears : Hears from to heard
  pub whole : is_short result ≡ false → IsWhole unheard to
  pub why : WhyUnfed result from to heard unheard

-- Bytes were read. All were fed, or those up to the client's end; or less, if memory ran out or there are more rows than the limit.
pub record ReadsOn (from to : Stand) (given given_now : List ℕ)
    (result : Result (Unit {0}) Break) : Type 0 where
  pub heard : List ℕ
  pub unheard : List ℕ
  pub input : Grows given given_now (heard ++ unheard)
  pub hears : Hears from to heard
  pub whole : is_short result ≡ false → IsWhole unheard to
  pub why : WhyUnfed result from to heard unheard

-- All output was written, or a prefix of it if the sink failed.
abbrev pub Writes : List ℕ → Result (Unit {0}) Break → List ℕ → List ℕ → Type 0
Writes out (Err break.WriteFailed) before after = MovesFront before after out
Writes out result before after = Grows before after out

-- The output was written, and taken out of the client.
abbrev pub PutsOut : Stand → Stand → List ℕ → List ℕ → Result (Unit {0}) Break → Type 0
PutsOut from to before after result =
    Writes from.rest.unsent result before after × (to ≡ emptied_stand from)

-- if it broke off, the client is lost
abbrev pub after_exchange : Result (Unit {0}) Break → Stand → Stand
after_exchange (Ok u) s = s
after_exchange (Err e) s = lost_stand s

-- All pending bytes were written. Then bytes were read and fed until all was answered, or until this break. The new state is the one to which
-- pieces of just these bytes lead.
pub record Converses (from to : Place) (result : Result (Unit {0}) Break) : Type 0 where
  pub writes : Writes from.stand.rest.unsent result from.written to.written
  pub reads : ReadsOn (emptied_stand from.stand) to.stand from.given to.given result
  pub stops : Stops result (emptied_stand from.stand) to.stand reads.heard reads.unheard

-- An exchange as `Converses` has it, after which the client is lost if it broke off.
pub record Exchanges (from to : Place) (result : Result (Unit {0}) Break) : Type 0 where
  pub answered : Stand
  pub converses : Converses from (place answered to.given to.written) result
  pub settles : to.stand ≡ after_exchange result answered
