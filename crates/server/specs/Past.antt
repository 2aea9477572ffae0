-- What came of a session's bytes: over a list of calls, the bytes that its feeds took, and the requests that its steps answered.
use Rattle.std.specs.Prelude.{◌≡◌, ℕ, ◌==◌, if◌then◌else◌, List, [], ◌∷◌, ◌++◌, length, take, map, Option, Some, None, Result}
use Rattle.wire.specs.declared.Version.{Version}
use Rattle.wire.specs.Reader.{state}
use Rattle.wire.specs.Framing.{at_server}
use Rattle.wire.specs.Unfinished.{fresh as unread}
use Rattle.wire.specs.Stream.{items_of}
use Rattle.wire.specs.Whole.{whole}
use Rattle.messages.specs.View.{RequestView}
use Rattle.messages.specs.Arrivals.{Arrival, Shook, NoMagic, Asked, Unread, TooLong, arrival_of_offer, arrivals, requests_of}
use Rattle.engine.specs.declared.answer.Mode.{Mode as QueryMode}
use Rattle.engine.specs.Views.{WriteView, ParameterView, EntryView, AnswerView, QueryFault}
use Rattle.engine.specs.Welcomes.{Welcome}
use Rattle.server_session.specs.declared.kinds.Cause.{Cause}
use Rattle.server_session.specs.declared.kinds.Cause.TheVariants as cause
use Rattle.server.specs.declared.kinds.Took.{Took}
use Rattle.server_session.specs.Rest.{Kept, Done, Wrote, work_kept}
use Rattle.server.specs.Serving.{Live, Rest, find, setting, feed_at}
use Rattle.server.specs.Running.{Event, feeds, works, after_event}

-- the bytes used of a piece
abbrev pub used_of : {G : Type 0} → List ℕ → Option (Took × Rest G) → List ℕ
used_of piece None = []
used_of piece (Some p) = take p.0.used piece

-- the request that a step answered by a summary
abbrev pub answers_by : Done → List RequestView
answers_by (Wrote x) = x.request ∷ []
answers_by _ = []

-- what a call took of the bytes of a session
abbrev pub took_by : {G : Type 0} → ℕ → Event → Rest G → List ℕ
took_by conn (feeds c piece) r = if c == conn then used_of piece (feed_at c piece r) else []
took_by conn _ r = []

module _ {G : Type 0} (answer : List EntryView → List WriteView → List ℕ → List ParameterView
    → QueryMode → Result AnswerView QueryFault) (welcomes : G → Welcome) where
  -- the request that a step of the session answers by a summary; none if no session lives
  abbrev pub step_answered : Option Live → Rest G → List RequestView
  step_answered None r = []
  step_answered (Some s) r =
      answers_by (work_kept (setting answer welcomes r) s.conn r.ledger s.kept s.kept.ended).answer

  -- the request of a session that a call answered
  abbrev pub call_answered : ℕ → Event → Rest G → List RequestView
  call_answered conn (works c) r = if c == conn then step_answered (find c r.sessions) r else []
  call_answered conn _ r = []

  -- over a list of calls, in order: the bytes that a session took
  abbrev pub bytes_taken : ℕ → List Event → Rest G → List ℕ
  bytes_taken conn [] r = []
  bytes_taken conn (e ∷ es) r =
      took_by conn e r ++ bytes_taken conn es (after_event answer welcomes e r)

  -- and the requests that it answered
  abbrev pub requests_answered : ℕ → List Event → Rest G → List RequestView
  requests_answered conn [] r = []
  requests_answered conn (e ∷ es) r =
      call_answered conn e r ++ requests_answered conn es (after_event answer welcomes e r)

-- what takes a slot among arrivals: requests, and at last what stands for none
abbrev pub places_of : List Arrival → List Arrival
places_of [] = []
places_of (Asked q ∷ xs) = Asked q ∷ places_of xs
places_of (Unread e ∷ xs) = Unread e ∷ places_of xs
places_of (TooLong ∷ xs) = TooLong ∷ places_of xs
places_of (_ ∷ xs) = places_of xs

-- an end that no handshake brings
abbrev pub IsLater : Option Cause → Type 0
IsLater (Some cause.BadMagic) = ⊥
IsLater (Some cause.NoVersion) = ⊥
IsLater _ = Unit {0}

-- The version, and the end of a handshake of which none is taken, are those of the first that arrived.
abbrev pub Agrees : List Arrival → Kept → Type 0
Agrees [] k = (k.version ≡ None) × (k.ended ≡ None)
Agrees (Shook (Some v) ∷ xs) k = (k.version ≡ Some v) × IsLater k.ended
Agrees (Shook None ∷ xs) k = (k.version ≡ None) × (k.ended ≡ Some cause.NoVersion)
Agrees (NoMagic ∷ xs) k = (k.version ≡ None) × (k.ended ≡ Some cause.BadMagic)
Agrees _ k = ⊥

-- A session that took these bytes and answered these requests: what it answered and what waits is, in order, what its bytes ask for;
-- the first that waits has the number of those before it; version and handshake are those of the bytes, and so is what is unfinished.
pub record Follows (bytes : List ℕ) (answered : List RequestView) (s : Live) : Type 0 where
  pub places : map Asked answered ++ s.kept.waiting ≡ places_of (arrivals bytes)
  pub first : s.kept.first ≡ length answered
  pub handshake : Agrees (arrivals bytes) s.kept
  pub unfinished : s.unfinished ≡ state at_server at_server.start bytes

-- What a session answered and what waits is what its bytes ask for, by the grammar of chunks alone: an offer of which a version is taken, and then any bytes.
abbrev pub Asks : List ℕ → List RequestView → Live → Type 0
Asks bytes answered s =
    (offer more : List ℕ) (v : Version) → length offer ≡ 20
    → arrival_of_offer offer ≡ Shook (Some v) → bytes ≡ offer ++ more
    → map Asked answered ++ s.kept.waiting
    ≡ requests_of v (whole more) (items_of unread more).rest.too_big
