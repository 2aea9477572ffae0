-- An attempt of a transaction under a token, over streams.
use Rattle.std.specs.Prelude.{◌≡◌, ◌⊎◌, ℕ, ◌*◌, ◌<◌, ◌≤◌, Bool, true, false, ◌||◌, Option, Some, None, Result, Ok, Err, List, [], ◌∷◌, ◌++◌, length, map, slice_get, string_bytes}
use Rattle.streams.specs.Moving.{Grows}
use Rattle.wire.specs.declared.Wish.{Wish}
use Rattle.wire.specs.Framing.{at_client}
use Rattle.wire.specs.Reader.{state}
use Rattle.messages.specs.declared.Mode.{Mode}
use Rattle.messages.specs.declared.Count.TheVariants as count
use Rattle.messages.specs.View.{AuthView, auth_view, RequestView}
use Rattle.machine.specs.Limits.{max_waiting}
use Rattle.client.specs.Client.{knows_of}
use Rattle.client.specs.Rest.{Knows, begun, awaits}
use Rattle.client.specs.Moments.{put_out}
use Rattle.client_tracking.specs.declared.attempts.Tells.{Tells}
use Rattle.client_tracking.specs.Account.{failure_of, untold}
use Rattle.client_tracking.specs.Attempts.{Attempt, Made, read, told_of, tells_in}
use Rattle.client_tracking.specs.Runs.{TrackedCall, IsLost, TrackedRun, tracking, tracked_calls, attempt_of}
use Rattle.client_tracking.specs.Telling.{is_clash, any_final}
use Rattle.driver.specs.declared.attempting.Asked.{Asked}
use Rattle.driver.specs.declared.breaks.Break.{Break}
use Rattle.driver.specs.declared.breaks.Break.TheVariants as break
use Rattle.driver.specs.Pipelines.{is_done}
use Rattle.driver.specs.Stands.{Stand, stand_in, place, Health}
use Rattle.driver.specs.Reasons.{NeedsMemory}
use Rattle.driver.specs.Exchanges.{is_short, IsSeen, Exchanges}
use Rattle.driver.specs.Parts.{IsWritten, IsRefused, WhyLeft, gone}
use Rattle.driver.specs.Requests.{QueryView, query_view, within, greeting}

-- the versions, the login, the transaction and the token of each attempt
pub record AskedView : Type 0 where
  pub wish : Wish
  pub agent : List ℕ
  pub auth : AuthView
  pub mode : Mode
  pub token : List ℕ
  pub queries : List QueryView

abbrev pub asked_view : Asked → AskedView
asked_view a = record {
  wish = a.wish;
  agent = string_bytes a.agent;
  auth = auth_view a.auth;
  mode = a.mode;
  token = string_bytes a.token;
  queries = map query_view a.queries.items;
}

-- All its requests: the greeting, BEGIN under the token, the queries with their rows discarded, and COMMIT.
abbrev pub requests_of : Bool → AskedView → List RequestView
requests_of login a =
    greeting login a.agent a.auth
    ++ RequestView.Begin a.mode (Some a.token) ∷ within a.mode (RequestView.Discard count.All) a.queries

-- the run of these calls on a new client that wishes this and keeps no rows
abbrev pub run_by : Wish → List TrackedCall → TrackedRun
run_by wish cs = tracked_calls (tracking wish 0) cs

-- The attempt that these calls of its client make: what was asked and received, whether COMMIT met other writes, and whether a request was refused
-- for good. Its connection has this number, and its COMMIT this ordinal.
abbrev pub made_by : Wish → List TrackedCall → ℕ → ℕ → Made
made_by wish cs commit conn = record {
  attempt = attempt_of wish (run_by wish cs).run;
  commit = commit;
  clash = is_clash (failure_of (run_by wish cs).account commit);
  final = any_final (run_by wish cs).account (length (run_by wish cs).run.sent);
  conn = conn;
}

-- the calls of an attempt's client, and the ordinal of its COMMIT
abbrev pub Calls : Type 0
Calls = List TrackedCall × ℕ

-- the attempt that they make over a connection of this number; none if no request was asked
abbrev pub made_at : Wish → ℕ → Option Calls → Option Made
made_at wish conn None = None
made_at wish conn (Some c) = Some (made_by wish c.0 c.1 conn)

-- the answer of the attempt, whatever its number
abbrev pub tells_at : Wish → Option Calls → Tells
tells_at wish c = tells_in (made_at wish 0 c)

-- Its requests were sent in parts of 32, each as one pipeline, on a connection of this number, and its client is lost. Each request of a complete
-- part was done before the next part was submitted, those of the last part were accepted, and the others weren't submitted. broken: why the last
-- exchange was broken off, or that memory ran out for a request.
pub record IsSent (a : AskedView) (conn : ℕ) (broken : Result (Unit {0}) Break) (m : Made) : Type 0 where
  pub login : Bool
  pub before : List RequestView
  pub last : List RequestView
  pub later : List RequestView
  pub asks : requests_of login a ≡ before ++ (last ++ later)
  -- the calls of its client
  pub asked : List TrackedCall
  pub calls : List TrackedCall
  pub at_last : calls ≡ asked ++ IsLost ∷ []
  -- why requests are left, by the state of its client before it was lost
  pub why : WhyLeft (stand_in (run_by a.wish asked)) before last later broken
  pub is : m ≡ made_by a.wish calls m.commit conn
  pub parts : ℕ
  pub whole : length before ≡ max_waiting * parts
  pub few : length last ≤ max_waiting
  pub done : (i : ℕ) → i < length before → is_done (told_of m.attempt i) ≡ true
  pub wish : m.attempt.wish ≡ a.wish
  pub sent : m.attempt.sent ≡ before ++ last
  pub commit : slice_get (requests_of login a) m.commit ≡ Some RequestView.Commit
  pub lost : m.attempt.lost ≡ true
  pub at : m.conn ≡ conn

-- The streams of a connection: all bytes that its source has given, all bytes that its sink has taken, and how both are.
pub record Streams : Type 0 where
  pub given : List ℕ
  pub written : List ℕ
  pub health : Health

abbrev pub streams : List ℕ → List ℕ → Health → Streams
streams given written health = record { given = given; written = written; health = health }

-- the state of a new client
abbrev pub at_first : Wish → ℕ → Stand
at_first wish limit = record { rest = begun wish; account = untold limit }

-- its client has ended by the bytes that it took
abbrev pub has_ended : Attempt → Bool
has_ended t = (read t).ended || (read t).bad

-- the knowledge of an attempt's client when the last exchange stopped: by the bytes that it took, before it was lost
abbrev pub known_at_end : Attempt → Knows
known_at_end t = knows_of (read t) t.sent false

-- Why the last exchange of an attempt stopped, by the bytes that its client took.
-- unheard: the bytes that were read and that it didn't take.
abbrev pub AttemptStops : Result (Unit {0}) Break → Attempt → List ℕ → Type 0
-- all was answered: no answer is awaited, and no request is pending; no message was bad
AttemptStops (Ok u) t unheard =
    (awaits (known_at_end t) ≡ false) × (((known_at_end t).waiting ≡ []) × ((read t).bad ≡ false))
-- an answer is awaited, and the client took all bytes; `IsSeen` says that the source failed
AttemptStops (Err break.ReadFailed) t unheard = (awaits (known_at_end t) ≡ true) × (unheard ≡ [])
-- the client took all bytes and hasn't ended; `IsSeen` says that the sink failed
AttemptStops (Err break.WriteFailed) t unheard = ((known_at_end t).over ≡ false) × (unheard ≡ [])
-- bytes are left for which the client needs memory
AttemptStops (Err break.Memory) t unheard =
    NeedsMemory (known_at_end t) (state at_client at_client.start t.took) unheard
-- the bytes end with a message that the client refuses
AttemptStops (Err break.BadAnswer) t unheard = (read t).bad ≡ true
-- an answer is awaited, and the client took all bytes; `IsSeen` says that the source reached its end
AttemptStops (Err break.AtEnd) t unheard = (awaits (known_at_end t) ≡ true) × (unheard ≡ [])
-- a request is pending, but no answer is awaited: the client has ended; no message was bad
AttemptStops (Err break.Ended) t unheard =
    (awaits (known_at_end t) ≡ false) × ((0 < length (known_at_end t).waiting) × ((read t).bad ≡ false))
-- an attempt keeps no rows, so it has no limit of rows
AttemptStops (Err break.TooManyRows) t unheard = ⊥

-- The bytes of the offer were written, and those of the requests that went out: all that were accepted, unless the last part is incomplete. They
-- are what the client put out. The bytes that the client took and those that it didn't are all that the source gave meanwhile. It took all, up to
-- its end, unless memory ran out or there are more rows than the limit.
pub record IsAttempt (a : AskedView) (conn : ℕ) (from to : Streams) (broken : Result (Unit {0}) Break) (m : Made) : Type 0 where
  pub sent : IsSent a conn broken m
  pub seen : IsSeen broken to.health
  pub written : IsWritten from.written to.written to.health.write_failed
      (put_out a.wish (read m.attempt).version (gone sent.before sent.last sent.later))
  pub puts : (run_by a.wish sent.calls).run.out ≡ put_out a.wish (read m.attempt).version (gone sent.before sent.last sent.later)
  pub unheard : List ℕ
  pub took : Grows from.given to.given (m.attempt.took ++ unheard)
  pub ends : is_short broken ≡ false → (unheard ≡ []) ⊎ (has_ended m.attempt ≡ true)
  -- an open client doesn't accept the first request that is left, or the last exchange stopped
  pub stops : (IsRefused (stand_in (run_by a.wish sent.asked)) sent.later broken
      × ((stand_in (run_by a.wish sent.asked)).rest.knows.over ≡ false)) ⊎ AttemptStops broken m.attempt unheard

-- The exchange of the offer was broken off, or no version was agreed on.
pub record IsTurnedAway (a : AskedView) (from to : Streams) (broken : Result (Unit {0}) Break) : Type 0 where
  pub heard : Stand
  pub exchanged : Exchanges (place (at_first a.wish 0) from.given from.written) (place heard to.given to.written) broken
  pub seen : IsSeen broken to.health
  pub ends : broken ≡ Ok tt → heard.rest.knows.over ≡ true

-- The exchange of the offer led to a version, and the client hasn't ended.
pub record IsAgreed (a : AskedView) (from to : Streams) : Type 0 where
  pub heard : Stand
  pub exchanged : Exchanges (place (at_first a.wish 0) from.given from.written) (place heard to.given to.written) (Ok tt)
  pub is_open : heard.rest.knows.over ≡ false

-- Memory ran out before the first request: for the client, and nothing was moved; or for the requests, after a
-- version was agreed on.
abbrev pub IsShort : AskedView → Streams → Streams → Type 0
IsShort a from to = ((to.given ≡ from.given) × (to.written ≡ from.written)) ⊎ IsAgreed a from to

-- Why no request was submitted: memory ran out; or the exchange of the offer allowed none.
abbrev pub NoneAsked : AskedView → Streams → Streams → Result (Unit {0}) Break → Type 0
NoneAsked a from to broken =
    ((broken ≡ Err break.Memory) × IsShort a from to) ⊎ IsTurnedAway a from to broken

-- An attempt was made; or none was, for this reason.
abbrev pub Attempts : AskedView → ℕ → Streams → Streams → Result (Unit {0}) Break → Option Made → Type 0
Attempts a conn from to broken None = NoneAsked a from to broken
Attempts a conn from to broken (Some m) = IsAttempt a conn from to broken m

-- Such calls were made of its client, whatever number its connection has, and this is what the attempt says. broken: why its last exchange was
-- broken off, or that memory ran out.
abbrev pub TellsOf : AskedView → Streams → Streams → Tells → Result (Unit {0}) Break → Type 0
TellsOf a from to told broken =
    (c : Option Calls) × (tells_at a.wish c ≡ told)
    × ((conn : ℕ) → Attempts a conn from to broken (made_at a.wish conn c))
