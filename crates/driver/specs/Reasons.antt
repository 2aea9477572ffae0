-- Why an exchange stopped: what each reason says of the client and of the bytes that were read.
use Rattle.std.specs.Prelude.{◌≡◌, ◌⊎◌, ◌<◌, ℕ, true, false, Result, Ok, Err, is_ok, List, [], ◌∷◌, ◌++◌, length, map, take}
use Rattle.wire.specs.Framing.{Opened}
use Rattle.messages.specs.View.{RequestView}
use Rattle.client.specs.Rest.{Knows, awaits}
use Rattle.client.specs.Held.{WantsRoom}
use Rattle.client_tracking.specs.declared.faults.FeedFault.TheVariants as feed_fault
use Rattle.client_tracking.specs.Feeding.{is_full, tracked_feed}
use Rattle.client_tracking.specs.Runs.{TrackedCall, Hears as HearsPiece}
use Rattle.driver.specs.declared.breaks.Break.{Break}
use Rattle.driver.specs.declared.breaks.Break.TheVariants as break
use Rattle.driver.specs.Stands.{Stand, Leads, heard_count, heard_stand}

-- Pieces were fed, and the client took these bytes of them.
pub record Hears (from to : Stand) (bytes : List ℕ) : Type 0 where
  pub pieces : List (List ℕ)
  pub leads : Leads from (map HearsPiece pieces) to [] bytes [] false

-- the client refuses none of these pieces, and this is its state after them
abbrev pub Accepted : Stand → List (List ℕ) → Stand → Type 0
Accepted from [] to = to ≡ from
Accepted from (piece ∷ pieces) to =
    (is_ok (tracked_feed from.rest from.account piece).answer ≡ true) × Accepted (heard_stand from piece) pieces to

-- Pieces were fed, and the client took these bytes of them. It refused none of them.
pub record Accepts (from to : Stand) (bytes : List ℕ) : Type 0 where
  pub hears : Hears from to bytes
  pub accepted : Accepted from hears.pieces to

-- The client needs memory to take these bytes: it hasn't ended, and a request is pending or the bytes are of a message.
pub record NeedsMemory (k : Knows) (item : Opened) (bytes : List ℕ) : Type 0 where
  pub some : 0 < length bytes
  pub is_open : k.over ≡ false
  pub room : (0 < length k.waiting) ⊎ WantsRoom item bytes

-- The client refuses a message of the server, and the bytes that it took end with this message.
pub record IsBadAnswer (from to : Stand) (bytes : List ℕ) : Type 0 where
  -- the client before the piece in which the message ends, and the bytes that it had taken by then
  pub before : Stand
  pub earlier : List ℕ
  pub accepts : Accepts from before earlier
  pub piece : List ℕ
  pub refused : (tracked_feed before.rest before.account piece).answer ≡ Err feed_fault.BadPeer
  pub after : to ≡ heard_stand before piece
  pub parts : bytes ≡ earlier ++ take (heard_count before piece) piece

-- why the client didn't take all of a piece; without such a reason it refused nothing
abbrev pub WhyUnfed : Result (Unit {0}) Break → Stand → Stand → List ℕ → List ℕ → Type 0
WhyUnfed (Err break.Memory) from to heard unheard =
    Accepts from to heard × ((is_full to.rest.knows to.account ≡ false) × NeedsMemory to.rest.knows to.rest.item unheard)
WhyUnfed (Err break.BadAnswer) from to heard unheard = IsBadAnswer from to heard
WhyUnfed (Err break.TooManyRows) from to heard unheard =
    Accepts from to heard × ((is_full to.rest.knows to.account ≡ true) × (0 < length unheard))
WhyUnfed result from to heard unheard = Accepts from to heard

-- The client's state when the reading stops, by the reported reason.
abbrev pub Ends : Result (Unit {0}) Break → Stand → Type 0
-- all was answered: no answer is awaited, and no request is pending
Ends (Ok u) to = (awaits to.rest.knows ≡ false) × (to.rest.knows.waiting ≡ [])
-- an answer is awaited
Ends (Err break.ReadFailed) to = awaits to.rest.knows ≡ true
Ends (Err break.AtEnd) to = awaits to.rest.knows ≡ true
-- a request is pending, but no answer is awaited: the client has ended, or the request is GOODBYE
Ends (Err break.Ended) to = (awaits to.rest.knows ≡ false) × (0 < length to.rest.knows.waiting)
Ends result to = Unit {0}

-- Why an exchange stopped. from, to: the client when it began to read, and when it stopped.
-- heard: the bytes that it took meanwhile. unheard: the bytes that were read and that it didn't take.
abbrev pub Stops : Result (Unit {0}) Break → Stand → Stand → List ℕ → List ℕ → Type 0
-- all was answered: no answer is awaited, and no request is pending; no message was bad
Stops (Ok u) from to heard unheard = Ends (Ok u) to × Accepts from to heard
-- an answer is awaited, and the client took all bytes; the contract says of the source that it failed
Stops (Err break.ReadFailed) from to heard unheard = Ends (Err break.ReadFailed) to × (Accepts from to heard × (unheard ≡ []))
-- nothing was read; the contract says of the sink that it failed
Stops (Err break.WriteFailed) from to heard unheard = (to ≡ from) × ((heard ≡ []) × (unheard ≡ []))
-- bytes are left for which the client needs memory
Stops (Err break.Memory) from to heard unheard = WhyUnfed (Err break.Memory) from to heard unheard
-- the bytes end with a message that the client refuses
Stops (Err break.BadAnswer) from to heard unheard = IsBadAnswer from to heard
-- an answer is awaited, and the client took all bytes; the contract says of the source that it reached its end
Stops (Err break.AtEnd) from to heard unheard = Ends (Err break.AtEnd) to × (Accepts from to heard × (unheard ≡ []))
-- a request is pending, but no answer is awaited: the client has ended, or the request is GOODBYE; no message was bad
Stops (Err break.Ended) from to heard unheard = Ends (Err break.Ended) to × Accepts from to heard
-- the account holds as many rows as the limit allows, and more bytes came
Stops (Err break.TooManyRows) from to heard unheard = WhyUnfed (Err break.TooManyRows) from to heard unheard

-- The last of several exchanges stopped for this reason. asked, heard, out: since `from`, the requests, the bytes that
-- the client took and those that it put out. unheard: the bytes that were read and that it didn't take.
pub record StopsBy (from : Stand) (asked : List RequestView) (heard out unheard : List ℕ) (broken : Result (Unit {0}) Break) : Type 0 where
  -- the client when the last exchange began to read, and the calls that lead there
  pub start : Stand
  pub calls : List TrackedCall
  pub earlier : List ℕ
  pub leads : Leads from calls start asked earlier out false
  pub is_open : start.rest.knows.over ≡ false
  -- the client when it stopped, and the bytes that it took in the last exchange
  pub at : Stand
  pub last : List ℕ
  pub hears : Hears start at last
  pub parts : heard ≡ earlier ++ last
  pub stops : Stops broken start at last unheard
