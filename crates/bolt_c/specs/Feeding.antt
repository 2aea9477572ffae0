-- What a whole piece makes of a client and of the account of its requests.
use Rattle.std.specs.Prelude.{◌≡◌, ◌⊎◌, ◌≤◌, ◌<◌, ℕ, false, Option, Some, None, Ok, Err, List, [], ◌∷◌, length, drop}
use Rattle.client.specs.Held.{WantsRoom}
use Rattle.client.specs.Rest.{Rest}
use Rattle.client_tracking.specs.declared.faults.FeedFault.{FeedFault}
use Rattle.client_tracking.specs.declared.faults.FeedFault.TheVariants as feed_fault
use Rattle.client_tracking.specs.Account.{Account}
use Rattle.client_tracking.specs.Feeding.{is_full, tracked_feed}
use Rattle.client_tracking.specs.Holding.{rest_in, account_of}
use Rattle.bolt_c.specs.declared.held.Held.{Held}

-- where a client stands, and the account of its requests
pub record Stand : Type 0 where
  pub rest : Rest
  pub account : Account

-- where the client of a handle stands
abbrev pub stand_of : Held → Stand
stand_of h = record { rest = rest_in h.tracking; account = account_of h.tracking }

-- after one call of the driver's `feed`
abbrev pub fed : Stand → List ℕ → Stand
fed s bytes = record {
  rest = (tracked_feed s.rest s.account bytes).rest;
  account = (tracked_feed s.rest s.account bytes).account;
}

-- The driver's `feed` was called again and again, each time with all that was left of a piece. Each call answered Ok, and they used so many bytes
-- each. They led from one stand to another, and these bytes are left.
abbrev pub FedBy : List ℕ → Stand → List ℕ → Stand → List ℕ → Type 0
FedBy [] from piece to left = (to ≡ from) × (left ≡ piece)
FedBy (n ∷ ns) from piece to left =
    ((tracked_feed from.rest from.account piece).answer ≡ Ok n)
    × FedBy ns (fed from piece) (drop n piece) to left

-- Why no more of a piece was used: none is left, or the next call refuses what is left. Want of memory changes nothing, and comes in an open
-- client that isn't full, if a request waits or what is left wants room.
abbrev pub Stops : Stand → List ℕ → Option FeedFault → Stand → Type 0
Stops s left None to = (left ≡ []) × (to ≡ s)
Stops s left (Some feed_fault.Memory) to =
    (0 < length left) × (to ≡ s) × (s.rest.knows.over ≡ false) × (is_full s.rest.knows s.account ≡ false)
    × ((0 < length s.rest.knows.waiting) ⊎ WantsRoom s.rest.item left)
Stops s left (Some e) to =
    (0 < length left) × ((tracked_feed s.rest s.account left).answer ≡ Err e) × (to ≡ fed s left)

-- A piece was fed: so many bytes of it were used by calls of the driver's `feed`, and this is why no more.
pub record FeedsAll (from : Stand) (piece : List ℕ) (used : ℕ) (stop : Option FeedFault) (to : Stand)
    : Type 0 where
  pub counts : List ℕ
  pub before : Stand
  pub calls : FedBy counts from piece before (drop used piece)
  pub within : used ≤ length piece
  pub stops : Stops before (drop used piece) stop to
