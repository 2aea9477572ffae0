-- The state of a tracking client, and how calls change it.
use Rattle.std.specs.Prelude.{◌≡◌, ℕ, Bool, true, false, ◌||◌, if◌then◌else◌, List, ◌++◌, length}
use Rattle.messages.specs.View.{RequestView}
use Rattle.client.specs.Rest.{Rest, losses, after_drop, taken_out}
use Rattle.client.specs.Moments.{used_of}
use Rattle.client_tracking.specs.declared.tracking.TrackingClient.{TrackingClient}
use Rattle.client_tracking.specs.Account.{Account, with_losses}
use Rattle.client_tracking.specs.Feeding.{is_full, tracked_feed}
use Rattle.client_tracking.specs.Holding.{rest_in, account_of}
use Rattle.client_tracking.specs.Runs.{TrackedCall, TrackedRun, tracked_calls}

-- the state of its client, and its account
pub record Stand : Type 0 where
  pub rest : Rest
  pub account : Account

abbrev pub stand_of : TrackingClient → Stand
stand_of t = record { rest = rest_in t; account = account_of t }

-- the state after a run of calls
abbrev pub stand_in : TrackedRun → Stand
stand_in x = record { rest = x.run.rest; account = x.account }

-- A run has led to this state. Since then it accepted these requests, took these bytes and put out these bytes; lost: and the client was lost.
pub record GoesOn (x y : TrackedRun) (to : Stand) (asked : List RequestView) (bytes out : List ℕ)
    (lost : Bool) : Type 0 where
  pub stands : stand_in y ≡ to
  pub sent : y.run.sent ≡ x.run.sent ++ asked
  pub took : y.run.took ≡ x.run.took ++ bytes
  pub put : y.run.out ≡ x.run.out ++ out
  pub lose : y.run.lost ≡ (x.run.lost || lost)

-- Calls lead from one state to another: each run in the first goes on so.
abbrev pub Leads : Stand → List TrackedCall → Stand → List RequestView → List ℕ → List ℕ → Bool → Type 0
Leads from cs to asked bytes out lost =
    (x : TrackedRun) → stand_in x ≡ from → GoesOn x (tracked_calls x cs) to asked bytes out lost

-- Calls lead from a state to one in which the client has ended and isn't lost, with these requests, bytes taken and bytes put out.
abbrev pub EndsBy : Stand → List RequestView → List ℕ → List ℕ → Type 0
EndsBy from asked bytes out =
    (cs : List TrackedCall) × (to : Stand) × Leads from cs to asked bytes out false × (to.rest.knows.over ≡ true)

-- how many bytes of a piece are taken: none if rows have to be taken first
abbrev pub heard_count : Stand → List ℕ → ℕ
heard_count s piece = if is_full s.rest.knows s.account then 0 else used_of s.rest piece

-- after a piece
abbrev pub heard_stand : Stand → List ℕ → Stand
heard_stand s piece = record {
  rest = (tracked_feed s.rest s.account piece).rest;
  account = (tracked_feed s.rest s.account piece).account;
}

-- after the client is lost
abbrev pub lost_stand : Stand → Stand
lost_stand s = record {
  rest = after_drop s.rest;
  account = with_losses s.account (losses s.rest.knows);
}

-- after so many bytes are taken out
abbrev pub taken_stand : Stand → ℕ → Stand
taken_stand s max = record s { rest = taken_out s.rest max }

-- after all pending bytes are taken out
abbrev pub emptied_stand : Stand → Stand
emptied_stand s = taken_stand s (length s.rest.unsent)

-- The state of a connection: its client, its account, and the histories of its streams, which are all bytes that were read and all that were written.
pub record Place : Type 0 where
  pub stand : Stand
  pub given : List ℕ
  pub written : List ℕ

abbrev pub place : Stand → List ℕ → List ℕ → Place
place s given written = record { stand = s; given = given; written = written }

-- The health of the streams of a connection: whether the last read reached the end, whether the source has failed, and whether the sink has.
pub record Health : Type 0 where
  pub ended : Bool
  pub read_failed : Bool
  pub write_failed : Bool

abbrev pub health : Bool → Bool → Bool → Health
health ended read_failed write_failed = record { ended = ended; read_failed = read_failed; write_failed = write_failed }
