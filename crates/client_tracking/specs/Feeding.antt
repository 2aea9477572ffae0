-- What a piece makes of a client and of the account of what it told.
use Rattle.std.specs.Prelude.{ℕ, Bool, not, ◌&&◌, ◌==◌, if◌then◌else◌, nat_lt, nat_le, Result, Ok, Err, List, length}
use Rattle.client.specs.declared.ClientFault.{ClientFault}
use Rattle.client.specs.declared.ClientFault.TheVariants as client_fault
use Rattle.client.specs.Rest.{Knows, Rest, Note, feed_of}
use Rattle.client_tracking.specs.declared.faults.FeedFault.{FeedFault}
use Rattle.client_tracking.specs.declared.faults.FeedFault.TheVariants as feed_fault
use Rattle.client_tracking.specs.Account.{Account, with_note}

-- the client's fault
abbrev pub fault_of : ClientFault → FeedFault
fault_of client_fault.Closed = feed_fault.Closed
fault_of client_fault.Memory = feed_fault.Memory
fault_of client_fault.BadPeer = feed_fault.BadPeer

-- no request waits
abbrev pub is_idle : Knows → Bool
is_idle k = length k.waiting == 0

-- As many rows are held of the request that waits as may be, and no other waits behind it: whoever calls can take some and go on. With
-- others behind it their answers would wait for that, so rows past the limit are counted then.
abbrev pub is_full : Knows → Account → Bool
is_full k a =
    not k.over && (length k.waiting == 1
    && (a.left == 0 && (nat_lt 0 (length a.rows) && nat_le a.limit (length a.rows))))

-- the client, the account and the answer
pub record Tracked : Type 0 where
  pub rest : Rest
  pub account : Account
  pub answer : Result ℕ FeedFault

-- what the client answers, as a number of bytes used
abbrev pub used_by : Result (ℕ × Note) ClientFault → Result ℕ FeedFault
used_by (Ok used) = Ok used.0
used_by (Err fault) = Err (fault_of fault)

-- the account with what it tells; a refusal tells nothing
abbrev pub with_answer : Account → Result (ℕ × Note) ClientFault → Account
with_answer a (Ok used) = with_note a used.1
with_answer a (Err fault) = a

-- a piece is the client's, and what it tells is in the account; where rows have to be taken first, nothing has changed
abbrev pub tracked_feed : Rest → Account → List ℕ → Tracked
tracked_feed r a piece =
    if is_full r.knows a then record { rest = r; account = a; answer = Err feed_fault.Full }
    else record {
      rest = (feed_of r piece).rest;
      account = with_answer a (feed_of r piece).answer;
      answer = used_by (feed_of r piece).answer;
    }

-- what holds unless memory ran out
abbrev pub UnlessMemory : Result ℕ FeedFault → Type 0 → Type 0
UnlessMemory (Ok used) p = p
UnlessMemory (Err feed_fault.Memory) p = Unit {0}
UnlessMemory (Err e) p = p
