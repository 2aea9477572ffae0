-- What the calls of a handle tell, by what the driver's client that it holds tells.
use Rattle.std.specs.Prelude.{◌≡◌, ℕ, true, false, if◌then◌else◌, Option, Some, None, is_some, option_map, Result, Ok, Err, IfOk, IfErr, OnErr, IsErrOf, IsOk, List, ◌++◌, length, take, drop, min, slice_get}
use Rattle.packstream.specs.Tree.{Tree}
use Rattle.wire.specs.declared.Version.{Version}
use Rattle.messages.specs.declared.fault.MsgFault.{MsgFault}
use Rattle.messages.specs.View.{RequestView, request_view, ResponseView, Record}
use Rattle.messages.specs.declared.request.Request.{Request}
use Rattle.messages.specs.Messages.{request_of}
use Rattle.messages.specs.Writing.{response_spelling}
use Rattle.client.specs.declared.faults.SubmitFault.{SubmitFault}
use Rattle.client.specs.declared.faults.SubmitFault.TheVariants as submit_fault
use Rattle.client.specs.Rest.{Rest, Knows, refuses, after_submit}
use Rattle.client.specs.Fits.{IsAccepted}
use Rattle.client_tracking.specs.Account.{Account}
use Rattle.client_tracking.specs.Holding.{rest_in, account_of}
use Rattle.bolt_c.specs.declared.answers.Refusal.{Refusal}
use Rattle.bolt_c.specs.declared.answers.Refusal.TheVariants as refusal
use Rattle.bolt_c.specs.declared.answers.MessageFault.{MessageFault}
use Rattle.bolt_c.specs.declared.answers.MessageFault.TheVariants as message_fault
use Rattle.bolt_c.specs.declared.held.Held.{Held}

-- As many bytes as there is room for went into a buffer, from its first place on; the rest of it is as it was.
abbrev pub Writes : List ℕ → List ℕ → List ℕ → Type 0
Writes bytes old new =
    new ≡ take (min (length bytes) (length old)) bytes
    ++ drop (min (length bytes) (length old)) old

-- the client's refusal
abbrev pub refusal_of : SubmitFault → Refusal
refusal_of submit_fault.NotAllowed = refusal.NotAllowed
refusal_of submit_fault.PipelineFull = refusal.PipelineFull
refusal_of submit_fault.Size = refusal.Size
refusal_of submit_fault.Closed = refusal.Closed
refusal_of submit_fault.Memory = refusal.Memory
refusal_of (submit_fault.Unwritable u) = refusal.Unwritable u

-- the request that the bytes of a message stand for, or why they stand for none
abbrev pub asked_by : Result RequestView MsgFault → Result RequestView Refusal
asked_by (Ok q) = Ok q
asked_by (Err e) = Err (refusal.NoRequest e)

-- that request at the version that is known; before one is known nothing is allowed
abbrev pub asked : Option Version → List ℕ → Result RequestView Refusal
asked None bytes = Err refusal.NotAllowed
asked (Some v) bytes = asked_by (request_of v bytes)

-- What was read is the request that the bytes stand for, or why there is none; unless memory ran out.
abbrev pub Asks : Result RequestView Refusal → Result Request Refusal → Type 0
Asks a (Ok q) = a ≡ Ok (request_view q)
Asks a (Err e) = (e ≡ refusal.Memory → ⊥) → a ≡ Err e

-- the first reason for which the bytes of a request aren't taken, want of memory aside
abbrev pub refuses_bytes : Knows → Result RequestView Refusal → Option Refusal
refuses_bytes k (Ok q) = option_map refusal_of (refuses k q)
refuses_bytes k (Err e) = if k.over then Some refusal.Closed else Some e

-- the request that the bytes stand for is accepted with this ordinal, and the client stands at the rest after it
abbrev pub Accepts : Rest → ℕ → Rest → Result RequestView Refusal → Type 0
Accepts r n after (Ok q) = IsAccepted r q n × (after ≡ after_submit r q)
Accepts r n after (Err e) = ⊥

-- where the client of a handle stands, and the account of its requests
abbrev pub held_rest : Held → Rest
held_rest h = rest_in h.tracking

abbrev pub held_account : Held → Account
held_account h = account_of h.tracking

-- the request of the bytes of a message was asked, or not
pub record TakesRequest (old : Held) (bytes : List ℕ) (result : Result ℕ Refusal) (new : Held)
    : Type 0 where
  pub ok : IfOk result (λ n. Accepts (held_rest old) n (held_rest new)
      (asked (held_rest old).knows.version bytes))
  pub err : OnErr result (held_rest new ≡ held_rest old)
  pub fault : IfErr result (λ e. (e ≡ refusal.Memory → ⊥)
      → refuses_bytes (held_rest old).knows (asked (held_rest old).knows.version bytes) ≡ Some e)
  pub memory : IsErrOf result refusal.Memory
      → ((held_rest old).knows.over ≡ false) × (is_some (held_rest old).knows.version ≡ true)
  pub account : held_account new ≡ held_account old

-- why a text isn't written
abbrev pub message_fault_of : Result (List ℕ) MsgFault → Result (List ℕ) MessageFault
message_fault_of (Ok text) = Ok text
message_fault_of (Err e) = Err message_fault.Unwritable

-- the bytes of a row or summary at the version that is known
abbrev pub message_of : Option Version → Option ResponseView → Result (List ℕ) MessageFault
message_of (Some v) (Some a) = message_fault_of (response_spelling v a)
message_of o a = Err message_fault.NotHeard

-- the message of the row at an index, from 0
abbrev pub row_at : List (List Tree) → ℕ → Option ResponseView
row_at rows index = option_map Record (slice_get rows index)

-- The bytes were told, as many as there is room for, with how many there are; or why they weren't.
abbrev pub Tells : Result (List ℕ) MessageFault → List ℕ → Result ℕ MessageFault → List ℕ → Type 0
Tells text old (Ok n) new = IfOk text (λ b. (n ≡ length b) × Writes b old new) × IsOk text
Tells text old (Err e) new = (new ≡ old) × ((e ≡ message_fault.Memory → ⊥) → text ≡ Err e)
