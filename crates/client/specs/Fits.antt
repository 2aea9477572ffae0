-- What a client holds, as the rest of a run.
use Rattle.std.specs.Prelude.{◌≡◌, ℕ, map, Option, Some, None, Result, Ok, Err}
use Rattle.packstream.specs.Writing.{whole}
use Rattle.wire.specs.declared.Version.{Version}
use Rattle.messages.specs.View.{RequestView, request_view}
use Rattle.messages.specs.Arrivals.{IsWritten}
use Rattle.client.specs.declared.pipeline.Pipeline.{Pipeline}
use Rattle.client.specs.declared.client.Client.{Client}
use Rattle.client.specs.declared.faults.ClientFault.{ClientFault}
use Rattle.client.specs.declared.faults.ClientFault.TheVariants as client_fault
use Rattle.client.specs.Held.{item_of}
use Rattle.client.specs.Rest.{Knows, Rest, refuses, next_ordinal}

-- what the fields of a pipeline say
abbrev pub knowledge_of : Pipeline → Knows
knowledge_of p = record {
  version = p.version;
  over = p.over;
  first = p.first;
  phase = p.phase;
  waiting = map request_view p.waiting.items;
}

-- what a client holds
abbrev pub rest_of : Client → Rest
rest_of c = record {
  wish = c.wish;
  knows = knowledge_of c.pipeline;
  item = item_of c.stream;
  unsent = whole c.out;
}

-- For the crates above that still speak of every rest: the client's rest is this one.
abbrev pub Fits : Client → Rest → Type 0
Fits c r = rest_of c ≡ r

-- The request has a spelling at this version that stands for it.
abbrev pub IsWrittenBy : Option Version → RequestView → Type 0
IsWrittenBy None q = ⊥
IsWrittenBy (Some v) q = IsWritten v q

-- The request is accepted with this ordinal, and it has a spelling that stands for it.
pub record IsAccepted (r : Rest) (q : RequestView) (ordinal : ℕ) : Type 0 where
  pub allowed : refuses r.knows q ≡ None
  pub next : ordinal ≡ next_ordinal r
  pub written : IsWrittenBy r.knows.version q

-- what holds unless memory ran out
abbrev pub UnlessMemory : {A : Type 0} → Result A ClientFault → Type 0 → Type 0
UnlessMemory (Ok x) p = p
UnlessMemory (Err client_fault.Memory) p = Unit {0}
UnlessMemory (Err e) p = p
