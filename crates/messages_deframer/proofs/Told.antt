-- What is told of a message that was read, and where that takes memory.
use Rattle.std.proofs.Common.{◌≡◌, ℕ, Option, Some, None, Result, Ok, Err, OnErr}
use Rattle.packstream.specs.declared.fault.Reason.{Reason}
use Rattle.packstream.specs.declared.fault.PackFault.{PackFault}
use Rattle.packstream.specs.declared.fault.PackFault.TheVariants as pack
use Rattle.packstream_incremental.specs.Prelude.{Point, Finishes}
use Rattle.messages.specs.declared.fault.MsgFault.TheVariants as fault
use Rattle.messages.specs.Prelude.{of_pack}

pub err_holds : {X E : Type 0} (r : Result X E) (P : Type 0) → P → OnErr r P
err_holds (Ok x) P p = tt
err_holds (Err e) P p = p

-- what a reader tells that is bad: its fault, which isn't want of memory
pub bad_tells : {X : Type 0} (p : Point) (e : PackFault) (bad : Option (Reason × ℕ)) → p.bad ≡ bad → (p.bad ≡ None → ⊥) → ((r : Reason) (o : ℕ) → p.bad ≡ Some (r, o) → ◌≡◌ {A = Result X PackFault} (Err e) (Err (pack.Refused r o)))
    → Finishes p (Err e) × (of_pack e ≡ fault.Memory → ⊥)
bad_tells p e None is some told = absurd (some is)
bad_tells p pack.Memory (Some f) is some told = let t = told f.0 f.1 is in absurd cc
bad_tells p (pack.Refused r o) (Some f) is some told = (
  record { value = λ n. absurd (some n); bad = λ q k h. let t = told q k h in cc; fault = λ n. absurd (some n) },
  (λ w. absurd cc),
)
