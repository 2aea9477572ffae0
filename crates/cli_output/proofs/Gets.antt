-- What standard error gets, one text after the other, what is printed of a text, and why a program stops.
pub use Rattle.std.proofs.Common.{◌≡◌, refl, sym, subst, ap, ◌∙◌, ℕ, ◌+◌, Bool, List, [], ◌∷◌, ◌++◌, Option, append_assoc, append-nil, take, drop, arith}
pub use Rattle.std.proofs.KnownBytes.{Appends-nil, Appends-trans}
pub use Rattle.std.proofs.lemmas.List.{map-append, take_more}
pub use Rattle.std.proofs.lemmas.Grind.{common_steps, flat_map-append}
pub use Rattle.engine.specs.Prelude.{entries_view}
pub use Rattle.streams.proofs.Fronts.{front_after}
pub use Rattle.streams.specs.Prelude.{AppendsFront}
use Rattle.streams.specs.declared.fault.StreamFault.{StreamFault}
use Rattle.cli_output.specs.declared.stop.StopReason.{StopReason}
pub use Rattle.cli_output.specs.Prelude.{Gets, IsStopOf, entries_text}

pub gets_none : (d : Bool) (a : Option (List ℕ)) → Gets d d a a []
gets_none d a e = (e, Appends-nil a)

pub gets_then : (d1 d2 d3 : Bool) (a b c : Option (List ℕ)) (xs ys : List ℕ) → Gets d1 d2 a b xs → Gets d2 d3 b c ys → Gets d1 d3 a c (xs ++ ys)
gets_then d1 d2 d3 a b c xs ys h k e = let second = k e in let first = h second.0 in (first.0, Appends-trans a b c xs ys first.1 second.1)

-- a beginning of a text begins what has more behind it
pub front_in : (a b : Option (List ℕ)) (xs ys : List ℕ) → AppendsFront a b xs → AppendsFront a b (xs ++ ys)
front_in a b xs ys h = (h.0, h.1 ++ ys, sym (append_assoc h.0 h.1 ys) ∙ ap (λ z. z ++ ys) h.2, h.3)

pub cause_of : (fault : StreamFault) (A B : Type 0) → (fault ≡ StreamFault.ReadFailed → A) → (fault ≡ StreamFault.WriteFailed → B) → IsStopOf (StopReason.Broken fault) A B
cause_of StreamFault.ReadFailed A B a b = a refl
cause_of StreamFault.WriteFailed A B a b = b refl
cause_of StreamFault.Memory A B a b = tt
