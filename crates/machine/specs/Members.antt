-- A set of phases as it is kept, a flag for each. Private functions and proofs alone need it.
use Rattle.std.specs.Prelude.{◌≡◌, refl, Bool, true, ◌&&◌, List}
use Rattle.std.proofs.Common.{sym, ap, ◌∙◌, true≢false}
use Rattle.std.proofs.Math.Bool.{and-true}
use Rattle.std.proofs.lemmas.Map.Views.{any-filter_same}
use Rattle.machine.specs.declared.states.Phase.{Phase}
use Rattle.machine.specs.declared.phase_set.PhaseSet.TheInside.{Inside}
use Rattle.machine.specs.States.{same_phase}
use Rattle.machine.specs.Following.{has, set_of, every_phase}

-- the flag of a phase
abbrev pub holds : Inside → Phase → Bool
holds a Phase.Fresh = a.fresh
holds a Phase.Unauth = a.unauth
holds a Phase.Ready = a.ready
holds a Phase.Streaming = a.streaming
holds a Phase.TxReady = a.tx_ready
holds a Phase.TxStreaming = a.tx_streaming
holds a Phase.Halted = a.halted
holds a Phase.Defunct = a.defunct

-- the phases whose flags are set, in the order of `every_phase`
abbrev pub members : Inside → List Phase
members a = set_of (holds a)

-- the flags of a list of phases: those are set that the list has
abbrev pub fields : List Phase → Inside
fields ps =
    record {
      fresh = has Phase.Fresh ps;
      unauth = has Phase.Unauth ps;
      ready = has Phase.Ready ps;
      streaming = has Phase.Streaming ps;
      tx_ready = has Phase.TxReady ps;
      tx_streaming = has Phase.TxStreaming ps;
      halted = has Phase.Halted ps;
      defunct = has Phase.Defunct ps;
    }

-- phases that pass the test are one
pub same_phase-true : (p q : Phase) → same_phase p q ≡ true → p ≡ q
same_phase-true Phase.Fresh Phase.Fresh h = refl
same_phase-true Phase.Unauth Phase.Unauth h = refl
same_phase-true Phase.Ready Phase.Ready h = refl
same_phase-true Phase.Streaming Phase.Streaming h = refl
same_phase-true Phase.TxReady Phase.TxReady h = refl
same_phase-true Phase.TxStreaming Phase.TxStreaming h = refl
same_phase-true Phase.Halted Phase.Halted h = refl
same_phase-true Phase.Defunct Phase.Defunct h = refl
same_phase-true _ _ h = absurd (true≢false (sym h))

has-every_phase : (p : Phase) → has p every_phase ≡ true
has-every_phase Phase.Fresh = refl
has-every_phase Phase.Unauth = refl
has-every_phase Phase.Ready = refl
has-every_phase Phase.Streaming = refl
has-every_phase Phase.TxReady = refl
has-every_phase Phase.TxStreaming = refl
has-every_phase Phase.Halted = refl
has-every_phase Phase.Defunct = refl

-- a phase is in the set of a test where the test holds
pub has-set_of : (t : Phase → Bool) (p : Phase) → has p (set_of t) ≡ t p
has-set_of t p =
    any-filter_same (same_phase p) t (t p) (λ q e. ap t (sym (same_phase-true p q e))) every_phase
    ∙ ap (λ b. t p && b) (has-every_phase p)
    ∙ and-true (t p)

-- what is kept is what its members say
pub fields-members : (a : Inside) → fields (members a) ≡ a
fields-members a =
    λ i. record {
      fresh = has-set_of (holds a) Phase.Fresh i;
      unauth = has-set_of (holds a) Phase.Unauth i;
      ready = has-set_of (holds a) Phase.Ready i;
      streaming = has-set_of (holds a) Phase.Streaming i;
      tx_ready = has-set_of (holds a) Phase.TxReady i;
      tx_streaming = has-set_of (holds a) Phase.TxStreaming i;
      halted = has-set_of (holds a) Phase.Halted i;
      defunct = has-set_of (holds a) Phase.Defunct i;
    }
