-- A test that passes at each of finitely many places passes at all.
use Rattle.std.proofs.Common.{◌≡◌, refl, Bool, true, false, List, [], ◌∷◌, not, sym, arith}
use Rattle.std.specs.List.{list_all}
use Rattle.wire.specs.declared.Version.{Version}
use Rattle.wire.specs.Prelude.{versions}
use Rattle.machine.specs.declared.states.State.{State}
use Rattle.machine.specs.declared.states.Phase.{Phase}
use Rattle.machine.specs.declared.kinds.Kind.{Kind}
use Rattle.machine.specs.declared.rows.Verdict.{Verdict}
use Rattle.machine.specs.Prelude.{same_phase, every_phase, every_state}
pub use Rattle.machine.specs.Members.{same_phase-true}

abbrev pub every_bool : List Bool
every_bool = true ∷ false ∷ []

abbrev pub every_kind : List Kind
every_kind = Kind.Hello ∷ Kind.Logon ∷ Kind.Logoff ∷ Kind.Goodbye ∷ Kind.Reset ∷ Kind.Run ∷ Kind.Begin ∷ Kind.Commit ∷ Kind.Rollback ∷ Kind.Discard ∷ Kind.Pull ∷ []

abbrev pub every_verdict : List Verdict
every_verdict = Verdict.Success ∷ Verdict.More ∷ Verdict.Failure ∷ Verdict.Ignored ∷ Verdict.Invalid ∷ Verdict.Gone ∷ []

pub at_version : (t : Version → Bool) → list_all t versions ≡ true → (v : Version) → t v ≡ true
at_version t h Version.V51 = grind arith
at_version t h _ = grind arith

pub at_bool : (t : Bool → Bool) → list_all t every_bool ≡ true → (b : Bool) → t b ≡ true
at_bool t h true = grind arith
at_bool t h _ = grind arith

pub at_state : (t : State → Bool) → list_all t every_state ≡ true → (s : State) → t s ≡ true
at_state t h State.Fresh = grind arith
at_state t h _ = grind arith

pub at_phase : (t : Phase → Bool) → list_all t every_phase ≡ true → (p : Phase) → t p ≡ true
at_phase t h Phase.Fresh = grind arith
at_phase t h _ = grind arith

pub at_kind : (t : Kind → Bool) → list_all t every_kind ≡ true → (k : Kind) → t k ≡ true
at_kind t h Kind.Hello = grind arith
at_kind t h _ = grind arith

pub at_verdict : (t : Verdict → Bool) → list_all t every_verdict ≡ true → (d : Verdict) → t d ≡ true
at_verdict t h Verdict.Success = grind arith
at_verdict t h _ = grind arith

-- at each version, state and kind
pub at_rows : (t : Version → State → Kind → Bool)
    → list_all (λ v. list_all (λ s. list_all (λ k. t v s k) every_kind) every_state) versions ≡ true
    → (v : Version) (s : State) (k : Kind) → t v s k ≡ true
at_rows t h v s k =
    at_kind (λ k. t v s k) (at_state (λ s. list_all (λ k. t v s k) every_kind) (at_version (λ v. list_all (λ s. list_all (λ k. t v s k) every_kind) every_state) h v) s) k

-- at each version, phase, kind, count and phase
pub at_places : (t : Version → Phase → Kind → Bool → Phase → Bool)
    → list_all (λ v. list_all (λ p. list_all (λ k. list_all (λ b. list_all (λ x. t v p k b x) every_phase) every_bool) every_kind) every_phase) versions ≡ true
    → (v : Version) (p : Phase) (k : Kind) (b : Bool) (x : Phase) → t v p k b x ≡ true
at_places t h v p k b x =
    at_phase (λ x. t v p k b x)
    (at_bool (λ b. list_all (λ x. t v p k b x) every_phase)
    (at_kind (λ k. list_all (λ b. list_all (λ x. t v p k b x) every_phase) every_bool)
    (at_phase (λ p. list_all (λ k. list_all (λ b. list_all (λ x. t v p k b x) every_phase) every_bool) every_kind)
    (at_version (λ v. list_all (λ p. list_all (λ k. list_all (λ b. list_all (λ x. t v p k b x) every_phase) every_bool) every_kind) every_phase) h v) p) k) b) x

abbrev pub implies : Bool → Bool → Bool
implies true b = b
implies false b = true

pub implies_at : (a b : Bool) → implies a b ≡ true → a ≡ true → b ≡ true
implies_at true b h e = h
implies_at false b h e = cc

abbrev pub same_bool : Bool → Bool → Bool
same_bool true b = b
same_bool false b = not b

pub same_bool-true : (a b : Bool) → same_bool a b ≡ true → a ≡ b
same_bool-true true b h = sym h
same_bool-true false true h = cc
same_bool-true false false h = refl

pub same_phase-refl : (p : Phase) → same_phase p p ≡ true
same_phase-refl p = at_phase (λ p. same_phase p p) refl p
