-- What is gathered phase by phase is what a set gives as a whole.
use Rattle.std.proofs.Common.{◌≡◌, refl, sym, ap, subst, ◌∙◌, Bool, true, false, not, ◌||◌, ◌&&◌, true≢false, List, [], ◌∷◌, ◌⊎◌, inl, inr, ⊎_elim}
use Rattle.std.specs.List.{list_any, list_all}
use Rattle.std.proofs.lemmas.Bool.{and_parts, or_cases, or_left, or_right, and_from}
use Rattle.std.proofs.Math.Bool.{and-false}
use Rattle.wire.specs.declared.Version.{Version}
use Rattle.machine.specs.declared.states.Phase.{Phase}
use Rattle.machine.specs.declared.kinds.Kind.{Kind}
use Rattle.machine.specs.declared.phase_set.PhaseSet.TheInside.{Inside}
use Rattle.machine.specs.Prelude.{same_phase, has, set_of, union, every_phase, is_defunct, allows, allowed_in, holds, members, has-set_of}
use Rattle.machine.proofs.Tables.{same_phase-true, same_phase-refl, at_phase, implies, implies_at}
use Rattle.machine.proofs.Sets.{set_of-agree, has-members}

-- two tests that hold together are one
pub same_truth : (a b : Bool) → (a ≡ true → b ≡ true) → (b ≡ true → a ≡ true) → a ≡ b
same_truth true b f g = sym (f refl)
same_truth false true f g = g refl
same_truth false false f g = refl

pub any_has : (t : Phase → Bool) (ps : List Phase) → list_any t ps ≡ true → (p : Phase) × (has p ps ≡ true) × (t p ≡ true)
any_has t [] h = cc
any_has t (p ∷ ps) h =
    ⊎_elim (λ e. (p, or_left (same_phase p p) _ (same_phase-refl p), e))
    (λ e. let r = any_has t ps e in (r.0, or_right (same_phase r.0 p) _ r.1, r.2))
    (or_cases (t p) (list_any t ps) h)

pub has_any : (t : Phase → Bool) (ps : List Phase) (p : Phase) → has p ps ≡ true → t p ≡ true → list_any t ps ≡ true
has_any t [] p h e = cc
has_any t (q ∷ ps) p h e =
    ⊎_elim (λ s. or_left (t q) _ (subst (λ r. t r ≡ true) (same_phase-true p q s) e)) (λ s. or_right (t q) _ (has_any t ps p s e)) (or_cases (same_phase p q) (has p ps) h)

pub all_has : (t : Phase → Bool) (ps : List Phase) (p : Phase) → list_all t ps ≡ true → has p ps ≡ true → t p ≡ true
all_has t [] p h e = cc
all_has t (q ∷ ps) p h e =
    let r = and_parts (t q) (list_all t ps) h in
    ⊎_elim (λ s. subst (λ x. t x ≡ true) (sym (same_phase-true p q s)) r.0) (λ s. all_has t ps p r.1 s) (or_cases (same_phase p q) (has p ps) e)

pub has_all : (t : Phase → Bool) (ps : List Phase) → ((p : Phase) → has p ps ≡ true → t p ≡ true) → list_all t ps ≡ true
has_all t [] h = refl
has_all t (p ∷ ps) h =
    and_from (t p) (list_all t ps) (h p (or_left (same_phase p p) _ (same_phase-refl p))) (has_all t ps (λ q e. h q (or_right (same_phase q p) _ e)))

-- a member of a set that passes, as one of all phases
pub any-members : (t : Phase → Bool) (ps : List Phase) → list_any (λ p. has p ps && t p) every_phase ≡ list_any t ps
any-members t ps =
    same_truth _ _
    (λ h. let r = any_has (λ p. has p ps && t p) every_phase h in let b = and_parts (has r.0 ps) (t r.0) r.2 in has_any t ps r.0 b.0 b.1)
    (λ h. let r = any_has t ps h in has_any (λ p. has p ps && t p) every_phase r.0 (at_phase (λ p. has p every_phase) refl r.0) (and_from (has r.0 ps) (t r.0) r.1 r.2))

-- what the members of the set give
abbrev pub given : (Phase → List Phase) → List Phase → List Phase
given f ps = set_of (λ x. list_any (λ p. has x (f p)) ps)

-- two sets are joined
pub joined : (t u : Phase → Bool) (r a b : List Phase) → r ≡ union a b → a ≡ set_of t → b ≡ set_of u → r ≡ set_of (λ x. t x || u x)
joined t u r a b e f g =
    e ∙ ap (λ z. union z b) f ∙ ap (union (set_of t)) g
    ∙ set_of-agree (λ x. has x (set_of t) || has x (set_of u)) (λ x. t x || u x) (λ x. ap (λ z. z || has x (set_of u)) (has-set_of t x) ∙ ap (λ z. t x || z) (has-set_of u x))

any_of_eight : (a b c d e f g h : Bool) → (((((((a || b) || c) || d) || e) || f) || g) || h) ≡ (a || (b || (c || (d || (e || (f || (g || (h || false))))))))
any_of_eight true b c d e f g h = refl
any_of_eight false true c d e f g h = refl
any_of_eight false false true d e f g h = refl
any_of_eight false false false true e f g h = refl
any_of_eight false false false false true f g h = refl
any_of_eight false false false false false true g h = refl
any_of_eight false false false false false false true h = refl
any_of_eight false false false false false false false true = refl
any_of_eight false false false false false false false false = refl

-- what the eight phases give, where they are in the set
module _ (f : Phase → List Phase) (ps : List Phase) where
  abbrev pub of : Phase → Phase → Bool
  of p x = has p ps && has x (f p)

  pub given_in_turn : (r : List Phase)
      → r ≡ set_of (λ x. ((((((of Phase.Fresh x || of Phase.Unauth x) || of Phase.Ready x) || of Phase.Streaming x) || of Phase.TxReady x) || of Phase.TxStreaming x) || of Phase.Halted x) || of Phase.Defunct x) → r ≡ given f ps
  given_in_turn r e =
      e ∙ set_of-agree _ _
      (λ x.
      any_of_eight (of Phase.Fresh x) (of Phase.Unauth x) (of Phase.Ready x) (of Phase.Streaming x) (of Phase.TxReady x) (of Phase.TxStreaming x) (of Phase.Halted x) (of Phase.Defunct x)
      ∙ any-members (λ p. has x (f p)) ps)

  pub given_by : (a b c d e g h i u2 u3 u4 u5 u6 u7 u8 : List Phase) → a ≡ set_of (of Phase.Fresh) → b ≡ set_of (of Phase.Unauth) → c ≡ set_of (of Phase.Ready) → d ≡ set_of (of Phase.Streaming)
      → e ≡ set_of (of Phase.TxReady) → g ≡ set_of (of Phase.TxStreaming) → h ≡ set_of (of Phase.Halted) → i ≡ set_of (of Phase.Defunct)
      → u2 ≡ union a b → u3 ≡ union u2 c → u4 ≡ union u3 d → u5 ≡ union u4 e → u6 ≡ union u5 g → u7 ≡ union u6 h → u8 ≡ union u7 i → u8 ≡ given f ps
  given_by a b c d e g h i u2 u3 u4 u5 u6 u7 u8 ea eb ec ed ee eg eh ei e2 e3 e4 e5 e6 e7 e8 =
      let two : Phase → Bool = λ x. of Phase.Fresh x || of Phase.Unauth x in
      let three : Phase → Bool = λ x. two x || of Phase.Ready x in
      let four : Phase → Bool = λ x. three x || of Phase.Streaming x in
      let five : Phase → Bool = λ x. four x || of Phase.TxReady x in
      let six : Phase → Bool = λ x. five x || of Phase.TxStreaming x in
      let seven : Phase → Bool = λ x. six x || of Phase.Halted x in
      let s2 : u2 ≡ set_of two = joined (of Phase.Fresh) (of Phase.Unauth) u2 a b e2 ea eb in
      let s3 : u3 ≡ set_of three = joined two (of Phase.Ready) u3 u2 c e3 s2 ec in
      let s4 : u4 ≡ set_of four = joined three (of Phase.Streaming) u4 u3 d e4 s3 ed in
      let s5 : u5 ≡ set_of five = joined four (of Phase.TxReady) u5 u4 e e5 s4 ee in
      let s6 : u6 ≡ set_of six = joined five (of Phase.TxStreaming) u6 u5 g e6 s5 eg in
      let s7 : u7 ≡ set_of seven = joined six (of Phase.Halted) u7 u6 h e7 s6 eh in
      given_in_turn u8 (joined seven (of Phase.Defunct) u8 u7 i e8 s7 ei)

-- the phases of a session that isn't over
abbrev pub live : List Phase
live = Phase.Fresh ∷ Phase.Unauth ∷ Phase.Ready ∷ Phase.Streaming ∷ Phase.TxReady ∷ Phase.TxStreaming ∷ Phase.Halted ∷ []

all_of_eight : (a b c d e f g h : Bool) → (((((((a && b) && c) && d) && e) && f) && g) && h) ≡ (a && (b && (c && (d && (e && (f && (g && (h && true))))))))
all_of_eight false b c d e f g h = refl
all_of_eight true false c d e f g h = refl
all_of_eight true true false d e f g h = refl
all_of_eight true true true false e f g h = refl
all_of_eight true true true true false f g h = refl
all_of_eight true true true true true false g h = refl
all_of_eight true true true true true true false h = refl
all_of_eight true true true true true true true false = refl
all_of_eight true true true true true true true true = refl

live_or_over : (p : Phase) → (is_defunct p ≡ true) ⊎ (has p live ≡ true)
live_or_over Phase.Defunct = inl refl
live_or_over _ = inr refl

live-lives : (p : Phase) → implies (has p live) (not (is_defunct p)) ≡ true
live-lives p = at_phase (λ p. implies (has p live) (not (is_defunct p))) refl p

module _ (v : Version) (ps : List Phase) (k : Kind) where
  -- a phase allows the kind, or isn't in the set
  abbrev pub admits : Phase → Bool
  admits p = not (has p ps) || allows v p k

  admits_by : (p : Phase) (h a d : Bool) → has p ps ≡ h → allows v p k ≡ a → is_defunct p ≡ d → not d ≡ true → (h ≡ true → (d || a) ≡ true) → admits p ≡ true
  admits_by p false a d e f g l every = rw e refl
  admits_by p true true d e f g l every = rw (e, f) refl
  admits_by p true false true e f g l every = absurd (true≢false (sym l))
  admits_by p true false false e f g l every = absurd (true≢false (sym (every refl)))

  allows_by : (p : Phase) (h a d : Bool) → has p ps ≡ h → allows v p k ≡ a → h ≡ true → (not h || a) ≡ true → (d || allows v p k) ≡ true
  allows_by p h true true e f m n = refl
  allows_by p h true false e f m n = f
  allows_by p true false d e f m n = cc
  allows_by p false false d e f m n = cc

  all-live : list_all admits live ≡ list_all (λ p. is_defunct p || allows v p k) ps
  all-live =
      same_truth _ _
      (λ h. has_all (λ p. is_defunct p || allows v p k) ps
      (λ p m.
      ⊎_elim (λ d. or_left (is_defunct p) _ d) (λ l. allows_by p (has p ps) (allows v p k) (is_defunct p) refl refl m (all_has admits live p h l)) (live_or_over p)))
      (λ h. has_all admits live
      (λ p l. admits_by p (has p ps) (allows v p k) (is_defunct p) refl refl refl (implies_at _ _ (live-lives p) l) (λ m. all_has (λ p. is_defunct p || allows v p k) ps p h m)))

  pub allowed_by : (r some : Bool) → some ≡ list_any (λ p. not (is_defunct p)) ps
      → r ≡ (((((((some && admits Phase.Fresh) && admits Phase.Unauth) && admits Phase.Ready) && admits Phase.Streaming) && admits Phase.TxReady) && admits Phase.TxStreaming) && admits Phase.Halted) → r ≡ allowed_in v ps k
  allowed_by r some s e =
      e ∙ all_of_eight some (admits Phase.Fresh) (admits Phase.Unauth) (admits Phase.Ready) (admits Phase.Streaming) (admits Phase.TxReady) (admits Phase.TxStreaming) (admits Phase.Halted)
      ∙ ap (λ b. some && b) all-live ∙ ap (λ b. b && list_all (λ p. is_defunct p || allows v p k) ps) s

-- a phase in the set refuses
pub checked-refused : (v : Version) (ps : List Phase) (k : Kind) (p : Phase) → is_defunct p ≡ false → has p ps ≡ true → allows v p k ≡ false → allowed_in v ps k ≡ false
checked-refused v ps k p d m a =
    ap (λ b. list_any (λ p. not (is_defunct p)) ps && b) (go (list_all (λ p. is_defunct p || allows v p k) ps) refl) ∙ and-false _
  where
    go : (b : Bool) → list_all (λ p. is_defunct p || allows v p k) ps ≡ b → list_all (λ p. is_defunct p || allows v p k) ps ≡ false
    go false e = e
    go true e =
        let f : (is_defunct p || allows v p k) ≡ true = all_has (λ p. is_defunct p || allows v p k) ps p e m in
        absurd (true≢false (sym f ∙ ap (λ b. b || allows v p k) d ∙ a))

-- tests that agree pass the same lists
pub list_any-agree : (t u : Phase → Bool) → ((p : Phase) → t p ≡ u p) → (ps : List Phase) → list_any t ps ≡ list_any u ps
list_any-agree t u h [] = refl
list_any-agree t u h (p ∷ ps) = rw (h p, list_any-agree t u h ps) refl

live_of_eight : (f u r s t x h d : Bool) → (((f || u) || (((r || s) || t) || x)) || h)
    ≡ ((f && true) || ((u && true) || ((r && true) || ((s && true) || ((t && true) || ((x && true) || ((h && true) || ((d && false) || false))))))))
live_of_eight true u r s t x h d = refl
live_of_eight false true r s t x h d = refl
live_of_eight false false true s t x h d = refl
live_of_eight false false false true t x h d = refl
live_of_eight false false false false true x h d = refl
live_of_eight false false false false false true h d = refl
live_of_eight false false false false false false true d = refl
live_of_eight false false false false false false false true = refl
live_of_eight false false false false false false false false = refl

-- whether some flag other than that of Defunct is set
pub some_live : (a : Inside) (ps : List Phase) → members a ≡ ps → (((a.fresh || a.unauth) || (((a.ready || a.streaming) || a.tx_ready) || a.tx_streaming)) || a.halted) ≡ list_any (λ p. not (is_defunct p)) ps
some_live a ps e =
    live_of_eight a.fresh a.unauth a.ready a.streaming a.tx_ready a.tx_streaming a.halted a.defunct
    ∙ list_any-agree (λ p. holds a p && not (is_defunct p)) (λ p. has p ps && not (is_defunct p)) (λ p. ap (λ b. b && not (is_defunct p)) (has-members a ps e p)) every_phase
    ∙ any-members (λ p. not (is_defunct p)) ps
