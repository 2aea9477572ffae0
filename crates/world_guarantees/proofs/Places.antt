-- Numbers of which no session lives: calls on them change nothing.
use Rattle.std.proofs.Common.{◌≡◌, refl, ◌∙◌, ap, ℕ, zero, suc, ◌+◌, ◌<◌, ◌==◌, true, Option, Some, None, option_map, List, [], ◌∷◌, ◌++◌, length, slice_get, arith, ◌⊎◌, inl, inr, ⊎_elim}
use Rattle.std.proofs.lemmas.Bool.{cond-true, cond-false, cond_both, ne_eqb}
use Rattle.server.specs.Prelude.{Live, Rest, find, without, with_sessions, after_call}
use Rattle.world.specs.Prelude.{Connection, World, live_of, sessions_from, server_rest}

below_none : (ks : List Connection) (c j : ℕ) → j < c → find j (sessions_from c ks) ≡ None
below_none [] c j l = refl
below_none (k ∷ ks) c j l =
    let r = below_none ks (suc c) j (omega (arith, l)) in
    cond_both k.server_lost (sessions_from (suc c) ks) (live_of c k ∷ sessions_from (suc c) ks) (λ ss. find j ss ≡ None) (λ _. r) (λ _. cond-false (c == j) _ _ (ne_eqb c j (λ q. absurd (omega (arith, q, l)))) ∙ r)

-- no connection was opened there, or its session was given up
abbrev pub IsGone : Option Connection → Type 0
IsGone None = Unit {0}
IsGone (Some k) = k.server_lost ≡ true

none_at : (ks : List Connection) (c i j : ℕ) → j ≡ c + i → IsGone (slice_get ks i) → find j (sessions_from c ks) ≡ None
none_at [] c i j e h = refl
none_at (k ∷ ks) c zero j e h = ap (find j) (cond-true k.server_lost _ _ h) ∙ below_none ks (suc c) j (omega arith)
none_at (k ∷ ks) c (suc i) j e h =
    let r = none_at ks (suc c) i j (omega arith) h in
    cond_both k.server_lost (sessions_from (suc c) ks) (live_of c k ∷ sessions_from (suc c) ks) (λ ss. find j ss ≡ None) (λ _. r) (λ _. cond-false (c == j) _ _ (ne_eqb c j (λ q. absurd (omega arith))) ∙ r)

without_none : (conn : ℕ) (ss : List Live) → find conn ss ≡ None → without conn ss ≡ ss
without_none conn [] h = refl
without_none conn (s ∷ ss) h =
    cond_both (s.conn == conn) (Some s) (find conn ss) (λ o. o ≡ None → without conn (s ∷ ss) ≡ s ∷ ss) (λ b e. cc)
    (λ b e. cond-false (s.conn == conn) _ _ b ∙ ap (λ z. s ∷ z) (without_none conn ss e)) h

module _ {G : Type 0} (gate : G) (w : World) (c : ℕ) (gone : IsGone (slice_get w.conns c)) where
  abbrev rest : Rest G
  rest = server_rest gate w

  pub found_none : find c rest.sessions ≡ None
  found_none = none_at w.conns 0 c c (omega arith) gone

  pub idle_call : {A : Type 0} (f : Live → A × Rest G) → after_call (option_map f (find c rest.sessions)) rest ≡ rest
  idle_call f = ap (λ o. after_call (option_map f o) rest) found_none

  pub idle_loss : with_sessions (without c rest.sessions) rest ≡ rest
  idle_loss = ap (λ ss. with_sessions ss rest) (without_none c rest.sessions found_none)

-- a list with one more behind it: what stands at a place
pub push_cases : {A : Type 0} (xs : List A) (y : A) (i : ℕ) → (slice_get (xs ++ y ∷ []) i ≡ slice_get xs i) ⊎ ((i ≡ length xs) × (slice_get (xs ++ y ∷ []) i ≡ Some y) × (slice_get xs i ≡ None))
push_cases [] y zero = inr (refl, refl, refl)
push_cases [] y (suc i) = inl refl
push_cases (x ∷ xs) y zero = inl refl
push_cases (x ∷ xs) y (suc i) = ⊎_elim (λ e. inl e) (λ e. inr (ap suc e.0, e.1, e.2)) (push_cases xs y i)
