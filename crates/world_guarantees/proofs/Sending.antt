-- The attempts of a call send each BEGIN under its token.
use Rattle.std.proofs.Common.{◌≡◌, refl, sym, subst, ap, ◌∙◌, ℕ, zero, suc, ◌<◌, ◌≤◌, Bool, true, false, ◌&&◌, Option, Some, None, Result, List, [], ◌∷◌, ◌++◌, length, slice_get, append_assoc, arith, inl, inr, ◌⊎◌, ⊎_elim}
use Rattle.messages.specs.declared.Count.TheVariants as count
use Rattle.messages.specs.declared.Mode.{Mode}
use Rattle.messages.specs.Prelude.{RequestView}
use Rattle.client_tracking.specs.declared.Tells.{Tells}
use Rattle.client_tracking.specs.Telling.{is_committed, is_refused, all_nothing}
use Rattle.client_tracking.specs.Attempts.{Made, told_of, tells}
use Rattle.client_tracking.proofs.Beyond.{told_beyond}
use Rattle.driver.specs.declared.Break.{Break}
use Rattle.driver.specs.Prelude.{AskedView, QueryView, asks_of, requests_of, Streams, Attempts, Ending, unmoved, AreTries}
use Rattle.world.specs.Prelude.{World, Each}
use Rattle.world_guarantees.specs.Attempts.{BeginsUnder}
use Rattle.world_guarantees.specs.OneCaller.{IsTry}
use Rattle.world_guarantees.specs.Sending.{IsMet, SentUntilKnown}
use Rattle.world_guarantees.proofs.OneCaller.{tested, told_by, one_caller_may_rely}

-- After its BEGIN an attempt sends no other BEGIN.
no_begin : (t : List ℕ) (mode : Mode) (qs : List QueryView) → BeginsUnder t (asks_of mode (RequestView.Discard count.All) qs ++ RequestView.Commit ∷ [])
no_begin t mode [] = tt
no_begin t mode (q ∷ qs) = no_begin t mode qs

under : (a : AskedView) (login : Bool) → BeginsUnder a.token (requests_of login a)
under a true = (refl, no_begin a.token a.mode a.queries)
under a false = (refl, no_begin a.token a.mode a.queries)

-- Each BEGIN among the first of some requests has the token if each among all has it.
under_front : (t : List ℕ) (xs ys : List RequestView) → BeginsUnder t (xs ++ ys) → BeginsUnder t xs
under_front t [] ys h = tt
under_front t (RequestView.Begin mode token ∷ xs) ys h = (h.0, under_front t xs ys h.1)
under_front t (RequestView.Hello agent login ∷ xs) ys h = under_front t xs ys h
under_front t (RequestView.Logon login ∷ xs) ys h = under_front t xs ys h
under_front t (RequestView.Logoff ∷ xs) ys h = under_front t xs ys h
under_front t (RequestView.Goodbye ∷ xs) ys h = under_front t xs ys h
under_front t (RequestView.Reset ∷ xs) ys h = under_front t xs ys h
under_front t (RequestView.Run text params mode token ∷ xs) ys h = under_front t xs ys h
under_front t (RequestView.Pull n ∷ xs) ys h = under_front t xs ys h
under_front t (RequestView.Discard n ∷ xs) ys h = under_front t xs ys h
under_front t (RequestView.Commit ∷ xs) ys h = under_front t xs ys h
under_front t (RequestView.Rollback ∷ xs) ys h = under_front t xs ys h

get_front : (xs ys : List RequestView) (i : ℕ) → i < length xs → slice_get (xs ++ ys) i ≡ slice_get xs i
get_front [] ys i l = absurd (omega (arith, l))
get_front (x ∷ xs) ys zero l = refl
get_front (x ∷ xs) ys (suc i) l = get_front xs ys i (omega (arith, l))

lt_or_le : (i n : ℕ) → (i < n) ⊎ (n ≤ i)
lt_or_le i zero = inr (omega arith)
lt_or_le zero (suc n) = inl (omega arith)
lt_or_le (suc i) (suc n) = ⊎_elim (λ (l : i < n). inl (omega (arith, l))) (λ (l : n ≤ i). inr (omega (arith, l))) (lt_or_le i n)

-- If an attempt reports that its transaction is committed, it sent its COMMIT.
committed_sent : (m : Made) → tells m ≡ Tells.Stands → m.commit < length m.attempt.sent
committed_sent m h = ⊎_elim (λ l. l) (λ (past : length m.attempt.sent ≤ m.commit). absurd (never past)) (lt_or_le m.commit (length m.attempt.sent))
  where
    done : is_committed (told_of m.attempt m.commit) ≡ true
    done = subst (tested (is_committed (told_of m.attempt m.commit)) (is_refused (told_of m.attempt m.commit) && m.clash) (all_nothing (told_of m.attempt) (length m.attempt.sent))) h
        (told_by (is_committed (told_of m.attempt m.commit)) (is_refused (told_of m.attempt m.commit) && m.clash) (all_nothing (told_of m.attempt) (length m.attempt.sent)) m.final)

    never : length m.attempt.sent ≤ m.commit → ⊥
    never past = let no : false ≡ true = sym (ap is_committed (told_beyond m.attempt m.commit past)) ∙ done in cc

-- If it reports a clash, it sent its COMMIT too.
clashed_sent : (m : Made) → tells m ≡ Tells.Clash → m.commit < length m.attempt.sent
clashed_sent m h = ⊎_elim (λ l. l) (λ (past : length m.attempt.sent ≤ m.commit). absurd (never past)) (lt_or_le m.commit (length m.attempt.sent))
  where
    done : (is_refused (told_of m.attempt m.commit) && m.clash) ≡ true
    done = subst (tested (is_committed (told_of m.attempt m.commit)) (is_refused (told_of m.attempt m.commit) && m.clash) (all_nothing (told_of m.attempt) (length m.attempt.sent))) h
        (told_by (is_committed (told_of m.attempt m.commit)) (is_refused (told_of m.attempt m.commit) && m.clash) (all_nothing (told_of m.attempt) (length m.attempt.sent)) m.final)

    never : length m.attempt.sent ≤ m.commit → ⊥
    never past = let no : false ≡ true = sym (ap (λ o. is_refused o && m.clash) (told_beyond m.attempt m.commit past)) ∙ done in cc

-- An attempt over streams is an attempt under the token, if its connection is one of the world.
is_try : (a : AskedView) (w : World) (conn : ℕ) (from to : Streams) (broken : Result (Unit {0}) Break) (o : Option Made) → Attempts a conn from to broken o → IsMet w o → IsTry a.token w o
is_try a w conn from to broken None h met = tt
is_try a w conn from to broken (Some m) h met =
    let s = h.sent in
    let all : requests_of s.login a ≡ (s.before ++ s.last) ++ s.later = s.asks ∙ sym (append_assoc s.before s.last s.later) in
    record {
      connection = met.0;
      at = met.1;
      under = subst (BeginsUnder a.token) (sym s.sent) (under_front a.token (s.before ++ s.last) s.later (subst (BeginsUnder a.token) all (under a s.login)));
      commits = λ told.
          let l : m.commit < length (s.before ++ s.last) = subst (λ qs. m.commit < length qs) s.sent (⊎_elim (committed_sent m) (clashed_sent m) told) in
          ap (λ qs. slice_get qs m.commit) s.sent ∙ sym (get_front (s.before ++ s.last) s.later m.commit l) ∙ ap (λ qs. slice_get qs m.commit) (sym all) ∙ s.commit;
    }

-- There is no attempt if no connection was opened.
no_try : (a : AskedView) (w : World) (o : Option Made) → o ≡ None → IsTry a.token w o
no_try a w o e = subst (IsTry a.token w) (sym e) tt

are_tries : (a : AskedView) (w : World) (conns : ℕ → ℕ) (n : ℕ) (used : List (Option Ending)) (made : List (Option Made)) → AreTries a conns n used made → Each (IsMet w) made → Each (IsTry a.token w) made
are_tries a w conns n [] [] h met = tt
are_tries a w conns n [] (m ∷ ms) h met = absurd h
are_tries a w conns n (o ∷ os) [] h met = absurd h
are_tries a w conns n (None ∷ os) (m ∷ ms) h met = (no_try a w m h.0, are_tries a w conns (suc n) os ms h.1 met.1)
are_tries a w conns n (Some s ∷ os) (m ∷ ms) h met = (is_try a w (conns n) unmoved s.at s.broken m h.0 met.0, are_tries a w conns (suc n) os ms h.1 met.1)

pub sent_until_known : SentUntilKnown
sent_until_known S brought w r a conns used made h met again tries f e = one_caller_may_rely S brought w r a.token made (are_tries a w conns 0 used made h met) again tries f e
