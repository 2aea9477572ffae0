-- How a session that lives is given up.
use Rattle.std.proofs.Common.{◌≡◌, ◌↔◌, refl, sym, ap, subst, ◌∙◌, ℕ, ◌<◌, arith, length, min, length-take, append-nil, IsSome, IfSome, option_map, List, [], ◌∷◌, ◌++◌, take, drop, Option, Some, None, Result, Err}
use Rattle.std.specs.Prelude.{unwrap_or, IsErrOf}
use Rattle.std.proofs.lemmas.Bool.{eq-eqb}
use Rattle.std.proofs.lemmas.List.{drop_all}
use Rattle.engine.specs.declared.answer.Mode.{Mode as QueryMode}
use Rattle.engine.specs.Prelude.{WriteView, ParameterView, EntryView, AnswerView, QueryFault, Welcome}
use Rattle.server_session.specs.declared.kinds.Cause.{Cause}
use Rattle.server_session.specs.declared.kinds.Cause.TheVariants as cause
use Rattle.server_session.specs.Prelude.{take_kept}
use Rattle.server.specs.declared.kinds.Refused.{Refused}
use Rattle.server.specs.declared.kinds.Refused.TheVariants as refused
use Rattle.server.specs.Prelude.{Rest, Live, loses, find, replace, taken_from, with_kept, with_session, cause_or, take_out_at, lost_at, after_call, MayTakeOut}
use Rattle.server.specs.Serving.{RefusesCall}
use Rattle.server.proofs.Runs.{find-conn, find_replaced}
use Rattle.server_event_loop.specs.declared.line.Parting.TheVariants.{Whole, Cut}
use Rattle.server_event_loop.specs.ConnectionPrelude.{Wire, Held, end_of, ends_by, Moves, Parts, out_of, with_going}
use Rattle.server_event_loop.proofs.Moved.{moves_then, moves_kept, moves_drawn, moves_lost}

-- of fewer bytes than were asked for none is left
left_short : (max : ℕ) (xs : List ℕ) → length (take max xs) < max → drop max xs ≡ []
left_short max xs l = let n : length (take max xs) ≡ min max (length xs) = length-take max xs in drop_all max xs (omega arith)

-- a list that isn't empty
data IsMade (xs : List ℕ) : Type 0 where
  made : (y : ℕ) (ys : List ℕ) → xs ≡ y ∷ ys → IsMade xs

is_made : (xs : List ℕ) → 0 < length xs → IsMade xs
is_made [] l = absurd (omega arith)
is_made (y ∷ ys) l = made y ys refl

-- of what bytes were taken there are some
some_taken : (max : ℕ) (xs : List ℕ) → 0 < length (take max xs) → 0 < length xs
some_taken max xs l = let n : length (take max xs) ≡ min max (length xs) = length-take max xs in omega arith

-- a call on a session that lives is refused for want of memory alone
wants_memory : {T : Type 0} (e : Refused) (o : Option Live) → IsSome o → (IsErrOf {T = T} (Err e) refused.NoSuchConnection ↔ (o ≡ None)) → RefusesCall e → IsErrOf {T = T} (Err e) refused.Memory
wants_memory refused.NoSuchConnection o lives unknown h = let none : o ≡ None = unknown.0 refl in let some : IsSome {T = Live} None = subst (λ (o : Option Live). IsSome o) none lives in cc
wants_memory refused.SessionsFull o lives unknown h = absurd h
wants_memory refused.Memory o lives unknown h = refl

module _ {G : Type 0} where
  -- the session once bytes were taken out of it
  after_out : (conn max : ℕ) (r s : Rest G) (bytes : List ℕ) (t : Live) → find conn r.sessions ≡ Some t → take_out_at conn max r ≡ Some (bytes, s) → find conn s.sessions ≡ Some (with_kept t (take_kept max t.kept))
  after_out conn max r s bytes t f e =
      let new = with_kept t (take_kept max t.kept) in
      let same : t.conn ≡ conn = find-conn conn r.sessions t f in
      let call : take_out_at conn max r ≡ Some (take max t.kept.unsent, with_session new r) = ap (option_map (λ (s : Live). ((taken_from max s).0, with_session (taken_from max s).1 r))) f in
      let is : with_session new r ≡ s = ap (λ o. after_call o r) (sym call ∙ e) in
      let lives : IsSome (find conn r.sessions) = subst (λ (o : Option Live). IsSome o) (sym f) refl in
      ap (λ (s : Rest G). find conn s.sessions) (sym is) ∙ ap (λ k. find conn (replace k new r.sessions)) same ∙ find_replaced conn new r.sessions lives same

  out_is : (conn max : ℕ) (r s : Rest G) (bytes : List ℕ) (t : Live) → find conn r.sessions ≡ Some t → take_out_at conn max r ≡ Some (bytes, s) → take max t.kept.unsent ≡ bytes
  out_is conn max r s bytes t f e =
      let call : take_out_at conn max r ≡ Some (take max t.kept.unsent, with_session (taken_from max t).1 r) = ap (option_map (λ (s : Live). ((taken_from max s).0, with_session (taken_from max s).1 r))) f in
      ap out_of (sym call ∙ e)

  -- the end of a session that is given up
  ended_by : (conn : ℕ) (r s : Rest G) (t : Live) (told : Option Cause) (why : Cause) → find conn r.sessions ≡ Some t → lost_at conn r ≡ (told, s) → why ≡ unwrap_or told cause.Lost → ends_by conn (loses conn) r ≡ record { cause = why; unsaid = t.kept.unsent } ∷ []
  ended_by conn r s t told why f e is =
      let kept : Some (cause_or t.kept.ended) ≡ told = sym (ap (option_map (λ (s : Live). cause_or s.kept.ended)) f) ∙ ap (λ (p : Option Cause × Rest G). p.0) e in
      let same : cause_or t.kept.ended ≡ why = ap (λ (o : Option Cause). unwrap_or o cause.Lost) kept ∙ sym is in
      rw (eq-eqb conn conn refl) (ap end_of f ∙ ap (λ (k : Cause). record { cause = k; unsaid = t.kept.unsent } ∷ []) same)

module _ {G : Type 0} (answer : List EntryView → List WriteView → List ℕ → List ParameterView → QueryMode → Result AnswerView QueryFault) (welcomes : G → Welcome) where
  -- all was taken out before
  pub parts_whole : (max : ℕ) (r s q : Rest G) (x : Held) (bytes : List ℕ) (told : Option Cause) (why : Cause) (u : ℕ → Wire) → IsSome (find x.conn r.sessions) → length bytes < max → take_out_at x.conn max r ≡ Some (bytes, s) → lost_at x.conn s ≡ (told, q) → why ≡ unwrap_or told cause.Lost
      → Parts answer welcomes (Whole why) r q x (x.going ++ bytes) u
  parts_whole max r s q x bytes told why u lives short e l is = go (find x.conn r.sessions) refl lives
    where
      go : (o : Option Live) → find x.conn r.sessions ≡ o → IsSome o → Parts answer welcomes (Whole why) r q x (x.going ++ bytes) u
      go None f h = cc
      go (Some t) f h =
          let y = with_going (x.going ++ bytes) x in
          let none : drop max t.kept.unsent ≡ [] = left_short max t.kept.unsent (subst (λ (b : List ℕ). length b < max) (sym (out_is x.conn max r s bytes t f e)) short) in
          let ends : ends_by x.conn (loses x.conn) s ≡ record { cause = why; unsaid = [] } ∷ [] = ended_by x.conn s q (with_kept t (take_kept max t.kept)) told why (after_out x.conn max r s bytes t f e) l is ∙ ap (λ (b : List ℕ). record { cause = why; unsaid = b } ∷ []) none in
          moves_then answer welcomes (moves_drawn answer welcomes max r s x y bytes u e refl refl refl) (moves_lost answer welcomes s q y u _ (ap (λ (p : Option Cause × Rest G). p.1) l) ends)

  -- it wasn't, for want of memory
  pub parts_cut : {T : Type 0} (max : ℕ) (r s q : Rest G) (x : Held) (e : Refused) (told : Option Cause) (why : Cause) (last : List ℕ) (u : ℕ → Wire) → last ≡ [] → IsSome (find x.conn r.sessions) → (IsErrOf {T = T} (Err e) refused.NoSuchConnection ↔ (find x.conn r.sessions ≡ None)) → RefusesCall e
      → (IsErrOf {T = T} (Err e) refused.Memory → IfSome (find x.conn r.sessions) (MayTakeOut max)) → s ≡ r → lost_at x.conn s ≡ (told, q) → why ≡ unwrap_or told cause.Lost → Parts answer welcomes (Cut why) r q x (x.going ++ last) u
  parts_cut {T = T} max r s q x e told why last u nothing lives unknown refuses memory kept l is = go (find x.conn r.sessions) refl lives (memory (wants_memory {T = T} e (find x.conn r.sessions) lives unknown refuses))
    where
      cut : (t : Live) → find x.conn r.sessions ≡ Some t → IsMade t.kept.unsent → Parts answer welcomes (Cut why) r q x (x.going ++ last) u
      cut t f (made b bs m) =
          let ends : ends_by x.conn (loses x.conn) s ≡ record { cause = why; unsaid = b ∷ bs } ∷ [] = ended_by x.conn s q t told why (ap (λ (r : Rest G). find x.conn r.sessions) kept ∙ f) l is ∙ ap (λ (b : List ℕ). record { cause = why; unsaid = b } ∷ []) m in
          let lost = moves_lost answer welcomes s q x u _ (ap (λ (p : Option Cause × Rest G). p.1) l) ends in
          let all = moves_then answer welcomes (moves_kept answer welcomes 1 r s x u kept) lost in
          (b, bs, subst (λ (g : List ℕ). Moves answer welcomes 2 0 (record { cause = why; unsaid = b ∷ bs } ∷ []) r q x (with_going g x) u u) (sym (append-nil x.going) ∙ ap (λ (l : List ℕ). x.going ++ l) (sym nothing)) all)

      go : (o : Option Live) → find x.conn r.sessions ≡ o → IsSome o → IfSome o (MayTakeOut max) → Parts answer welcomes (Cut why) r q x (x.going ++ last) u
      go None f h m = cc
      go (Some t) f h m = cut t f (is_made t.kept.unsent (some_taken max t.kept.unsent m))
