-- The fate is true of a server with a unique marker.
use Rattle.std.proofs.Common.{◌≡◌, ◌≤◌, inl, inr, refl, sym, ◌∙◌, ap, subst, ℕ, suc, Bool, true, false, ◌&&◌, ◌||◌, if◌then◌else◌, List, [], ◌∷◌, length, arith}
use Rattle.std.specs.List.{list_any}
use Rattle.decider.specs.declared.policy.Retry.TheVariants as retry
use Rattle.decider.specs.declared.policy.Before.{Before}
use Rattle.decider.specs.declared.policy.Before.TheVariants as before
use Rattle.decider.specs.declared.policy.Policy.{Policy}
use Rattle.decider.specs.declared.steps.MarkerRow.{MarkerRow}
use Rattle.decider.specs.declared.steps.MarkerRow.TheVariants as row
use Rattle.decider.specs.declared.steps.TokenSupport.TheVariants as support
use Rattle.decider.specs.declared.steps.StepResult.{StepResult}
use Rattle.decider.specs.declared.steps.StepResult.TheVariants as result
use Rattle.decider.specs.Rules.{is_commit, is_conflict, is_doubt, starts_in_doubt, has_tombstone, is_refusal, is_attempt, in_doubt, fate_by}
use Rattle.decider.specs.Attempts.{Attempt, HasNot, is_waiting}
use Rattle.decider.specs.Markers.{MarkerExamples, Marked, MarkerServer, Event, ours, theirs, put, is_free, Shows, NoneMine, MayReport, reported, Step, RunsTo, Starts, Means, FateWithMarker}
use Rattle.decider.proofs.Bools.{or_left, or_right, or_cases}
use Rattle.decider.proofs.Appending.{any_more, doubt_more}

-- each of the caller's attempts writes its marker
MineAreOurs : List Marked → Type 0
MineAreOurs [] = Unit {0}
MineAreOurs (w ∷ ws) = (w.mine ≡ true → w.shows ≡ row.Ours) × MineAreOurs ws

-- the attempt that the caller waits for has committed only if the marker is there
AttemptShows : Attempt → List Marked → Type 0
AttemptShows (Attempt.Done true) c = Shows row.Ours c
AttemptShows l c = Unit {0}

-- no attempt has committed, except perhaps this one
AttemptOnly : Attempt → List Marked → Type 0
AttemptOnly (Attempt.Done true) c = Unit {0}
AttemptOnly l c = NoneMine c

-- the invariant of each moment
record Sound (b : Before) (c : List Marked) (l : Attempt) (late : ℕ) (ts : List StepResult) : Type 0 where
  one : length c ≤ 1
  mine : MineAreOurs c
  attempt : AttemptShows l c
  commits : list_any is_commit ts ≡ true → Shows row.Ours c
  conflicts : list_any (is_conflict retry.Marker) ts ≡ true → Shows row.Other c
  tombstones : list_any (has_tombstone retry.Marker) ts ≡ true → Shows row.Tombstone c
  sure : (starts_in_doubt b || list_any (is_doubt retry.Marker) ts) ≡ false → list_any is_commit ts ≡ false
      → (late ≡ 0) × AttemptOnly l c

abbrev SoundAt : Before → MarkerServer → Type 0
SoundAt b s = Sound b s.committed s.attempt s.late s.results

put_one : (w : Marked) (c : List Marked) → length c ≤ 1 → length (put w c) ≤ 1
put_one w [] h = omega arith
put_one w (x ∷ xs) h = h

put_shows : (w : Marked) (m : MarkerRow) (c : List Marked) → Shows m c → Shows m (put w c)
put_shows w m [] h = absurd h
put_shows w m (x ∷ xs) h = h

put_mine : (w : Marked) (c : List Marked) → (w.mine ≡ true → w.shows ≡ row.Ours) → MineAreOurs c → MineAreOurs (put w c)
unfolding MineAreOurs
put_mine w [] h m = (h, tt)
put_mine w (x ∷ xs) h m = m

put_none : (w : Marked) (c : List Marked) → w.mine ≡ false → NoneMine c → NoneMine (put w c)
put_none w [] h n = (h, tt)
put_none w (x ∷ xs) h n = n

put_attempt : (w : Marked) (l : Attempt) (c : List Marked) → AttemptShows l c → AttemptShows l (put w c)
unfolding AttemptShows
put_attempt w (Attempt.Done true) c h = put_shows w row.Ours c h
put_attempt w (Attempt.Done false) c h = tt
put_attempt w Attempt.Idle c h = tt
put_attempt w Attempt.Waiting c h = tt

put_only : (w : Marked) (l : Attempt) (c : List Marked) → w.mine ≡ false → AttemptOnly l c → AttemptOnly l (put w c)
unfolding AttemptOnly
put_only w (Attempt.Done true) c e h = tt
put_only w (Attempt.Done false) c e h = put_none w c e h
put_only w Attempt.Idle c e h = put_none w c e h
put_only w Attempt.Waiting c e h = put_none w c e h

-- others write the marker
writes : (b : Before) (m : MarkerRow) (c : List Marked) (l : Attempt) (late : ℕ) (ts : List StepResult)
    → Sound b c l late ts → Sound b (put (theirs m) c) l late ts
writes b m c l late ts s =
    let w : Marked = theirs m in
    record {
      one = put_one w c s.one;
      mine = put_mine w c (λ e. let no : false ≡ true = e in cc) s.mine;
      attempt = put_attempt w l c s.attempt;
      commits = λ h. put_shows w row.Ours c (s.commits h);
      conflicts = λ h. put_shows w row.Other c (s.conflicts h);
      tombstones = λ h. put_shows w row.Tombstone c (s.tombstones h);
      sure = λ d k. let at = s.sure d k in (at.0, put_only w l c refl at.1);
    }

-- a COMMIT is processed late
works_late : (b : Before) (c : List Marked) (l : Attempt) (left : ℕ) (ts : List StepResult) → Sound b c l (suc left) ts
    → Sound b (put ours c) l left ts
works_late b c l left ts s = record {
  one = put_one ours c s.one;
  mine = put_mine ours c (λ e. refl) s.mine;
  attempt = put_attempt ours l c s.attempt;
  commits = λ h. put_shows ours row.Ours c (s.commits h);
  conflicts = λ h. put_shows ours row.Other c (s.conflicts h);
  tombstones = λ h. put_shows ours row.Tombstone c (s.tombstones h);
  sure = λ d k. let none : suc left ≡ 0 = (s.sure d k).0 in absurd (omega (arith, none));
}

-- the COMMIT that the caller waits for is processed
works : (b : Before) (c : List Marked) (late : ℕ) (ts : List StepResult) → Sound b c Attempt.Waiting late ts
    → Sound b (put ours c) (Attempt.Done (is_free c)) late ts
unfolding AttemptShows AttemptOnly MineAreOurs
works b [] late ts s = record {
  one = omega arith;
  mine = (λ e. refl, tt);
  attempt = refl;
  commits = λ h. refl;
  conflicts = λ h. absurd (s.conflicts h);
  tombstones = λ h. absurd (s.tombstones h);
  sure = λ d k. ((s.sure d k).0, tt);
}
works b (x ∷ xs) late ts s = record {
  one = s.one;
  mine = s.mine;
  attempt = tt;
  commits = s.commits;
  conflicts = s.conflicts;
  tombstones = s.tombstones;
  sure = s.sure;
}

sends : (b : Before) (c : List Marked) (late : ℕ) (ts : List StepResult) → Sound b c Attempt.Idle late ts
    → Sound b c Attempt.Waiting late ts
unfolding AttemptShows AttemptOnly
sends b c late ts s = record {
  one = s.one;
  mine = s.mine;
  attempt = tt;
  commits = s.commits;
  conflicts = s.conflicts;
  tombstones = s.tombstones;
  sure = s.sure;
}

-- A result is reported

shows_attempt : (l : Attempt) (c : List Marked) → l ≡ Attempt.Done true → AttemptShows l c → Shows row.Ours c
unfolding AttemptShows
shows_attempt l c e h = subst (λ (z : Attempt). AttemptShows z c) e h

says_commit : (s : MarkerServer) (t : StepResult) → MayReport s t → AttemptShows s.attempt s.committed
    → is_commit t ≡ true → Shows row.Ours s.committed
says_commit s (result.Committed n) m h e = shows_attempt s.attempt s.committed m h
says_commit s (result.Marker row.Ours) m h e = m
says_commit s (result.Marker row.Tombstone) m h e = let no : false ≡ true = e in cc
says_commit s (result.Marker row.Other) m h e = let no : false ≡ true = e in cc
says_commit s result.Conflict m h e = let no : false ≡ true = e in cc
says_commit s (result.PermanentFailure n) m h e = let no : false ≡ true = e in cc
says_commit s result.TransientFailure m h e = let no : false ≡ true = e in cc
says_commit s (result.InvalidRequest n) m h e = let no : false ≡ true = e in cc
says_commit s result.NoCommitSent m h e = let no : false ≡ true = e in cc
says_commit s (result.InDoubt k) m h e = let no : false ≡ true = e in cc
says_commit s (result.Greeted k) m h e = let no : false ≡ true = e in cc
says_commit s result.NoMarker m h e = let no : false ≡ true = e in cc
says_commit s result.MarkerNotRead m h e = let no : false ≡ true = e in cc
says_commit s result.TombstoneWritten m h e = let no : false ≡ true = e in cc
says_commit s result.TombstoneUnconfirmed m h e = let no : false ≡ true = e in cc
says_commit s result.Stopped m h e = let no : false ≡ true = e in cc

says_conflict : (s : MarkerServer) (t : StepResult) → MayReport s t → is_conflict retry.Marker t ≡ true
    → Shows row.Other s.committed
says_conflict s (result.Marker row.Other) m e = m
says_conflict s (result.Marker row.Ours) m e = let no : false ≡ true = e in cc
says_conflict s (result.Marker row.Tombstone) m e = let no : false ≡ true = e in cc
says_conflict s (result.Committed n) m e = let no : false ≡ true = e in cc
says_conflict s result.Conflict m e = let no : false ≡ true = e in cc
says_conflict s (result.PermanentFailure n) m e = let no : false ≡ true = e in cc
says_conflict s result.TransientFailure m e = let no : false ≡ true = e in cc
says_conflict s (result.InvalidRequest n) m e = let no : false ≡ true = e in cc
says_conflict s result.NoCommitSent m e = let no : false ≡ true = e in cc
says_conflict s (result.InDoubt k) m e = let no : false ≡ true = e in cc
says_conflict s (result.Greeted k) m e = let no : false ≡ true = e in cc
says_conflict s result.NoMarker m e = let no : false ≡ true = e in cc
says_conflict s result.MarkerNotRead m e = let no : false ≡ true = e in cc
says_conflict s result.TombstoneWritten m e = let no : false ≡ true = e in cc
says_conflict s result.TombstoneUnconfirmed m e = let no : false ≡ true = e in cc
says_conflict s result.Stopped m e = let no : false ≡ true = e in cc

says_tombstone : (s : MarkerServer) (t : StepResult) → MayReport s t → has_tombstone retry.Marker t ≡ true
    → Shows row.Tombstone s.committed
says_tombstone s (result.Marker row.Tombstone) m e = m
says_tombstone s result.TombstoneWritten m e = m
says_tombstone s (result.Marker row.Ours) m e = let no : false ≡ true = e in cc
says_tombstone s (result.Marker row.Other) m e = let no : false ≡ true = e in cc
says_tombstone s (result.Committed n) m e = let no : false ≡ true = e in cc
says_tombstone s result.Conflict m e = let no : false ≡ true = e in cc
says_tombstone s (result.PermanentFailure n) m e = let no : false ≡ true = e in cc
says_tombstone s result.TransientFailure m e = let no : false ≡ true = e in cc
says_tombstone s (result.InvalidRequest n) m e = let no : false ≡ true = e in cc
says_tombstone s result.NoCommitSent m e = let no : false ≡ true = e in cc
says_tombstone s (result.InDoubt k) m e = let no : false ≡ true = e in cc
says_tombstone s (result.Greeted k) m e = let no : false ≡ true = e in cc
says_tombstone s result.NoMarker m e = let no : false ≡ true = e in cc
says_tombstone s result.MarkerNotRead m e = let no : false ≡ true = e in cc
says_tombstone s result.TombstoneUnconfirmed m e = let no : false ≡ true = e in cc
says_tombstone s result.Stopped m e = let no : false ≡ true = e in cc

has_not : (l : Attempt) (c : List Marked) → HasNot l → AttemptOnly l c → NoneMine c
unfolding AttemptOnly
has_not (Attempt.Done true) c h n = absurd h
has_not (Attempt.Done false) c h n = n
has_not Attempt.Idle c h n = n
has_not Attempt.Waiting c h n = n

stays_sure : (s : MarkerServer) (t : StepResult) → MayReport s t → is_commit t ≡ false → is_doubt retry.Marker t ≡ false
    → AttemptOnly s.attempt s.committed
    → AttemptOnly (if is_attempt t then Attempt.Idle else s.attempt) s.committed
unfolding AttemptOnly
stays_sure s (result.Committed n) m c d h = let no : true ≡ false = c in cc
stays_sure s result.Conflict m c d h = let no : true ≡ false = d in cc
stays_sure s (result.InDoubt k) m c d h = let no : true ≡ false = d in cc
stays_sure s (result.PermanentFailure n) m c d h = has_not s.attempt s.committed m h
stays_sure s result.TransientFailure m c d h = has_not s.attempt s.committed m h
stays_sure s (result.InvalidRequest n) m c d h = has_not s.attempt s.committed m h
stays_sure s result.NoCommitSent m c d h = has_not s.attempt s.committed m h
stays_sure s (result.Marker k) m c d h = h
stays_sure s (result.Greeted k) m c d h = h
stays_sure s result.NoMarker m c d h = h
stays_sure s result.MarkerNotRead m c d h = h
stays_sure s result.TombstoneWritten m c d h = h
stays_sure s result.TombstoneUnconfirmed m c d h = h
stays_sure s result.Stopped m c d h = h

attempt_if : (b : Bool) (l : Attempt) (c : List Marked) → AttemptShows l c
    → AttemptShows (if b then Attempt.Idle else l) c
unfolding AttemptShows
attempt_if true l c h = tt
attempt_if false l c h = h

late_if : (b o : Bool) (n : ℕ) → b ≡ false → (if b && o then suc n else n) ≡ n
late_if true o n e = let no : true ≡ false = e in cc
late_if false o n e = refl

report_sound : (b : Before) (s : MarkerServer) (t : StepResult) → MayReport s t → SoundAt b s → SoundAt b (reported t s)
report_sound b s t m h = record {
  one = h.one;
  mine = h.mine;
  attempt = attempt_if (is_attempt t) s.attempt s.committed h.attempt;
  commits =
      λ e. elim (or_cases (list_any is_commit s.results) (is_commit t) (sym (any_more is_commit s.results t) ∙ e)) [
        | inl k ↦ h.commits k
        | inr k ↦ says_commit s t m h.attempt k
      ];
  conflicts =
      λ e. elim
      (or_cases (list_any (is_conflict retry.Marker) s.results) (is_conflict retry.Marker t)
      (sym (any_more (is_conflict retry.Marker) s.results t) ∙ e)) [
        | inl k ↦ h.conflicts k
        | inr k ↦ says_conflict s t m k
      ];
  tombstones =
      λ e. elim
      (or_cases (list_any (has_tombstone retry.Marker) s.results) (has_tombstone retry.Marker t)
      (sym (any_more (has_tombstone retry.Marker) s.results t) ∙ e)) [
        | inl k ↦ h.tombstones k
        | inr k ↦ says_tombstone s t m k
      ];
  sure = λ d c.
      let p : Policy = record { retry = retry.Marker; before = b; tries = 0 } in
      let doubts : (in_doubt p s.results || is_doubt retry.Marker t) ≡ false = sym (doubt_more p s.results t) ∙ d in
      let commits : (list_any is_commit s.results || is_commit t) ≡ false = sym (any_more is_commit s.results t) ∙ c in
      let no_doubt : is_doubt retry.Marker t ≡ false =
      or_right (in_doubt p s.results) (is_doubt retry.Marker t) doubts in
      let no_commit : is_commit t ≡ false = or_right (list_any is_commit s.results) (is_commit t) commits in
      let at : (s.late ≡ 0) × AttemptOnly s.attempt s.committed =
      h.sure (or_left (in_doubt p s.results) (is_doubt retry.Marker t) doubts)
      (or_left (list_any is_commit s.results) (is_commit t) commits) in (
        late_if (is_doubt retry.Marker t) (is_waiting s.attempt) s.late no_doubt
            ∙ at.0,
        stays_sure s t m no_commit no_doubt at.1,
      );
}

-- Each event

step : (b : Before) (s n : MarkerServer) (e : Event) → Step s e n → SoundAt b s → SoundAt b n
step b s n Event.Send h so =
    subst (SoundAt b) (sym h.1)
    (sends b s.committed s.late s.results (subst (λ (z : Attempt). Sound b s.committed z s.late s.results) h.0 so))
step b s n Event.Commit h so =
    subst (SoundAt b) (sym h.1)
    (works b s.committed s.late s.results (subst (λ (z : Attempt). Sound b s.committed z s.late s.results) h.0 so))
step b s n Event.CommitLate h so =
    subst (SoundAt b) (sym h.2)
    (works_late b s.committed s.attempt h.0 s.results
    (subst (λ (z : ℕ). Sound b s.committed s.attempt z s.results) h.1 so))
step b s n (Event.OthersWrite m) h so = subst (SoundAt b) (sym h) (writes b m s.committed s.attempt s.late s.results so)
step b s n (Event.Report t) h so = subst (SoundAt b) (sym h.1) (report_sound b s t h.0 so)

leads : (b : Before) (es : List Event) (s n : MarkerServer) → RunsTo s es n → SoundAt b s → SoundAt b n
leads b [] s n h so = subst (SoundAt b) h so
leads b (e ∷ es) s n h so = leads b es h.0 n h.2 (step b s h.0 e h.1 so)

-- The start

begins_by : (b : Before) (c : List Marked) (late : ℕ) → length c ≤ 1 → MineAreOurs c
    → (starts_in_doubt b ≡ false → (late ≡ 0) × NoneMine c) → Sound b c Attempt.Idle late []
unfolding AttemptShows AttemptOnly
begins_by b c late one mine sure = record {
  one = one;
  mine = mine;
  attempt = tt;
  commits = λ h. let no : false ≡ true = h in cc;
  conflicts = λ h. let no : false ≡ true = h in cc;
  tombstones = λ h. let no : false ≡ true = h in cc;
  sure = λ d k. sure (or_left (starts_in_doubt b) false d);
}

begins : (b : Before) (s : MarkerServer) → Starts b s → SoundAt b s
unfolding MineAreOurs
begins before.Nothing s h =
    let at : (c : List Marked) → s.committed ≡ c → Sound before.Nothing c Attempt.Idle 0 [] → SoundAt before.Nothing s =
    λ c e so. subst (λ (z : List Marked). Sound before.Nothing z s.attempt s.late s.results) (sym e)
    (subst (λ (z : Attempt). Sound before.Nothing c z s.late s.results) (sym h.0)
    (subst (λ (z : ℕ). Sound before.Nothing c Attempt.Idle z s.results) (sym h.2)
    (subst (λ (z : List StepResult). Sound before.Nothing c Attempt.Idle 0 z) (sym h.1) so))) in
    elim h.3 [
      | inl e ↦ at [] e (begins_by before.Nothing [] 0 (omega arith) tt (λ _. (refl, tt)))
      | inr k ↦
          at (theirs k.0 ∷ []) k.1
          (begins_by before.Nothing (theirs k.0 ∷ []) 0 (omega arith) (λ e. let no : false ≡ true = e in cc, tt)
          (λ _. (refl, (refl, tt))))
    ]
begins before.InDoubt s h =
    let at : (c : List Marked) → s.committed ≡ c → Sound before.InDoubt c Attempt.Idle s.late []
    → SoundAt before.InDoubt s =
    λ c e so. subst (λ (z : List Marked). Sound before.InDoubt z s.attempt s.late s.results) (sym e)
    (subst (λ (z : Attempt). Sound before.InDoubt c z s.late s.results) (sym h.0)
    (subst (λ (z : List StepResult). Sound before.InDoubt c Attempt.Idle s.late z) (sym h.1) so)) in
    elim h.2 [
      | inl e ↦ at [] e (begins_by before.InDoubt [] s.late (omega arith) tt (λ d. let no : true ≡ false = d in cc))
      | inr more ↦ elim more [
        | inl e ↦
            at (ours ∷ []) e
            (begins_by before.InDoubt (ours ∷ []) s.late (omega arith) (λ e. refl, tt)
            (λ d. let no : true ≡ false = d in cc))
        | inr k ↦
            at (theirs k.0 ∷ []) k.1
            (begins_by before.InDoubt (theirs k.0 ∷ []) s.late (omega arith) (λ e. let no : false ≡ true = e in cc, tt)
            (λ d. let no : true ≡ false = d in cc))
      ]
    ]

-- The meaning of a fate

is_ours : MarkerRow → Bool
is_ours row.Ours = true
is_ours m = false

apart : (m : MarkerRow) → m ≡ row.Tombstone → m ≡ row.Ours → ⊥
unfolding is_ours
apart m e f = let no : false ≡ true = sym (ap is_ours e) ∙ ap is_ours f in cc

not_mine : (b : Bool) → (b ≡ true → ⊥) → b ≡ false
not_mine true h = absurd (h refl)
not_mine false h = refl

tombstone_none : (c : List Marked) → MineAreOurs c → Shows row.Tombstone c → NoneMine c
unfolding MineAreOurs
tombstone_none [] m h = tt
tombstone_none (w ∷ []) m h = (not_mine w.mine (λ e. apart w.shows h (m.0 e)), tt)
tombstone_none (w ∷ x ∷ xs) m h = absurd h

means : (s : MarkerServer) (a b c d e : Bool) → (a ≡ true → Shows row.Ours s.committed)
    → (b ≡ true → Shows row.Other s.committed)
    → (c ≡ true → NoneMine s.committed) → (d ≡ false → a ≡ false → NoneMine s.committed) → Means (fate_by a b c d e) s
means s true b c d e x y z n = x refl
means s false true c d e x y z n = y refl
means s false false true d true x y z n = z refl
means s false false true d false x y z n = z refl
means s false false false true e x y z n = tt
means s false false false false true x y z n = n refl refl
means s false false false false false x y z n = n refl refl

idle_only : (l : Attempt) (c : List Marked) → l ≡ Attempt.Idle → AttemptOnly l c → NoneMine c
unfolding AttemptOnly
idle_only l c e h = subst (λ (z : Attempt). AttemptOnly z c) e h

pub fate_with_marker : FateWithMarker
fate_with_marker b tries first last events pending h l idle =
    let so : SoundAt b last = leads b events first last l (begins b first h) in
    let p : Policy = record { retry = retry.Marker; before = b; tries = tries } in (
      so.one,
      means last (list_any is_commit last.results) (list_any (is_conflict retry.Marker) last.results)
          (list_any (has_tombstone retry.Marker) last.results) (in_doubt p last.results || pending)
          (list_any is_refusal last.results) so.commits so.conflicts
          (λ e. tombstone_none last.committed so.mine (so.tombstones e))
          (λ d k.
          idle_only last.attempt last.committed (idle (or_right (in_doubt p last.results) pending d))
          (so.sure (or_left (in_doubt p last.results) pending d) k).1),
    )

-- Two runs

abbrev at : List Marked → Attempt → ℕ → List StepResult → MarkerServer
at c a late ts = record { committed = c; attempt = a; late = late; results = ts }

-- the results of the first attempt
abbrev first : List StepResult → List StepResult
first ts = result.InDoubt support.Unknown ∷ result.NoMarker ∷ ts

s1 : MarkerServer
s1 = at [] Attempt.Waiting 0 []

s2 : MarkerServer
s2 = at [] Attempt.Idle 1 (result.InDoubt support.Unknown ∷ [])

s3 : MarkerServer
s3 = at [] Attempt.Idle 1 (first [])

s4 : MarkerServer
s4 = at [] Attempt.Waiting 1 (first [])

s5 : MarkerServer
s5 = at (ours ∷ []) Attempt.Waiting 0 (first [])

s6 : MarkerServer
s6 = at (ours ∷ []) (Attempt.Done false) 0 (first [])

s7 : MarkerServer
s7 = at (ours ∷ []) Attempt.Idle 0 (first (result.InDoubt support.Unknown ∷ []))

s8 : MarkerServer
s8 = at (ours ∷ []) Attempt.Idle 0 (first (result.InDoubt support.Unknown ∷ result.Marker row.Ours ∷ []))

v4 : MarkerServer
v4 = at (theirs row.Tombstone ∷ []) Attempt.Idle 1 (first [])

v5 : MarkerServer
v5 = at (theirs row.Tombstone ∷ []) Attempt.Idle 1 (first (result.TombstoneWritten ∷ []))

v6 : MarkerServer
v6 = at (theirs row.Tombstone ∷ []) Attempt.Idle 0 (first (result.TombstoneWritten ∷ []))

pub marker_examples : MarkerExamples
unfolding s1 s2 s3 s4 s5 s6 s7 s8 v4 v5 v6
marker_examples = (
  (
    s8,
    (
      s1,
      (refl, refl),
      (
        s2,
        (tt, refl),
        (
          s3,
          (tt, refl),
          (s4, (refl, refl), (s5, (0, refl, refl), (s6, (refl, refl), (s7, (tt, refl), (s8, (refl, refl), refl))))),
        ),
      ),
    ),
    refl,
  ),
  (
    v6,
    (
      s1,
      (refl, refl),
      (s2, (tt, refl), (s3, (tt, refl), (v4, refl, (v5, (refl, refl), (v6, (0, refl, refl), refl))))),
    ),
    refl,
  ),
)
