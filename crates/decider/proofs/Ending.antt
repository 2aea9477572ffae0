-- A caller that makes each next step comes to an end.
use Rattle.std.proofs.Common.{◌≡◌, ◌≤◌, ◌+◌, refl, sym, ◌∙◌, subst, ℕ, suc, Bool, true, false, not, ◌&&◌, ◌||◌, if◌then◌else◌, Option, Some, List, [], ◌∷◌, ◌++◌, length, arith, append_assoc, append-nil}
use Rattle.std.specs.List.{list_any}
use Rattle.decider.specs.declared.policy.Retry.{Retry}
use Rattle.decider.specs.declared.policy.Retry.TheVariants as retry
use Rattle.decider.specs.declared.policy.Policy.{Policy}
use Rattle.decider.specs.declared.steps.TokenSupport.{TokenSupport}
use Rattle.decider.specs.declared.steps.StepResult.{StepResult}
use Rattle.decider.specs.declared.steps.StepResult.TheVariants as result
use Rattle.decider.specs.declared.steps.Next.{Next}
use Rattle.decider.specs.declared.steps.Next.TheVariants as next
use Rattle.decider.specs.Rules.{is_commit, is_conflict, has_tombstone, is_stop, is_attempt, is_tombstone_write, uses_marker, count, is_settled, greeted, may_send, needs_greeting, needs_read, next_by, next_of}
use Rattle.decider.specs.Laws.{answers, Follows, FewSteps}
use Rattle.decider.proofs.Bools.{or_left, or_right, or_true_right}
use Rattle.decider.proofs.Appending.{any_more, count_more, last_more}
use Rattle.decider.proofs.Facts.{Facts, facts, next_from}
use Rattle.decider.proofs.Attempts.{few_attempts}

-- it is the result of reading a marker or of a greeting
is_look : StepResult → Bool
is_look (result.Marker m) = true
is_look result.NoMarker = true
is_look result.MarkerNotRead = true
is_look (result.Greeted s) = true
is_look t = false

asks_look : Next → Bool
asks_look next.ReadMarker = true
asks_look next.Greet = true
asks_look n = false

is_greet : Next → Bool
is_greet next.Greet = true
is_greet n = false

is_read : Next → Bool
is_read next.ReadMarker = true
is_read n = false

-- 0 if a look is next
pause : Bool → ℕ
pause b = if b then 0 else 1

one : Bool → ℕ
one b = if b then 1 else 0

ends : (s : Bool) (n : Next) → s ≡ true → asks_look (if s then next.End else n) ≡ false
unfolding asks_look
ends true n h = refl
ends false n h = let no : false ≡ true = h in cc

not_ended : (s : Bool) (n : Next) (t : StepResult) → answers (if s then next.End else n) t ≡ true → s ≡ false
not_ended true n t h = let no : false ≡ true = h in cc
not_ended false n t h = refl

-- No look follows a greeting; with a marker, none follows a read.

no_look : (a b c d : Bool)
    → asks_look (if a && b then next.Attempt else (if c && d then next.WriteTombstone else next.End)) ≡ false
unfolding asks_look
no_look true true c d = refl
no_look true false true true = refl
no_look true false true false = refl
no_look true false false d = refl
no_look false b true true = refl
no_look false b true false = refl
no_look false b false d = refl

no_greeting : (b a : Bool) → asks_look (if b then next.End else (if a then next.Attempt else next.End)) ≡ false
unfolding asks_look
no_greeting true a = refl
no_greeting false true = refl
no_greeting false false = refl

no_more : (q : Retry) (u : Bool) (s : TokenSupport) → needs_greeting q u (Some s) ≡ false
no_more retry.Detect true s = refl
no_more retry.Detect false s = refl
no_more retry.Tokens u s = refl
no_more retry.Marker u s = refl
no_more retry.Never u s = refl

greeted_by : (s m : Bool) (q : Retry) (d u r i n v : Bool) (k : TokenSupport)
    → asks_look (next_by s m q d u r i n v (Some (result.Greeted k))) ≡ false
unfolding asks_look
greeted_by true m q d u r i n v k = refl
greeted_by false true q d u r i n v k = no_look n (not r) d v
greeted_by false false q d u r i n v k =
    subst (λ (z : Bool). asks_look (if not n || (if d then i else r) then next.End
    else (if may_send q d u (Some k) then next.Attempt else (if z then next.Greet else next.End))) ≡ false)
    (sym (no_more q u k)) (no_greeting (not n || (if d then i else r)) (may_send q d u (Some k)))

greeted_once : (f : Facts) (k : TokenSupport)
    → asks_look (next_from (record f { last = Some (result.Greeted k) })) ≡ false
greeted_once f k =
    greeted_by f.settled
    (uses_marker f.retry) f.retry f.doubt f.unprotected f.refused f.invalid f.attempts f.tombstones k

read_by : (s m : Bool) (q : Retry) (d u r i n v : Bool) (t : StepResult) → m ≡ true → needs_read d (Some t) ≡ false
    → asks_look (next_by s m q d u r i n v (Some t)) ≡ false
unfolding asks_look
read_by true m q d u r i n v t e h = refl
read_by false true q d u r i n v t e h =
    subst (λ (z : Bool). asks_look (if z then next.ReadMarker
    else (if n && not r then next.Attempt else (if d && v then next.WriteTombstone else next.End))) ≡ false)
    (sym h) (no_look n (not r) d v)
read_by false false q d u r i n v t e h = let no : false ≡ true = e in cc

read_once : (f : Facts) (t : StepResult) → uses_marker f.retry ≡ true → ((d : Bool) → needs_read d (Some t) ≡ false)
    → asks_look (next_from (record f { last = Some t })) ≡ false
read_once f t m h =
    read_by f.settled (uses_marker f.retry) f.retry f.doubt f.unprotected f.refused f.invalid f.attempts f.tombstones t
    m (h f.doubt)

-- only with a marker it is read
reads_by : (s m : Bool) (q : Retry) (d u r i n v : Bool) (last : Option StepResult)
    → is_read (next_by s m q d u r i n v last) ≡ true → m ≡ true
unfolding is_read
reads_by true m q d u r i n v last h = let no : false ≡ true = h in cc
reads_by false true q d u r i n v last h = refl
reads_by false false q d u r i n v last h =
    absurd (never (not n || (if d then i else r)) (may_send q d u (greeted last)) (needs_greeting q u (greeted last)) h)
  where
    never : (a b c : Bool)
        → is_read (if a then next.End else (if b then next.Attempt else (if c then next.Greet else next.End))) ≡ true
        → ⊥
    never true b c h = let no : false ≡ true = h in cc
    never false true c h = let no : false ≡ true = h in cc
    never false false true h = let no : false ≡ true = h in cc
    never false false false h = let no : false ≡ true = h in cc

reads_marker : (f : Facts) → is_read (next_from f) ≡ true → uses_marker f.retry ≡ true
reads_marker f h =
    reads_by f.settled (uses_marker f.retry) f.retry f.doubt f.unprotected f.refused f.invalid f.attempts f.tombstones
    f.last h

-- a look is next if one is reported
asked_look : (n : Next) (t : StepResult) → answers n t ≡ true → is_look t ≡ true → asks_look n ≡ true
unfolding asks_look is_look
asked_look next.ReadMarker t a h = refl
asked_look next.Greet t a h = refl
asked_look next.End t a h = a
asked_look next.Attempt (result.Marker m) a h = a
asked_look next.Attempt result.NoMarker a h = a
asked_look next.Attempt result.MarkerNotRead a h = a
asked_look next.Attempt (result.Greeted k) a h = a
asked_look next.WriteTombstone (result.Marker m) a h = a
asked_look next.WriteTombstone result.NoMarker a h = a
asked_look next.WriteTombstone result.MarkerNotRead a h = a
asked_look next.WriteTombstone (result.Greeted k) a h = a
asked_look n (result.Committed k) a h = let no : false ≡ true = h in cc
asked_look n result.Conflict a h = let no : false ≡ true = h in cc
asked_look n (result.PermanentFailure k) a h = let no : false ≡ true = h in cc
asked_look n result.TransientFailure a h = let no : false ≡ true = h in cc
asked_look n (result.InvalidRequest k) a h = let no : false ≡ true = h in cc
asked_look n result.NoCommitSent a h = let no : false ≡ true = h in cc
asked_look n (result.InDoubt s) a h = let no : false ≡ true = h in cc
asked_look n result.TombstoneWritten a h = let no : false ≡ true = h in cc
asked_look n result.TombstoneUnconfirmed a h = let no : false ≡ true = h in cc
asked_look n result.Stopped a h = let no : false ≡ true = h in cc

after_greeting : (p : Policy) (done : List StepResult) (k : TokenSupport)
    → asks_look (next_of p (done ++ result.Greeted k ∷ [])) ≡ false
after_greeting p done k =
    subst
    (λ (z : Option StepResult). asks_look
    (next_from (record (facts p (done ++ result.Greeted k ∷ [])) { last = z })) ≡ false)
    (sym (last_more done (result.Greeted k))) (greeted_once (facts p (done ++ result.Greeted k ∷ [])) k)

after_read : (p : Policy) (done : List StepResult) (t : StepResult) → is_read (next_of p done) ≡ true
    → ((d : Bool) → needs_read d (Some t) ≡ false) → asks_look (next_of p (done ++ t ∷ [])) ≡ false
after_read p done t a w =
    subst (λ (z : Option StepResult). asks_look (next_from (record (facts p (done ++ t ∷ [])) { last = z })) ≡ false)
    (sym (last_more done t)) (read_once (facts p (done ++ t ∷ [])) t (reads_marker (facts p done) a) w)

read_asked : (n : Next) (t : StepResult) → answers n t ≡ true → asks_look n ≡ true → answers next.Greet t ≡ false
    → is_read n ≡ true
unfolding is_read asks_look
read_asked next.ReadMarker t a h g = refl
read_asked next.Greet t a h g = let no : false ≡ true = sym g ∙ a in cc
read_asked next.Attempt t a h g = h
read_asked next.WriteTombstone t a h g = h
read_asked next.End t a h g = h

after : (p : Policy) (done : List StepResult) (t : StepResult) → answers (next_of p done) t ≡ true → is_look t ≡ true
    → asks_look (next_of p (done ++ t ∷ [])) ≡ false
unfolding is_look
after p done (result.Greeted k) a h = after_greeting p done k
after p done (result.Marker m) a h =
    after_read p done (result.Marker m)
    (read_asked (next_of p done) (result.Marker m) a (asked_look (next_of p done) (result.Marker m) a h) refl)
    (λ d. refl)
after p done result.NoMarker a h =
    after_read p done result.NoMarker
    (read_asked (next_of p done) result.NoMarker a (asked_look (next_of p done) result.NoMarker a h) refl) (λ d. refl)
after p done result.MarkerNotRead a h =
    after_read p done result.MarkerNotRead
    (read_asked (next_of p done) result.MarkerNotRead a (asked_look (next_of p done) result.MarkerNotRead a h) refl)
    (λ d. refl)
after p done (result.Committed k) a h = let no : false ≡ true = h in cc
after p done result.Conflict a h = let no : false ≡ true = h in cc
after p done (result.PermanentFailure k) a h = let no : false ≡ true = h in cc
after p done result.TransientFailure a h = let no : false ≡ true = h in cc
after p done (result.InvalidRequest k) a h = let no : false ≡ true = h in cc
after p done result.NoCommitSent a h = let no : false ≡ true = h in cc
after p done (result.InDoubt s) a h = let no : false ≡ true = h in cc
after p done result.TombstoneWritten a h = let no : false ≡ true = h in cc
after p done result.TombstoneUnconfirmed a h = let no : false ≡ true = h in cc
after p done result.Stopped a h = let no : false ≡ true = h in cc

-- How many

each_is : (t : StepResult) → one (is_attempt t) + one (is_tombstone_write t) + one (is_look t) + one (is_stop t) ≡ 1
unfolding one is_look
each_is (result.Committed k) = omega arith
each_is result.Conflict = omega arith
each_is (result.PermanentFailure k) = omega arith
each_is result.TransientFailure = omega arith
each_is (result.InvalidRequest k) = omega arith
each_is result.NoCommitSent = omega arith
each_is (result.InDoubt s) = omega arith
each_is result.TombstoneWritten = omega arith
each_is result.TombstoneUnconfirmed = omega arith
each_is result.Stopped = omega arith
each_is (result.Marker m) = omega arith
each_is result.NoMarker = omega arith
each_is result.MarkerNotRead = omega arith
each_is (result.Greeted k) = omega arith

more_if : (b : Bool) (n : ℕ) → (if b then suc n else n) ≡ n + one b
unfolding one
more_if true n = omega arith
more_if false n = omega arith

all_are : (ts : List StepResult)
    → length ts ≡ count is_attempt ts + count is_tombstone_write ts + count is_look ts + count is_stop ts
all_are [] = omega arith
all_are (t ∷ ts) =
    let a : count is_attempt (t ∷ ts) ≡ count is_attempt ts + one (is_attempt t) =
    more_if (is_attempt t) (count is_attempt ts) in
    let b : count is_tombstone_write (t ∷ ts) ≡ count is_tombstone_write ts + one (is_tombstone_write t) =
    more_if (is_tombstone_write t) (count is_tombstone_write ts) in
    let c : count is_look (t ∷ ts) ≡ count is_look ts + one (is_look t) = more_if (is_look t) (count is_look ts) in
    let d : count is_stop (t ∷ ts) ≡ count is_stop ts + one (is_stop t) = more_if (is_stop t) (count is_stop ts) in
    let e : one (is_attempt t) + one (is_tombstone_write t) + one (is_look t) + one (is_stop t) ≡ 1 = each_is t in
    let r : length ts ≡ count is_attempt ts + count is_tombstone_write ts + count is_look ts + count is_stop ts =
    all_are ts in
    omega (arith, a, b, c, d, e, r)

-- the invariant of these results
record Few (p : Policy) (done : List StepResult) : Type 0 where
  looks : count is_look done ≤ count is_attempt done + count is_tombstone_write done + pause
      (asks_look (next_of p done))
  stops : count is_stop done ≤ 1

no_stops : (ts : List StepResult) → list_any is_stop ts ≡ false → count is_stop ts ≡ 0
no_stops [] h = refl
no_stops (t ∷ ts) h =
    subst (λ (z : Bool). (if z then suc (count is_stop ts) else count is_stop ts) ≡ 0)
    (sym (or_left (is_stop t) (list_any is_stop ts) h)) (no_stops ts (or_right (is_stop t) (list_any is_stop ts) h))

stops_of : (p : Policy) (ts : List StepResult) → is_settled p ts ≡ false → list_any is_stop ts ≡ false
stops_of p ts h =
    let d : Bool = list_any is_stop ts in
    let c : Bool = list_any (has_tombstone p.retry) ts in
    let b : Bool = list_any (is_conflict p.retry) ts in
    let a : Bool = list_any is_commit ts in
    or_right c d (or_right b (c || d) (or_right a (b || (c || d)) h))

settles : (p : Policy) (ts : List StepResult) → list_any is_stop ts ≡ true → is_settled p ts ≡ true
settles p ts h =
    or_true_right (list_any is_commit ts) _ (or_true_right (list_any (is_conflict p.retry) ts) _
    (or_true_right (list_any (has_tombstone p.retry) ts) _ h))

stopped : (p : Policy) (done : List StepResult) (t : StepResult) → is_stop t ≡ true
    → asks_look (next_of p (done ++ t ∷ [])) ≡ false
stopped p done t h =
    ends (is_settled p (done ++ t ∷ [])) _
    (settles p (done ++ t ∷ []) (any_more is_stop done t ∙ or_true_right (list_any is_stop done) (is_stop t) h))

-- the numbers with one more result
fits : (l y v : ℕ) (b c : Bool) (lt yt vt st : Bool) → l ≤ y + v + pause b
    → (lt ≡ true → b ≡ true) → (lt ≡ true → c ≡ false) → (st ≡ true → c ≡ false)
    → one yt + one vt + one lt + one st ≡ 1 → l + one lt ≤ (y + one yt) + (v + one vt) + pause c
unfolding one pause
fits l y v b c true yt vt st h look after stop e =
    let h2 : l ≤ y + v + 0 = subst (λ (z : Bool). l ≤ y + v + pause z) (look refl) h in
    subst (λ (z : Bool). l + 1 ≤ (y + one yt) + (v + one vt) + pause z) (sym (after refl)) (omega (arith, h2))
fits l y v b c false yt vt true h look after stop e =
    let h2 : l ≤ y + v + 1 = at b h in
    subst (λ (z : Bool). l + 0 ≤ (y + one yt) + (v + one vt) + pause z) (sym (stop refl)) (omega (arith, h2))
  where
    at : (b : Bool) → l ≤ y + v + pause b → l ≤ y + v + 1
    at true h = omega (arith, h)
    at false h = h
fits l y v b c false yt vt false h look after stop e =
    let h2 : l ≤ y + v + 1 = at b h in
    omega (arith, h2, e)
  where
    at : (b : Bool) → l ≤ y + v + pause b → l ≤ y + v + 1
    at true h = omega (arith, h)
    at false h = h

few_stops : (p : Policy) (done : List StepResult) (t : StepResult) (b : Bool)
    → is_settled p done ≡ false → count is_stop done ≤ 1 → count is_stop done + one b ≤ 1
unfolding one
few_stops p done t b s h = at b (no_stops done (stops_of p done s))
  where
    at : (b : Bool) → count is_stop done ≡ 0 → count is_stop done + one b ≤ 1
    at true n = omega (arith, n)
    at false n = omega (arith, n)

step : (p : Policy) (done : List StepResult) (t : StepResult) → answers (next_of p done) t ≡ true → Few p done
    → Few p (done ++ t ∷ [])
unfolding one
step p done t a f =
    let looks : count is_look done + one (is_look t)
    ≤ (count is_attempt done + one (is_attempt t)) + (count is_tombstone_write done + one (is_tombstone_write t))
    + pause (asks_look (next_of p (done ++ t ∷ []))) =
    fits (count is_look done) (count is_attempt done) (count is_tombstone_write done) (asks_look (next_of p done))
    (asks_look (next_of p (done ++ t ∷ []))) (is_look t) (is_attempt t) (is_tombstone_write t) (is_stop t) f.looks
    (asked_look (next_of p done) t a) (after p done t a) (stopped p done t) (each_is t) in
    let stops : count is_stop done + one (is_stop t) ≤ 1 =
    few_stops p done t (is_stop t) (not_ended (is_settled p done) _ t a) f.stops in
    let x : count is_look (done ++ t ∷ []) ≡ count is_look done + one (is_look t) = count_more is_look done t in
    let y : count is_attempt (done ++ t ∷ []) ≡ count is_attempt done + one (is_attempt t) =
    count_more is_attempt done t in
    let z : count is_tombstone_write (done ++ t ∷ []) ≡ count is_tombstone_write done + one (is_tombstone_write t) =
    count_more is_tombstone_write done t in
    let w : count is_stop (done ++ t ∷ []) ≡ count is_stop done + one (is_stop t) = count_more is_stop done t in
    record {
      looks = omega (arith, looks, x, y, z);
      stops = omega (arith, stops, w);
    }

all_few : (p : Policy) (done ts : List StepResult) → Follows p done ts → Few p done → Few p (done ++ ts)
all_few p done [] h f = subst (Few p) (sym (append-nil done)) f
all_few p done (t ∷ ts) h f =
    subst (Few p) (append_assoc done (t ∷ []) ts) (all_few p (done ++ t ∷ []) ts h.1 (step p done t h.0 f))

pause_one : (b : Bool) → pause b ≤ 1
unfolding pause
pause_one true = omega arith
pause_one false = omega arith

pub few_steps : FewSteps
few_steps p ts h =
    let f : Few p ts = all_few p [] ts h (record { looks = omega arith; stops = omega arith }) in
    let n : (count is_attempt ts ≤ p.tries) × (count is_tombstone_write ts ≤ p.tries) = few_attempts p ts h in
    let l : count is_look ts ≤ count is_attempt ts + count is_tombstone_write ts + pause (asks_look (next_of p ts)) =
    f.looks in
    let s : count is_stop ts ≤ 1 = f.stops in
    let t : count is_attempt ts ≤ p.tries = n.0 in
    let v : count is_tombstone_write ts ≤ p.tries = n.1 in
    let o : pause (asks_look (next_of p ts)) ≤ 1 = pause_one (asks_look (next_of p ts)) in
    let all : length ts ≡ count is_attempt ts + count is_tombstone_write ts + count is_look ts + count is_stop ts =
    all_are ts in
    omega (arith, l, s, t, v, o, all)
