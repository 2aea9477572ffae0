-- Connections by their numbers, in lists that are taken from the front and added to at the back.
use Rattle.std.proofs.Common.{◌≡◌, ◌≢◌, ◌<◌, ◌≤◌, ◌+◌, ◌==◌, if◌then◌else◌, refl, sym, ap, ◌∙◌, ℕ, arith, Bool, true, false, List, [], ◌∷◌, ◌++◌, length, map, take, drop, zero, suc, add-one, slice_index_or, slice_set, append_assoc, append-nil, Option, Some, None}
use Rattle.std.specs.List.{AllByRecursion}
use Rattle.std.proofs.lemmas.Bool.{eqb-true, eqb-false, eq-eqb}
use Rattle.server_event_loop.specs.declared.limits.Readiness.{Readiness}
use Rattle.server_event_loop.specs.declared.seat.Seat.{Seat}
use Rattle.server_event_loop.specs.declared.closing.Closing.{Closing}
use Rattle.server_event_loop.specs.Turns.{joined}
use Rattle.server_event_loop.specs.ConnectionPrelude.{Held, holding, seat_held}
use Rattle.server_event_loop.specs.Prelude.{Told, Owed, Gone, seats_at, closings_at, closing_owed, woken_seat, woken_closing, TellsMore, AreTold}

pub each_push : {A : Type 0} (P : A → Type 0) (xs : List A) (x : A) → AllByRecursion P xs → P x → AllByRecursion P (xs ++ x ∷ [])
each_push P [] x all it = (it, tt)
each_push P (y ∷ ys) x all it = (all.0, each_push P ys x all.1 it)

pub each_as : {A : Type 0} (P Q : A → Type 0) → ((x : A) → P x → Q x) → (xs : List A) → AllByRecursion P xs → AllByRecursion Q xs
each_as P Q f [] all = tt
each_as P Q f (x ∷ xs) all = (f x all.0, each_as P Q f xs all.1)

pub seats_push : (k : ℕ) (hs : List Held) (h : Held) → seats_at k (hs ++ h ∷ []) ≡ seats_at k (h ∷ hs)
seats_push k [] h = refl
seats_push k (x ∷ hs) h = let e = seats_push k hs h in omega (arith, e)

pub closings_push : (k : ℕ) (cs : List Owed) (c : Owed) → closings_at k (cs ++ c ∷ []) ≡ closings_at k (c ∷ cs)
closings_push k [] c = refl
closings_push k (x ∷ cs) c = let e = closings_push k cs c in omega (arith, e)

one_of : (b : Bool) (n : ℕ) → (if b then 1 else 0) + n ≡ 0 → b ≡ false
one_of true n e = absurd (omega (arith, e))
one_of false n e = refl

rest_of_none : (b : Bool) (n : ℕ) → (if b then 1 else 0) + n ≡ 0 → n ≡ 0
rest_of_none b n e = omega (arith, e)

-- what holds of each, where a number has none of them
pub seats_apart : (P Q : Held → Type 0) (k : ℕ) → ((h : Held) → h.conn ≢ k → P h → Q h) → (hs : List Held) → seats_at k hs ≡ 0 → AllByRecursion P hs → AllByRecursion Q hs
seats_apart P Q k f [] none all = tt
seats_apart P Q k f (h ∷ hs) none all = (f h (eqb-false h.conn k (one_of (h.conn == k) (seats_at k hs) none)) all.0, seats_apart P Q k f hs (rest_of_none (h.conn == k) (seats_at k hs) none) all.1)

pub closings_apart : (P Q : Owed → Type 0) (k : ℕ) → ((c : Owed) → c.conn ≢ k → P c → Q c) → (cs : List Owed) → closings_at k cs ≡ 0 → AllByRecursion P cs → AllByRecursion Q cs
closings_apart P Q k f [] none all = tt
closings_apart P Q k f (c ∷ cs) none all = (f c (eqb-false c.conn k (one_of (c.conn == k) (closings_at k cs) none)) all.0, closings_apart P Q k f cs (rest_of_none (c.conn == k) (closings_at k cs) none) all.1)

apart_below : (m k : ℕ) → m < k → ◌≡◌ {A = ℕ} (if m == k then 1 else 0) 0
apart_below m k l = go (m == k) refl
  where
    go : (b : Bool) → (m == k) ≡ b → ◌≡◌ {A = ℕ} (if b then 1 else 0) 0
    go true e = let same = eqb-true m k e in absurd (omega (arith, l, same))
    go false e = refl

-- a number above all of them
pub no_seats : (P : Held → Type 0) (k : ℕ) → ((h : Held) → P h → h.conn < k) → (hs : List Held) → AllByRecursion P hs → seats_at k hs ≡ 0
no_seats P k f [] all = refl
no_seats P k f (h ∷ hs) all = let e = apart_below h.conn k (f h all.0) in let d = no_seats P k f hs all.1 in omega (arith, e, d)

pub no_closings : (k : ℕ) (cs : List Owed) → AllByRecursion (λ c. c.conn < k) cs → closings_at k cs ≡ 0
no_closings k [] all = refl
no_closings k (c ∷ cs) all = let e = apart_below c.conn k all.0 in let d = no_closings k cs all.1 in omega (arith, e, d)

-- the first has its number alone
pub first_alone : (k n : ℕ) → (if k == k then 1 else 0) + n ≤ 1 → n ≡ 0
first_alone k n l = let e : ◌≡◌ {A = ℕ} (if k == k then 1 else 0) 1 = rw (eq-eqb k k refl) refl in omega (arith, e, l)

pub holding_own : (held : ℕ → Held) (h : Held) (k : ℕ) → k ≡ h.conn → holding held h k ≡ h
holding_own held h k e = rw (eq-eqb k h.conn e) refl

pub holding_other : (held : ℕ → Held) (h : Held) (k : ℕ) → k ≢ h.conn → holding held h k ≡ held k
holding_other held h k d = go (k == h.conn) refl
  where
    go : (b : Bool) → (k == h.conn) ≡ b → (if b then h else held k) ≡ held k
    go true e = absurd (d (eqb-true k h.conn e))
    go false e = refl

pub holding_same : (held : ℕ → Held) (j : ℕ) → (held j).conn ≡ j → (k : ℕ) → holding held (held j) k ≡ held k
holding_same held j e k = go (k == (held j).conn) refl
  where
    go : (b : Bool) → (k == (held j).conn) ≡ b → (if b then held j else held k) ≡ held k
    go true d = ap held (sym (eqb-true k (held j).conn d ∙ e))
    go false d = refl

-- a list of which each element is written in turn
written_next : {A : Type 0} (f : A → A) (old : List A) (i : ℕ) (x : A) → i < length old → x ≡ slice_index_or (map f (take i old) ++ drop i old) i x → slice_set (map f (take i old) ++ drop i old) i (f x) ≡ map f (take (suc i) old) ++ drop (suc i) old
written_next f [] i x l e = absurd (omega (arith, l))
written_next f (y ∷ ys) zero x l e = ap (λ z. f z ∷ ys) e
written_next f (y ∷ ys) (suc i) x l e = ap (λ zs. f y ∷ zs) (written_next f ys i x (omega (arith, l)) e)

pub one_written : {A : Type 0} (f : A → A) (old now : List A) (i : ℕ) (x y : A) → i < length old → now ≡ map f (take i old) ++ drop i old → x ≡ slice_index_or now i x → y ≡ f x → slice_set now i y ≡ map f (take (i + 1) old) ++ drop (i + 1) old
one_written f old now i x y l e is so =
    ap (λ zs. slice_set zs i y) e ∙ ap (λ z. slice_set (map f (take i old) ++ drop i old) i z) so ∙ written_next f old i x l (is ∙ ap (λ zs. slice_index_or zs i x) e)
    ∙ ap (λ (n : ℕ). map f (take n old) ++ drop n old) (sym (add-one i))

-- what is ready of a connection is no part of what is held of it
held_woken : (conn : ℕ) (ready : Readiness) (s : Seat) → seat_held (woken_seat conn ready s) ≡ seat_held s
held_woken conn ready s = go (s.line.conn == conn)
  where
    go : (b : Bool) → seat_held (if b then record s { ready = joined s.ready ready } else s) ≡ seat_held s
    go true = refl
    go false = refl

owed_woken : (conn : ℕ) (ready : Readiness) (c : Closing) → closing_owed (woken_closing conn ready c) ≡ closing_owed c
owed_woken conn ready c = go (c.conn == conn)
  where
    go : (b : Bool) → closing_owed (if b then record c { ready = joined c.ready ready } else c) ≡ closing_owed c
    go true = refl
    go false = refl

pub all_held_woken : (conn : ℕ) (ready : Readiness) (ss : List Seat) → map seat_held (map (woken_seat conn ready) ss) ≡ map seat_held ss
all_held_woken conn ready [] = refl
all_held_woken conn ready (s ∷ ss) = ap (λ h. h ∷ map seat_held (map (woken_seat conn ready) ss)) (held_woken conn ready s) ∙ ap (λ hs. seat_held s ∷ hs) (all_held_woken conn ready ss)

pub all_owed_woken : (conn : ℕ) (ready : Readiness) (cs : List Closing) → map closing_owed (map (woken_closing conn ready) cs) ≡ map closing_owed cs
all_owed_woken conn ready [] = refl
all_owed_woken conn ready (c ∷ cs) = ap (λ h. h ∷ map closing_owed (map (woken_closing conn ready) cs)) (owed_woken conn ready c) ∙ ap (λ hs. closing_owed c ∷ hs) (all_owed_woken conn ready cs)

pub tells_none : (told : Option (List Told)) → TellsMore told told []
tells_none None = tt
tells_none (Some xs) = sym (append-nil xs)

pub tells_then : (a b c : Option (List Told)) (xs ys : List Told) → TellsMore a b xs → TellsMore b c ys → TellsMore a c (xs ++ ys)
tells_then None b c xs ys p q = tt
tells_then (Some ws) None c xs ys p q = absurd p
tells_then (Some ws) (Some bs) None xs ys p q = absurd q
tells_then (Some ws) (Some bs) (Some cs) xs ys p q = q ∙ ap (λ (l : List Told). l ++ ys) p ∙ append_assoc ws xs ys

pub told_both : (ts : List Told) (gs : List Gone) (us : List Told) (hs : List Gone) → AreTold ts gs → AreTold us hs → AreTold (ts ++ us) (gs ++ hs)
told_both [] [] us hs p q = q
told_both (t ∷ ts) (g ∷ gs) us hs p q = (p.0, p.1, told_both ts gs us hs p.2 q)
told_both [] (g ∷ gs) us hs p q = absurd p
told_both (t ∷ ts) [] us hs p q = absurd p
