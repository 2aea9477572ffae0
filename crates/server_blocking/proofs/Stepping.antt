-- What is due of a session with one place at most, step by step, and what goes out of it.
use Rattle.std.proofs.Common.{◌≡◌, ◌⊎◌, inl, inr, refl, sym, ap, subst, ◌∙◌, ℕ, zero, suc, ◌<◌, ◌≤◌, List, [], ◌∷◌, ◌++◌, length, append-nil, append_assoc, Bool, true, false, Option, Some, None, arith, Result, Ok, IsSome, ◌&&◌, ◌||◌, if◌then◌else◌, nat_le}
use Rattle.wire.specs.declared.Version.{Version}
use Rattle.messages.specs.Prelude.{RequestView, Arrival, Asked, Unread, TooLong, Shook, NoMagic}
use Rattle.messages.specs.Arrivals as arrival
use Rattle.machine.specs.declared.states.State.{State}
use Rattle.machine.specs.Prelude.{kind_of, is_reset, interruptible}
use Rattle.engine.specs.Prelude.{EntryView, WriteView, ParameterView, AnswerView, QueryFault, Welcome}
use Rattle.server_session.specs.declared.kinds.Cause.{Cause}
use Rattle.server_session.specs.Prelude.{Setting, Open, no_result, Tx, Reply, OneRow, Summary, Bye, no_tx, serve, Kept, rests, ends, turns, serves, reset_among, Done, Idle, Full, WroteRow, Wrote, Ended, Step, work_kept, replies, after_interrupt, after_item, version_of, commit_entries, worked_of}
use Rattle.server_session.proofs.Served.{Served, writes_row, serving}
use Rattle.machine.specs.declared.kinds.Kind.{Kind}
use Rattle.server_blocking.specs.Prelude.{Talk, silent, after_bytes, talk_then, heard_out, step_then, steps, steps_due, with_talk, IsPlaced, due, next_of, Works, Holds, HoldsPart, settled, IsPartSettled, GoesOn, BreaksAt, IsFront, SinkView}
use Rattle.server_blocking.specs.declared.due.Next.{Next}
use Rattle.server_blocking.specs.declared.due.Next.TheVariants as next
use Rattle.wire.specs.Prelude.{Opened}
use Rattle.server.specs.Prelude.{Rest, find, setting, work_at}
use Rattle.engine.specs.declared.answer.Mode.{Mode as QueryMode}
use Rattle.server_blocking.proofs.Called.{by_option, stepped_talk}
use Rattle.server_blocking.proofs.Views.{part_held}

-- A row that is written leaves fewer.
pub Lessens : ℕ → Reply → Type 0
Lessens n (OneRow r left) = suc (length left.rows) ≤ n
Lessens n _ = Unit {0}

served_lessens : (S : Setting) (ledger : List EntryView) (s : State) (left : Open) (tx : Tx) (k : Kind) (reply : Reply) → Served S ledger s left tx k reply → Lessens (length left.rows) reply
unfolding Lessens
served_lessens S ledger s left tx k reply (writes_row r rs e) = let n : length left.rows ≡ suc (length rs) = ap length e in omega (arith, n)
served_lessens S ledger s left tx k reply _ = tt

pub serve_lessens : (S : Setting) (v : Version) (c : ℕ) (ledger : List EntryView) (s : State) (left : Open) (tx : Tx) (q : RequestView) → Lessens (length left.rows) (serve S v c ledger s left tx q)
serve_lessens S v c ledger s left tx q = served_lessens S ledger s left tx (kind_of q) _ (serving S v c ledger s left tx q)

-- a step that puts something, and after a summary leaves nothing that waits
abbrev pub IsPut : Kept → Done → Type 0
IsPut l (WroteRow row) = Unit {0}
IsPut l (Wrote x) = l.waiting ≡ []
IsPut l _ = ⊥

-- What a step of a session is, where one place at most is taken and nothing is unsent: nothing is due; the session has ended, or ends; or
-- something is put, and fewer steps are due.
pub data StepKind (k : Kept) (d : Step) : Type 0 where
  idle : d ≡ rests k Idle → k.ended ≡ None → k.waiting ≡ [] → k.unsent ≡ [] → StepKind k d
  over : (e : Cause) → d.answer ≡ Ended e → d.kept.ended ≡ Some e → d.commit ≡ None → d.kept.unsent ≡ [] → d.kept.version ≡ k.version → ((d.kept ≡ k) ⊎ (0 < due k)) → StepKind k d
  puts : IsPut d.kept d.answer → IsPlaced d.kept.waiting → suc (due d.kept) ≤ due k → d.kept.version ≡ k.version → StepKind k d

module _ (S : Setting) (c : ℕ) (ledger : List EntryView) (k : Kept) (sent : k.unsent ≡ []) where
  waits_one : (x : Arrival) → k.waiting ≡ x ∷ [] → due k ≡ suc (length k.result.rows)
  waits_one x e = ap (λ z. steps_due z (length k.result.rows)) e

  by_reply : (s : Kept) (q : RequestView) → k.waiting ≡ Asked q ∷ [] → s.waiting ≡ k.waiting → s.unsent ≡ [] → s.version ≡ k.version → length s.result.rows ≤ length k.result.rows → (p : Reply) → Lessens (length s.result.rows) p → StepKind k (replies ledger s q [] p)
  unfolding Lessens
  by_reply s q e w t v l (OneRow r left) h =
      let d = waits_one (Asked q) e in
      let f : steps_due s.waiting (length left.rows) ≡ suc (length left.rows) = ap (λ z. steps_due z (length left.rows)) (w ∙ e) in
      puts tt (subst IsPlaced (sym (w ∙ e)) tt) (omega arith) v
  by_reply s q e w t v l Bye h = let d = waits_one (Asked q) e in over Cause.Goodbye refl refl refl t v (inr (omega arith))
  by_reply s q e w t v l (Summary d m left tx entry) h = let d = waits_one (Asked q) e in puts refl tt (omega arith) v

  by_interrupted : (b : Bool) (q : RequestView) → k.waiting ≡ Asked q ∷ [] → StepKind k (serves S c ledger (if b then after_interrupt k else k) q [])
  by_interrupted true q e = by_reply (after_interrupt k) q e refl sent refl (omega arith) _ (serve_lessens S (version_of k) c ledger State.Interrupted no_result no_tx q)
  by_interrupted false q e = by_reply k q e refl sent refl (omega arith) _ (serve_lessens S (version_of k) c ledger k.state k.result k.tx q)

  by_turn : k.ended ≡ None → (xs : List Arrival) → k.waiting ≡ xs → IsPlaced xs → StepKind k (turns S c ledger k xs)
  by_turn o [] e p = idle refl o e sent
  by_turn o (Asked q ∷ []) e p = by_interrupted ((is_reset (kind_of q) || false) && interruptible k.state) q e
  by_turn o (Unread x ∷ []) e p = let d = waits_one (Unread x) e in over Cause.Malformed refl refl refl sent refl (inr (omega arith))
  by_turn o (TooLong ∷ []) e p = let d = waits_one TooLong e in over Cause.TooBig refl refl refl sent refl (inr (omega arith))
  by_turn o _ e p = absurd p

  by_end : IsPlaced k.waiting → (o : Option Cause) → k.ended ≡ o → StepKind k (work_kept S c ledger k o)
  by_end p (Some e) q = over e refl q refl sent refl (inl refl)
  by_end p None q = subst (λ (z : List ℕ). StepKind k (if nat_le 65536 (length z) then rests k Full else turns S c ledger k k.waiting)) (sym sent) (by_turn q k.waiting refl p)

  pub stepped : IsPlaced k.waiting → StepKind k (work_kept S c ledger k k.ended)
  stepped p = by_end p k.ended refl

-- What a session is once nothing is due: nothing is unsent, and where it goes on nothing waits.
pub record Rested (k : Kept) : Type 0 where
  pub sent : k.unsent ≡ []
  pub done : k.ended ≡ None → k.waiting ≡ []

abbrev pub after_step : Setting → ℕ → List EntryView → Kept → Step
after_step S c ledger k = work_kept S c ledger k k.ended

-- the steps that follow one that puts something
pub steps_put : (S : Setting) (c n : ℕ) (ledger : List EntryView) (k : Kept) (d : Step) → IsPut d.kept d.answer → step_then c k.first ledger d d.answer (steps S c n) ≡ after_bytes d.kept.unsent (steps S c n (ledger ++ commit_entries c k.first d.commit) (heard_out d.kept))
steps_put S c n ledger k d p = go d.answer p
  where
    go : (a : Done) → IsPut d.kept a → step_then c k.first ledger d a (steps S c n) ≡ after_bytes d.kept.unsent (steps S c n (ledger ++ commit_entries c k.first d.commit) (heard_out d.kept))
    go (WroteRow row) p = refl
    go (Wrote x) p = refl
    go _ p = absurd p

-- and of one that puts nothing
pub steps_idle : (S : Setting) (c n : ℕ) (ledger : List EntryView) (k : Kept) → after_step S c ledger k ≡ rests k Idle → steps S c n ledger k ≡ silent ledger k
steps_idle S c zero ledger k e = refl
steps_idle S c (suc n) ledger k e = ap (λ (d : Step). step_then c k.first ledger d d.answer (steps S c n)) e

pub steps_over : (S : Setting) (c n : ℕ) (ledger : List EntryView) (k : Kept) (e : Cause) → (after_step S c ledger k).answer ≡ Ended e → (((after_step S c ledger k).kept ≡ k) ⊎ (0 < due k)) → due k ≤ n → steps S c n ledger k ≡ silent ledger (after_step S c ledger k).kept
steps_over S c zero ledger k e a (inl s) l = ap (silent ledger) (sym s)
steps_over S c zero ledger k e a (inr s) l = absurd (omega arith)
steps_over S c (suc n) ledger k e a s l = ap (λ (x : Done). step_then c k.first ledger (after_step S c ledger k) x (steps S c n)) a

-- Where nothing waits nothing is done, however many steps there might be.
pub steps_none : (S : Setting) (c n : ℕ) (ledger : List EntryView) (k : Kept) → k.unsent ≡ [] → k.ended ≡ None → k.waiting ≡ [] → steps S c n ledger k ≡ silent ledger k
steps_none S c n ledger k s o w = go (stepped S c ledger k s (subst IsPlaced (sym w) tt))
  where
    none : due k ≡ 0
    none = ap (λ (xs : List Arrival). steps_due xs (length k.result.rows)) w

    go : StepKind k (after_step S c ledger k) → steps S c n ledger k ≡ silent ledger k
    go (idle e q v u) = steps_idle S c n ledger k e
    go (over e a q m u v (inl same)) = let bad : Some e ≡ None = sym q ∙ ap (λ (x : Kept). x.ended) same ∙ o in cc
    go (over e a q m u v (inr some)) = absurd (omega (arith, none, some))
    go (puts i q f v) = absurd (omega (arith, none, f))

-- nor after an end
pub steps_ended : (S : Setting) (c n : ℕ) (ledger : List EntryView) (k : Kept) (cause : Cause) → k.ended ≡ Some cause → steps S c n ledger k ≡ silent ledger k
steps_ended S c zero ledger k cause e = refl
steps_ended S c (suc n) ledger k cause e = ap (λ (o : Option Cause). let d = work_kept S c ledger k o in step_then c k.first ledger d d.answer (steps S c n)) e

pub steps_waitless : (S : Setting) (c n : ℕ) (ledger : List EntryView) (k : Kept) → k.unsent ≡ [] → k.waiting ≡ [] → steps S c n ledger k ≡ silent ledger k
steps_waitless S c n ledger k s w = by_option (λ o. steps S c n ledger k ≡ silent ledger k) k.ended (λ cause e. steps_ended S c n ledger k cause e) (λ e. steps_none S c n ledger k s e w)

-- After all that is due nothing is.
abbrev pub RestsAs : Kept → Talk → Type 0
RestsAs k t = Rested t.kept × (t.kept.version ≡ k.version)

steps_rest_go : (S : Setting) (c n : ℕ) (ledger : List EntryView) (k : Kept) → due k ≤ n
    → ((m : ℕ) (after : List EntryView) (l : Kept) → n ≡ suc m → l.unsent ≡ [] → IsPlaced l.waiting → due l ≤ m → RestsAs l (steps S c m after l))
    → StepKind k (after_step S c ledger k) → RestsAs k (steps S c n ledger k)
steps_rest_go S c n ledger k l more (idle e o w u) = subst (RestsAs k) (sym (steps_idle S c n ledger k e)) (record { sent = u; done = λ _. w }, refl)
steps_rest_go S c n ledger k l more (over e a o m u v f) = subst (RestsAs k) (sym (steps_over S c n ledger k e a f l)) (record { sent = u; done = λ h. let bad : Some e ≡ None = sym o ∙ h in cc }, v)
steps_rest_go S c zero ledger k l more (puts i q f v) = absurd (omega arith)
steps_rest_go S c (suc m) ledger k l more (puts i q f v) =
    let d = after_step S c ledger k in
    let h = more m (ledger ++ commit_entries c k.first d.commit) (heard_out d.kept) refl refl q (omega arith) in
    subst (RestsAs k) (sym (steps_put S c m ledger k d i)) (h.0, h.1 ∙ v)

pub steps_rest : (S : Setting) (c n : ℕ) (ledger : List EntryView) (k : Kept) → k.unsent ≡ [] → IsPlaced k.waiting → due k ≤ n → RestsAs k (steps S c n ledger k)
steps_rest S c zero ledger k s p l = steps_rest_go S c zero ledger k l (λ m after o e. cc) (stepped S c ledger k s p)
steps_rest S c (suc n) ledger k s p l =
    steps_rest_go S c (suc n) ledger k l (λ m after o e. let same : n ≡ m = cc in subst (λ (z : ℕ). o.unsent ≡ [] → IsPlaced o.waiting → due o ≤ z → RestsAs o (steps S c z after o)) same (steps_rest S c n after o)) (stepped S c ledger k s p)

-- The ledger only grows.
abbrev pub Grown : List EntryView → Talk → Type 0
Grown ledger t = (more : List EntryView) × (ledger ++ more ≡ t.ledger)

grown_then : (c first : ℕ) (ledger : List EntryView) (d : Step) (a : Done) (more : List EntryView → Kept → Talk) → ((after : List EntryView) (l : Kept) → Grown after (more after l)) → Grown ledger (step_then c first ledger d a more)
grown_then c first ledger d (WroteRow row) more f = let h = f (ledger ++ commit_entries c first d.commit) (heard_out d.kept) in (commit_entries c first d.commit ++ h.0, sym (append_assoc ledger (commit_entries c first d.commit) h.0) ∙ h.1)
grown_then c first ledger d (Wrote x) more f = let h = f (ledger ++ commit_entries c first d.commit) (heard_out d.kept) in (commit_entries c first d.commit ++ h.0, sym (append_assoc ledger (commit_entries c first d.commit) h.0) ∙ h.1)
grown_then c first ledger d _ more f = ([], append-nil ledger)

pub steps_grow : (S : Setting) (c n : ℕ) (ledger : List EntryView) (k : Kept) → Grown ledger (steps S c n ledger k)
steps_grow S c zero ledger k = ([], append-nil ledger)
steps_grow S c (suc n) ledger k = let d = after_step S c ledger k in grown_then c k.first ledger d d.answer (steps S c n) (λ after l. steps_grow S c n after l)

-- bytes before bytes before a conversation
pub after_twice : (a b : List ℕ) (t : Talk) → after_bytes a (after_bytes b t) ≡ after_bytes (a ++ b) t
after_twice a b t = ap (λ z. record { out = z; ledger = t.ledger; kept = t.kept }) (sym (append_assoc a b t.out))

-- what is put out behind this
abbrev pub behind : List ℕ → Kept → Kept
behind held k = record k { unsent = held ++ k.unsent }

-- a step of a session that holds this
abbrev pub step_behind : List ℕ → Step → Step
step_behind held d = record { kept = behind held d.kept; commit = d.commit; answer = d.answer }

module _ (held : List ℕ) where
  abbrev holding : Kept → Kept
  holding k = record k { unsent = held }

  nothing_behind : (k : Kept) → holding k ≡ behind held (heard_out k)
  nothing_behind k = ap (λ (z : List ℕ). record k { unsent = z }) (sym (append-nil held))

  resting_behind : (k : Kept) (a : Done) → rests (holding k) a ≡ step_behind held (rests (heard_out k) a)
  resting_behind k a = ap (λ (l : Kept). rests l a) (nothing_behind k)

  replies_behind : (ledger : List EntryView) (k : Kept) (q : RequestView) (later : List Arrival) (p : Reply) → replies ledger (holding k) q later p ≡ step_behind held (replies ledger (heard_out k) q later p)
  replies_behind ledger k q later (OneRow r left) = refl
  replies_behind ledger k q later Bye = resting_behind (ends Cause.Goodbye k) (Ended Cause.Goodbye)
  replies_behind ledger k q later (Summary d m left tx entry) = refl

  serves_behind : (S : Setting) (c : ℕ) (ledger : List EntryView) (b : Bool) (k : Kept) (q : RequestView) (later : List Arrival) → serves S c ledger (if b then after_interrupt (holding k) else holding k) q later ≡ step_behind held (serves S c ledger (if b then after_interrupt (heard_out k) else heard_out k) q later)
  serves_behind S c ledger true k q later = replies_behind ledger (after_interrupt k) q later _
  serves_behind S c ledger false k q later = replies_behind ledger k q later _

  -- what is held changes nothing of a turn
  turns_behind : (S : Setting) (c : ℕ) (ledger : List EntryView) (k : Kept) (xs : List Arrival) → turns S c ledger (holding k) xs ≡ step_behind held (turns S c ledger (heard_out k) xs)
  turns_behind S c ledger k (Asked q ∷ later) = serves_behind S c ledger (reset_among (Asked q ∷ later) && interruptible k.state) k q later
  turns_behind S c ledger k (Unread e ∷ later) = resting_behind (ends Cause.Malformed k) (Ended Cause.Malformed)
  turns_behind S c ledger k (TooLong ∷ later) = resting_behind (ends Cause.TooBig k) (Ended Cause.TooBig)
  turns_behind S c ledger k _ = resting_behind k Idle

  interrupted_behind : (b : Bool) (k : Kept) → (if b then after_interrupt (holding k) else holding k) ≡ behind held (if b then after_interrupt (heard_out k) else heard_out k)
  interrupted_behind true k = nothing_behind (after_interrupt k)
  interrupted_behind false k = nothing_behind k

  -- nor of what an item does that arrives
  pub item_behind : (k : Kept) (o : Option Arrival) → after_item (holding k) o ≡ behind held (after_item (heard_out k) o)
  item_behind k None = nothing_behind k
  item_behind k (Some (Shook (Some v))) = refl
  item_behind k (Some (Shook None)) = refl
  item_behind k (Some NoMagic) = nothing_behind (ends Cause.BadMagic k)
  item_behind k (Some arrival.Idle) = nothing_behind k
  item_behind k (Some (Asked q)) = interrupted_behind (is_reset (kind_of q) && interruptible k.state) (record k { waiting = k.waiting ++ Asked q ∷ [] })
  item_behind k (Some (Unread e)) = nothing_behind (record k { waiting = k.waiting ++ Unread e ∷ [] })
  item_behind k (Some TooLong) = nothing_behind (record k { waiting = k.waiting ++ TooLong ∷ [] })

pub heard_same : (k : Kept) → k.unsent ≡ [] → heard_out k ≡ k
heard_same k e = ap (λ (z : List ℕ). record k { unsent = z }) (sym e)

pub silent_same : (t : Talk) → after_bytes t.out (silent t.ledger t.kept) ≡ t
silent_same t = ap (λ (z : List ℕ). record { out = z; ledger = t.ledger; kept = t.kept }) (append-nil t.out)

-- What was said by a moment, and what follows it.
pub front_then : (t : Talk) (more : List EntryView → Kept → Talk) → Grown t.ledger (more t.ledger t.kept) → IsFront t (talk_then t more)
front_then t more g = record { more = g.0; rest = (more t.ledger t.kept).out; grown = g.1; due = refl }

pub front_same : (t : Talk) → IsFront t t
front_same t = record { more = []; rest = []; grown = append-nil t.ledger; due = append-nil t.out }

pub front_later : {a b c : Talk} → IsFront a b → IsFront b c → IsFront a c
front_later {a = a} p q = record {
  more = p.more ++ q.more;
  rest = p.rest ++ q.rest;
  grown = sym (append_assoc a.ledger p.more q.more) ∙ ap (λ z. z ++ q.more) p.grown ∙ q.grown;
  due = sym (append_assoc a.out p.rest q.rest) ∙ ap (λ z. z ++ q.rest) p.due ∙ q.due;
}

-- What is so of the moment gives what is so of it.
abbrev pub breaks_off : {whole : Talk} {Comes IsSo Then : Talk → Type 0} → BreaksAt whole Comes IsSo → ((s : Talk) → IsSo s → Then s) → BreaksAt whole Comes Then
breaks_off b f = record { so_far = b.so_far; comes = b.comes; is_so = f b.so_far b.is_so; front = b.front }

-- before the first step
pub goes_first : {G : Type 0} {r : Rest G} {conn : ℕ} {u : Opened} {S : Setting} {before taken : SinkView} {Now : Rest G → Type 0} (t : Talk) → t.kept.unsent ≡ [] → IsPlaced t.kept.waiting → Holds r conn u t Now before taken → GoesOn r conn u t S Now before taken
goes_first t s p h = record { most = due t.kept; so_far = t; follows = refl; comes = λ n. (n, refl); sent = s; placed = p; enough = omega arith; holds = h }

module _ {G : Type 0} {r : Rest G} {conn : ℕ} {u : Opened} {S : Setting} {t : Talk} {before taken : SinkView} {Now : Rest G → Type 0} (g : GoesOn r conn u t S Now before taken) where
  -- what it holds was put out
  pub goes_with : {Then : Rest G → Type 0} {new : SinkView} → Holds r conn u g.so_far Then before new → GoesOn r conn u t S Then before new
  goes_with h = record { most = g.most; so_far = g.so_far; follows = g.follows; comes = g.comes; sent = g.sent; placed = g.placed; enough = g.enough; holds = h }

  -- nothing more is done
  pub goes_whole : (l : Kept) → steps S conn g.most g.so_far.ledger g.so_far.kept ≡ silent g.so_far.ledger l → {Then : Rest G → Type 0} → Then (with_talk r conn u g.so_far.ledger (record l { unsent = g.holds.held })) → Holds r conn u (settled S conn t) Then before taken
  goes_whole l e {Then = Then} now =
      subst (λ (x : Talk). Holds r conn u x Then before taken) (sym (g.follows ∙ ap (after_bytes g.so_far.out) e))
      (record { gone = g.holds.gone; held = g.holds.held; parts = g.holds.parts ∙ sym (append-nil g.so_far.out); took = g.holds.took; now = now })

  -- a fault comes
  pub goes_wrong : {Then : Rest G → Type 0} {new : SinkView} → HoldsPart r conn Then before new g.so_far → BreaksAt (settled S conn t) (IsPartSettled S conn t) (HoldsPart r conn Then before new)
  goes_wrong {Then = Then} {new = new} p =
      subst (λ (x : Talk). BreaksAt x (IsPartSettled S conn t) (HoldsPart r conn Then before new)) (sym g.follows)
      (record { so_far = g.so_far; comes = subst (IsPartSettled S conn t) (silent_same g.so_far) (g.comes 0); is_so = p; front = front_then g.so_far (steps S conn g.most) (steps_grow S conn g.most g.so_far.ledger g.so_far.kept) })

-- all that it holds is a part
pub holds_part : {G : Type 0} {r : Rest G} {conn : ℕ} {u : Opened} {t : Talk} {before taken : SinkView} {Now : Rest G → Type 0} → Holds r conn u t Now before taken → HoldsPart r conn Now before taken t
holds_part {u = u} {t = t} h = record {
  unfinished = u;
  kept = record t.kept { unsent = h.held };
  grows = part_held h.gone h.parts h.took.grows;
  known = part_held h.gone h.parts h.took.known;
  now = h.now;
}

-- and nothing was done
pub holds_same : {G : Type 0} {r : Rest G} {conn : ℕ} {u : Opened} {t : Talk} {before taken : SinkView} {old new : Rest G} → new ≡ old → Holds r conn u t (λ x. old ≡ x) before taken → Holds r conn u t (λ x. new ≡ x) before taken
holds_same e h = record { gone = h.gone; held = h.held; parts = h.parts; took = h.took; now = e ∙ h.now }

module _ {G : Type 0} {r : Rest G} {conn : ℕ} (i : IsSome (find conn r.sessions)) {u : Opened} (answer : List EntryView → List WriteView → List ℕ → List ParameterView → QueryMode → Result AnswerView QueryFault) (welcomes : G → Welcome) {t : Talk} {before taken : SinkView} {old : Rest G}
    (g : GoesOn r conn u t (setting answer welcomes r) (λ x. old ≡ x) before taken) (new : Rest G) where
  abbrev S : Setting
  S = setting answer welcomes r

  abbrev k : Kept
  k = g.so_far.kept

  abbrev ledger : List EntryView
  ledger = g.so_far.ledger

  abbrev held : List ℕ
  held = g.holds.held

  abbrev Stood : Step → Type 0
  Stood d = new ≡ with_talk r conn u (ledger ++ commit_entries conn k.first d.commit) d.kept

  -- what is so after a step
  abbrev pub Follows : Next → Type 0
  Follows next.Rest = Holds r conn u (settled S conn t) (λ x. new ≡ x) before taken
  Follows _ = GoesOn r conn u t S (λ x. new ≡ x) before taken

  same_ledger : (l : Kept) → new ≡ with_talk r conn u (ledger ++ []) l → new ≡ with_talk r conn u ledger l
  same_ledger l e = e ∙ ap (λ (x : List EntryView). with_talk r conn u x l) (append-nil ledger)

  abbrev d : Step
  d = after_step S conn ledger k

  -- something was put
  go_put : (m : ℕ) → g.most ≡ suc m → IsPut d.kept d.answer → IsPlaced d.kept.waiting → suc (due d.kept) ≤ due k → Stood (step_behind held d) → GoesOn r conn u t S (λ x. new ≡ x) before taken
  go_put m e i p l n =
      let out = d.kept.unsent in
      let after = ledger ++ commit_entries conn k.first d.commit in
      let next : (n : ℕ) → talk_then g.so_far (steps S conn (suc n)) ≡ after_bytes (g.so_far.out ++ out) (steps S conn n after (heard_out d.kept)) =
      λ n. ap (after_bytes g.so_far.out) (steps_put S conn n ledger k d i) ∙ after_twice g.so_far.out out (steps S conn n after (heard_out d.kept)) in
      let few = g.enough in
      record {
        most = m;
        so_far = record { out = g.so_far.out ++ out; ledger = after; kept = heard_out d.kept };
        follows = g.follows ∙ ap (λ (n : ℕ). talk_then g.so_far (steps S conn n)) e ∙ next m;
        comes = λ n. subst (IsPartSettled S conn t) (next n) (g.comes (suc n));
        sent = refl;
        placed = p;
        enough = omega (arith, e, few, l);
        holds = record { gone = g.holds.gone; held = held ++ out; parts = sym (append_assoc g.holds.gone held out) ∙ ap (λ (z : List ℕ). z ++ out) g.holds.parts; took = g.holds.took; now = n };
      }

  by_put : (m : ℕ) → g.most ≡ m → IsPut d.kept d.answer → IsPlaced d.kept.waiting → suc (due d.kept) ≤ due k → Stood (step_behind held d) → Follows (next_of (worked_of d.answer))
  unfolding go_put
  by_put zero e i p l n = let few = g.enough in absurd (omega (arith, e, few, l))
  by_put (suc m) e i p l n = go d.answer i (go_put m e i p l n) refl
    where
      go : (a : Done) → IsPut d.kept a → (o : GoesOn r conn u t S (λ x. new ≡ x) before taken) → o.so_far.kept ≡ heard_out d.kept → Follows (next_of (worked_of a))
      go (WroteRow row) w o q = o
      go (Wrote x) w o q = goes_whole o o.so_far.kept (steps_waitless S conn o.most o.so_far.ledger o.so_far.kept o.sent (ap (λ (l : Kept). l.waiting) q ∙ w)) o.holds.now
      go _ w o q = absurd w

  by_kind : StepKind k d → Stood (step_behind held d) → Follows (next_of (worked_of d.answer))
  by_kind (idle e o w s) n =
      let now : Stood (step_behind held (rests k Idle)) = subst (λ (x : Step). Stood (step_behind held x)) e n in
      let same : behind held k ≡ record k { unsent = held } = ap (λ (z : List ℕ). record k { unsent = held ++ z }) s ∙ ap (λ (z : List ℕ). record k { unsent = z }) (append-nil held) in
      subst (λ (x : Step). Follows (next_of (worked_of x.answer))) (sym e)
      (goes_whole g k (steps_idle S conn g.most ledger k e) (subst (λ (l : Kept). new ≡ with_talk r conn u ledger l) same (same_ledger (behind held k) now)))
  by_kind (over c a o m s v f) n =
      let same : behind held d.kept ≡ record d.kept { unsent = held } = ap (λ (z : List ℕ). record d.kept { unsent = held ++ z }) s ∙ ap (λ (z : List ℕ). record d.kept { unsent = z }) (append-nil held) in
      let now : new ≡ with_talk r conn u (ledger ++ []) (behind held d.kept) = subst (λ x. new ≡ with_talk r conn u (ledger ++ commit_entries conn k.first x) (behind held d.kept)) m n in
      subst (λ (x : Done). Follows (next_of (worked_of x))) (sym a)
      (goes_whole g d.kept (steps_over S conn g.most ledger k c a f g.enough) (subst (λ (l : Kept). new ≡ with_talk r conn u ledger l) same (same_ledger (behind held d.kept) now)))
  by_kind (puts i p l v) n = by_put g.most refl i p l n

  abbrev K : Kept
  K = record k { unsent = held }

  by_room : k.ended ≡ None → (b : Bool) → Stood (if b then rests K Full else turns S conn ledger K k.waiting) → Follows (next_of (worked_of (if b then rests K Full else turns S conn ledger K k.waiting).answer))
  by_room o true n = goes_with g (record { gone = g.holds.gone; held = held; parts = g.holds.parts; took = g.holds.took; now = same_ledger K n })
  by_room o false n =
      let open_turn : d ≡ turns S conn ledger k k.waiting = ap (work_kept S conn ledger k) o ∙ ap (λ (z : List ℕ). if nat_le 65536 (length z) then rests k Full else turns S conn ledger k k.waiting) g.sent in
      let e : turns S conn ledger K k.waiting ≡ step_behind held d = turns_behind held S conn ledger k k.waiting ∙ ap (λ (l : Kept). step_behind held (turns S conn ledger l k.waiting)) (heard_same k g.sent) ∙ ap (step_behind held) (sym open_turn) in
      subst (λ (x : Step). Follows (next_of (worked_of x.answer))) (sym e) (by_kind (stepped S conn ledger k g.sent g.placed) (subst Stood e n))

  by_open : (o : Option Cause) → k.ended ≡ o → Stood (work_kept S conn ledger K o) → Follows (next_of (worked_of (work_kept S conn ledger K o).answer))
  by_open (Some cause) e n =
      let done : steps S conn g.most ledger k ≡ silent ledger k = steps_ended S conn g.most ledger k cause e in
      goes_whole g k done (same_ledger K n)
  by_open None e n = by_room e (nat_le 65536 (length held)) n

  -- a step of so many at most
  pub goes_by : (next : Next) → Works (work_at answer welcomes conn) old new (Ok next) → Follows next
  goes_by next h =
      let w = stepped_talk r conn i u ledger K answer welcomes h.0 new (ap (work_at answer welcomes conn) (sym g.holds.now) ∙ h.1) in
      subst Follows (sym (h.2 ∙ ap next_of w.0)) (by_open k.ended refl w.1)
