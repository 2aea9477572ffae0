-- What a call on the one session makes of a server: its place there, what each call does to it, and that it lives on while the ledger grows.
use Rattle.std.proofs.Common.{◌≡◌, refl, ap, ℕ, List, [], ◌∷◌, true, false, Bool, Some, sym, subst, ◌∙◌, ◌++◌, Option, None, Result, Ok, Err, ◌<◌, length, ◌≤◌, arith, append_assoc, append-nil, IsSome, option_map, option_and_then, unwrap_or, if◌then◌else◌, inl, inr, take, drop, option_to_list}
use Rattle.std.proofs.lemmas.Bool.Decides.{nat_tests}
use Rattle.std.proofs.lemmas.List.{drop_all}
use Rattle.server.specs.Prelude.{Live, Rest, find, replace, without, with_session, on_live, after_step, setting, work_at, sent_at, fed_live, feed_at, cause_or, lost_at, Feeding, feeding, takes_none, takes_item, arrival}
use Rattle.server.specs.Serving.{cause_at, left_by, unsent_at}
use Rattle.server.proofs.Known.{gone}
use Rattle.server.proofs.Runs.{find_replaced, find-conn}
use Rattle.engine.specs.Prelude.{EntryView, WriteView, ParameterView, AnswerView, QueryFault, Welcome}
use Rattle.wire.specs.Prelude.{Opened, Item, at_server, Took as TookOf, takes, outputs}
use Rattle.server_session.specs.Prelude.{Kept, worked_of, work_kept, commit_entries, shut, full, after_item}
use Rattle.server_blocking.specs.Prelude.{Talk, with_talk, heard_out, without_talk, LeavesOthers, Grows, GrowsOn, LivesOn, Puts, said_by, Feeds, IsPartOut, Holds, HoldsPart, StandsOver, SinkView, PutsBytes, PutsFront}
use Rattle.streams.specs.Moving.{Grows as HasGrown}
use Rattle.engine.specs.declared.answer.Mode.{Mode as QueryMode}
use Rattle.server_session.specs.declared.kinds.Worked.{Worked}
use Rattle.std.specs.Io.KnownBytes.{Appends}
use Rattle.std.proofs.KnownBytes.{Appends-trans}
use Rattle.streams.proofs.Moving.{Grows-trans}
use Rattle.server_blocking.proofs.Views.{puts_trans, part_after, part_all, part_front, part_held, part_taken, part_then}
use Rattle.streams.specs.declared.fault.StreamFault.{StreamFault}
use Rattle.wire.proofs.Readers.{reads_pieces, takes_outputs}
use Rattle.server.specs.declared.kinds.Took.{Took}
use Rattle.server_session.specs.declared.kinds.What.{What}
use Rattle.server_session.specs.declared.kinds.Cause.{Cause}

-- by whether there is one
pub by_option : {A : Type 0} (P : Option A → Type 0) (o : Option A) → ((x : A) → o ≡ Some x → P (Some x)) → (o ≡ None → P None) → P o
by_option P (Some x) some none = some x refl
by_option P None some none = none refl

pub replace-replace : (conn : ℕ) (s t : Live) (ss : List Live) → s.conn ≡ conn → replace conn t (replace conn s ss) ≡ replace conn t ss
replace-replace conn s t [] e = refl
replace-replace conn s t (x ∷ ss) e = grind (arith, nat_tests, replace-replace conn s t ss e)

pub without-replace : (conn : ℕ) (s : Live) (ss : List Live) → s.conn ≡ conn → without conn (replace conn s ss) ≡ without conn ss
without-replace conn s [] e = refl
without-replace conn s (x ∷ ss) e = grind (arith, nat_tests, without-replace conn s ss e)

-- a session in its own place
pub replace-itself : (conn : ℕ) (s : Live) (ss : List Live) → find conn ss ≡ Some s → replace conn s ss ≡ ss
replace-itself conn s [] e = refl
replace-itself conn s (x ∷ ss) e = grind (arith, nat_tests, replace-itself conn s ss)

module _ {G : Type 0} (r : Rest G) (conn : ℕ) (lives : IsSome (find conn r.sessions)) (u : Opened) (ledger : List EntryView) (k : Kept) where
  abbrev pub here : Live
  here = record { conn = conn; kept = k; unfinished = u }

  pub talk-found : find conn (with_talk r conn u ledger k).sessions ≡ Some here
  talk-found = find_replaced conn here r.sessions lives refl

  pub talk-replaced : (v : Opened) (after : List EntryView) (l : Kept) → replace conn (record { conn = conn; kept = l; unfinished = v }) (with_talk r conn u ledger k).sessions ≡ (with_talk r conn v after l).sessions
  talk-replaced v after l = replace-replace conn here (record { conn = conn; kept = l; unfinished = v }) r.sessions refl

  pub talk-without : without conn (with_talk r conn u ledger k).sessions ≡ without conn r.sessions
  talk-without = without-replace conn here r.sessions refl

abbrev pub pair : {A B : Type 0} → A → B → A × B
pair a b = (a, b)

pub some_first : {A B : Type 0} (a x : A) (b y : B) → Some (pair a b) ≡ Some (pair x y) → a ≡ x
some_first a x b y e = ap (λ o. (unwrap_or o (pair a b)).0) e

pub some_second : {A B : Type 0} (a x : A) (b y : B) → Some (pair a b) ≡ Some (pair x y) → b ≡ y
some_second a x b y e = ap (λ o. (unwrap_or o (pair a b)).1) e

-- A prefix of what the session has said is out. It holds what follows that, or nothing.
pub record PutsPart {G : Type 0} (Now : Rest G → Type 0) (r : Rest G) (conn : ℕ) (u : Opened) (ledger : List EntryView) (k : Kept) (before taken : SinkView) : Type 0 where
  pub left : Kept
  pub grows : IsPartOut (HasGrown before.put taken.put) left.unsent k.unsent
  pub known : IsPartOut (Appends before.taken taken.taken) left.unsent k.unsent
  pub now : Now (with_talk r conn u ledger left)

module _ {G : Type 0} (r : Rest G) (conn : ℕ) (lives : IsSome (find conn r.sessions)) (u : Opened) (ledger : List EntryView) (k : Kept) where
  abbrev W : Rest G
  W = with_talk r conn u ledger k

  seated : (v : Opened) (after : List EntryView) (l : Kept) → record { sessions = replace conn (record { conn = conn; kept = l; unfinished = v }) W.sessions; next = r.next; ledger = after; gate = r.gate } ≡ with_talk r conn v after l
  seated v after l = ap (λ (ss : List Live). record { sessions = ss; next = r.next; ledger = after; gate = r.gate }) (talk-replaced r conn lives u ledger k v after l)

  -- what a call answers, and the session after it
  pub called : {A : Type 0} (f : Live → A × Live) (v : Opened) (l : Kept) → (f (here r conn lives u ledger k)).1 ≡ record { conn = conn; kept = l; unfinished = v } → (x : A) (new : Rest G) → on_live f conn W ≡ Some (x, new)
      → (x ≡ (f (here r conn lives u ledger k)).0) × (new ≡ with_talk r conn v ledger l)
  called f v l shape x new e =
      let told = (f (here r conn lives u ledger k)).0 in
      let model = sym e ∙ ap (option_map (λ s. ((f s).0, with_session (f s).1 W))) (talk-found r conn lives u ledger k) ∙ ap (λ t. Some (told, with_session t W)) shape ∙ ap (λ z. Some (told, z)) (seated v ledger l) in
      (some_first x told new (with_talk r conn v ledger l) model, some_second x told new (with_talk r conn v ledger l) model)

  -- a step
  pub stepped_talk : (answer : List EntryView → List WriteView → List ℕ → List ParameterView → QueryMode → Result AnswerView QueryFault) (welcomes : G → Welcome) (x : Worked) (new : Rest G) → work_at answer welcomes conn W ≡ Some (x, new)
      → (let d = work_kept (setting answer welcomes r) conn ledger k k.ended in (x ≡ worked_of d.answer) × (new ≡ with_talk r conn u (ledger ++ commit_entries conn k.first d.commit) d.kept))
  stepped_talk answer welcomes x new e =
      let d = work_kept (setting answer welcomes r) conn ledger k k.ended in
      let after = ledger ++ commit_entries conn k.first d.commit in
      let model = sym e ∙ ap (option_map (λ (s : Live). after_step s (work_kept (setting answer welcomes W) s.conn ledger s.kept s.kept.ended) W)) (talk-found r conn lives u ledger k) ∙ ap (λ z. Some (pair (worked_of d.answer) z)) (seated u after d.kept) in
      (some_first x (worked_of d.answer) new (with_talk r conn u after d.kept) model, some_second x (worked_of d.answer) new (with_talk r conn u after d.kept) model)

  -- all that the session has said is out, or a prefix of it
  module _ (old new : Rest G) (before taken : SinkView) (stood : old ≡ W) where
    put : (out : List ℕ) → on_live said_by conn old ≡ Some (out, new) → (out ≡ k.unsent) × (new ≡ with_talk r conn u ledger (heard_out k))
    put out e = called said_by u (heard_out k) refl out new (ap (on_live said_by conn) (sym stood) ∙ e)

    pub put_whole : Puts conn old new before taken (Ok tt) → (new ≡ with_talk r conn u ledger (heard_out k)) × PutsBytes before taken k.unsent
    put_whole h = let p = put h.0 h.1 in (p.1, subst (PutsBytes before taken) p.0 h.2)

    pub put_front : (fault : StreamFault) → Puts conn old new before taken (Err fault) → PutsPart (λ x. new ≡ x) r conn u ledger k before taken
    put_front fault (inl h) = record { left = k; grows = part_held [] refl h.1.grows; known = part_held [] refl h.1.known; now = h.0 ∙ stood }
    put_front fault (inr h) =
        let p = put h.0 h.1 in
        let w = subst (PutsFront before taken) p.0 h.2 in
        record { left = heard_out k; grows = part_front w.grows; known = part_front w.known; now = p.1 }

-- the server once a session has these bytes left
abbrev left : {G : Type 0} → Rest G → Live → List ℕ → Rest G
left r s z = with_session (record { conn = s.conn; kept = record s.kept { unsent = z }; unfinished = s.unfinished }) r

-- no session has the number where nothing is lent
pub none_lent : {G : Type 0} (conn : ℕ) (r : Rest G) → unsent_at conn r ≡ None → find conn r.sessions ≡ None
none_lent conn r = by_option (λ o. option_map (λ (s : Live). s.kept.unsent) o ≡ None → o ≡ None) (find conn r.sessions) (λ s _ e. absurd cc) (λ _ e. refl)

-- all that was lent is gone
pub lent_out : {G : Type 0} (conn count : ℕ) (r new : Rest G) (x : List ℕ) → unsent_at conn r ≡ Some x → count ≡ length x → new ≡ sent_at conn count r → on_live said_by conn r ≡ Some (x, new)
lent_out {G = G} conn count r new x e n gone =
    by_option (λ o. option_map (λ (s : Live). s.kept.unsent) o ≡ Some x → new ≡ left_by r (option_map {U = List ℕ × Rest G} (λ (s : Live). (take count s.kept.unsent, left r s (drop count s.kept.unsent))) o) → option_map {U = List ℕ × Rest G} (λ (s : Live). (s.kept.unsent, left r s [])) o ≡ Some (x, new)) (find conn r.sessions)
    (λ s _ e gone.
    let same : s.kept.unsent ≡ x = ap (λ o. unwrap_or o x) e in
    let none : drop count s.kept.unsent ≡ [] = drop_all count s.kept.unsent (omega (arith, n, ap length same)) in
    ap (λ z. Some (pair z (left r s []))) same ∙ ap (λ z. Some (pair x z)) (sym (gone ∙ ap (left r s) none))) (λ _ e gone. absurd cc) e gone

abbrev pub by_room : Bool → Bool → Opened → Kept → TookOf Opened Item → Feeding
by_room shut full u k t = if shut then takes_none What.Closed k u else (if full then takes_none What.Full k u else takes_item k t)

room_within : (a b : Bool) (u : Opened) (k : Kept) (t : TookOf Opened Item) (n : ℕ) → t.used ≤ n → (by_room a b u k t).took.used ≤ n
room_within false false u k t n h = h
room_within _ _ u k t n h = omega arith

-- no more bytes are used than there are
pub feed_within : {G : Type 0} (piece : List ℕ) (conn : ℕ) (r new : Rest G) (took : Took) → feed_at conn piece r ≡ Some (took, new) → took.used ≤ length piece
feed_within {G = G} piece conn r new took e =
    by_option (λ o. option_map {U = Took × Rest G} (λ (s : Live). ((fed_live s piece).0, with_session (fed_live s piece).1 r)) o ≡ Some (took, new) → took.used ≤ length piece) (find conn r.sessions)
    (λ s _ e.
    let same : (fed_live s piece).0 ≡ took = some_first (fed_live s piece).0 took (with_session (fed_live s piece).1 r) new e in
    let t = takes at_server s.unfinished piece in
    subst (λ (x : Took). x.used ≤ length piece) same (room_within (shut s.kept) (full s.kept) s.unfinished s.kept t (length piece) ((reads_pieces Opened Item at_server).within s.unfinished piece))) (λ _ e. cc) e

module _ {G : Type 0} (r : Rest G) (conn : ℕ) (i : IsSome (find conn r.sessions)) (u : Opened) (ledger : List EntryView) (k : Kept) (piece : List ℕ) (old new : Rest G) (stood : old ≡ with_talk r conn u ledger k) where
  abbrev t : TookOf Opened Item
  t = takes at_server u piece

  fed_there : (took : Took) → feed_at conn piece old ≡ Some (took, new) → (took ≡ (feeding u piece k).took) × (new ≡ with_talk r conn (feeding u piece k).unfinished ledger (feeding u piece k).kept)
  fed_there took e = called r conn i u ledger k (λ s. fed_live s piece) (feeding u piece k).unfinished (feeding u piece k).kept refl took new (ap (feed_at conn piece) (sym stood) ∙ e)

  by_full : (a b : Bool) (took : Took) → a ≡ false → 0 < took.used → (took ≡ (by_room a b u k t).took) × (new ≡ with_talk r conn (by_room a b u k t).unfinished ledger (by_room a b u k t).kept) → (took ≡ (takes_item k t).took) × (new ≡ with_talk r conn t.rest ledger (after_item k (arrival k t.item)))
  by_full true b took e l h = cc
  by_full false true took e l h = let none : took.used ≡ 0 = ap (λ (x : Took). x.used) h.0 in absurd (omega arith)
  by_full false false took e l h = h

  -- where the session isn't shut and took bytes, it took an item at most
  pub fed_item : (took : Took) → shut k ≡ false → 0 < took.used → Feeds (feed_at conn piece) old new (Ok took) → (took ≡ (takes_item k t).took) × (new ≡ with_talk r conn t.rest ledger (after_item k (arrival k t.item)))
  fed_item took s l h = by_full (shut k) (full k) took s l (fed_there took h)

  -- no item is in no bytes
  nothing_taken : t.used ≡ 0 → t.item ≡ None
  nothing_taken e = by_option (λ o. option_to_list o ≡ [] → o ≡ None) t.item (λ x _ e. cc) (λ _ e. refl) (sym (takes_outputs Opened Item at_server u piece).0 ∙ ap (λ (n : ℕ). outputs at_server u (take n piece)) e)

  kept_by : (a b : Bool) → (by_room a b u k t).took.used ≡ 0 → (by_room a b u k t).kept ≡ k
  kept_by true b e = refl
  kept_by false true e = refl
  kept_by false false e = ap (λ (o : Option Item). after_item k (arrival k o)) (nothing_taken e)

  -- and where it took none it keeps what it kept
  pub fed_none : (fault : StreamFault) → Feeds (feed_at conn piece) old new (Err fault) → (v : Opened) × (new ≡ with_talk r conn v ledger k)
  fed_none fault (inl same) = (u, same ∙ stood)
  fed_none fault (inr h) =
      let f = fed_there h.0 h.1 in
      ((feeding u piece k).unfinished, f.1 ∙ ap (with_talk r conn (feeding u piece k).unfinished ledger) (kept_by (shut k) (full k) (sym (ap (λ (x : Took). x.used) f.0) ∙ h.2)))

module _ {G : Type 0} (r : Rest G) (conn : ℕ) (i : IsSome (find conn r.sessions)) (u : Opened) (ledger : List EntryView) (k : Kept) where
  pub lost_cause : (lost_at conn (with_talk r conn u ledger k)).0 ≡ Some (cause_or k.ended)
  lost_cause = ap (option_map (λ (s : Live). cause_or s.kept.ended)) (talk-found r conn i u ledger k)

  pub lost_rest : (lost_at conn (with_talk r conn u ledger k)).1 ≡ without_talk r conn ledger
  lost_rest = ap (λ (ss : List Live). record { sessions = ss; next = r.next; ledger = ledger; gate = r.gate }) (talk-without r conn i u ledger k)

  -- why it has ended
  pub ended_there : (new : Rest G) → new ≡ with_talk r conn u ledger k → cause_at conn new ≡ k.ended
  ended_there new e = ap (cause_at conn) e ∙ ap (option_and_then {U = Cause} (λ (s : Live). s.kept.ended)) (talk-found r conn i u ledger k)

module _ {G : Type 0} (conn : ℕ) where
  -- a rest is itself with its session in its place
  itself : (r : Rest G) (s : Live) → find conn r.sessions ≡ Some s → with_talk r conn s.unfinished r.ledger s.kept ≡ r
  itself r s e =
      let numbered : record { conn = conn; kept = s.kept; unfinished = s.unfinished } ≡ s = ap (λ (n : ℕ). record { conn = n; kept = s.kept; unfinished = s.unfinished }) (sym (find-conn conn r.sessions s e)) in
      ap (λ (ss : List Live). record { sessions = ss; next = r.next; ledger = r.ledger; gate = r.gate }) (ap (λ (t : Live). replace conn t r.sessions) numbered ∙ replace-itself conn s r.sessions e)

  -- nothing was done
  pub lives_same : (Old : Rest G → Type 0) → LivesOn conn Old Old
  lives_same Old r old i =
      by_option (λ o. IsSome o → Grows r conn Old) (find conn r.sessions)
      (λ s e i. record { unfinished = s.unfinished; kept = s.kept; more = []; now = subst Old (sym (ap (λ (l : List EntryView). with_talk r conn s.unfinished l s.kept) (append-nil r.ledger) ∙ itself r s e)) old })
      (λ e i. cc) i

  -- what grew from every rest lives on
  pub lives_by : (Old Now : Rest G → Type 0) → GrowsOn conn Old Now → LivesOn conn Old Now
  lives_by Old Now grows r old i = grows r i (lives_same Old r old i)

  -- it is still found there
  pub still_found : (r : Rest G) → IsSome (find conn r.sessions) → (u : Opened) (ledger : List EntryView) (k : Kept) → IsSome (find conn (with_talk r conn u ledger k).sessions)
  still_found r i u ledger k = subst IsSome (sym (talk-found r conn i u ledger k)) refl

  pub live_then : (Old Now : Rest G → Type 0) → LivesOn conn Old Now → (r : Rest G) × Old r × IsSome (find conn r.sessions) → (r : Rest G) × Now r × IsSome (find conn r.sessions)
  live_then Old Now lives was =
      let g = lives was.0 was.1 was.2 in
      (with_talk was.0 conn g.unfinished (was.0.ledger ++ g.more) g.kept, g.now, still_found was.0 was.2 g.unfinished (was.0.ledger ++ g.more) g.kept)

  pub live_by : (Old Now : Rest G → Type 0) → GrowsOn conn Old Now → (r : Rest G) × Old r × IsSome (find conn r.sessions) → (r : Rest G) × Now r × IsSome (find conn r.sessions)
  live_by Old Now grows was = live_then Old Now (lives_by Old Now grows) was

  -- what lived on has grown
  pub grows_by : (Mid Now : Rest G → Type 0) → LivesOn conn Mid Now → GrowsOn conn Mid Now
  grows_by Mid Now lives r i a =
      let ledger = r.ledger ++ a.more in
      let b = lives (with_talk r conn a.unfinished ledger a.kept) a.now (still_found r i a.unfinished ledger a.kept) in
      let seated = ap (λ (ss : List Live). record { sessions = ss; next = r.next; ledger = ledger ++ b.more; gate = r.gate }) (talk-replaced r conn i a.unfinished ledger a.kept b.unfinished (ledger ++ b.more) b.kept) in
      let joined = ap (λ (l : List EntryView). with_talk r conn b.unfinished l b.kept) (append_assoc r.ledger a.more b.more) in
      record { unfinished = b.unfinished; kept = b.kept; more = a.more ++ b.more; now = subst Now (seated ∙ joined) b.now }

  -- one thing after another
  pub lives_then : (Old Mid Now : Rest G → Type 0) → LivesOn conn Old Mid → LivesOn conn Mid Now → LivesOn conn Old Now
  lives_then Old Mid Now first second r old i = grows_by Mid Now second r i (first r old i)

  -- nothing changed
  pub grows_same : (old new : Rest G) → new ≡ old → GrowsOn conn (λ r. old ≡ r) (λ r. new ≡ r)
  grows_same old new e r i g = subst (λ (x : Rest G). Grows r conn (λ y. x ≡ y)) (sym e) g

  -- a call on the session
  pub grows_called : {A : Type 0} (f : Live → A × Live) → ((s : Live) → (f s).1.conn ≡ s.conn) → (old new : Rest G) (x : A) → on_live f conn old ≡ Some (x, new) → GrowsOn conn (λ r. old ≡ r) (λ r. new ≡ r)
  grows_called f keeps old new x e r i g =
      let ledger = r.ledger ++ g.more in
      let s = (f (here r conn i g.unfinished ledger g.kept)).1 in
      let shape : s ≡ record { conn = conn; kept = s.kept; unfinished = s.unfinished } = ap (λ (n : ℕ). record { conn = n; kept = s.kept; unfinished = s.unfinished }) (keeps (here r conn i g.unfinished ledger g.kept)) in
      record { unfinished = s.unfinished; kept = s.kept; more = g.more; now = (called r conn i g.unfinished ledger g.kept f s.unfinished s.kept shape x new (ap (on_live f conn) (sym g.now) ∙ e)).1 }

  pub grows_worked : (answer : List EntryView → List WriteView → List ℕ → List ParameterView → QueryMode → Result AnswerView QueryFault) (welcomes : G → Welcome) (old new : Rest G) (x : Worked) → work_at answer welcomes conn old ≡ Some (x, new) → GrowsOn conn (λ r. old ≡ r) (λ r. new ≡ r)
  grows_worked answer welcomes old new x e r i g =
      let ledger = r.ledger ++ g.more in
      let d = work_kept (setting answer welcomes r) conn ledger g.kept g.kept.ended in
      let entries = commit_entries conn g.kept.first d.commit in
      let w = (stepped_talk r conn i g.unfinished ledger g.kept answer welcomes x new (ap (work_at answer welcomes conn) (sym g.now) ∙ e)).1 in
      record { unfinished = g.unfinished; kept = d.kept; more = g.more ++ entries; now = w ∙ ap (λ (l : List EntryView). with_talk r conn g.unfinished l d.kept) (append_assoc r.ledger g.more entries) }

  -- and then it is given up
  pub leaves_lost : (old mid new : Rest G) (o : Option Cause) → LivesOn conn (λ r. old ≡ r) (λ r. mid ≡ r) → lost_at conn mid ≡ (o, new) → (r : Rest G) → old ≡ r → IsSome (find conn r.sessions) → LeavesOthers r conn (λ r. new ≡ r)
  leaves_lost old mid new o lives lost r was i =
      let g = lives r was i in
      (g.more, (gone (lost_at conn) o mid new lost (with_talk r conn g.unfinished (r.ledger ++ g.more) g.kept) g.now).1 ∙ lost_rest r conn i g.unfinished (r.ledger ++ g.more) g.kept)

-- What a session holds is put out.
module _ {G : Type 0} {r : Rest G} {conn : ℕ} (i : IsSome (find conn r.sessions)) {t : Talk} (before mid taken : SinkView) (old new : Rest G) where
  module _ {u : Opened} (h : Holds r conn u t (λ x. old ≡ x) before mid) where
    -- all of it
    pub held_out : Puts conn old new mid taken (Ok tt) → (new ≡ with_talk r conn u t.ledger (heard_out t.kept)) × PutsBytes before taken t.out
    held_out puts =
        let p = put_whole r conn i u t.ledger (record t.kept { unsent = h.held }) old new mid taken h.now puts in
        (p.0, subst (PutsBytes before taken) h.parts (puts_trans before mid taken h.gone h.held h.took p.1))

    -- so it holds nothing
    pub holds_none : Puts conn old new mid taken (Ok tt) → Holds r conn u t (λ x. new ≡ x) before taken
    holds_none puts = let p = held_out puts in record { gone = t.out; held = []; parts = append-nil t.out; took = p.1; now = p.0 }

    -- or a prefix of it
    pub holds_some : (fault : StreamFault) → Puts conn old new mid taken (Err fault) → HoldsPart r conn (λ x. new ≡ x) before taken t
    holds_some fault puts =
        let p = put_front r conn i u t.ledger (record t.kept { unsent = h.held }) old new mid taken h.now fault puts in
        record {
          unfinished = u;
          kept = p.left;
          grows = part_after (Grows-trans before.put mid.put taken.put) h.gone h.parts h.took.grows p.grows;
          known = part_after (Appends-trans before.taken mid.taken taken.taken) h.gone h.parts h.took.known p.known;
          now = p.now;
        }

  -- if it holds a part
  pub part_out : HoldsPart r conn (λ x. old ≡ x) before mid t → (done : Result (Unit {0}) StreamFault) → Puts conn old new mid taken done → StandsOver r conn (λ x. new ≡ x) t.ledger × PutsFront before taken t.out
  part_out h (Ok done) puts =
      let p = put_whole r conn i h.unfinished t.ledger h.kept old new mid taken h.now puts in (
        record { unfinished = h.unfinished; kept = heard_out h.kept; now = p.0 },
        record {
          grows = part_taken {Took = HasGrown before.put taken.put} (part_then (Grows-trans before.put mid.put taken.put) h.grows (part_all h.kept.unsent p.1.grows));
          known = part_taken {Took = Appends before.taken taken.taken} (part_then (Appends-trans before.taken mid.taken taken.taken) h.known (part_all h.kept.unsent p.1.known));
        },
      )
  part_out h (Err fault) puts =
      let p = put_front r conn i h.unfinished t.ledger h.kept old new mid taken h.now fault puts in (
        record { unfinished = h.unfinished; kept = p.left; now = p.now },
        record {
          grows = part_taken {Took = HasGrown before.put taken.put} (part_then (Grows-trans before.put mid.put taken.put) h.grows p.grows);
          known = part_taken {Took = Appends before.taken taken.taken} (part_then (Appends-trans before.taken mid.taken taken.taken) h.known p.known);
        },
      )

-- a part as it is held
pub part_stands : {G : Type 0} {r : Rest G} {conn : ℕ} {t : Talk} {before taken : SinkView} {Now : Rest G → Type 0} → HoldsPart r conn Now before taken t → StandsOver r conn Now t.ledger × PutsFront before taken t.out
part_stands h = (record { unfinished = h.unfinished; kept = h.kept; now = h.now }, record { grows = part_taken h.grows; known = part_taken h.known })
