-- What two ends have come to, and how far they have where a fault breaks them off.
pub use Rattle.cli_sessions.proofs.Followed.Exchanged.Words.{[], after_all, all_done, all_taken, ap, append-nil, append_assoc, append_cancel_left, Appends, Appends-nil, Appends-trans, AppendsFront, arith}
pub use Rattle.cli_sessions.proofs.Followed.Exchanged.Words.{at_client, at_server, awaits, Bool, Broken, bytes_eq, cases_lt, cause_of, Consumes, Consumes-nil, Consumes-trans, drop, empty_nil, entries_text}
pub use Rattle.cli_sessions.proofs.Followed.Exchanged.Words.{Err, false, FeedsPiece, first_place, fold, front_after, front_in, front_whole, Gets, hears_all, inl, inr, is_ok, IsAt, IsErrOf, IsSome, IsStopOf}
pub use Rattle.cli_sessions.proofs.Followed.Exchanged.Words.{Item, items_received, length, length-append, length-take, length-take-le, List, map, MatchResult, Memory, nil_from_length, not-false, Note, note}
pub use Rattle.cli_sessions.proofs.Followed.Exchanged.Words.{note_text, notes_text, Ok, OnErr, OnOk, Opened, Option, outputs, Place, place_after, PutsLine, ReadFailed, refl, refuses, RequestView}
pub use Rattle.cli_sessions.proofs.Followed.Exchanged.Words.{Rest as ClientRest, rest_of, Result, rules, said_requests, script_request_view, ScriptRequestView, Some, state, stop_status, stop_text}
pub use Rattle.cli_sessions.proofs.Followed.Exchanged.Words.{StopReason, StreamFault, Submits, subst, sym, take, take-append-drop, take-append-le, take_all, take_at, Tale, text_of, true, Unreadable}
pub use Rattle.cli_sessions.proofs.Followed.Exchanged.Words.{versions_after, WriteFailed, ℕ, ⊎_elim, ◌++◌, ◌+◌, ◌-◌, ◌<◌, ◌∙◌, ◌∷◌, ◌≡◌, ◌≤◌, ◌⊎◌, not-true, true≢false, hears_all-append}
pub use Rattle.cli_sessions.proofs.Followed.Exchanged.{place_more, texts_more}
pub use Rattle.cli_sessions.specs.declared.caller.Caller.{Caller}
pub use Rattle.std.proofs.Math.Seq.{drop-append_seam, drop-length, take-append-add, take-append_seam, take-nil}
pub use Rattle.std.proofs.lemmas.List.Sums.{fold-append}
pub use borrow.Rule.Slice.PartMut.{post_of, put_mid}
pub use Rattle.wire.proofs.Readers.{outputs-append}
pub use Rattle.structures_cells.proofs.Equality.{bytes_are, bytes_is}
pub use Rattle.engine.specs.Prelude.{EntryView, entries_view}
pub use Rattle.server_session.specs.Prelude.{Setting, begun}
pub use Rattle.server.specs.Prelude.{Fits, Live, Rest, find, opened, setting}
pub use Rattle.streams.specs.Limits.{max_piece}
pub use Rattle.client_blocking.proofs.Tales.{over_tale}
pub use Rattle.server_blocking.proofs.Called.{grows_by, lives_same, replace-itself}
pub use Rattle.server_blocking.proofs.Talks.{item_talk-append, talk_by_items, told_over}
pub use Rattle.server_blocking.specs.Prelude.{Grows, IsLive, TakesPiece, Talk, item_talk, told_by, with_talk}
pub use Rattle.server_blocking.specs.declared.liveness.Liveness.{Liveness}
pub use Rattle.cli_sessions.proofs.Served.{found_by}
pub use Rattle.cli_sessions.specs.LoopPrelude.{AreQuiet, Breaks, BreaksAt, BreaksAtSource, BreaksIn, Comes, EndsAt, Goes, HasHeard, HearsFront, HearsUpTo, HasLooped, IsHeardAll, IsQuiet, LetsReadWaiting, Meets}
pub use Rattle.cli_sessions.specs.LoopPrelude.{Numbers, Outset, Passes, ReadsUpTo, Sits, StandsAt, TellsLine, Turns, Way, Ways, all_sent, answer_to, asked, due, end, exchanged, next_turn, no_turns, outset}
pub use Rattle.cli_sessions.specs.LoopPrelude.{buffer_of, HandsOver, place_by, stage, talk_for, text_by, turns_of, with_item, with_line, LetBothRead, Pair}

pub ruleset parts = (take-append-drop, length-take)

module _ {b : Caller} {p : Place} (s : StandsAt b p) where
  abbrev here : ClientRest
  here = (with_item p s.item).rest

  -- so it doesn't matter then which item isn't whole
  hears_alike : (bytes : List ℕ) → hears_all here bytes ≡ hears_all p.rest bytes
  hears_alike bytes =
      let ended = λ (i : Opened). over_tale p.rest.wish p.rest.knows (outputs at_client i bytes) in grind (arith, ended s.item, ended p.rest.item, s.same)

  module _ {piece : List ℕ} {notes : List Note} {whole : Bool} {Now : ClientRest → Type 0} (h : FeedsPiece here piece [] notes whole Now) where
    -- what is heard of some of a piece
    pub heard_front : (x y : Option (List ℕ)) → AppendsFront x y (notes_text b.version notes) → HearsFront [] p piece x y
    heard_front x y k =
        record { heard = h.fed; rest = h.unheard; parts = sym h.parts; prints = rw (← hears_alike h.fed, ← h.told, ← s.at.version) k }

    -- a piece that was fed whole, or up to the client's end, was heard as the whole piece is
    heard_whole : (h.unheard ≡ []) ⊎ ((hears_all here h.fed).knows.over ≡ true) → (hears_all here h.fed ≡ hears_all p.rest piece)
        × ((hears_all p.rest piece).knows.over ≡ false → state at_client s.item h.fed ≡ state at_client p.rest.item piece)
    heard_whole (inl none) =
        let same : h.fed ≡ piece = sym (rw (none, append-nil) at h.parts) in
        let gone = over_tale p.rest.wish p.rest.knows (outputs at_client p.rest.item piece) in
        (rw same (hears_alike piece), λ e. rw (s.same (grind (arith, gone, e)), same) refl)
    heard_whole (inr over) =
        let gone = over_tale p.rest.wish (hears_all here h.fed).knows (outputs at_client (state at_client s.item h.fed) h.unheard) over in
        let all : hears_all here (h.fed ++ h.unheard) ≡ hears_all here h.fed = rw (hears_all-append here h.fed h.unheard, gone, append-nil) refl in
        let tale = sym all ∙ ap (hears_all here) (sym h.parts) ∙ hears_alike piece in (tale, λ e. grind (arith, over, tale, e))

  -- as far as it was fed
  pub heard_as_fed : {piece : List ℕ} {notes : List Note} {Now : ClientRest → Type 0} (c : Caller) (x y : Option (List ℕ)) (fed : Result (Unit {0}) StreamFault)
      → FeedsPiece here piece [] notes (is_ok fed) Now → ((q : ClientRest) → Now q → rest_of c.client ≡ q) → c.version ≡ versions_after b.version notes
      → Appends x y (notes_text b.version notes) → MatchResult fed (λ _. IsHeardAll p piece c x y) (λ _. HearsFront [] p piece x y)
  heard_as_fed {piece = piece} c x y (Ok done) h fits v k =
      let w = heard_whole h (h.ends refl) in
      let told = h.told ∙ ap (λ (t : Tale). t.notes) w.0 in
      let item = state at_client s.item h.fed in
      let rest = fits _ h.now ∙ ap (λ (t : Tale). record here { knows = t.knows; item = item }) w.0 in
      let at : IsAt c (with_item (place_after p piece) item) = record { fits = rest; version = rw (← told, ← s.at.version) v } in
      record { stands = record { item = item; at = at; same = w.1 }; printed = rw (← told, ← s.at.version) k }
  heard_as_fed c x y (Err fault) h fits v k = heard_front h x y (front_whole x y _ k)

-- one piece after another
pub text_more : (p : Place) (a b : List ℕ) → text_of p (a ++ b) ≡ text_of p a ++ text_of (place_after p a) b
text_more p a b =
    rw (hears_all-append p.rest a b) (texts_more note_text p.version (hears_all p.rest a).notes (hears_all (after_all p.rest a) b).notes)

-- of a line that isn't put out whole a beginning is
pub line_front : (line : List ℕ) (a b : Option (List ℕ)) (fault : StreamFault) → PutsLine line a b (Err fault) → AppendsFront a b line
line_front line a b Memory e = ([], line, refl, subst (λ (z : Option (List ℕ)). Appends a z []) (sym e) (Appends-nil a))
line_front line a b WriteFailed h = h
line_front line a b ReadFailed h = absurd h

-- ---- the streams between them

pub passes_none : {w : Way} → Passes w w []
passes_none {w = w} = record { took = Appends-nil w.taken; gave = Consumes-nil w.left }

pub passes_then : {a b c : Way} {xs ys : List ℕ} → Passes a b xs → Passes b c ys → Passes a c (xs ++ ys)
passes_then {a = a} {b = b} {c = c} {xs = xs} {ys = ys} h k =
    record { took = Appends-trans a.taken b.taken c.taken xs ys h.took k.took; gave = Consumes-trans a.left b.left c.left xs ys h.gave k.gave }

pub source_after : {a b c : Way} {xs : List ℕ} → Passes a b xs → BreaksAtSource b c → BreaksAtSource a c
source_after h (inl k) = inl k
source_after {a = a} {b = b} {c = c} {xs = xs} h (inr k) =
    let took = Appends-trans a.taken b.taken c.taken xs k.written h.took k.took in
    let gave = Consumes-trans a.left b.left c.left xs k.read h.gave k.gave in
    let other = λ (e : xs ++ k.read ≡ xs ++ k.written). k.other (append_cancel_left xs k.read k.written e) in
    inr (record { written = xs ++ k.written; read = xs ++ k.read; took = took; gave = gave; other = other })

-- ---- while an answer is heard

module _ {o : Outset} {heard : List ℕ} {mid : Way} {x : Option (List ℕ)} {c : Caller} (h : HasHeard o heard mid x c) {left : Option (List ℕ)} where
  -- a beginning of what was read then was heard
  pub reads_front : {y : Option (List ℕ)} {answer : List ℕ} (after whole unheard : List ℕ) (f : HearsFront [] (place_after o.place heard) answer x y)
      → heard ++ (answer ++ after) ≡ whole → Consumes mid.left left (f.heard ++ unheard) → length unheard ≤ max_piece → HearsUpTo o whole left y
  reads_front {y = y} after whole unheard f parts gave few =
      let all : (heard ++ f.heard) ++ (f.rest ++ after) ≡ whole = rw (append_assoc, ← append_assoc f.heard f.rest after, f.parts) parts in
      let text = append_assoc o.text (text_of o.place heard) (text_of (place_after o.place heard) f.heard) in
      let prints = rw (text, ← text_more) at (front_after o.out x y _ _ h.printed f.prints) in
      let hears : HearsFront o.text o.place whole o.out y = record { heard = heard ++ f.heard; rest = f.rest ++ after; parts = all; prints = prints } in
      let read = Consumes-trans o.way.left mid.left left _ _ h.passes.gave gave in
      record { hears = hears; unheard = unheard; read = simp append_assoc (simp append_assoc at read); few = few }

  -- nothing more was
  pub reads_none : (rest whole unheard : List ℕ) → heard ++ rest ≡ whole → Consumes mid.left left unheard → length unheard ≤ max_piece → HearsUpTo o whole left x
  reads_none rest whole unheard = reads_front rest whole unheard (record { heard = []; rest = []; parts = refl; prints = front_whole x x [] (Appends-nil x) })

-- ---- what a session makes of one piece after another, and of one line after another

module _ (S : Setting) (conn : ℕ) (ledger : List EntryView) where
  abbrev said : List ℕ → List ℕ
  said bytes = (talk_for S conn ledger bytes).out

  -- what is put out for some bytes begins what is put out for more
  pub answer_is : (a b : List ℕ) → said (a ++ b) ≡ said a ++ answer_to S conn ledger a b
  answer_is a b =
      let t = item_talk S conn (items_received a) ledger begun in
      let more = (item_talk S conn (outputs at_server (state at_server at_server.start a) b) t.ledger t.kept).out in
      let joined = ap (λ (xs : List Item). item_talk S conn xs ledger begun) (outputs-append Opened Item at_server at_server.start a b)
      ∙ item_talk-append S conn (items_received a) (outputs at_server (state at_server at_server.start a) b) ledger begun in
      let e : said (a ++ b) ≡ said a ++ more =
      ap (λ (t : Talk). t.out) (talk_by_items S conn ledger (a ++ b) ∙ joined) ∙ ap (λ (t : Talk). t.out ++ more) (sym (talk_by_items S conn ledger a)) in
      e ∙ ap (λ z. said a ++ z) (sym (ap (drop (length (said a))) e ∙ drop-append_seam (said a) more))

  pub answer_more : (s a b : List ℕ) → answer_to S conn ledger s (a ++ b) ≡ answer_to S conn ledger s a ++ answer_to S conn ledger (s ++ a) b
  answer_more s a b =
      let assoc = append_assoc (said s) (answer_to S conn ledger s a) (answer_to S conn ledger (s ++ a) b) in
      append_cancel_left (said s) _ _ (cc (answer_is s (a ++ b), append_assoc s a b, answer_is (s ++ a) b, answer_is s a, assoc))

  -- one line after another
  module _ (ls : List (ℕ × ScriptRequestView)) (l : ℕ × ScriptRequestView) (rest all : List (ℕ × ScriptRequestView)) (parts : ls ++ l ∷ rest ≡ all) where
    pub lines_more : (Came : Turns → Type 0) → AreQuiet S conn ledger ls
        → (let t = exchanged S conn ledger (with_line (turns_of S conn ledger ls) l) in Came t × IsQuiet t)
        → (done : List (ℕ × ScriptRequestView)) × (done ++ rest ≡ all) × Came (turns_of S conn ledger done) × AreQuiet S conn ledger done
    lines_more Came before now =
        let At = λ (done : List (ℕ × ScriptRequestView)). IsQuiet (turns_of S conn ledger done) in
        let same = sym (fold-append (next_turn S conn ledger) no_turns ls (l ∷ [])) in
        let so = subst (λ t. Came (exchanged S conn ledger t) × IsQuiet (exchanged S conn ledger t)) same now in
        let last = λ (n : ℕ) (m : length ls < n). subst At (sym (take_all n (ls ++ l ∷ []) (omega (arith, m, length-append ls (l ∷ []))))) so.1 in
        let some = λ (n : ℕ) (m : n ≤ length ls). subst At (sym (take-append-le n ls (l ∷ []) m)) (before n) in
        (ls ++ l ∷ [], append_assoc ls (l ∷ []) rest ∙ parts, so.0, λ n. ⊎_elim (last n) (some n) (cases_lt (length ls) n))

    pub lines_break : (There : Turns → Type 0) → There (with_line (turns_of S conn ledger ls) l) → (n : ℕ) × There (stage S conn ledger (take n all))
    lines_break There k = (length (ls ++ l ∷ []), rw (← parts, ← append_assoc ls (l ∷ []) rest, take-append_seam (ls ++ l ∷ []) rest, fold-append) k)

-- the session, as a talk leaves it
abbrev Left : {G : Type 0} → Rest G → ℕ → (Rest G → Type 0) → List ℕ → Talk → Type 0
Left r conn Now out t = (u : Opened) × Now (with_talk r conn u t.ledger t.kept) × (out ≡ t.out)

module _ {G : Type 0} (r : Rest G) (conn : ℕ) (S : Setting) (Now : Rest G → Type 0) (up : List ℕ) where
  pub sits_talk : (out : List ℕ) (liveness : Liveness) → Sits r conn S Now up out liveness → Left r conn Now out (talk_for S conn r.ledger up)
  sits_talk out Liveness.Open s = subst (Left r conn Now out) (sym (talk_by_items S conn r.ledger up)) (state at_server at_server.start up, s.0.0, s.0.1.grows)
  sits_talk out Liveness.Over s =
      let same = sym (told_over r conn S s.front s.rest s.over) ∙ ap (told_by r conn S) s.parts ∙ sym (talk_by_items S conn r.ledger up) in
      subst (Left r conn Now out) same (state at_server at_server.start s.front, s.stands.0, s.stands.1.grows)

  pub sits_takes : (piece out : List ℕ) (liveness : Liveness) → TakesPiece r conn S Now (buffer_of []) (buffer_of out) up piece (Ok liveness)
      → Sits r conn S Now (up ++ piece) out liveness
  sits_takes piece out Liveness.Open h = h
  sits_takes piece out Liveness.Over h = record { front = up ++ h.front; rest = h.rest; parts = rw (append_assoc, h.parts) refl; stands = h.stands; over = h.over }

-- a request was submitted, or refused; or the line of its refusal was cut
pub line_by : {b : Caller} (c : Caller) {p : Place} (s : StandsAt b p) (q : RequestView) (n : ℕ) (x y : Option (List ℕ)) (result : Result Bool StreamFault)
    → Submits (with_item p s.item) q n x y (IsAt c) result → (let o = refuses p.rest.knows q in
    MatchResult result (λ _. Appends x y (text_by o n) × StandsAt c (place_by o p q)) (λ _. AppendsFront x y (text_by o n)))
line_by c s q n x y (Ok true) h = rw (h.0, h.1) (Appends-nil x, record { item = s.item; at = h.2; same = s.same })
line_by c s q n x y (Ok false) h = rw (h.2, h.3) (h.4, record { item = s.item; at = h.5; same = s.same })
line_by c {p = p} s q n x y (Err fault) (at, inl e) = rw e ([], text_by (refuses p.rest.knows q) n, refl, Appends-nil x)
line_by c s q n x y (Err fault) (at, inr t) = rw (t.2, t.3) t.4

-- ---- in an exchange

-- a fault broke it off, and has a cause
pub broken_off : {T A B C D : Type 0} (fault : StreamFault) → A → (IsErrOf {T = T} (Err fault) ReadFailed → B) → (IsErrOf {T = T} (Err fault) WriteFailed → C) → D
    → A × IsStopOf (Broken fault) B C × D
broken_off fault lives read written there = (lives, cause_of fault _ _ (λ e. read (ap Err e)) (λ e. written (ap Err e)), there)

-- nothing is heard in it
pub breaks_before : (S : Setting) (conn : ℕ) (ledger : List EntryView) (t : Turns) {l left x out : Option (List ℕ)}
    → Consumes l left (talk_for S conn ledger t.sent).out → AppendsFront x out t.text
    → ReadsUpTo (talk_for S conn ledger t.sent).out t.text (all_sent t.place) (due S conn ledger t) l left x out
breaks_before S conn ledger t gave prints = record {
  hears = record { heard = []; rest = due S conn ledger t; parts = refl; prints = rw append-nil prints };
  unheard = [];
  read = rw append-nil gave;
  few = omega arith;
}

module _ {G : Type 0} {r : Rest G} {conn : ℕ} {S : Setting} {start a : Ways} {x : Pair} {Now : Rest G → Type 0} (t : Turns) (sent : List ℕ) (m : Meets r conn S start a t sent x Now) where
  abbrev to : List ℕ → List ℕ → List ℕ
  to = answer_to S conn r.ledger

  pub hears_so : HasHeard (outset r conn S start t) (to t.sent sent) a.down a.out x.caller
  hears_so = record { stands = m.client; passes = subst (Passes start.down _) (answer_is S conn r.ledger t.sent sent) m.down; printed = m.printed }

  due_more : (rest : List ℕ) → sent ++ rest ≡ t.place.rest.unsent → to t.sent sent ++ to (t.sent ++ sent) rest ≡ due S conn r.ledger t
  due_more rest parts = sym (answer_more S conn r.ledger t.sent sent rest) ∙ ap (to t.sent) parts

  -- a fault comes
  pub breaks_here : (rest : List ℕ) → sent ++ rest ≡ t.place.rest.unsent → BreaksIn S conn r.ledger start a t
  breaks_here rest parts = reads_none hears_so (to (t.sent ++ sent) rest) _ [] (due_more rest parts) (Consumes-nil a.down.left) (omega arith)

  -- it is heard, or a fault comes
  pub turn_goes : {Then : Rest G → Type 0} (b : Ways) (y : Pair) (piece after : List ℕ) (result : Result (Unit {0}) StreamFault)
      → sent ++ (piece ++ after) ≡ t.place.rest.unsent → Grows r conn Then → Passes a.up b.up piece
      → Sits r conn S Then ((t.sent ++ sent) ++ piece) y.said.bytes.items y.liveness
      → HandsOver (outset r conn S start t) (to t.sent sent) (to (t.sent ++ sent) piece) (to ((t.sent ++ sent) ++ piece) after) b.down b.out y.caller result
      → (IsErrOf result ReadFailed → BreaksAtSource a.down b.down) → (IsErrOf result WriteFailed → (b.down.write_failed ≡ true) ⊎ (b.out_failed ≡ true))
      → Goes r conn start b Then (Meets r conn S start b t (sent ++ piece) y Then) (BreaksIn S conn r.ledger start b t) result
  turn_goes b y piece after (Ok u) parts lives up s heard read written =
      let same = append_assoc t.sent sent piece in
      let h = rw (← answer_more S conn r.ledger t.sent sent piece) at heard in
      let down = subst (Passes start.down _) (sym (answer_is S conn r.ledger t.sent (sent ++ piece))) h.passes in
      record { lives = lives; client = h.stands; session = rw (← same) s; up = rw (← same) (passes_then m.up up); down = down; printed = h.printed }
  turn_goes b y piece after (Err fault) parts lives up s heard read written =
      let there = rw (← answer_more S conn r.ledger (t.sent ++ sent) piece after, due_more (piece ++ after) parts) at heard in
      broken_off fault lives (λ e. inr (source_after hears_so.passes (read e))) (λ e. inr (written e)) there

-- ---- in a whole run

module _ (S : Setting) (conn : ℕ) (ledger : List EntryView) where
  -- what is printed then is a beginning of what is printed in the end, since each line prints more
  lines_front : (x y : Option (List ℕ)) (t : Turns) (ls : List (ℕ × ScriptRequestView)) → AppendsFront x y (exchanged S conn ledger t).text
      → AppendsFront x y (exchanged S conn ledger (fold (next_turn S conn ledger) t ls)).text
  lines_front x y t [] h = h
  lines_front x y t (l ∷ ls) h = lines_front x y (next_turn S conn ledger t l) ls (front_in x y _ _ (front_in x y _ _ h))

module _ {G : Type 0} (r : Rest G) (S : Setting) (lines : List (ℕ × ScriptRequestView)) {start : Ways} where
  -- in the lines
  pub breaks_lines : {last : Ways} → BreaksAt S r.next r.ledger start last lines → Breaks r S lines start last
  breaks_lines {last = last} (n, k) =
      let stages = stage S r.next r.ledger in
      let t = stages (take n lines) in
      let p = all_sent t.place in
      let h = k.hears in
      let more = front_in start.out last.out _ (text_of (place_after p h.heard) h.rest) h.prints in
      let front = rw (append_assoc t.text (text_of p h.heard), ← text_more p h.heard h.rest, h.parts) at more in
      let whole = sym (fold-append (next_turn S r.next r.ledger) no_turns (take n lines) (drop n lines)) ∙ ap stages (take-append-drop n lines) in
      let begins = subst (λ (z : Turns). AppendsFront start.out last.out (exchanged S r.next r.ledger z).text) whole
      (lines_front S r.next r.ledger start.out last.out t (drop n lines) front) in
      record { begins = front_in start.out last.out _ _ begins; printed = inl (n, k) }

  -- before them
  pub breaks_none : Breaks r S lines start start
  breaks_none =
      let none = ap (λ (t : Talk). t.out) (talk_by_items S r.next r.ledger []) in
      let gave = subst (Consumes start.down.left start.down.left) (sym none) (Consumes-nil start.down.left) in
      breaks_lines (0, breaks_before S r.next r.ledger no_turns gave ([], [], refl, Appends-nil start.out))

  -- behind them, where the entries that are printed are those of the ledger then
  pub ends_at : {b : Ways} {p : Pair} {Now : Rest G → Type 0} {failed : Bool} (out : Option (List ℕ))
      → Comes (opened r) r.next S start b (end r S lines) p Now × AreQuiet S r.next r.ledger lines → (es : List EntryView)
      → ((x : Rest G) → Now x → es ≡ x.ledger) → (result : Result (Unit {0}) StreamFault) → OnOk result (Appends b.out out (entries_text es))
      → OnErr result (AppendsFront b.out out (entries_text es)) → (IsErrOf result ReadFailed → ⊥) → (IsErrOf result WriteFailed → failed ≡ true)
      → HasLooped r Now × EndsAt r S lines Now start (record { up = b.up; down = b.down; out = out; out_failed = failed }) result
  ends_at {b = b} {p = p} {Now = Now} out (h, quiet) es same (Ok u) told front read written =
      let left = sits_talk (opened r) r.next S Now (end r S lines).sent p.said.bytes.items p.liveness h.session in
      let printed = Appends-trans start.out b.out out _ _ h.printed (rw (same _ left.1) at told) in
      (inr h.lives, record { unfinished = left.0; printed = printed; up = h.up; down = h.down; quiet = quiet; now = left.1 })
  ends_at {b = b} {p = p} {Now = Now} out (h, quiet) es same (Err fault) told front read written =
      let left = sits_talk (opened r) r.next S Now (end r S lines).sent p.said.bytes.items p.liveness h.session in
      let entries = rw (same _ left.1) at front in (
        inr h.lives,
        (
          cause_of fault _ _ (λ z. absurd (read (ap Err z))) (λ z. inr (inr (written (ap Err z)))),
          record { begins = front_after start.out b.out out _ _ h.printed entries; printed = inr (record { up = h.up; down = h.down; out = b.out; printed = h.printed; entries = entries }) },
        ),
      )
