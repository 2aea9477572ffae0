-- The lines of a shell, one after the other, how it stops, and that each request has one line.
pub mod Exchanged
pub use Exchanged.*

filled_first : (n : ℕ) (l : Text) (ls : List Text) → filled_from n (l ∷ ls) ≡ if_filled n l ++ filled_from (n + 1) ls
filled_first n l ls = grind arith

pub filled_one : (n : ℕ) (l : Text) → (length l ≡ 0 → ⊥) → if_filled n l ≡ (n, l) ∷ []
filled_one n l h = grind arith

-- lines were done with or without a fault
pub does_all : {fault : Option StreamFault} {start now : Streams} {all : List (ℕ × Text)} {p : Place} {c : Caller} → Talked start fault all now p
    → (fault ≡ None → IsAt c p) → DoesMore (option_map Broken fault) start now all c
does_all {fault = None} t at = record { place = _; talked = t; at = at refl }
does_all {fault = Some f} {all = all} t at = record { done = all; lines = ([], sym (append-nil all)); place = _; talked = t }

-- a fault came behind them, or a line behind them can't be read
pub does_none : {start now : Streams} {done : List (ℕ × Text)} {c : Caller} (stop : StopReason) {all : List (ℕ × Text)} → AreDone (Some stop) all done
    → Reaches start now done c → Does (Some stop) start now all
does_none (Unreadable n) e r = record { done = _; lines = e; place = r.place; talked = r.talked }
does_none {now = now} {done = done} (Broken f) e r =
    record { done = done; lines = e; place = r.place; talked = breaks_off f done now now r.place r.talked (moves_none now) }

-- those of some lines, and others behind them that weren't looked at
done_more : (stop : StopReason) (all done after : List (ℕ × Text)) → AreDone (Some stop) all done → AreDone (Some stop) (all ++ after) done
done_more (Unreadable n) all done after h = (h.0, h.1 ++ after, simp (h.2, append_assoc), h.3)
done_more (Broken f) all done after h = (h.0 ++ after, simp (h.1, append_assoc))

pub stops : (script : List ℕ) {start now : Streams} {all : List (ℕ × Text)} (after : List (ℕ × Text)) (stop : StopReason) → filled_lines script ≡ all ++ after
    → Does (Some stop) start now all → StopsIn stop start now script
stops script {all = all} after stop e s = record { done = s.done; lines = rw e (done_more stop all s.done after s.lines); place = s.place; talked = s.talked }

module _ {start now : Streams} {script : List ℕ} {b : Conversation} (p : Progress start now script b) where
  abbrev last : List (ℕ × Text)
  last = if_filled b.number b.begun.items

  -- the lines at a newline
  pub at_newline : (more : List ℕ) → filled_lines (script ++ 10 ∷ more) ≡ (p.done ++ last) ++ filled_from (b.number + 1) (lines more)
  at_newline more =
      let line = slice_split_at (λ x. x == 10) b.begun.items 10 more p.begun refl in
      simp append_assoc (simp (line, filled_first b.number b.begun.items (lines more)) at (p.follow (10 ∷ more)))

  pub at_end : filled_lines script ≡ p.done ++ last
  at_end = simp (append-nil, slice_split_none (λ x. x == 10) b.begun.items p.begun, filled_first b.number b.begun.items []) at (p.follow [])

module _ {start now : Streams} {done : List (ℕ × Text)} (b : Conversation) (s : Reaches start now done b.caller) (q : ScriptRequestView)
    (some : length b.begun.items ≡ 0 → ⊥) {text : Text} (is : text ≡ b.begun.items) (r : request_line_of text ≡ Some q) where
  abbrev Line : Caller → Option StreamFault → Streams → Type 0
  Line c fault then = DoesMore (option_map Broken fault) start then (done ++ if_filled b.number b.begun.items) c

  line_done : {c : Caller} {fault : Option StreamFault} {then : Streams} {p : Place} → TalksLine fault s.place (b.number, b.begun.items) now then p
      → (fault ≡ None → IsAt c p) → Line c fault then
  line_done x at = rw (filled_one b.number b.begun.items some) (does_all (next_line _ done _ now _ s.place _ s.talked x) at)

  module _ (printed : Option (List ℕ)) (failed : Bool) where
    pub submit_taken : {c : Caller} {fault : Option StreamFault} {then : Streams} → refuses s.place.rest.knows (meant s.place.version q) ≡ None → printed ≡ now.printed
        → StaysSound now.print_failed failed → Asks fault (submitted s.place (meant s.place.version q)) (record now { printed = printed; print_failed = failed }) then c
        → Line c fault then
    submit_taken e same sound a =
        let x = a.exchange in
        let before = moves_printed None now printed failed [] (rw same (Appends-nil now.printed)) (λ _. sound) in
        line_done (answers_line q (rw is at r) e (record { out = x.out; heard = x.heard; moves = moves_then before x.moves; ends = x.ends })) (λ _. a.at)

    -- it is refused, or a fault comes first
    pub submit_over : (c : Caller) (result : Result Bool StreamFault) → (result ≡ Ok true → ⊥) → Submits s.place (meant s.place.version q) b.number now.printed printed (IsAt c) result
        → UnlessTold result WriteFailed (StaysSound now.print_failed failed) → Line c (result_err result) (record now { printed = printed; print_failed = failed })
    submit_over c (Ok true) never h sound = absurd (never refl)
    submit_over c (Ok false) never h sound =
        line_done (refuses_line q h.0 h.1 _ (rw is at r) h.2 h.3 refl (moves_printed None now printed failed _ h.4 (λ _. sound))) (λ _. h.5)
    submit_over c (Err f) never (at, inl e) sound =
        let moves = moves_printed (Some f) now printed failed [] (rw e (Appends-nil now.printed)) (λ n. sound (λ e. n (ap Some e))) in
        record { done = done; lines = (_, refl); place = s.place; talked = breaks_off f done now _ s.place s.talked moves }
    submit_over c (Err f) never (at, inr h) sound =
        let moves = moves_printed (Some f) now printed failed _ h.4.3 (λ n. sound (λ e. n (ap Some e))) in
        line_done (refuses_line q h.0 h.1 h.4.0 (rw is at r) h.2 h.3 (h.4.1, h.4.2) moves) (λ _. at)

-- the input is at its end
pub does_last : {start now next : Streams} {script : List ℕ} {b : Conversation} (stop : Option StopReason) (c : Caller) → (p : Progress start now script b)
    → DoesMore stop start next (p.done ++ if_filled b.number b.begun.items) c → Does stop start next (filled_lines script)
does_last None c p s = record { done = _; lines = at_end p; place = s.place; talked = s.talked }
does_last {script = script} (Some stop) c p s = stops script [] stop (at_end p ∙ sym (append-nil _)) s

pub stop_of : (stop : StopReason) (A B : Type 0) → (stop ≡ Broken ReadFailed → A) → (stop ≡ Broken WriteFailed → B) → IsStopOf stop A B
stop_of (Unreadable n) A B a b = tt
stop_of (Broken fault) A B a b = cause_of fault A B (λ e. a (ap Broken e)) (λ e. b (ap Broken e))

-- a fault of a stream is told with status 1
pub told_so : (stop : StopReason) → (stop_status stop ≡ 1 → ⊥) → (fault_in (Some stop) ≡ Some ReadFailed → ⊥) × (fault_in (Some stop) ≡ Some WriteFailed → ⊥)
told_so stop n = grind arith

-- Of requests that waited, from this ordinal on, some were answered, by a summary among the notes, and the others wait.
data Answers (k : Knows) (notes : List Note) : List RequestView → ℕ → Type 0 where
  wait : {ws : List RequestView} {n : ℕ} → k.waiting ≡ ws → k.first ≡ n → Answers k notes ws n
  answered : {q : RequestView} {ws : List RequestView} {n : ℕ} (phase : Phase) (outcome : Outcome) (said : ResponseView) (before after : List Note)
      → notes ≡ before ++ Summary n phase outcome said ∷ after → Answers k notes ws (suc n) → Answers k notes (q ∷ ws) n

answers_behind : {k : Knows} {notes : List Note} {ws : List RequestView} {n : ℕ} (front : List Note) → Answers k notes ws n → Answers k (front ++ notes) ws n
answers_behind front (wait e f) = wait e f
answers_behind front (answered phase outcome said before after e h) =
    answered phase outcome said (front ++ before) after (simp (e, append_assoc)) (answers_behind front h)

answers_step : (wish : Wish) (k : Knows) (x : Heard) (h : Hearing) (t : Tale) → Makes wish k x h → Answers t.knows t.notes h.knows.waiting h.knows.first
    → Answers t.knows (notes_of x h ++ t.notes) k.waiting k.first
answers_step wish k x h t (tells_summary a s) more =
    rw s.waits (answered _ _ _ [] t.notes refl (answers_behind (notes_of x h) (rw s.waits at more)))
answers_step wish k x h t _ more = answers_behind (notes_of x h) more

answers : (wish : Wish) (k : Knows) (items : List Item) → (let t = tale_of wish k items in Answers t.knows t.notes k.waiting k.first)
answers wish k [] = wait refl refl
answers wish k (x ∷ xs) =
    let said = heard_as k.version x in
    let h = hears_item wish k said in
    let rest = tale_of wish h.knows xs in
    cond_both k.over (record { knows = k; notes = [] }) (after_notes (notes_of said h) rest) (λ (t : Tale). Answers t.knows t.notes k.waiting k.first)
    (λ _. wait refl refl) (λ _. answers_step wish k said h rest (makes wish k said) (answers wish h.knows xs))

has_before : (line : List ℕ) {text : List ℕ} (front : List ℕ) → Has line text → Has line (front ++ text)
has_before line front h = (front ++ h.0, h.1, simp (h.2, append_assoc))

module _ (n : ℕ) (phase : Phase) (outcome : Outcome) (said : ResponseView) where
  abbrev summary : Note
  summary = Summary n phase outcome said

  abbrev line : List ℕ
  line = heard_line n (outcome_name outcome) (phase_name phase)

  -- it is printed, or told
  has_line : {fault : Option StreamFault} (before : List Note) {v : Version} {printed told : List ℕ} (after : List Note)
      → Prints v fault (before ++ summary ∷ after) printed told → Has line printed ⊎ Has line told
  has_line [] after (prints_one {printed = printed} x) = inl ([], failure_told summary ++ printed, simp append_assoc)
  has_line [] after (cut_at (unmade cells is)) = absurd cc
  has_line [] after (cut_at (in_line front p)) = inr ([], summaries_text after, refl)
  has_line [] after (cut_at (behind_line fault front p)) = inl ([], front, refl)
  has_line (x ∷ xs) after (prints_one {v = v} y) = ⊎_elim (λ h. inl (has_before line (explained (version_after v x) x) h)) inr (has_line xs after y)
  has_line (x ∷ xs) after (cut_at {told = told} c) =
      inr (has_before line told (summaries_text xs, summaries_text after, flat_map-append summary_line xs (summary ∷ after)))

-- nothing waits, and so many were answered
abbrev NoneWaits : ℕ → Knows → Type 0
NoneWaits n k = (k.waiting ≡ []) × (k.first ≡ n)

module _ {fault : Option StreamFault} {p : Place} {a b : Streams} (x : Exchanges fault p a b) where
  abbrev heard : Rest
  heard = (heard_place x.heard).rest

  abbrev then : Rest
  then = (parted x.heard).rest

  sent_all : fault ≡ None → then.unsent ≡ []
  sent_all e = grind (arith, x.ends e)

  -- a client that goes on had all answered
  goes_on : then.knows.over ≡ false → (then.knows ≡ heard.knows) × (all_answered heard.knows ≡ true)
  goes_on = grind arith

  -- what was heard of those that waited
  abbrev Answered : List RequestView → ℕ → Type 0
  Answered = Answers heard.knows (hears_all p.rest x.heard.fed).notes

  so_answered : (ws : List RequestView) (n : ℕ) → p.rest.knows.waiting ≡ ws → p.rest.knows.first ≡ n → Answered ws n
  so_answered ws n e f = rw (← f, ← e) (answers p.rest.wish p.rest.knows (outputs at_client p.rest.item x.heard.fed))

  none_waited : {n : ℕ} → Answered [] n → then.knows.over ≡ false → NoneWaits n then.knows
  none_waited {n = n} (wait e f) o = subst (NoneWaits n) (sym (goes_on o).0) (e, f)

  module _ (q : RequestView) (n : ℕ) where
    abbrev Fated : ℕ → Type 0
    Fated m = HasFate m q x.heard.printed (x.heard.told ++ parting fault heard.knows)

    no_answer : heard.knows.waiting ≡ q ∷ [] → Fated (heard.knows.first + 0)
    no_answer e =
        let k = heard.knows in
        let v = unwrap_or k.version V51 in
        let o = lost_outcome v k 0 in
        -- one that waits is lost, unless nothing but a GOODBYE does
        let one : (is_goodbye (kind_of q) ≡ true) ⊎ (lost_of k ≡ losses k) = grind arith in
        let lost : lost_of k ≡ losses k → Has (lost_line (k.first + 0, o)) (losses_text (lost_of k) ++ why_text fault k) =
        λ l. rw (l ∙ ap (losses_from v k 0) e) ([], why_text fault k, simp append_assoc) in
        ⊎_elim unanswered (λ l. at_loss o (has_before (lost_line (k.first + 0, o)) x.heard.told (lost l))) one

    -- its summary came, or none, and where the client stands then
    one_exchange : Answered (q ∷ []) n → Fated n × (then.knows.over ≡ false → NoneWaits (suc n) then.knows)
    one_exchange (wait e f) =
        (subst Fated (omega arith) (no_answer e), λ o. absurd (true≢false (sym (goes_on o).1 ∙ unanswered_waits heard.knows (rw e (omega arith)))))
    one_exchange (answered phase outcome said before after e h) = (
      ⊎_elim (on_output phase outcome) (λ h. on_errors phase outcome (h.0, h.1 ++ parting fault heard.knows, simp (h.2, append_assoc)))
          (has_line n phase outcome said before after (rw e at x.heard.prints)),
      none_waited h,
    )

-- what the streams got of it, and what became of its requests
pub record SoFar (fault : Option StreamFault) (start now : Streams) (p : Place) : Type 0 where
  log : Log
  pub moves : Moves fault start now log
  requests : ℕ
  lines : EachHasALine requests log.sent log.printed log.told
  next : fault ≡ None → p.rest.knows.over ≡ false → NoneWaits requests p.rest.knows
  unsent : fault ≡ None → p.rest.unsent ≡ []

-- more is printed and told
more_said : {fault : Option StreamFault} {start mid now : Streams} {p : Place} (part told : List ℕ) → SoFar None start mid p
    → Moves fault mid now (said part told) → SoFar fault start now p
more_said part told so m =
    let lines : EachHasALine so.requests (so.log.sent ++ []) (so.log.printed ++ part) (so.log.told ++ told) = rw append-nil (other_text part told so.lines) in
    record { log = _; moves = moves_then so.moves m; requests = so.requests; lines = lines; next = λ _. so.next refl; unsent = λ _. so.unsent refl }

first_so_far : {fault : Option StreamFault} {a b : Streams} (x : Exchanges fault first_place a b) → SoFar fault a b (parted x.heard)
first_so_far x =
    let lines = other_text x.heard.printed (parting_log [] x.heard).told no_request in
    record { log = _; moves = x.moves; requests = 0; lines = lines; next = λ _. none_waited x (so_answered x [] 0 refl refl); unsent = sent_all x }

pub so_far : {start : Streams} {fault : Option StreamFault} {now : Streams} {ls : List (ℕ × Text)} {p : Place} → Talked start fault ls now p
    → SoFar fault start now p
so_far (opens mid now x m) = more_said [] (greeting (parted x.heard)) (first_so_far x) m
so_far (fails_first fault now x) = first_so_far x
so_far (next_line fault ls l mid now p r h (refuses_line q why code part e f c some m)) = more_said part [] (so_far h) m
so_far (next_line fault ls l mid now p r h (answers_line q e d x)) =
    let so = so_far h in
    let asked = meant p.version q in
    let known = p.rest.knows.version in
    let w = so.next refl (accepted_facts p.rest.knows asked d).0 in
    let did = one_exchange x asked so.requests (so_answered x _ _ (ap (λ (ws : List RequestView). ws ++ asked ∷ []) w.0) w.1) in
    let l = parting_log (submitted p asked).rest.unsent x.heard in
    let all = and_then so.log l in
    let Each = λ (z : List ℕ). EachHasALine (suc so.requests) (so.log.sent ++ (z ++ asking_bytes known asked)) all.printed all.told in
    let lines = subst Each (sym (so.unsent refl)) (a_request known asked l.printed l.told so.lines did.0) in
    record { log = all; moves = moves_then so.moves x.moves; requests = suc so.requests; lines = lines; next = λ _. did.1; unsent = sent_all x }
so_far (breaks_off fault ls mid now p h m) = more_said [] [] (so_far h) m

-- and what is told behind it
pub accounts : {fault : Option StreamFault} {start mid : Streams} {p : Place} (told : Option (List ℕ)) (deaf : Bool) (text : List ℕ) → SoFar fault start mid p
    → Gets mid.deaf deaf mid.told told text → Accounts start (record mid { told = told; deaf = deaf })
accounts told deaf text so h =
    let m = moves_told told deaf text so.moves h in
    let lines = rw append-nil at (other_text [] text so.lines) in
    record { requests = so.requests; sent = _; printed = _; told = _; put = m.sent.front; output = m.printed; errors = m.told; lines = lines }
