-- What streams get, what is printed of notes, and what an exchange with a server does.
pub mod Words
pub use Words.*

-- a sink and a source by what was moved and what is known
abbrev pub sink_at : List ℕ → Option (List ℕ) → SinkView
sink_at put taken = record { put = put; taken = taken }

abbrev pub source_at : List ℕ → Option (List ℕ) → SourceView
source_at given left = record { given = given; left = left }

-- all of it
pub puts_whole : (w : Bool) (a b : Option (List ℕ)) (xs : List ℕ) → Appends a b xs → Puts w a b xs
puts_whole w a b xs h = record { front = front_whole a b xs h; all = λ _. h }

-- nothing moves
pub moves_none : {fault : Option StreamFault} (a : Streams) → Moves fault a a (said [] [])
moves_none a =
    let sent = puts_whole _ a.written a.written [] (Appends-nil a.written) in
    record { read = Consumes-nil _; sent = sent; printed = Appends-nil _; told = gets_none _ _; source = λ _ f. f; sinks = λ _. (λ f. f, λ f. f) }

-- a text is printed
pub moves_printed : (fault : Option StreamFault) (a : Streams) (printed : Option (List ℕ)) (failed : Bool) (text : List ℕ) → Appends a.printed printed text
    → ((fault ≡ Some WriteFailed → ⊥) → StaysSound a.print_failed failed)
    → Moves fault a (record a { printed = printed; print_failed = failed }) (said text [])
moves_printed fault a printed failed text h sound = search (moves_none {fault = fault} a)

-- what waits is written, or some of it
pub moves_sent : (fault : Option StreamFault) (a : Streams) (put put_now : List ℕ) (now : Option (List ℕ)) (failed : Bool) (bytes : List ℕ) (out : ℕ)
    → Writes bytes out fault (sink_at put a.written) (sink_at put_now now) → ((fault ≡ Some WriteFailed → ⊥) → StaysSound a.write_failed failed)
    → Moves fault a (record a { written = now; write_failed = failed }) (record (said [] []) { sent = bytes })
moves_sent fault a put put_now now failed bytes out w sound = search (moves_none {fault = fault} a, puts fault w)
  where
    puts : (f : Option StreamFault) → Writes bytes out f (sink_at put a.written) (sink_at put_now now) → Puts (is_printed f) a.written now bytes
    puts (Some Memory) w = puts_whole false _ _ _ w.0.known
    puts (Some WriteFailed) w = record { front = w.0.known; all = λ e. absurd cc }
    puts _ w = puts_whole true _ _ _ w.0.known

-- memory runs out before anything of it is written
pub moves_unsent : (a : Streams) (bytes : List ℕ) → Moves (Some Memory) a a (record (said [] []) { sent = bytes })
moves_unsent a bytes =
    let m = moves_none {fault = Some Memory} a in
    record { read = m.read; sent = record { front = ([], bytes, refl, Appends-nil a.written); all = λ e. absurd cc }; printed = m.printed; told = m.told; source = m.source; sinks = m.sinks }

-- one log after another
abbrev pub and_then : Log → Log → Log
and_then a b = record { sent = a.sent ++ b.sent; read = a.read ++ b.read; printed = a.printed ++ b.printed; told = a.told ++ b.told }

pub moves_then : {fault : Option StreamFault} {a b c : Streams} {l m : Log} → Moves None a b l → Moves fault b c m → Moves fault a c (and_then l m)
moves_then {a = a} {b = b} {c = c} h k = record {
  read = Consumes-trans a.left b.left c.left _ _ h.read k.read;
  sent = record { front = front_after _ _ _ _ _ (h.sent.all refl) k.sent.front; all = λ w. Appends-trans _ _ _ _ _ (h.sent.all refl) (k.sent.all w) };
  printed = Appends-trans a.printed b.printed c.printed _ _ h.printed k.printed;
  told = gets_then a.deaf b.deaf c.deaf a.told b.told c.told _ _ h.told k.told;
  source = λ n f. h.source (λ e. cc) (k.source n f);
  sinks = λ n. let was = h.sinks (λ e. cc) in (λ f. was.0 ((k.sinks n).0 f), λ f. was.1 ((k.sinks n).1 f));
}

-- more is told behind
pub moves_told : {fault : Option StreamFault} {a b : Streams} {l : Log} (told : Option (List ℕ)) (deaf : Bool) (text : List ℕ) → Moves fault a b l
    → Gets b.deaf deaf b.told told text → Moves fault a (record b { told = told; deaf = deaf }) (record l { told = l.told ++ text })
moves_told {a = a} {b = b} {l = l} told deaf text h k = search (h, gets_then a.deaf b.deaf deaf a.told b.told told l.told text h.told k)

prints_then : {v : Version} {ns ms : List Note} {fault : Option StreamFault} {p q t u : List ℕ} → Prints v None ns p t
    → Prints (versions_after v ns) fault ms q u → Prints v fault (ns ++ ms) (p ++ q) (t ++ u)
prints_then prints_none y = y
prints_then (prints_one x) y = rw append_assoc (prints_one (prints_then x y))

-- one note more after a fault
pub prints_told : {v : Version} {ns : List Note} {f : StreamFault} {p t : List ℕ} (n : Note) → Prints v (Some f) ns p t
    → Prints v (Some f) (ns ++ n ∷ []) p (t ++ summary_line n)
prints_told n (prints_one x) = prints_one (prints_told n x)
prints_told n (cut_at {rest = rest} c) = simp append_assoc (simp (flat_map-append, append-nil) at (cut_at {rest = rest ++ n ∷ []} c))

pub versions_more : (v : Version) (ns ms : List Note) → versions_after v (ns ++ ms) ≡ versions_after (versions_after v ns) ms
versions_more v [] ms = refl
versions_more v (n ∷ ns) ms = versions_more (version_after v n) ns ms

pub texts_more : (text : Version → Note → List ℕ) (v : Version) (ns ms : List Note)
    → texts_of text v (ns ++ ms) ≡ texts_of text v ns ++ texts_of text (versions_after v ns) ms
texts_more text v [] ms = refl
texts_more text v (n ∷ ns) ms = simp (texts_more text (version_after v n) ns ms, append_assoc)

-- one piece after another
pub place_more : (p : Place) (a b : List ℕ) → place_after p (a ++ b) ≡ place_after (place_after p a) b
place_more p a b =
    rw (hears_all-append p.rest a b, state-append Opened Item at_client p.rest.item a b, versions_more p.version (hears_all p.rest a).notes (hears_all (after_all p.rest a) b).notes) refl

pub notes_then : {v : Version} {ns ms : List Note} {fault : Option StreamFault} {a b c : Sinks} → PutsNotes v ns None a b
    → PutsNotes (versions_after v ns) ms fault b c → PutsNotes v (ns ++ ms) fault a c
notes_then h m =
    let got = gets_then _ _ _ _ _ _ _ _ h.got m.got in
    let took = Appends-trans _ _ _ _ _ h.took m.took in
    record { printed = _; told = _; prints = prints_then h.prints m.prints; took = took; sound = λ n s. h.sound (λ q. cc) (m.sound n s); got = got }

-- nothing is printed
pub notes_none : {v : Version} {a : Sinks} → PutsNotes v [] None a a
notes_none = record { printed = []; told = []; prints = prints_none; took = Appends-nil _; sound = λ _ s. s; got = gets_none _ _ }

module _ {v : Version} {n : Note} {a : Sinks} where
  pub whole : {now : Option (List ℕ)} {has : Bool} → Appends a.printed now (explained (version_after v n) n) → StaysSound a.print_failed has
      → PutsNotes v (n ∷ []) None a (record a { printed = now; print_failed = has })
  whole h s = record { printed = _ ++ []; told = []; prints = prints_one prints_none; took = rw append-nil h; sound = λ _. s; got = gets_none _ _ }

  pub cut : {f : StreamFault} {b : Sinks} {part told : List ℕ} → IsCut (version_after v n) n f part told → Appends a.printed b.printed part
      → ((Some f ≡ Some WriteFailed → ⊥) → StaysSound a.print_failed b.print_failed) → Gets a.deaf b.deaf a.told b.told told → PutsNotes v (n ∷ []) (Some f) a b
  cut {part = part} {told = told} c h s g =
      record { printed = part; told = told ++ []; prints = cut_at c; took = h; sound = s; got = rw append-nil g }

  -- a note of which a line is put out behind a text: it is printed whole, or cut
  pub note_line : (text line : List ℕ) (mid : Option (List ℕ)) {now : Option (List ℕ)} {has : Bool} (r : Result (Unit {0}) StreamFault)
      → Appends a.printed mid text → PutsLine line mid now r → ((result_err r ≡ Some WriteFailed → ⊥) → StaysSound a.print_failed has)
      → text ++ line ≡ explained (version_after v n) n
      → ((front : List ℕ) → IsFront front line → IsCut (version_after v n) n WriteFailed (text ++ front) [])
      → IsCut (version_after v n) n Memory (text ++ []) [] → PutsNotes v (n ∷ []) (result_err r) a (record a { printed = now; print_failed = has })
  note_line text line mid (Ok u) h k s same front none = whole (rw (← same) (Appends-trans _ mid _ text line h k)) (s (λ e. cc))
  note_line text line mid (Err WriteFailed) h k s same front none =
      cut (front k.0 (k.1, k.2)) (Appends-trans _ mid _ text k.0 h k.3) s (gets_none _ _)
  note_line text line mid (Err Memory) h k s same front none = cut none (Appends-trans _ mid _ text [] h (rw k (Appends-nil mid))) s (gets_none _ _)
  note_line text line mid (Err ReadFailed) h k s same front none = absurd k

-- nothing is heard
abbrev pub heard_none : {fault : Option StreamFault} {p : Place} → HeardUpTo fault p
heard_none = record { fed = []; unheard = []; needed = inl refl; whole = λ _. inl refl; printed = []; told = []; cut = None; cuts = inl refl; prints = prints_none }

pub written : {p : Place} {a : Streams} {k : Caller} (put put_now : List ℕ) (fault : Option StreamFault) (now : Option (List ℕ)) (failed : Bool)
    → PutsOut p.rest (sink_at put a.written) (sink_at put_now now) (Fits k.client) fault → k.version ≡ p.version → ((fault ≡ Some WriteFailed → ⊥) → StaysSound a.write_failed failed)
    → Hears fault p a (record a { written = now; write_failed = failed }) k
written {p = p} {a = a} put put_now fault now failed (out, w, fits) version s =
    let moves = moves_sent fault a put put_now now failed p.rest.unsent out w s in
    record { out = out; heard = heard_none; moves = moves; at = record { fits = fits; version = version }; all = λ e. (rw e at w).1 }

-- no fault comes while nothing is printed, so a source that fails isn't hidden by one
none_cut : {v : Version} {notes : List Note} {f : StreamFault} {p t : List ℕ} → Prints v (Some f) notes p t → notes ≡ [] → ⊥
none_cut (prints_one x) e = cc
none_cut (cut_at c) e = cc

never_printed : (fault : StreamFault) → (fault ≡ ReadFailed → ⊥) → is_printed (Some fault) ≡ false
never_printed fault never = grind arith

-- while an answer is still to come, all that was read so far was heard
pub all_heard : {q : Place} (h : HeardUpTo None q) → awaits (hears_all q.rest h.fed).knows ≡ true → h.unheard ≡ []
all_heard {q = q} h waits = ⊎_elim (λ e. e) (λ o. absurd (awaits_open (hears_all q.rest h.fed).knows waits o)) (h.whole refl)

module _ {p : Place} {a b : Streams} {k : Caller} (given given_now : List ℕ) (c : Streams) (l : Caller) (new : List Note) (so : Hears None p a b k)
    (waits : awaits (rest_of k.client).knows ≡ true) (version : l.version ≡ versions_after k.version new) (same : (c.written ≡ b.written) × (c.write_failed ≡ b.write_failed)) where
  abbrev here : Place
  here = heard_place so.heard

  abbrev New : Option StreamFault → Type 0
  New broken = PutsNotes k.version new broken (sinks_of b) (sinks_of c)

  abbrev Read : Bool → Type 0
  Read whole = ReadsPiece here.rest (source_at given b.left) (source_at given_now c.left) [] new whole (Fits l.client)

  abbrev Piece : Result Bool StreamFault → Type 0
  Piece done = HearsPiece here.rest (source_at given b.left) (source_at given_now c.left) [] new (Fits l.client) done

  nothing : GivesBytes (source_at given b.left) (source_at given_now c.left) [] → new ≡ [] → Fits l.client here.rest → Read true
  nothing input told now =
      record { piece = []; input = input; short = omega arith; feeds = record { fed = []; unheard = []; parts = refl; told = told; now = now; ends = λ _. inl refl } }

  -- where nothing was read that is a piece too
  as_piece : (done : Result Bool StreamFault) → Piece done → Read (is_printed (result_err done))
  as_piece (Ok true) h = h
  as_piece (Ok false) h = nothing h.input h.told h.now
  as_piece (Err ReadFailed) h = nothing h.input h.told h.now
  as_piece (Err WriteFailed) h = absurd h
  as_piece (Err Memory) h = h

  -- a piece was heard, and printed up to a fault
  piece_heard : {whole : Bool} {fault broken : Option StreamFault} → Read whole → (is_printed fault ≡ true → whole ≡ true) → New broken → CutsBy fault broken
      → ((fault ≡ Some ReadFailed → ⊥) → StaysSound b.read_failed c.read_failed) → Hears fault p a c l
  piece_heard {fault = fault} {broken = broken} h whole puts cuts source =
      let was = so.heard in
      let f = h.feeds in
      let waiting : awaits here.rest.knows ≡ true = ap (λ (r : Rest). awaits r.knows) (sym so.at.fits) ∙ waits in
      let sound = λ (n : fault ≡ Some WriteFailed → ⊥). puts.sound (λ e. ⊎_elim (λ z. cc) (λ z. n (sym z.1 ∙ e)) cuts) in
      let sink : StaysSound b.write_failed c.write_failed = λ e. cc in
      let sent = puts_whole (is_printed fault) b.written c.written [] (rw same.0 (Appends-nil b.written)) in
      let read : Moves fault b c (record (said puts.printed puts.told) { read = f.fed ++ f.unheard }) =
      search (rw f.parts at h.input.known, sent, puts, source, sound, sink) in
      let before : Prints p.version None (hears_all (sent_out p so.out).rest was.fed).notes was.printed was.told =
      rw (⊎_elim (λ e. e) (λ z. absurd cc) was.cuts) at was.prints in
      let heard : HeardUpTo fault (sent_out p so.out) = record {
        fed = was.fed ++ f.fed;
        unheard = f.unheard;
        needed = inr (record { before = was.fed; last = f.fed ++ f.unheard; parts = append_assoc was.fed f.fed f.unheard; short = rw f.parts at h.short; waits = waiting });
        whole = λ e. rw hears_all-append (f.ends (whole e));
        printed = was.printed ++ puts.printed;
        told = was.told ++ puts.told;
        cut = broken;
        cuts = cuts;
        prints = rw hears_all-append (prints_then before (rw (so.at.version, f.told) at puts.prints));
      } in
      let at : IsAt l (heard_place heard) = rw place_more (record { fits = f.now; version = rw (so.at.version, f.told) at version }) in
      let moves : Moves fault a c (heard_log p.rest.unsent heard) = simp append_assoc (simp (all_heard was waiting, append-nil) at (moves_then so.moves read)) in
      record { out = so.out; heard = heard; moves = moves; at = at; all = λ e. so.all refl }

  at_end : (done : Result Bool StreamFault) → Piece done → IfOk done (λ some. some ≡ false → IsAtEnd c.left)
  at_end done h = grind arith

  untold : (done : Result Bool StreamFault) {f : StreamFault} → Piece done → New (Some f) → result_err done ≡ Some ReadFailed → ⊥
  untold (Err ReadFailed) h puts e = none_cut puts.prints h.told
  untold _ h puts e = cc

  -- all of it was printed, or a fault came while it was
  pub more_heard : (put : Result (Unit {0}) StreamFault) (done : Result Bool StreamFault) → (IsErrOf put ReadFailed → ⊥) → Piece done → New (result_err put)
      → UnlessTold done ReadFailed (StaysSound b.read_failed c.read_failed) → HearsMore p a c l (result_and put done)
  more_heard (Ok u) done never h puts sound = (piece_heard (as_piece done h) (λ e. e) puts (inl refl) (unless_err done ReadFailed _ sound), at_end done h)
  more_heard (Err f) done never h puts sound =
      let cut = never_printed f (λ e. never (ap Err e)) in
      let source = λ (_ : Some f ≡ Some ReadFailed → ⊥). unless_err done ReadFailed _ sound (untold done h puts) in
      (piece_heard (as_piece done h) (λ e. absurd (true≢false (sym e ∙ cut))) puts (inr (cut, refl)) source, tt)
