-- A conversation with the bytes of a source, and what waits to go behind it.
use Rattle.std.proofs.Common.{◌≡◌, refl, sym, ap, subst, ◌∙◌, ℕ, List, [], ◌++◌, append_assoc, append-nil, Option, Some, None, Result, Ok, Err, Bool, false, true≢false, ◌⊎◌, inl, inr, IsSome, IfErr, true}
use Rattle.std.specs.Io.KnownBytes.{Consumes, IsAtEnd}
use Rattle.std.proofs.lemmas.List.{append_cancel_left}
use Rattle.streams.specs.Prelude.{Grows, MovesFront}
use Rattle.server_session.specs.Prelude.{Setting, Kept, begun}
use Rattle.wire.specs.Prelude.{state, at_server, opening}
use Rattle.server.specs.Prelude.{Rest, Live, find, fresh}
use Rattle.server_blocking.specs.declared.liveness.Liveness.{Liveness}
use Rattle.server_blocking.specs.declared.liveness.Liveness.TheVariants.{Open, Over}
use Rattle.streams.specs.declared.fault.StreamFault.{StreamFault}
use Rattle.server_blocking.specs.Prelude.{StandsOver, told_by, BreaksIn, Stands, HoldsAfter, BreaksHolding, TakesItems, TakesPiece, taken_and_put, Puts, IsDueTo, Talk, conversation, with_talk, IsTurn, IsBrokenOff, IsFront, Converses, ConversesWhole, ConversesFront, SourceView, SinkView, GivesBytes, PutsBytes, PutsFront}
use Rattle.server_blocking.proofs.Talks.{breaks_more, breaks_whole, comes_by_items, talk_by_items, told_over, told_rests}
use Rattle.server_blocking.proofs.Stepping.{breaks_off, heard_same}
use Rattle.server_blocking.proofs.Views.{gives_nil, gives_trans, puts_nil, puts_whole}
use Rattle.streams.specs.declared.fault.StreamFault.TheVariants as stream_fault
use Rattle.server_blocking.proofs.Called.{replace-itself, held_out, holds_some, part_out, part_stands}

-- Before a piece nothing is held.
pub begins_held : {G : Type 0} (r : Rest G) (conn : ℕ) (S : Setting) {before taken : SinkView} (up : List ℕ) {Now : Rest G → Type 0} → Stands r conn S Now before taken up → HoldsAfter r conn S Now before taken up
begins_held r conn S up {Now = Now} s = record {
  gone = (told_by r conn S up).out;
  held = [];
  parts = append-nil (told_by r conn S up).out;
  took = s.1;
  now = subst (λ (k : Kept). Now (with_talk r conn (state at_server at_server.start up) (told_by r conn S up).ledger k)) (sym (heard_same (told_by r conn S up).kept (told_rests r conn S up).sent)) s.0;
}

-- A piece was taken, and what the session says is put out.
module _ {G : Type 0} (r : Rest G) (conn : ℕ) (i : IsSome (find conn r.sessions)) (S : Setting) (before mid taken : SinkView) (up : List ℕ) (old new : Rest G) where
  held_stands : (used : List ℕ) → HoldsAfter r conn S (λ x. old ≡ x) before mid used → Puts conn old new mid taken (Ok tt) → Stands r conn S (λ x. new ≡ x) before taken used
  held_stands used h puts =
      let p = held_out i before mid taken old new h puts in
      (p.0 ∙ ap (with_talk r conn (state at_server at_server.start used) (told_by r conn S used).ledger) (heard_same (told_by r conn S used).kept (told_rests r conn S used).sent), p.1)

  held_breaks : (used : List ℕ) (fault : StreamFault) → HoldsAfter r conn S (λ x. old ≡ x) before mid used → Puts conn old new mid taken (Err fault) → BreaksHolding r conn S (λ x. new ≡ x) before taken used
  held_breaks used fault h puts = breaks_whole r conn S used (holds_some i before mid taken old new h fault puts)

  module _ (piece : List ℕ) where
    pub piece_taken : (items : Result Liveness StreamFault) (put : Result (Unit {0}) StreamFault) → TakesItems r conn S (λ x. old ≡ x) before mid up piece items → Puts conn old new mid taken put → TakesPiece r conn S (λ x. new ≡ x) before taken up piece (taken_and_put items put)
    piece_taken (Ok Open) (Ok done) h puts = (held_stands (up ++ piece) h.0 puts, h.1)
    piece_taken (Ok Over) (Ok done) h puts = record { front = h.front; rest = h.rest; parts = h.parts; stands = held_stands (up ++ h.front) h.stands puts; over = h.over }
    piece_taken (Ok Open) (Err fault) h puts = breaks_off (held_breaks (up ++ piece) fault h.0 puts) (λ s p. part_stands p)
    piece_taken (Ok Over) (Err fault) h puts =
        let joined = append_assoc up h.front h.rest ∙ ap (λ (z : List ℕ). up ++ z) h.parts in
        breaks_off (subst (BreaksHolding r conn S (λ x. new ≡ x) before taken) joined (breaks_more r conn S (up ++ h.front) h.rest (held_breaks (up ++ h.front) fault h.stands puts))) (λ s p. part_stands p)
    piece_taken (Err fault) put h puts = breaks_off h (λ s p. part_out i before mid taken old new p put puts)

-- a fault is due to the sink as it is in the end
pub piece_due : {mid now : Bool} (both items : Result Liveness StreamFault) (put : Result (Unit {0}) StreamFault) → both ≡ taken_and_put items put → IfErr items (λ e. IsDueTo e false mid) → IfErr put (λ e. IsDueTo e false now) → (mid ≡ true → now ≡ true) → IfErr both (λ e. IsDueTo e false now)
piece_due {mid = mid} {now = now} both items put e h k stays = subst (λ x. IfErr x (λ e. IsDueTo e false now)) (sym e) (go items put h k)
  where
    go : (items : Result Liveness StreamFault) (put : Result (Unit {0}) StreamFault) → IfErr items (λ e. IsDueTo e false mid) → IfErr put (λ e. IsDueTo e false now) → IfErr (taken_and_put items put) (λ e. IsDueTo e false now)
    go (Ok s) (Ok done) h k = tt
    go (Ok s) (Err fault) h k = k
    go (Err stream_fault.WriteFailed) put h k = stays h
    go (Err stream_fault.ReadFailed) put h k = h
    go (Err stream_fault.Memory) put h k = tt

module _ {G : Type 0} (r : Rest G) (conn : ℕ) (S : Setting) where
  by_read : (read : List ℕ) → told_by r conn S read ≡ conversation S conn r.ledger read
  by_read read = sym (talk_by_items S conn r.ledger read)

  -- what broke off the one by its items broke off the other
  abbrev broken_by_read : (read : List ℕ) (Now : Rest G → Type 0) (old new : SinkView) → BreaksIn r conn S read Now old new → IsBrokenOff r conn S read (StandsOver r conn Now) old new
  broken_by_read read Now old new b = record { so_far = b.so_far; comes = comes_by_items S conn r.ledger read b.so_far b.comes; is_so = b.is_so; front = subst (IsFront b.so_far) (by_read read) b.front }

  -- what was read of known bytes leads to what all of them lead to, where the reading ended with them or with the session
  pub read_all : (bytes : List ℕ) (left_now : Option (List ℕ)) (read : List ℕ) → Consumes (Some bytes) left_now read → IsAtEnd left_now ⊎ IsSome (conversation S conn r.ledger read).kept.ended → conversation S conn r.ledger read ≡ conversation S conn r.ledger bytes
  read_all bytes None read h e = absurd h
  read_all bytes (Some rest) read h (inl none) = ap (conversation S conn r.ledger) (sym (h ∙ ap (λ (z : List ℕ). read ++ z) none ∙ append-nil read))
  read_all bytes (Some rest) read h (inr over) =
      let ended : IsSome (told_by r conn S read).kept.ended = subst (λ (t : Talk). IsSome t.kept.ended) (sym (by_read read)) over in
      sym (by_read read) ∙ sym (told_over r conn S read rest ended) ∙ ap (told_by r conn S) (sym h) ∙ by_read bytes

  module _ (from : SourceView) (before : SinkView) where
    -- Bytes were read, the session goes on after them, and all that they make due is out.
    pub record Reads (Now : Rest G → Type 0) (taken : SinkView) (to : SourceView) : Type 0 where
      pub up : List ℕ
      pub input : GivesBytes from to up
      pub live : (told_by r conn S up).kept.ended ≡ None
      pub stands : Stands r conn S Now before taken up

    -- before the first
    pub reads_begun : (Now : Rest G → Type 0) → Now r → find conn r.sessions ≡ Some (fresh conn) → Reads Now before from
    reads_begun Now h f =
        let same : with_talk r conn (opening []) r.ledger begun ≡ r = ap (λ (ss : List Live). record { sessions = ss; next = r.next; ledger = r.ledger; gate = r.gate }) (replace-itself conn (fresh conn) r.sessions f) in
        record { up = []; input = gives_nil from; live = refl; stands = (subst Now (sym same) h, puts_nil before) }

    -- the sink took all of it, and the session is as these bytes leave it
    ends_with : (Now : Rest G → Type 0) (taken : SinkView) (to : SourceView) (read used : List ℕ) → GivesBytes from to read → told_by r conn S used ≡ told_by r conn S read → IsAtEnd to.left ⊎ IsSome (told_by r conn S used).kept.ended → Stands r conn S Now before taken used
        → Converses r conn S Now from to before taken (Ok tt)
    ends_with Now taken to read used i same e s =
        let t = same ∙ by_read read in
        record {
          read = read;
          unfinished = state at_server at_server.start used;
          input = i;
          ends = subst (λ (t : Talk). IsAtEnd to.left ⊎ IsSome t.kept.ended) t e;
          now = subst (λ (t : Talk). Now (with_talk r conn (state at_server at_server.start used) t.ledger t.kept)) t s.0;
          took = subst (λ (t : Talk). PutsBytes before taken t.out) t s.1;
        }

module _ {G : Type 0} {r : Rest G} {conn : ℕ} {S : Setting} {from to : SourceView} {before taken : SinkView} {Now : Rest G → Type 0} (p : Reads r conn S from before Now taken to) where
  abbrev t : Talk
  t = conversation S conn r.ledger p.up

  out : PutsBytes before taken t.out
  out = subst (λ (t : Talk). PutsBytes before taken t.out) (by_read r conn S p.up) p.stands.1

  -- it is the client's turn
  pub reads_turn : IsTurn r conn S from.left to.left before.taken taken.taken
  reads_turn = record { read = p.up; input = p.input.known; goes_on = subst (λ (t : Talk). t.kept.ended ≡ None) (by_read r conn S p.up) p.live; answered = out.known }

  -- the input ends
  pub reads_whole : (new : SourceView) → GivesBytes to new [] → IsAtEnd new.left → Converses r conn S Now from new before taken (Ok tt)
  reads_whole new h e = ends_with r conn S from before Now taken new p.up p.up (subst (GivesBytes from new) (append-nil p.up) (gives_trans from to new p.up [] p.input h)) refl (inl e) p.stands

  -- a fault comes before more is read
  pub reads_none : (new : SourceView) → GivesBytes to new [] → (fault : StreamFault) → ConversesFront r conn S Now from new before taken fault
  reads_none new h fault = record {
    read = p.up;
    input = subst (GivesBytes from new) (append-nil p.up) (gives_trans from to new p.up [] p.input h);
    broken = broken_by_read r conn S p.up Now before taken (breaks_whole r conn S {IsSo = λ (s : Talk). StandsOver r conn Now s.ledger × PutsFront before taken s.out} p.up (record { unfinished = state at_server at_server.start p.up; kept = (told_by r conn S p.up).kept; now = p.stands.0 }, puts_whole before taken (told_by r conn S p.up).out p.stands.1));
    whole = λ e. (ap (λ (t : Talk). t.ledger) (by_read r conn S p.up), out);
  }

  -- a piece more is read
  module _ (next : SourceView) (piece : List ℕ) (c : GivesBytes to next piece) (Then : Rest G → Type 0) (new : SinkView) where
    all_of : GivesBytes from next (p.up ++ piece)
    all_of = gives_trans from to next p.up piece p.input c

    pub reads_more : TakesPiece r conn S Then before new p.up piece (Ok Open) → Reads r conn S from before Then new next
    reads_more h = record { up = p.up ++ piece; input = all_of; live = h.1; stands = h.0 }

    pub reads_over : TakesPiece r conn S Then before new p.up piece (Ok Over) → Converses r conn S Then from next before new (Ok tt)
    reads_over h =
        let same : (p.up ++ h.front) ++ h.rest ≡ p.up ++ piece = append_assoc p.up h.front h.rest ∙ ap (λ z. p.up ++ z) h.parts in
        ends_with r conn S from before Then new next (p.up ++ piece) (p.up ++ h.front) all_of (sym (told_over r conn S (p.up ++ h.front) h.rest h.over) ∙ ap (told_by r conn S) same) (inr h.over) h.stands

    -- a fault comes in what it makes due
    pub reads_broken : (fault : StreamFault) → (fault ≡ stream_fault.ReadFailed → ⊥) → TakesPiece r conn S Then before new p.up piece (Err fault) → ConversesFront r conn S Then from next before new fault
    reads_broken fault never h =
        record { read = p.up ++ piece; input = all_of; broken = broken_by_read r conn S (p.up ++ piece) Then before new h; whole = λ e. absurd (never e) }

-- The sink took what the conversation for all that the source gave says.
pub put_by_given : {G : Type 0} {r : Rest G} {conn : ℕ} {S : Setting} {Now : Rest G → Type 0} {from to : SourceView} {old new : SinkView} (bytes : List ℕ) → Grows from.given to.given bytes
    → ConversesWhole r conn S Now from to old new → Grows old.put new.put (conversation S conn r.ledger bytes).out
put_by_given {r = r} {conn = conn} {S = S} {from = from} {old = old} bytes grows h =
    let all : h.read ≡ bytes = append_cancel_left from.given h.read bytes (sym h.input.grows ∙ grows) in
    h.took.grows ∙ ap (λ (l : List ℕ). old.put ++ (conversation S conn r.ledger l).out) all

-- After a fault it took a prefix of that.
pub front_by_given : {G : Type 0} {r : Rest G} {conn : ℕ} {S : Setting} {Now : Rest G → Type 0} {from to : SourceView} {old new : SinkView} (bytes : List ℕ) → Grows from.given to.given bytes
    → (fault : StreamFault) → ConversesFront r conn S Now from to old new fault → MovesFront old.put new.put (conversation S conn r.ledger bytes).out
front_by_given {r = r} {conn = conn} {S = S} {from = from} bytes grows fault h =
    let all : h.read ≡ bytes = append_cancel_left from.given h.read bytes (sym h.input.grows ∙ grows) in
    let f = h.broken.front in
    let w = h.broken.is_so.1.grows in
    (w.0, w.1 ++ f.rest, sym (append_assoc w.0 w.1 f.rest) ∙ ap (λ (l : List ℕ). l ++ f.rest) w.2 ∙ f.due ∙ ap (λ (l : List ℕ). (conversation S conn r.ledger l).out) all, w.3)

-- a fault that is due to the sink or to memory alone isn't one of the source
pub never_read : (fault : StreamFault) (output : Bool) → IsDueTo fault false output → fault ≡ stream_fault.ReadFailed → ⊥
never_read stream_fault.ReadFailed output h e = true≢false (sym h)
never_read _ output h e = cc
