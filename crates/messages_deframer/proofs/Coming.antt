-- How a scan of a piece goes on, and where it stops.
use Rattle.std.proofs.Common.{◌≡◌, refl, sym, ◌∙◌, ap, subst, ℕ, ◌+◌, ◌-◌, ◌<◌, ◌≤◌, true, false, ◌⊎◌, inl, inr, List, [], ◌∷◌, length, drop, take, Option, Some, None, Result, Ok, Err, arith, length-append, length-drop, is_err}
use Rattle.std.proofs.lemmas.List.{drop-drop, take_all, drop_all}
use Rattle.wire.specs.declared.parts.Cut.{Cut}
use Rattle.wire.specs.declared.parts.Part.{Part}
use Rattle.wire.specs.declared.parts.Part.TheVariants as part
use Rattle.wire.specs.declared.items.Fed.{Fed}
use Rattle.wire.specs.declared.items.Piece.TheVariants.{Nothing}
use Rattle.wire.specs.declared.faults.WireFault.{WireFault}
use Rattle.wire.specs.declared.faults.WireFault.TheVariants.{TooBig}
use Rattle.wire.specs.Prelude.{Place, cut_at, Unfinished, fresh, unfinished_at, Answered, answer_from, answer_to, further, item_of, wants_room, Took, takes, Item, Noop, Message, chunks, took_by, item_in, Holds, Taken, After, with_data}
use Rattle.wire.proofs.Cuts.{cuts_agree, further-further, further-zero}
use Rattle.wire.proofs.Framed.{answers_take}
use Rattle.wire.proofs.Limits.{tells_too_big}
use Rattle.wire.proofs.Room.{part_wants}
use Rattle.packstream_incremental.specs.Prelude.{Point, Reads}
use Rattle.messages_deframer.specs.declared.stream.Stream.{Stream}
use Rattle.messages_deframer.specs.Standing.{IsAt}
use Rattle.messages_deframer.specs.Scanning.{Scans, Comes, item_ended, rest_ended}
use Rattle.messages_deframer.proofs.Room.{further_wants, fewer_wants, comes_end}

-- before the first byte of the piece
pub comes_none : (s : Stream) (u : Unfinished) (piece : List ℕ) → IsAt s u → s.is_over ≡ false → Comes u piece 0 s.chunks s.reader.here
comes_none s u piece at going =
    let small : u.too_big ≡ false = at.over ∙ going in
    let p = at.place small in
    record {
      body = u.body;
      longer = omega arith;
      reads = at.reads;
      holds = p.1;
      going = sym (ap (λ (v : Unfinished). v.too_big) p.0) ∙ small;
      ahead = ap (λ v. answer_from v piece) p.0 ∙ sym (further-zero _);
    }

pub from_here : (u : Unfinished) (piece : List ℕ) → u.too_big ≡ false → answer_to u piece ≡ answer_from u piece
from_here u piece small = rw small refl

-- what is taken, where this is answered
pub taken_as : (u v : Unfinished) (piece : List ℕ) (r : Result Fed WireFault) → u.too_big ≡ false → answer_from u piece ≡ record { answer = r; rest = v } → takes chunks u piece ≡ took_by r v
taken_as u v piece r small e = answers_take u piece small ∙ ap (λ (c : Answered). took_by c.answer c.rest) (from_here u piece small ∙ e)

-- a message is refused where an error is answered
fed_big : (u v : Unfinished) (piece : List ℕ) (r : Result Fed WireFault) → answer_to u piece ≡ record { answer = r; rest = v } → v.too_big ≡ is_err r
fed_big u v piece r e = sym (ap (λ (c : Answered). c.rest.too_big) e) ∙ tells_too_big u piece ∙ ap (λ (c : Answered). is_err c.answer) e

no_op : (b : List ℕ) → length b ≡ 0 → item_in (item_of b) ≡ Some Noop
no_op [] e = refl
no_op (x ∷ xs) e = absurd (omega arith)

message : (b : List ℕ) → 0 < length b → item_in (item_of b) ≡ Some (Message b)
message [] some = absurd (omega arith)
message (x ∷ xs) some = refl

abbrev as_taken : ℕ → Option Item → Unfinished → Took Unfinished Item
as_taken used item rest = record { used = used; item = item; rest = rest }

-- the piece is at its end, and nothing has ended
pub comes_all : (u : Unfinished) (piece : List ℕ) (used : ℕ) (s : Stream) → u.too_big ≡ false → Comes u piece used s.chunks s.reader.here → length piece ≤ used → Scans u piece (record { used = used; what = part.Head }) s
comes_all u piece used s small h all =
    let none : drop used piece ≡ [] = drop_all used piece all in
    let rest : Unfinished = unfinished_at s.chunks h.body in
    let e : answer_from u piece ≡ record { answer = Ok (record { used = used + 0; what = Nothing }); rest = rest } = h.ahead ∙ ap (λ b. further used (answer_from rest b)) none in
    let same : used + 0 ≡ used = omega arith in
    record { body = h.body; reads = h.reads; after = (h.holds, h.going); refuses = λ e. cc; wants = λ e. cc; takes = taken_as u rest piece (Ok (record { used = used + 0; what = Nothing })) small e ∙ ap (λ n. as_taken n None rest) same }

data_longer : (what : Part) (n : ℕ) (piece body : List ℕ) → length body ≤ length (with_data what n piece body)
data_longer part.Head n piece body = omega arith
data_longer part.Data n piece body = omega (arith, length-append body (take n piece))
data_longer part.Noop n piece body = omega arith
data_longer part.End n piece body = omega arith
data_longer part.TooBig n piece body = omega arith

pub neither : (what : Part) → (what ≡ part.Head → ⊥) → (what ≡ part.Data → ⊥) → (what ≡ part.Head) ⊎ (what ≡ part.Data) → ⊥
neither what h d (inl e) = h e
neither what h d (inr e) = d e

-- what is left of a piece, as it is cut off
pub left_of : (used : ℕ) (bytes : List ℕ) → take (length bytes - used) (drop used bytes) ≡ drop used bytes
left_of used bytes = take_all (length bytes - used) (drop used bytes) (omega (arith, length-drop used bytes))

module _ (u : Unfinished) (bytes : List ℕ) (used : ℕ) (place new : Place) (here there : Point) (c : Cut) (small : u.too_big ≡ false) (h : Comes u bytes used place here) (some : used < length bytes)
    (cut_here : c ≡ (cut_at place (take (length bytes - used) (drop used bytes))).cut) (at_here : new ≡ (cut_at place (take (length bytes - used) (drop used bytes))).place)
    (read_here : (b : List ℕ) → Reads here b → Reads there (with_data c.what c.used (take (length bytes - used) (drop used bytes)) b)) where
  cut : c ≡ (cut_at place (drop used bytes)).cut
  cut = cut_here ∙ ap (λ b. (cut_at place b).cut) (left_of used bytes)

  at : new ≡ (cut_at place (drop used bytes)).place
  at = at_here ∙ ap (λ b. (cut_at place b).place) (left_of used bytes)

  abbrev body : List ℕ
  body = with_data c.what c.used (drop used bytes) h.body

  reads : Reads there body
  reads = subst (λ (b : List ℕ). Reads there (with_data c.what c.used b h.body)) (left_of used bytes) (read_here h.body h.reads)

  part_took : Taken (unfinished_at place h.body) (drop used bytes) c.used c.what (unfinished_at new body)
  part_took = let t = cuts_agree place h.body (drop used bytes) h.holds h.going (omega (arith, length-drop used bytes)) in rw (cut, at) t.took

  part_after : After c.what new body
  part_after = let t = cuts_agree place h.body (drop used bytes) h.holds h.going (omega (arith, length-drop used bytes)) in rw (cut, at) t.after

  -- the item goes on
  went : Holds body new → new.too_big ≡ false → answer_from (unfinished_at place h.body) (drop used bytes) ≡ further c.used (answer_from (unfinished_at new body) (drop c.used (drop used bytes))) → Comes u bytes (used + c.used) new there
  went holds going ahead = record {
    body = body;
    longer = omega (arith, h.longer, data_longer c.what c.used (drop used bytes) h.body);
    reads = reads;
    holds = holds;
    going = going;
    ahead = h.ahead ∙ ap (further used) ahead ∙ further-further used c.used _ ∙ ap (λ b. further (used + c.used) (answer_from (unfinished_at new body) b)) (drop-drop c.used used bytes);
  }

  goes : (what : Part) → (what ≡ part.Head) ⊎ (what ≡ part.Data) → Taken (unfinished_at place h.body) (drop used bytes) c.used what (unfinished_at new body) → After what new body → Comes u bytes (used + c.used) new there
  goes part.Head w t a = went a.0 a.1 t.ahead
  goes part.Data w t a = went a.0 a.1 t.ahead
  goes part.Noop (inl e) t a = cc
  goes part.Noop (inr e) t a = cc
  goes part.End (inl e) t a = cc
  goes part.End (inr e) t a = cc
  goes part.TooBig (inl e) t a = cc
  goes part.TooBig (inr e) t a = cc

  pub comes_on : (c.what ≡ part.Head) ⊎ (c.what ≡ part.Data) → Comes u bytes (used + c.used) new there
  comes_on w = goes c.what w part_took part_after

  -- the item ends, or is refused
  ends : (what : Part) → ((what ≡ part.Head) ⊎ (what ≡ part.Data) → ⊥) → Taken (unfinished_at place h.body) (drop used bytes) c.used what (unfinished_at new body) → After what new body
      → takes chunks u bytes ≡ as_taken (used + c.used) (item_ended what body) (rest_ended what new body)
  ends part.Head never t a = absurd (never (inl refl))
  ends part.Data never t a = absurd (never (inr refl))
  ends part.Noop never t a =
      taken_as u fresh bytes (Ok (record { used = used + c.used; what = item_of body })) small (h.ahead ∙ ap (further used) t.0) ∙ ap (λ o. as_taken (used + c.used) o fresh) (no_op body a.1)
  ends part.End never t a =
      taken_as u fresh bytes (Ok (record { used = used + c.used; what = item_of body })) small (h.ahead ∙ ap (further used) t.0) ∙ ap (λ o. as_taken (used + c.used) o fresh) (message body a.1)
  ends part.TooBig never t a = taken_as u (unfinished_at new body) bytes (Err (TooBig (used + c.used))) small (h.ahead ∙ ap (further used) t)

  refused : (what : Part) → Taken (unfinished_at place h.body) (drop used bytes) c.used what (unfinished_at new body) → what ≡ part.TooBig → new.too_big ≡ true
  refused part.Head t e = cc
  refused part.Data t e = cc
  refused part.Noop t e = cc
  refused part.End t e = cc
  refused part.TooBig t e = fed_big u (unfinished_at new body) bytes (Err (TooBig (used + c.used))) (from_here u bytes small ∙ h.ahead ∙ ap (further used) t)

  wanted : (what : Part) → Taken (unfinished_at place h.body) (drop used bytes) c.used what (unfinished_at new body) → After what new body → what ≡ part.End → wants_room (length u.body) (answer_from u bytes) ≡ true
  wanted part.Head t a e = absurd cc
  wanted part.Data t a e = absurd cc
  wanted part.Noop t a e = absurd cc
  wanted part.End t a e = comes_end u bytes used c.used body _ h.ahead t.0 a.1
  wanted part.TooBig t a e = absurd cc

  -- where it does
  pub comes_to : (s : Stream) → s.chunks ≡ new → s.reader.here ≡ there → ((c.what ≡ part.Head) ⊎ (c.what ≡ part.Data) → ⊥) → Scans u bytes (record { used = used + c.used; what = c.what }) s
  comes_to s at_new at_there never = record {
    body = body;
    reads = rw at_there reads;
    after = rw at_new part_after;
    refuses = λ e. rw at_new (refused c.what part_took e);
    wants = λ e. wanted c.what part_took part_after e;
    takes = rw at_new (ends c.what never part_took part_after);
  }

-- data comes behind so many bytes
pub comes_data : (u : Unfinished) (piece : List ℕ) (used : ℕ) (place : Place) (here : Point) → Comes u piece used place here → used < length piece
    → (cut_at place (take (length piece - used) (drop used piece))).cut.what ≡ part.Data → wants_room (length u.body) (answer_from u piece) ≡ true
comes_data u piece used place here h some is =
    let what : (cut_at place (drop used piece)).cut.what ≡ part.Data = ap (λ b. (cut_at place b).cut.what) (sym (left_of used piece)) ∙ is in
    let left = part_wants place h.body (drop used piece) (cut_at place (drop used piece)).cut h.going (omega (arith, length-drop used piece)) refl what in
    let rest = answer_from (unfinished_at place h.body) (drop used piece) in
    ap (wants_room (length u.body)) h.ahead ∙ further_wants used (length u.body) rest ∙ fewer_wants (length u.body) (length h.body) rest h.longer left
