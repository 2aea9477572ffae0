-- Points that a reader leaves and returns to.
use Rattle.std.proofs.Common.{◌≡◌, ◌≤◌, Bool, ℕ, List, [], ◌++◌, length, take, None, refl, sym, ap, subst, ◌∙◌, append_assoc, arith, inl, inr, true, false}
use Rattle.std.proofs.lemmas.List.{take-take, take_at, length-take-le, append-nil, length-append}
use Rattle.std.proofs.Math.Seq.{take-length}
use Rattle.packstream.specs.declared.fault.Reason.{Reason}
use Rattle.packstream.specs.declared.fault.Reason.TheVariants as reason
use Rattle.packstream.specs.Prelude.{Tree, IsGood, AreBytes, Spells, Bad}
use Rattle.packstream.proofs.Bounds.{good_spelled}
use Rattle.packstream.proofs.Ranges.{both_bytes}
use Rattle.packstream.proofs.Staying.{stays}
use Rattle.packstream.proofs.Deciding.{whole_value, whole_fault, err_parts}
use Rattle.packstream_incremental.specs.declared.progress.Part.{Part}
use Rattle.packstream_incremental.specs.declared.progress.Part.TheVariants as part
use Rattle.packstream_incremental.specs.declared.progress.Mark.{Mark}
use Rattle.packstream_incremental.specs.declared.progress.Cursor.{Cursor}
use Rattle.packstream_incremental.specs.declared.read_fault.ReadFault.TheVariants as stop
use Rattle.packstream_incremental.specs.Prelude.{Frame, AreLevels, part_head, Point, IsBeginning, Takes, MayGoOn, Holds, point, mark_of, at_mark, with_fault, points_at, IsKeptAt, Goes, IsLacking, IsDone, IsStanding, IsKeeping, HasGrown, IsKept, IsMark, HoldsOn, IsFaultOf}
use Rattle.packstream_incremental.proofs.Opening.{bad_behind, part_is_short}

pub cut_cut : (m k : Mark) (h : Holds) → m.store ≤ k.store → m.keys ≤ k.keys → at_mark m (at_mark k h) ≡ at_mark m h
cut_cut m k h a b = rw (take-take m.store k.store h.store a, take-take m.keys k.keys h.names b) refl

-- what has grown is cut back
pub cut_grown : (old new : Holds) → HasGrown old new → at_mark (mark_of old) new ≡ old
cut_grown old new g =
    let b = ap (take (length old.store)) g.store.1 ∙ take_at old.store g.store.0 (length old.store) refl in
    let c = ap (take (length old.names)) g.names.1 ∙ take_at old.names g.names.0 (length old.names) refl in
    rw (b, c) refl

begins_itself : (b : List ℕ) → IsBeginning b b
begins_itself b = ([], sym (append-nil b))

-- a cut at the held point undoes no growth since
cut_on : (old new : Holds) (m : Mark) → HasGrown old new → m.store ≤ length old.store → m.keys ≤ length old.names → at_mark m new ≡ at_mark m old
cut_on old new m g a b = sym (cut_cut m (mark_of old) new a b) ∙ ap (at_mark m) (cut_grown old new g)

-- a piece that was taken leaves each held point
pub on_taken : (old new : Holds) (piece : List ℕ) → HasGrown old new → IsKeeping new → new.store ≡ old.store ++ piece → HoldsOn old new
on_taken old new piece grown keeps bytes = λ m kept.
    (let same = cut_on old new m grown kept.store kept.names in (
      record {
        store = omega (arith, kept.store, ap length grown.store.1, length-append old.store grown.store.0);
        names = omega (arith, kept.names, ap length grown.names.1, length-append old.names grown.names.0);
        here = keeps;
        behind = subst IsKeeping (sym same) kept.behind;
        held = (
          kept.held.0 ++ piece,
          bytes ∙ ap (λ (b : List ℕ). b ++ piece) kept.held.1 ∙ append_assoc (at_mark m old).store kept.held.0 piece ∙ ap (λ (x : Holds). x.store ++ (kept.held.0 ++ piece)) (sym same),
        );
      },
      ap point same,
    ))

-- ---- a point that is held here, or at a mark

pub keeps_at : (still : Bool) (h : Holds) (m : Mark) → IsKeptAt still h m → IsKeeping h
keeps_at true h m keeps = keeps
keeps_at false h m kept = kept.here

-- what was taken leaves it
pub kept_within : (still : Bool) (old new : Holds) (m : Mark) (piece : List ℕ) → IsKeptAt still old m → HasGrown old new → IsKeeping new → new.store ≡ old.store ++ piece → IsKeptAt still new m
kept_within true old new m piece kept grown keeps bytes = keeps
kept_within false old new m piece kept grown keeps bytes = (on_taken old new piece grown keeps bytes m kept).0

pub here_at : (still : Bool) (h : Holds) (m : Mark) → (points_at still h m).here ≡ point h
here_at true h m = refl
here_at false h m = refl

-- ---- what the bytes have

-- bytes are missing behind what is open
goes_short : (h : Holds) → (g : Goes h h.cursor.part) → IsLacking h.cursor.part → Bad h.store h.cursor.read reason.Short
goes_short h g lacks =
    subst (λ (n : ℕ). Bad h.store n reason.Short) (sym g.read)
    (subst (λ (b : List ℕ). Bad b (length g.full) reason.Short) (sym g.store)
    (bad_behind g.frames g.full (part_head h.cursor.part ++ g.tail) reason.Short g.are (part_is_short _ h.cursor.part g.tail g.isa lacks)))

done_tree : (h : Holds) → (d : IsDone h) → AreBytes h.store → IsGood d.tree × Spells d.tree h.store
done_tree h d bytes = good_spelled d.tree h.store bytes d.deep d.sound d.spells

-- bytes that stand so have no fault but missing bytes
pub may_go_on : (h : Holds) → IsKeeping h → MayGoOn h.store
may_go_on h keeps = λ r o bad.
    elim (keeps.stands) as (λ _. r ≡ reason.Short) [
      | inl d ↦ absurd (let k = sym ((whole_value h.store keeps.bytes d.tree).1 (done_tree h d keeps.bytes)) ∙ (whole_fault h.store keeps.bytes r o).1 bad in cc)
      | inr u ↦ (err_parts {A = Tree} r reason.Short o h.cursor.read (sym ((whole_fault h.store keeps.bytes r o).1 bad) ∙ (whole_fault h.store keeps.bytes reason.Short h.cursor.read).1 (goes_short h u.0 u.1))).0
    ]

-- ---- a piece

pub keeps_on : (old new : Holds) (piece : List ℕ) → IsKeeping old → AreBytes piece → IsStanding new → new.store ≡ old.store ++ piece → IsKeeping new
keeps_on old new piece keeps are stands bytes = record {
  bytes = subst AreBytes (sym bytes) (both_bytes old.store piece keeps.bytes are);
  stands = stands;
}

-- a piece that is joined
pub joins : (old new : Holds) (before : Point) (piece : List ℕ) → point old ≡ before → IsKeeping new → old.cursor.bad ≡ None → new.store ≡ old.store ++ piece → new.cursor.bad ≡ None → Takes before piece (point new)
joins old new before piece is keeps good bytes still =
    subst (λ (p : Point). Takes p piece (point new)) is (rw good (inl (record { joined = bytes; good = still; goes_on = may_go_on new keeps })))

-- ---- a mark that has the open levels alone

-- what a standing has beside the levels that aren't open
record IsAlike (s o : Cursor) : Type 0 where
  part : s.part ≡ o.part
  read : s.read ≡ o.read
  is_whole : s.«open».is_whole ≡ o.«open».is_whole
  levels : (fs : List Frame) → AreLevels fs o.«open».depth o.«open».around → AreLevels fs s.«open».depth s.«open».around

abbrev cursor_so : Holds → Cursor → Holds
cursor_so h s = record h { cursor = s }

alike_goes : (h : Holds) (s : Cursor) (p : Part) → IsAlike s h.cursor → Goes h p → Goes (cursor_so h s) p
alike_goes h s p like g = record {
  frames = g.frames;
  full = g.full;
  tail = g.tail;
  unread = like.is_whole ∙ g.unread;
  store = g.store;
  are = g.are;
  read = like.read ∙ g.read;
  levels = like.levels g.frames g.levels;
  named = g.named;
  placed = g.placed;
  isa = g.isa;
}

alike_done : (h : Holds) (s : Cursor) → IsAlike s h.cursor → IsDone h → IsDone (cursor_so h s)
alike_done h s like d = record {
  tree = d.tree;
  whole = like.is_whole ∙ d.whole;
  none = like.part ∙ d.none;
  spells = d.spells;
  sound = d.sound;
  deep = d.deep;
  read = like.read ∙ d.read;
  placed = d.placed;
}

alike_stands : (h : Holds) (s : Cursor) → IsAlike s h.cursor → IsStanding h → IsStanding (cursor_so h s)
alike_stands h s like (inl d) = inl (alike_done h s like d)
alike_stands h s like (inr u) = inr (subst (λ (p : Part). Goes (cursor_so h s) p × IsLacking p) (sym like.part) (alike_goes h s h.cursor.part like u.0, u.1))

alike_point : (h : Holds) (s : Cursor) → s.bad ≡ h.cursor.bad → point (cursor_so h s) ≡ point h
alike_point h s same = rw same refl

alike_keeps : (h : Holds) (s : Cursor) → IsAlike s h.cursor → IsKeeping h → IsKeeping (cursor_so h s)
alike_keeps h s like keeps = record { bytes = keeps.bytes; stands = alike_stands h s like keeps.stands }

-- so each held point stays
alike_on : (h : Holds) (s : Cursor) → IsAlike s h.cursor → HoldsOn h (cursor_so h s)
alike_on h s like = λ m kept. (record { store = kept.store; names = kept.names; here = alike_keeps h s like kept.here; behind = kept.behind; held = kept.held }, refl)

marked : (h : Holds) (m : Mark) → IsMark h m → IsAlike m.cursor h.cursor
marked h m is = record { part = is.part; read = is.read; is_whole = is.is_whole; levels = is.levels }

at_marked : (h : Holds) (m : Mark) → IsMark h m → at_mark m h ≡ cursor_so h m.cursor
at_marked h m is =
    let b = ap (λ (n : ℕ). take n h.store) is.store ∙ take-length h.store in
    let c = ap (λ (n : ℕ). take n h.names) is.names ∙ take-length h.names in
    rw (b, c) refl

marked_keeps : (h : Holds) (m : Mark) → IsMark h m → IsKeeping h → IsKeeping (at_mark m h)
marked_keeps h m is keeps = subst IsKeeping (sym (at_marked h m is)) (alike_keeps h m.cursor (marked h m is) keeps)

pub marked_point : (h : Holds) (m : Mark) → IsMark h m → point (at_mark m h) ≡ point h
marked_point h m is = ap point (at_marked h m is) ∙ alike_point h m.cursor is.bad

-- the point that is marked is held
pub kept_marked : (h : Holds) (m : Mark) → IsMark h m → IsKeeping h → IsKept h m
kept_marked h m is keeps = record {
  store = omega (arith, is.store);
  names = omega (arith, is.names);
  here = keeps;
  behind = marked_keeps h m is keeps;
  held = subst (λ (p : Point). IsBeginning p.bytes h.store) (sym (marked_point h m is)) (begins_itself h.store);
}

-- the way back to a mark
pub kept_back : (h : Holds) (m : Mark) → IsKept h m → IsKept (at_mark m h) m
kept_back h m kept =
    kept_marked (at_mark m h) m
    (record { store = sym (length-take-le m.store h.store kept.store); names = sym (length-take-le m.keys h.names kept.names); part = refl; read = refl; bad = refl; is_whole = refl; levels = λ fs l. l }) kept.behind

-- what has grown since is cut back to the mark
cut_marked : (old new : Holds) (b : Mark) → IsMark old b → HasGrown old new → at_mark b new ≡ at_mark b old
cut_marked old new b is grown = cut_on old new b grown (omega (arith, is.store)) (omega (arith, is.names))

pub keeps_cut : (old new : Holds) (b : Mark) → IsMark old b → HasGrown old new → IsKeeping old → IsKeeping (at_mark b new)
keeps_cut old new b is grown keeps = subst IsKeeping (sym (cut_marked old new b is grown)) (marked_keeps old b is keeps)

pub point_cut : (old new : Holds) (b : Mark) → IsMark old b → HasGrown old new → point (at_mark b new) ≡ point old
point_cut old new b is grown = ap point (cut_marked old new b is grown) ∙ marked_point old b is

-- a way back to where it stood does so too
on_marked : (old : Holds) (b : Mark) → IsMark old b → HoldsOn old (at_mark b old)
on_marked old b is = subst (λ (x : Holds). HoldsOn old x) (sym (at_marked old b is)) (alike_on old b.cursor (marked old b is))

pub on_cut : (old new : Holds) (b : Mark) → IsMark old b → HasGrown old new → HoldsOn old (at_mark b new)
on_cut old new b is grown = subst (λ (x : Holds). HoldsOn old x) (sym (cut_marked old new b is grown)) (on_marked old b is)

-- and so does a fault that is kept there
pub on_bad : (old new bad : Holds) (b : Mark) (r : Reason) (o : ℕ) → IsMark old b → HasGrown old new → bad ≡ with_fault r o (at_mark b new) → HoldsOn old bad
on_bad old new bad b r o is grown e = subst (λ (x : Holds). HoldsOn old x) (sym e)
    (λ m kept.
    (let on = on_cut old new b is grown m kept in
    let turned = alike_on (at_mark b new) (with_fault r o (at_mark b new)).cursor (record { part = refl; read = refl; is_whole = refl; levels = λ fs l. l }) m on.0 in (turned.0, turned.1 ∙ on.1)))

-- a piece in which a fault is makes it bad where it stood
pub turns_back : (old new bad : Holds) (b : Mark) (piece : List ℕ) (r : Reason) (o : ℕ) → IsMark old b → HasGrown old new → old.cursor.bad ≡ None
    → bad ≡ with_fault r o (at_mark b new) → IsFaultOf (stop.Fault r o) (old.store ++ piece) → Takes (point old) piece (point bad)
turns_back old new bad b piece r o is grown good e fault =
    let kept = subst (λ (p : Point). IsBeginning old.store p.bytes) (sym (point_cut old new b is grown)) (begins_itself old.store) in
    subst (λ (x : Holds). Takes (point old) piece (point x)) (sym e)
    (rw good (inr (record { why = r; place = o; told = refl; always = stays (old.store ++ piece) r o fault.0 fault.1; certain = fault.1; kept = kept })))
