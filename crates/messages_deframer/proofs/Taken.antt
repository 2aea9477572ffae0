-- What is taken of a piece that was scanned.
use Rattle.std.proofs.Common.{◌≡◌, refl, sym, ◌∙◌, ap, subst, ℕ, zero, suc, true, false, ◌⊎◌, inl, inr, None, Some, Result, List, [], ◌∷◌, length, take, arith}
use Rattle.wire.specs.declared.parts.Cut.{Cut}
use Rattle.wire.specs.declared.parts.Part.{Part}
use Rattle.wire.specs.declared.parts.Part.TheVariants as part
use Rattle.wire.specs.Prelude.{Place, start, Unfinished, fresh, unfinished_at, refused, after_limit, next, Took, takes, one_more, Item, Message, chunks, Holds}
use Rattle.wire.specs.Framing.{after_step as kept_after}
use Rattle.packstream.specs.Prelude.{AreBytes}
use Rattle.packstream_incremental.specs.Prelude.{Point, Reads}
use Rattle.messages.specs.declared.fault.MsgFault.{MsgFault}
use Rattle.messages_deframer.specs.declared.brought.Brought.{Brought}
use Rattle.messages_deframer.specs.declared.brought.Brought.TheVariants as brought
use Rattle.messages_deframer.specs.declared.stream.Stream.{Stream}
use Rattle.messages_deframer.specs.Standing.{IsAt}
use Rattle.messages_deframer.specs.Taking.{Brings, TakesAt, Takes, used_up}
use Rattle.messages_deframer.specs.Scanning.{Scans}

pub empty_is : (b : List ℕ) → length b ≡ 0 → b ≡ []
empty_is [] e = refl
empty_is (x ∷ b) e = absurd (omega arith)

pub taken_bytes : (n : ℕ) (b : List ℕ) → AreBytes b → AreBytes (take n b)
taken_bytes zero b are = tt
taken_bytes (suc n) [] are = tt
taken_bytes (suc n) (x ∷ b) are = (are.0, taken_bytes n b are.1)

-- between messages
pub at_start : (s : Stream) → s.is_over ≡ false → s.chunks ≡ start → Reads s.reader.here [] → IsAt s fresh
at_start s going at reads = record { over = sym going; reads = reads; place = λ _. (rw at refl, rw at (refl, omega arith)) }

-- nothing has ended
pub at_part : (s : Stream) (b : List ℕ) → s.is_over ≡ false → Holds b s.chunks × (s.chunks.too_big ≡ false) → Reads s.reader.here b → IsAt s (unfinished_at s.chunks b)
at_part s b going after reads = record { over = after.1 ∙ sym going; reads = reads; place = λ _. (refl, after.0) }

-- a message was refused
at_refusal : (s : Stream) (place : Place) (b : List ℕ) → s.is_over ≡ true → place.too_big ≡ true → Reads s.reader.here b → IsAt s (unfinished_at place b)
at_refusal s place b over big reads = record { over = big ∙ sym over; reads = reads; place = λ e. let no : ◌≡◌ true false = sym big ∙ e in absurd cc }

-- a stream in which a message was refused takes everything, and keeps the data
pub record TakesAll (u : Unfinished) (piece : List ℕ) : Type 0 where
  pub rest : Unfinished
  pub takes : takes chunks u piece ≡ record { used = length piece; item = None; rest = rest }
  pub over : rest.too_big ≡ true
  pub body : rest.body ≡ u.body

takes_gone : (u : Unfinished) (piece : List ℕ) → u.too_big ≡ true → TakesAll u piece
takes_gone u [] big = record { rest = u; takes = refl; over = big; body = refl }
takes_gone u (b ∷ more) big =
    let past : next u b ≡ refused u.body = rw big refl in
    let same : chunks.byte u b ≡ after_limit u.body = ap kept_after past in
    let none : chunks.item u b ≡ None = rw big refl in
    let later = takes_gone (after_limit u.body) more refl in
    record { rest = later.rest; takes = rw (same, none) (ap one_more later.takes); over = later.over; body = later.body }

-- A piece is used up, nothing ends with it, and the stream stands in what is unfinished then.
abbrev pub UsesUp : Unfinished → List ℕ → Stream → Type 0
UsesUp u piece s = (takes chunks u piece ≡ used_up piece (takes chunks u piece).rest) × IsAt s (takes chunks u piece).rest

pub uses_up : (u : Unfinished) (piece : List ℕ) (rest : Unfinished) (s : Stream) → takes chunks u piece ≡ used_up piece rest → IsAt s rest → UsesUp u piece s
uses_up u piece rest s e at = let same : rest ≡ (takes chunks u piece).rest = sym (ap (λ (x : Took Unfinished Item). x.rest) e) in (e ∙ ap (used_up piece) same, subst (IsAt s) same at)

-- what is told of the item that an inbox stands in
pub told : {M : Type 0} (reads : List ℕ → Result M MsgFault → Type 0) (u v : Unfinished) (piece : List ℕ) (used : ℕ) (x : Brought M) (s : Stream) (rest : Unfinished) → u ≡ v → TakesAt reads (takes chunks u piece) used x s → rest ≡ (takes chunks u piece).rest
    → Takes reads (takes chunks v piece) used x rest
told reads u v piece used x s rest same t is = subst (λ (w : Unfinished). Takes reads (takes chunks w piece) used x rest) same (record { used_is = t.used_is; item = t.item; rest_is = is })

module _ {M : Type 0} (reads : List ℕ → Result M MsgFault → Type 0) (u : Unfinished) (piece : List ℕ) where
  abbrev Is : ℕ → Brought M → Stream → Type 0
  Is used x s = TakesAt reads (takes chunks u piece) used x s

  -- where the item is this
  pub by_taken : (t : Took Unfinished Item) (x : Brought M) (s : Stream) → takes chunks u piece ≡ t → Brings reads t.item x → IsAt s t.rest → Is t.used x s
  by_taken t x s e item at = subst (λ y. TakesAt reads y t.used x s) (sym e) (record { used_is = refl; item = item; rest = at })

  -- after a refusal
  pub taken_over : (s : Stream) → IsAt s u → s.is_over ≡ true → Is (length piece) brought.Nothing s
  taken_over s at over =
      let t : TakesAll u piece = takes_gone u piece (at.over ∙ over) in
      by_taken _ _ s t.takes refl (record { over = t.over ∙ sym over; reads = subst (λ (b : List ℕ). Reads s.reader.here b) (sym t.body) at.reads; place = λ e. let no : ◌≡◌ true false = sym t.over ∙ e in absurd cc })

  module _ (cut : Cut) (s : Stream) (going : s.is_over ≡ false) (h : Scans u piece cut s) where
    -- the item goes on
    part_by : (what : Part) → (what ≡ part.Head) ⊎ (what ≡ part.Data) → cut.what ≡ what → Is cut.used brought.Nothing s
    part_by part.Head w e = by_taken _ _ s (rw e at h.takes) refl (at_part s h.body going (rw e at h.after) h.reads)
    part_by part.Data w e = by_taken _ _ s (rw e at h.takes) refl (at_part s h.body going (rw e at h.after) h.reads)
    part_by part.Noop (inl w) e = cc
    part_by part.Noop (inr w) e = cc
    part_by part.End (inl w) e = cc
    part_by part.End (inr w) e = cc
    part_by part.TooBig (inl w) e = cc
    part_by part.TooBig (inr w) e = cc

    pub taken_part : (cut.what ≡ part.Head) ⊎ (cut.what ≡ part.Data) → Is cut.used brought.Nothing s
    taken_part w = part_by cut.what w refl

    pub taken_noop : cut.what ≡ part.Noop → Is cut.used brought.Noop s
    taken_noop e =
        let a = rw e at h.after in
        by_taken _ _ s (rw e at h.takes) refl (at_start s going a.0.0 (subst (λ (b : List ℕ). Reads s.reader.here b) (empty_is h.body a.1) h.reads))

    -- a message ends: this was brought of its data, and a new reader follows
    pub taken_message : (x : Brought M) (t : Stream) → cut.what ≡ part.End → ((b : List ℕ) → Reads s.reader.here b → Brings reads (Some (Message b)) x)
        → t.is_over ≡ false → t.chunks ≡ s.chunks → Reads t.reader.here [] → Is cut.used x t
    taken_message x t e brings on same none =
        let a = rw e at h.after in
        by_taken _ _ t (rw e at h.takes) (brings h.body h.reads) (at_start t on (same ∙ a.0.0) none)

    -- a message is refused
    pub taken_refused : (t : Stream) → cut.what ≡ part.TooBig → t.is_over ≡ true → t.reader.here ≡ s.reader.here → Is cut.used brought.TooBig t
    taken_refused t e over same =
        by_taken _ _ t (rw e at h.takes) refl (at_refusal t s.chunks h.body over (h.refuses e) (subst (λ (p : Point). Reads p h.body) (sym same) h.reads))
