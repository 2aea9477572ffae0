use Rattle.std.proofs.Common.{◌≡◌, ◌-◌, ◌∷◌, ℕ, List, Bool, Option, Ok, drop, length, ap, sym, subst, ◌∙◌, arith, IsUtf8}
use Rattle.packstream_incremental.specs.declared.open.Open.{Open}
use Rattle.packstream_incremental.specs.Prelude.{Name, IsRoot, IsNamed, Frame, waits, AreLevels, Holds, holds, with_item, body, size_with}
use Rattle.packstream.specs.Prelude.{at_key}
use Rattle.packstream.specs.declared.marker.Marker.{Marker}
use Rattle.packstream_incremental.proofs.Standing.{after, has_taken}
use Rattle.packstream_incremental.proofs.Values.{key_frame, key_root, key_stands, named_with, named_is}
use Rattle.packstream_incremental.proofs.Taking.{tail_at, key_twice}
use Rattle.packstream_incremental.proofs.progress.Reading.end_key.Goals as goal

pub join-requires-clause-root : goal.join-requires-clause-root
join-requires-clause-root c =
    let h : Holds = holds c.args.self.now in
    let g = c.requires.goes in
    let k = key_frame g.frames (c.requires.key g.frames g.levels) in
    let first : c.keys-first.result ≡ k.first = c.keys-first.ensures (waits (at_key k.es) k.lacks k.first) k.around (subst (λ (fs : List Frame). AreLevels fs h.cursor.«open».depth h.cursor.«open».around) k.is g.levels) in
    subst (λ (n : ℕ). IsRoot h.names n) (sym first) (key_root h c.args.marker c.args.number g k)

pub returns-then-not-is_new-clause-told : goal.returns-then-not-is_new-clause-told
returns-then-not-is_new-clause-told c =
    let h : Holds = holds c.args.self.now in
    let g = c.requires.goes in
    let k = key_frame g.frames (c.requires.key g.frames g.levels) in
    let first : c.keys-first.result ≡ k.first = c.keys-first.ensures (waits (at_key k.es) k.lacks k.first) k.around (subst (λ (fs : List Frame). AreLevels fs h.cursor.«open».depth h.cursor.«open».around) k.is g.levels) in
    let there = tail_at h c.args.marker c.args.number c.args.start c.args.size c.requires.announced g c.requires.start in
    let named = (c.in_ok-is_new.ensures.again (ap (λ (b : Bool). Ok b) c.if-not-is_new.true)).0 in
    key_twice h c.args.marker c.args.number c.args.start c.args.size c.args.rest.now c.requires.announced g k there (subst (λ (s : List ℕ). IsUtf8 s) there c.requires.text)
    (subst (λ (n : ℕ). IsNamed h.names h.store n (drop c.args.start h.store)) first named)

pub returns-clause-told : goal.returns-clause-told
returns-clause-told c =
    let h : Holds = holds c.args.self.now in
    let m = c.args.marker in
    let n = c.args.number in
    let g = c.requires.goes in
    let k = key_frame g.frames (c.requires.key g.frames g.levels) in
    let o : Open = c.key_ends.new.self in
    let first : c.keys-first.result ≡ k.first = c.keys-first.ensures (waits (at_key k.es) k.lacks k.first) k.around (subst (λ (fs : List Frame). AreLevels fs h.cursor.«open».depth h.cursor.«open».around) k.is g.levels) in
    let there = tail_at h m n c.args.start c.args.size c.requires.announced g c.requires.start in
    let fresh = c.in_ok-is_new.ensures.fresh (ap (λ (b : Bool). Ok b) c.if-not-is_new.false) in
    let name : Name = record { start = c.args.start; len = length h.store - c.args.start; first = k.first } in
    let read = named_is h c.join.new.self.bytes c.join.new.self.names c.args.start (length h.store - c.args.start) k.first c.keys-first.result c.join.ensures.bytes fresh.1 first in
    let same = ap (λ (x : Holds). after o x) (c.end_here.ensures.item ∙ ap with_item read) in
    let len : length g.tail ≡ size_with c.args.size n = omega (arith, g.isa.long) ∙ ap (λ (x : Option Marker). body x n) c.requires.announced in
    has_taken (named_with name h) _ o c.args.rest.now same c.requires.good
    (key_stands h m n c.args.start c.args.size o c.requires.announced g k (omega (arith, c.requires.start, len)) there (subst (λ (s : List ℕ). IsUtf8 s) there c.requires.text)
    (subst (λ (x : ℕ). IsNamed h.names h.store x (drop c.args.start h.store) → ⊥) first fresh.0)
    (λ fs es s lacks at levels. c.key_ends.ensures.frames fs es s lacks at (subst (λ (x : Open). AreLevels (waits (at_key es) lacks at ∷ fs) x.depth x.around) (sym c.end_here.ensures.opened) levels))
    (c.key_ends.ensures.is_whole ∙ ap (λ (x : Open). x.is_whole) c.end_here.ensures.opened))
