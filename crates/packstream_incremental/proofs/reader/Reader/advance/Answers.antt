use Rattle.std.proofs.Common.{Ok, ap, sym, subst, ◌∙◌}
use Rattle.std.proofs.lemmas.List.{append-nil}
use Rattle.packstream.proofs.Ranges.{bytes_from_each}
use Rattle.packstream_incremental.specs.Prelude.{Point, Points, Takes, Holds, holds}
use Rattle.packstream_incremental.proofs.Held.{keeps_on, keeps_at, here_at, kept_within, joins}
use Rattle.packstream_incremental.proofs.reader.Reader.advance.Goals as goal

pub invariant_of-self-then-branch : goal.invariant_of-self-then-branch
invariant_of-self-then-branch c =
    let i = c.self.inside in
    let old : Holds = holds i.reading in
    let new : Holds = holds c.take_within.new.self in
    let t = (c.in_ok-take_within.ensures.taken (ap Ok c.if-branch.true)).1 in
    let bytes = sym (append-nil new.store) ∙ t.bytes in
    let keeps = keeps_on old new c.args.piece.now (keeps_at i.is_still old i.held c.self.invariant) (bytes_from_each c.args.piece.now c.type_inv.piece) t.stands bytes in
    kept_within i.is_still old new i.held c.args.piece.now c.self.invariant c.take_within.ensures.grown keeps bytes

pub returns-then-branch-clause-here : goal.returns-then-branch-clause-here
returns-then-branch-clause-here c =
    let i = c.self.inside in
    let old : Holds = holds i.reading in
    let new : Holds = holds c.take_within.new.self in
    let taken = c.in_ok-take_within.ensures.taken (ap Ok c.if-branch.true) in
    let t = taken.1 in
    let bytes = sym (append-nil new.store) ∙ t.bytes in
    let keeps = keeps_on old new c.args.piece.now (keeps_at i.is_still old i.held c.self.invariant) (bytes_from_each c.args.piece.now c.type_inv.piece) t.stands bytes in
    let before = sym (here_at i.is_still old i.held) ∙ ap (λ (p : Points). p.here) c.self.view_is in
    subst (λ (p : Point). Takes c.args.self.now.here c.args.piece.now p) (sym (c.hold.ensures.here ∙ here_at i.is_still new i.held))
    (joins old new c.args.self.now.here c.args.piece.now before keeps taken.0 bytes t.bad)
