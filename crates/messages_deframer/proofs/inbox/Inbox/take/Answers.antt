use Rattle.std.proofs.Common.{subst, sym}
use Rattle.messages_deframer.specs.Standing.{IsAt}
use Rattle.messages_deframer.proofs.Taken.{taken_over, told}
use Rattle.messages_deframer.proofs.inbox.Inbox.take.Goals as goal

pub invariant_of-self : goal.invariant_of-self
invariant_of-self g c =
    let i = c.self.inside in
    let t = taken_over (g.M.Readable.reads c.args.version) i.begun.item c.args.piece.now i.stream c.self.invariant.at c.if-self.true in
    record { at = subst (IsAt i.stream) (sym c.take.ensures) t.rest; still = c.self.invariant.still; going = c.self.invariant.going }

pub returns-then-self-clause-ok : goal.returns-then-self-clause-ok
returns-then-self-clause-ok g c =
    let i = c.self.inside in
    let reads = g.M.Readable.reads c.args.version in
    told reads i.begun.item c.args.self.now c.args.piece.now _ _ i.stream _ c.self.view_is (taken_over reads i.begun.item c.args.piece.now i.stream c.self.invariant.at c.if-self.true) c.take.ensures
