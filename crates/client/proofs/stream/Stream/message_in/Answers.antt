use Rattle.std.proofs.Common.{◌∙◌, sym, ap, rules, arith}
use Rattle.messages_deframer.proofs.Opening.{takes_open, come_open, opened}
use Rattle.client.specs.Prelude.{held_bytes}
use Rattle.client.specs.Taking.{whole_message}
use Rattle.client.proofs.Versions.{all_held, chunks_want}
use Rattle.client.proofs.stream.Stream.message_in.Goals as goal

pub returns-in-Some : goal.returns-in-Some
returns-in-Some c =
    let s = c.args.self.now in
    let whole = all_held s.opening (search rules) s.answering (omega (arith, c.if-self-lt-LENGTH.false)) in
    record { takes = takes_open 4 (held_bytes s.opening) s.inbox c.args.piece.now whole ∙ ap opened c.in-Some.ensures.takes ∙ ap (whole_message c.in-Some.message.now) (sym (come_open 4 (held_bytes s.opening) s.inbox c.args.piece.now whole)); room = chunks_want s.opening s.inbox c.args.piece.now whole c.in-Some.ensures.room; within = c.in-Some.ensures.within }
