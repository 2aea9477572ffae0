use Rattle.std.proofs.Common.{◌≡◌, ◌∙◌, sym, ap, ◌<◌, ◌≤◌, ◌-◌, min, length, rules, arith, length-take}
use Rattle.wire.specs.Prelude.{Opened, Took, Item, reading}
use Rattle.messages_deframer.proofs.Opening.{takes_part, takes_whole, come_open}
use Rattle.client.specs.Prelude.{held_bytes, came_in}
use Rattle.client.proofs.Versions.{plain_version, held-length}
use Rattle.client.proofs.stream.Stream.take_answer.Goals as goal

pub invariant_of-self : goal.invariant_of-self
invariant_of-self c = record { answering = omega (arith, c.with-used.ensures.len, c.with-used.ensures.used, c.requires); unread = λ e. c.args.self.now.unread c.requires }

pub returns-then-opening-lt-LENGTH-clause-ok : goal.returns-then-opening-lt-LENGTH-clause-ok
returns-then-opening-lt-LENGTH-clause-ok c = λ version.
    let s = c.args.self.now in
    let w = c.with-used in
    let holds : length (held_bytes s.opening) ≡ s.opening.len = held-length s.opening (search rules) (omega (arith, c.requires)) in
    let less : length (held_bytes w.result.0) < 4 = omega (arith, length-take w.result.0.len w.result.0.bytes, c.if-opening-lt-LENGTH.true) in
    let t = takes_part 4 (held_bytes s.opening) s.inbox c.args.piece.now (held_bytes w.result.0) w.result.1
    (omega (arith, holds, c.requires)) (w.ensures.used ∙ ap (λ n. min (4 - n) (length c.args.piece.now)) (sym holds)) w.ensures.bytes less in
    record { used = sym (ap (λ (x : Took Opened Item). x.used) t); rest_is = sym (ap (λ (x : Took Opened Item). x.rest) t); came = sym (ap (λ (x : Took Opened Item). came_in version x.item) t) }

pub returns-clause-ok : goal.returns-clause-ok
returns-clause-ok c = λ version.
    let s = c.args.self.now in
    let w = c.with-used in
    let holds : length (held_bytes s.opening) ≡ s.opening.len = held-length s.opening (search rules) (omega (arith, c.requires)) in
    let long : length w.result.0.bytes ≡ 4 = search rules in
    let all : 4 ≤ length (held_bytes w.result.0) = omega (arith, length-take w.result.0.len w.result.0.bytes, c.if-opening-lt-LENGTH.false) in
    let t = takes_whole 4 (held_bytes s.opening) s.inbox c.args.piece.now (held_bytes w.result.0) w.result.1
    (omega (arith, holds, c.requires)) (w.ensures.used ∙ ap (λ n. min (4 - n) (length c.args.piece.now)) (sym holds)) w.ensures.bytes all in
    record { used = sym (ap (λ (x : Took Opened Item). x.used) t); rest_is = come_open 4 (held_bytes w.result.0) s.inbox c.args.piece.now all ∙ ap reading (s.unread c.requires) ∙ sym (ap (λ (x : Took Opened Item). x.rest) t); came = c.answer_of.ensures ∙ sym (plain_version (held_bytes w.result.0)) ∙ sym (ap (λ (x : Took Opened Item). came_in version x.item) t) }
