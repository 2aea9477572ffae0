use Rattle.std.proofs.Common.{◌≡◌, ◌∙◌, sym, ap, rules, arith, unwrap_or}
use Rattle.wire.specs.declared.Version.TheVariants.{V51}
use Rattle.wire.specs.Prelude.{takes, chunks, Opened, Took, Item, reading}
use Rattle.messages_deframer.specs.Opening.{come}
use Rattle.messages_deframer.proofs.Opening.{takes_open, come_open}
use Rattle.client.specs.Prelude.{held_bytes, came_in}
use Rattle.client.proofs.Versions.{all_held, chunks_want}
use Rattle.client.proofs.stream.Stream.take_parts.Goals as goal

pub returns-clause-ok : goal.returns-clause-ok
returns-clause-ok c =
    let s = c.args.self.now in
    let piece = c.args.piece.now in
    let whole = all_held s.opening (search rules) s.answering (omega (arith, c.requires)) in
    let at_version : c.unwrap_or-at.result ≡ unwrap_or c.args.version V51 = search rules in
    let t = takes_open 4 (held_bytes s.opening) s.inbox piece whole in
    record { used = c.in-Ok.ensures.ok.used_is ∙ sym (ap (λ (x : Took Opened Item). x.used) t); rest_is = come_open 4 (held_bytes s.opening) c.take.new.self piece whole ∙ ap reading c.in-Ok.ensures.ok.rest_is ∙ sym (ap (λ (x : Took Opened Item). x.rest) t); came = c.came_of.ensures (takes chunks s.inbox piece).item (rw at_version at c.in-Ok.ensures.ok.item) ∙ sym (ap (λ (x : Took Opened Item). came_in c.args.version x.item) t) }

pub returns-in_default-clause-err : goal.returns-in_default-clause-err
returns-in_default-clause-err c =
    let s = c.args.self.now in
    let whole = all_held s.opening (search rules) s.answering (omega (arith, c.requires)) in
    (ap (come 4 (held_bytes s.opening)) c.in_default.ensures.err.0, chunks_want s.opening s.inbox c.args.piece.now whole c.in_default.ensures.err.1)
