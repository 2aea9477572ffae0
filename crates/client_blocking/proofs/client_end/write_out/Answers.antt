use Rattle.std.proofs.Common.{ap, sym, length, ◌∙◌, rules}
use Rattle.std.specs.Io.KnownBytes.{Appends}
use Rattle.streams.specs.Prelude.{AppendsFront, Grows, MovesFront}
use Rattle.client.specs.Prelude.{Rest, taken_out}
use Rattle.client_blocking.specs.Prelude.{sink_view, PutsBytes, PutsFront}
use Rattle.client_blocking.proofs.Asked.{all_sent}
use Rattle.client_blocking.proofs.client_end.write_out.Goals as goal

pub returns-then-is_err-clause-out : goal.returns-then-is_err-clause-out
returns-then-is_err-clause-out g c = λ r f.
    let n = length c.unsent-count.result.now in
    let before = sink_view g.O.Sink.put g.O.Sink.taken c.args.sink.now in
    let after = sink_view g.O.Sink.put g.O.Sink.taken c.write_all-written.new.sink in
    let known : AppendsFront before.taken after.taken c.unsent.result.now = search rules in
    let moved : MovesFront before.put after.put c.unsent.result.now = search rules in
    let s = all_sent r.unsent c.unsent.result.now n (c.unsent.ensures ∙ ap (λ (x : Rest). x.unsent) f) (ap length (c.unsent-count.ensures ∙ sym c.unsent.ensures)) (PutsFront before after) (record { grows = moved; known = known }) in
    (n, s, c.sent.ensures ∙ ap (λ (x : Rest). taken_out x n) f)

pub returns-clause-out : goal.returns-clause-out
returns-clause-out g c = λ r f.
    let n = length c.unsent-count.result.now in
    let before = sink_view g.O.Sink.put g.O.Sink.taken c.args.sink.now in
    let after = sink_view g.O.Sink.put g.O.Sink.taken c.write_all-written.new.sink in
    let known : Appends before.taken after.taken c.unsent.result.now = search rules in
    let moved : Grows before.put after.put c.unsent.result.now = search rules in
    let s = all_sent r.unsent c.unsent.result.now n (c.unsent.ensures ∙ ap (λ (x : Rest). x.unsent) f) (ap length (c.unsent-count.ensures ∙ sym c.unsent.ensures)) (PutsBytes before after) (record { grows = moved; known = known }) in
    (n, s, c.sent.ensures ∙ ap (λ (x : Rest). taken_out x n) f)
