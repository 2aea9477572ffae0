use Rattle.std.proofs.Common.{◌≡◌, ◌∙◌, sym, ap, Bool, true, false, Ok, rules, arith}
use Rattle.wire.specs.Prelude.{Opened, Took, Item}
use Rattle.messages_deframer.specs.Opening.{come}
use Rattle.messages_deframer.proofs.Opening.{takes_open, come_open, opened}
use Rattle.client.specs.Prelude.{held_bytes, came_in}
use Rattle.client.proofs.Versions.{all_held, chunks_want}
use Rattle.client.proofs.stream.Stream.take_data.Goals as goal

pub returns-in-Ok : goal.returns-in-Ok
returns-in-Ok c =
    let s = c.args.self.now in
    let whole = all_held s.opening (search rules) s.answering (omega (arith, c.if-self-lt-LENGTH.false)) in
    record {
      «data» = λ version e.
          let is_data : c.in-Ok.is_data ≡ true = cc in
          let t = takes_open 4 (held_bytes s.opening) s.inbox c.args.piece.now whole ∙ ap opened (c.in-Ok.ensures.data (ap (λ (b : Bool). Ok b) is_data)) in
          record { used = sym (ap (λ (x : Took Opened Item). x.used) t); rest_is = come_open 4 (held_bytes s.opening) c.take_data.new.self c.args.piece.now whole ∙ sym (ap (λ (x : Took Opened Item). x.rest) t); came = sym (ap (λ (x : Took Opened Item). came_in version x.item) t) };
      other = λ e. let other : c.in-Ok.is_data ≡ false = cc in ap (come 4 (held_bytes s.opening)) (c.in-Ok.ensures.other (ap (λ (b : Bool). Ok b) other));
      fault = tt;
      err = tt;
    }

pub returns-in-Err-clause-err : goal.returns-in-Err-clause-err
returns-in-Err-clause-err c =
    let s = c.args.self.now in
    let whole = all_held s.opening (search rules) s.answering (omega (arith, c.if-self-lt-LENGTH.false)) in
    (ap (come 4 (held_bytes s.opening)) c.in-Err.ensures.err.0, chunks_want s.opening s.inbox c.args.piece.now whole c.in-Err.ensures.err.1)
