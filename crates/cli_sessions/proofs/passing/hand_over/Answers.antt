use Rattle.cli_sessions.proofs.Looped.{Appends-trans, [], all_done, ap, append-nil, append_assoc, arith, empty_nil, length, length-append, max_piece, passes_none, passes_then, place_after, place_more}
use Rattle.cli_sessions.proofs.Looped.{reads_front, reads_none, refl, source_after, text_more, text_of, ◌++◌, ◌∙◌, ◌≡◌, ◌≤◌}
use Rattle.cli_sessions.proofs.passing.hand_over.Goals as goal

pub loop-rest-init : goal.loop-rest-init
loop-rest-init g c = record { done = []; parts = refl; passes = passes_none; lets = c.requires; heard = λ o x h. rw append-nil h }

pub loop-rest-preserved : goal.loop-rest-preserved
loop-rest-preserved g c =
    let so = c.loop-rest.invariant in
    let part = c.next_part.result.0.now in
    record {
      done = so.done ++ part;
      parts = append_assoc so.done part c.next_part.result.1.now ∙ rw c.next_part.ensures.parts so.parts;
      passes = passes_then so.passes c.in-Ok.ensures.passes;
      lets = c.in-Ok.ensures.lets;
      heard = λ o x h.
          let k = so.heard o x h in
          let heard = x ++ so.done in
          let p = place_after o.place heard in
          let more = c.in-Ok-hear.ensures.hears p k.stands in
          rw (← append_assoc x so.done part)
          (record {
            stands = rw (place_more o.place heard part) more.stands;
            passes = rw (← append_assoc o.behind heard part) (passes_then k.passes c.in-Ok.ensures.passes);
            printed = rw (text_more o.place heard part, ← append_assoc o.text (text_of o.place heard) (text_of p part))
                (Appends-trans o.out _ _ _ _ k.printed more.printed);
          });
    }

pub returns-in-Err-clause-read : goal.returns-in-Err-clause-read
returns-in-Err-clause-read g c = λ e. source_after c.loop-rest.invariant.passes (c.in-Err.ensures.read e)

pub returns-in-Err-clause-hears : goal.returns-in-Err-clause-hears
returns-in-Err-clause-hears g c = λ o x after h.
    let so = c.loop-rest.invariant in
    let got = c.in-Err.ensures.some in
    let rest = c.loop-rest.rest.now ++ after in
    let all : (x ++ so.done) ++ rest ≡ x ++ (c.args.bytes.now ++ after) = rw (← so.parts) (simp append_assoc) in
    reads_none (so.heard o x h) rest _ got.0 all got.1 (omega (arith, got.2, c.next_part.ensures.short))

-- a beginning of what was read was heard
pub returns-in-Err-hear-clause-hears : goal.returns-in-Err-hear-clause-hears
returns-in-Err-hear-clause-hears g c = λ o x after h.
    let so = c.loop-rest.invariant in
    let k = so.heard o x h in
    let some = c.in-Err-hear.ensures.hears (place_after o.place (x ++ so.done)) k.stands in
    let all : (x ++ so.done) ++ (c.next_part.result.0.now ++ (c.next_part.result.1.now ++ after)) ≡ x ++ (c.args.bytes.now ++ after)
    = rw (← so.parts, ← c.next_part.ensures.parts) (simp append_assoc) in
    let few : length some.rest ≤ max_piece = omega (arith, c.next_part.ensures.short, ap length some.parts, length-append some.heard some.rest) in
    reads_front k _ _ some.rest some all (rw some.parts c.in-Ok.ensures.passes.gave) few

pub returns-clause-hears : goal.returns-clause-hears
returns-clause-hears g c = λ o x after h.
    let so = c.loop-rest.invariant in
    let none = empty_nil c.loop-rest.rest.now c.is_empty.result c.is_empty.ensures c.loop-rest-test.false in
    rw (← all_done so.done c.loop-rest.rest.now c.args.bytes.now none so.parts) (so.heard o x h)
