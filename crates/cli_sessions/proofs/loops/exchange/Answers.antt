use Rattle.cli_sessions.proofs.Looped.{ClientRest, StandsAt, [], all_done, all_sent, all_taken, answer_to, ap, append-nil, append_assoc, arith, awaits, breaks_before, breaks_here, drop-length, empty_nil}
use Rattle.cli_sessions.proofs.Looped.{front_whole, refl, rest_of, setting, sym, ◌++◌, ◌∙◌, ◌≡◌}
use Rattle.cli_sessions.proofs.loops.exchange.Goals as goal

pub returns-in_default-clause-goes : goal.returns-in_default-clause-goes
returns-in_default-clause-goes g c = λ r start t i h.
    (h.lives, tt, breaks_before (setting g.E.Engine.answer g.G.Gate.welcomes r) c.args.conn r.ledger t h.down.gave (front_whole _ _ t.text h.printed))

pub loop-rest-init : goal.loop-rest-init
loop-rest-init g c = record {
  on = c.requires;
  goes = λ r start t i h.
      let was = rest_of c.args.pair.now.caller.client in
      let o = c.in-Ok.ensures.ok in
      let taken = all_taken 18446744073709551615 was.unsent _ o.0 (omega (arith, c.in-Ok.ensures.short)) in
      let rest = o.1 ∙ ap (λ z. record was { unsent = z }) taken.1 ∙ ap (λ (z : ClientRest). record z { unsent = [] }) h.client.at.fits in
      let client : StandsAt (record c.args.pair.now.caller { client = c.take_out.new.self }) (all_sent t.place)
      = record { item = h.client.item; at = record { fits = rest; version = h.client.at.version }; same = h.client.same } in
      let S = setting g.E.Engine.answer g.G.Gate.welcomes r in
      let none : answer_to S c.args.conn r.ledger t.sent [] ≡ [] = rw (append-nil, drop-length) refl in (
        [],
        c.as_slice-rest.ensures ∙ taken.0 ∙ ap (λ (z : ClientRest). z.unsent) h.client.at.fits,
        record { lives = h.lives; client = rw none client; session = rw append-nil h.session; up = rw append-nil h.up; down = rw append-nil h.down; printed = rw (none, append-nil) h.printed },
      );
}

pub loop-rest-preserved : goal.loop-rest-preserved
loop-rest-preserved g c = record {
  on = c.in-Ok-turn.ensures.on;
  goes = λ r start t i h.
      let p = c.loop-rest.invariant.goes r start t i h in
      let after = c.next_part.result.1.now in
      let parts = ap (λ z. p.0 ++ z) c.next_part.ensures.parts ∙ p.1 in
      (p.0 ++ c.next_part.result.0.now, append_assoc p.0 _ after ∙ parts, c.in-Ok-turn.ensures.goes r start t p.0 after i parts p.2);
}

pub returns-in-Err-clause-goes : goal.returns-in-Err-clause-goes
returns-in-Err-clause-goes g c = λ r start t i h.
    let p = c.loop-rest.invariant.goes r start t i h in
    c.in-Err.ensures.goes r start t p.0 _ i (ap (λ z. p.0 ++ z) c.next_part.ensures.parts ∙ p.1) p.2

pub returns-clause-goes : goal.returns-clause-goes
returns-clause-goes g c = λ r start t i h.
    let p = c.loop-rest.invariant.goes r start t i h in
    let none = empty_nil c.loop-rest.rest.now c.is_empty.result c.is_empty.ensures c.loop-rest-test.false in
    let quiet = sym (c.awaits.ensures ∙ ap (λ (r : ClientRest). awaits r.knows) p.2.client.at.fits) ∙ c.if-awaits.false in
    rw (← all_done p.0 c.loop-rest.rest.now t.place.rest.unsent none p.1) (p.2, quiet)

pub returns-then-awaits-clause-goes : goal.returns-then-awaits-clause-goes
returns-then-awaits-clause-goes g c = λ r start t i h.
    let p = c.loop-rest.invariant.goes r start t i h in (p.2.lives, tt, breaks_here t p.0 p.2 c.loop-rest.rest.now p.1)
