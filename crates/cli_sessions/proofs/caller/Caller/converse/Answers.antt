use Rattle.cli_sessions.proofs.Followed.{[], ◌∙◌, ap, append-nil, Appends-trans, all_heard, awaits, inl, inr, None, refl, Rest, Some, sym, written}
use Rattle.cli_sessions.proofs.caller.Caller.converse.Goals as goal

pub loop-self-init : goal.loop-self-init
loop-self-init g c = λ p at. rw (← c.streams.view_is) (written _ _ None _ _ (c.in-Ok.ensures.out p.rest at.fits) at.version (λ _. c.in-Ok.ensures.sound))

pub hear_some-requires-clause-turn : goal.hear_some-requires-clause-turn
hear_some-requires-clause-turn g c = λ s taken n few turn. c.requires.lets s taken n few (λ p at.
    let so = c.loop-self.invariant p at in
    let waits = ap (λ (r : Rest). awaits r.knows) (sym so.at.fits) ∙ sym c.awaits.ensures ∙ c.loop-self-test.true in
    let read = rw (all_heard so.heard waits, append-nil) at so.moves.read in
    let asked = rw append-nil at (Appends-trans _ _ taken p.rest.unsent [] (so.moves.sent.all refl) turn.0) in
    record { awaited = (so.heard.fed, rw turn.1 read, waits); asked = asked })

-- what waited wasn't all written
pub returns-in-Err-clause-converses : goal.returns-in-Err-clause-converses
returns-in-Err-clause-converses g c = λ p at.
    let h = c.in-Err.ensures in
    (rw (← c.streams.view_is) (written _ _ (Some c.in-Err.fault) _ _ (h.out p.rest at.fits) at.version (λ n. h.sound (λ e. n (ap Some e)))), λ e. absurd cc)

pub loop-self-preserved : goal.loop-self-preserved
loop-self-preserved g c = λ p at. (c.in-Ok-true.ensures.hears p _ (c.loop-self.invariant p at)).0

pub returns-in-Ok-false-clause-converses : goal.returns-in-Ok-false-clause-converses
returns-in-Ok-false-clause-converses g c = λ p at.
    let h = c.in-Ok-false.ensures.hears p _ (c.loop-self.invariant p at) in (h.0, λ _. inl (h.1 c.in-Ok-false.field-0-test))

pub returns-in-Err-hear_some-clause-converses : goal.returns-in-Err-hear_some-clause-converses
returns-in-Err-hear_some-clause-converses g c = λ p at. ((c.in-Err-hear_some.ensures.hears p _ (c.loop-self.invariant p at)).0, λ e. absurd cc)

pub returns-clause-converses : goal.returns-clause-converses
returns-clause-converses g c = λ p at.
    let so = c.loop-self.invariant p at in (so, λ _. inr (ap (λ (r : Rest). awaits r.knows) (sym so.at.fits) ∙ sym c.awaits.ensures ∙ c.loop-self-test.false))
