use Rattle.cli_sessions.proofs.Followed.{◌≡◌, ◌++◌, [], false, refl, ap, rules, Err, None, Ok, request_line_of, Memory, Unreadable, Broken, asks_answer, does_none}
use Rattle.cli_sessions.proofs.Followed.{filled_one, submit_over, submit_taken}
use Rattle.cli_sessions.proofs.shells.Conversation.send.Goals as goal

pub returns-in-Err-Unreadable-clause-sends : goal.returns-in-Err-Unreadable-clause-sends
returns-in-Err-Unreadable-clause-sends g c = λ start done s.
    let b = c.args.self.now in
    let unread : request_line_of b.begun.items ≡ None = search rules in
    does_none (Unreadable b.number) (b.begun.items, [], ap (λ ls. done ++ ls) (filled_one b.number b.begun.items (search rules)), unread) s

pub returns-in-Err-Memory-clause-sends : goal.returns-in-Err-Memory-clause-sends
returns-in-Err-Memory-clause-sends g c = λ start done s. does_none (Broken Memory) (_, refl) s

pub ask-requires : goal.ask-requires
ask-requires g c = record {
  lets = λ s taken n few turn. c.requires s taken n few (λ start script p.
      let r = rw (← c.streams.view_is) at p.reaches in
      let h = rw c.in-Ok-true.field-0-test at (c.in-Ok-true.ensures.submits r.place r.at) in
      record { now = _; place = _; asking = asks_answer p.done _ r.place _ r.talked h.0; turn = turn _ h.2 });
}

pub returns-in-Ok-ask-clause-sends : goal.returns-in-Ok-ask-clause-sends
returns-in-Ok-ask-clause-sends g c = λ start done s0.
    let s = rw (← c.streams.view_is) at s0 in
    let h = rw c.in-Ok-true.field-0-test at (c.in-Ok-true.ensures.submits s.place s.at) in
    submit_taken c.args.self.now s _ (search rules) c.as_slice.ensures.value c.in-Ok.ensures _ _ h.0 h.1 c.in-Ok-true.ensures.sound (c.in-Ok-ask.ensures.asks _ h.2)

pub returns-in-Err-ask-clause-sends : goal.returns-in-Err-ask-clause-sends
returns-in-Err-ask-clause-sends g c = λ start done s0.
    let s = rw (← c.streams.view_is) at s0 in
    let h = rw c.in-Ok-true.field-0-test at (c.in-Ok-true.ensures.submits s.place s.at) in
    submit_taken c.args.self.now s _ (search rules) c.as_slice.ensures.value c.in-Ok.ensures _ _ h.0 h.1 c.in-Ok-true.ensures.sound (c.in-Err-ask.ensures.asks _ h.2)

pub returns-in-Ok-false-clause-sends : goal.returns-in-Ok-false-clause-sends
returns-in-Ok-false-clause-sends g c = λ start done s0.
    let s = rw (← c.streams.view_is) at s0 in
    let h = rw c.in-Ok-false.field-0-test at (c.in-Ok-false.ensures.submits s.place s.at) in
    submit_over c.args.self.now s _ (search rules) c.as_slice.ensures.value c.in-Ok.ensures _ _ c.submit.new.self (Ok false) (λ e. cc) h c.in-Ok-false.ensures.sound

pub returns-in-Err-clause-sends : goal.returns-in-Err-clause-sends
returns-in-Err-clause-sends g c = λ start done s0.
    let s = rw (← c.streams.view_is) at s0 in
    let h = c.in-Err.ensures.submits s.place s.at in
    submit_over c.args.self.now s _ (search rules) c.as_slice.ensures.value c.in-Ok.ensures _ _ c.submit.new.self (Err _) (λ e. cc) h c.in-Err.ensures.sound
