use Rattle.cli_sessions.proofs.Followed.{All-push, ◌==◌, ◌≡◌, ◌+◌, ◌++◌, ◌∷◌, append_assoc, false, ne_eqb, not-suc-le-zero, rules, Memory, Broken, at_newline, does_none, stops}
use Rattle.cli_sessions.proofs.shells.Conversation.take_byte.Goals as goal

pub returns-in-Ok-clause-takes : goal.returns-in-Ok-clause-takes
returns-in-Ok-clause-takes g c = λ start script p.
    let items = c.in-Ok.ensures.items in
    let plain = All-push (λ y. (y == 10) ≡ false) c.args.self.now.begun.items c.args.byte p.begun (ne_eqb c.args.byte 10 c.if-byte-ne10.true) in
    record { done = p.done; reaches = p.reaches; begun = rw items plain; follow = λ ys. rw items (simp append_assoc (p.follow (c.args.byte ∷ ys))) }

pub returns-in-Err-clause-takes : goal.returns-in-Err-clause-takes
returns-in-Err-clause-takes g c = λ start script p more. does_none (Broken Memory) (_, p.follow (c.args.byte ∷ more)) p.reaches

pub returns-in-Err-send-clause-takes : goal.returns-in-Err-send-clause-takes
returns-in-Err-send-clause-takes g c = λ start script p more.
    rw c.if-byte-ne10.false (stops (script ++ 10 ∷ more) _ c.in-Err-send.stop (at_newline p more) (c.in-Err-send.ensures.sends start p.done p.reaches))

pub returns-in_default-clause-takes : goal.returns-in_default-clause-takes
returns-in_default-clause-takes g c = λ start script p more.
    rw c.if-byte-ne10.false (does_none (Broken Memory) (_, at_newline p more) (c.in-Ok-send.ensures.sends start p.done p.reaches))

pub returns-clause-takes : goal.returns-clause-takes
returns-clause-takes g c = λ start script p.
    let number : c.in-Some.next ≡ c.args.self.now.number + 1 = search rules in
    let none = c.clear.ensures.items in
    rw c.if-byte-ne10.false
    (record {
      done = _;
      reaches = c.in-Ok-send.ensures.sends start p.done p.reaches;
      begun = rw none (λ k d l. absurd (not-suc-le-zero l));
      follow = λ more. rw (number, none) (simp append_assoc (simp append_assoc at (at_newline p more)));
    })
