-- Each field is that of the list with one more result.
use Rattle.std.proofs.Common.{refl, ◌∙◌, ap, ◌&&◌, ◌||◌, not, ◌-◌, if◌then◌else◌}
use Rattle.decider.proofs.Appending.{describes}
use Rattle.decider.proofs.state.Decider.report.Goals as goal

pub returns : goal.returns
returns c =
    describes c.args.self.now _ c.args.step (record {
      policy = refl;
      committed = c.either-self.ensures ∙ ap (λ b. c.args.self.now.committed || b) c.is_commit.ensures;
      conflict = c.either-self-2.ensures ∙ ap (λ b. c.args.self.now.conflict || b) c.is_conflict.ensures;
      tombstone = c.either-self-3.ensures ∙ ap (λ b. c.args.self.now.tombstone || b) c.has_tombstone.ensures;
      doubt = c.either-self-4.ensures ∙ ap (λ b. c.args.self.now.doubt || b) c.is_doubt.ensures;
      unprotected = c.either-self-5.ensures ∙ ap (λ b. c.args.self.now.unprotected || b) c.is_unprotected.ensures;
      refused = c.either-self-6.ensures ∙ ap (λ b. c.args.self.now.refused || b) c.is_refusal.ensures;
      invalid = c.either-self-7.ensures ∙ ap (λ b. c.args.self.now.invalid || b) c.is_invalid.ensures;
      stopped = c.either-self-8.ensures ∙ ap (λ b. c.args.self.now.stopped || b) c.is_stop.ensures;
      pending = c.unless-self.ensures ∙ ap (λ b. c.args.self.now.pending && not b) c.is_attempt.ensures;
      attempts_left =
          c.one_fewer-self.ensures
          ∙ ap (λ b. c.args.self.now.attempts_left - (if b then 1 else 0)) c.is_attempt-2.ensures;
      tombstones_left =
          c.one_fewer-self-2.ensures
          ∙ ap (λ b. c.args.self.now.tombstones_left - (if b then 1 else 0)) c.is_tombstone_write.ensures;
      last = refl;
      commit = c.first_commit-self.ensures;
      fault = c.last_fault-self.ensures;
    })
