-- Each call says where the server stands then, and the next begins there.
use Rattle.std.proofs.lemmas.Result.{IfOk-weaker}
use Rattle.examples.proofs.answers.answer.Goals as goal

pub returns-clause-answers : goal.returns-clause-answers
returns-clause-answers g c =
    IfOk-weaker c.take_out.result _ _
    (λ bytes gives. record {
      took = _;
      fed = _;
      worked = _;
      stepped = _;
      feeds = c.in_ok-feed.ensures.done;
      works = c.in_ok-work.ensures.done;
      gives = gives;
    }) c.take_out.ensures.done
