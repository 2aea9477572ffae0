-- What a server gives of a piece after one step.
use Rattle.std.specs.Prelude.{◌≡◌, ℕ, List, Some, Result}
use Rattle.engine.specs.declared.answer.Mode.{Mode as QueryMode}
use Rattle.engine.specs.Views.{WriteView, ParameterView, EntryView, AnswerView, QueryFault}
use Rattle.engine.specs.Welcomes.{Welcome}
use Rattle.server_session.specs.declared.kinds.Worked.{Worked}
use Rattle.server.specs.declared.kinds.Took.{Took}
use Rattle.server.specs.Serving.{Rest, feed_at, work_at, take_out_at}

-- The session takes the piece and does a step; then these bytes of its output are taken out.
pub record Answers {G : Type 0}
    (answer : List EntryView → List WriteView → List ℕ → List ParameterView → QueryMode
    → Result AnswerView QueryFault)
    (welcomes : G → Welcome) (conn : ℕ) (piece : List ℕ) (max : ℕ) (old : Rest G)
    (bytes : List ℕ) (new : Rest G) : Type 0 where
  pub took : Took
  pub fed : Rest G
  pub worked : Worked
  pub stepped : Rest G
  pub feeds : feed_at conn piece old ≡ Some (took, fed)
  pub works : work_at answer welcomes conn fed ≡ Some (worked, stepped)
  pub gives : take_out_at conn max stepped ≡ Some (bytes, new)
