-- A list of events, one after the other, from nothing.
use Rattle.std.specs.Prelude.{◌≡◌, List, [], codes}
use Rattle.engine.specs.declared.fixed_table.FixedTable.{FixedTable}
use Rattle.engine.specs.declared.one_user.OneUser.{OneUser}
use Rattle.engine.specs.Queries.{fixed_answer}
use Rattle.engine.specs.Kept.{user_welcome, ledger_of, principal_of, credentials_of}
use Rattle.world.specs.declared.world.World.{World as WorldHeld}
use Rattle.world.specs.World.{Event, empty}
use Rattle.world.specs.Turns.{setting_of, Goes}

-- A world that fits what events lead to over an empty ledger, behind the gate of `user` with `pass`.
pub record Replayed (es : List Event) (s : WorldHeld FixedTable OneUser) : Type 0 where
  pub gate : OneUser
  pub principal : principal_of gate ≡ codes "user"
  pub credentials : credentials_of gate ≡ codes "pass"
  pub goes : Goes ledger_of (setting_of fixed_answer user_welcome gate) gate [] (empty []) es s
