-- What serving one connection after another prints.
use Rattle.std.specs.Prelude.{◌≡◌, ℕ, ◌+◌, List, [], ◌∷◌, ◌++◌, codes, length, Option}
use Rattle.std.specs.Fmt.{decimal}
use Rattle.std.specs.Io.KnownBytes.{Appends}
use Rattle.engine.specs.Kept.{AcceptsOnly, is_user, ledger_of}
use Rattle.engine.specs.declared.fixed_table.FixedTable.{FixedTable}
use Rattle.engine.specs.declared.one_user.OneUser.{OneUser}
use Rattle.server_session.specs.declared.kinds.Cause.{Cause}
use Rattle.server.specs.declared.server.Server.{Server}
use Rattle.server.specs.Serving.{Rest, empty}
use Rattle.server.specs.Views.{Fits}
use Rattle.cli_output.specs.Telling.{conn_line}

-- the line of a port at which connections are taken
abbrev pub listening_line : ℕ → List ℕ
listening_line port = codes "listening " ++ decimal port ++ 10 ∷ []

-- the lines of connections that have ended, numbered from here on
abbrev pub served_lines : ℕ → List Cause → List ℕ
served_lines conn [] = []
served_lines conn (cause ∷ causes) = conn_line conn cause ++ served_lines (conn + 1) causes

-- the line of the port, and the line of each of so many connections, from number 0 on
pub record HasServedAll (before after : Option (List ℕ)) (port count : ℕ) : Type 0 where
  pub causes : List Cause
  pub all : length causes ≡ count
  pub printed : Appends before after (listening_line port ++ served_lines 0 causes)

-- no session lives, and the next number is this
pub record IsServing (s : Server FixedTable OneUser) (next : ℕ) : Type 0 where
  pub rest : Rest OneUser
  pub fits : Fits ledger_of s rest
  pub idle : rest.sessions ≡ []
  pub number : rest.next ≡ next

-- The server of the program at first: no session lives and none has, its ledger is empty, and its gate lets in the user `user` by `pass`, and
-- no one else.
pub record IsAtFirst (s : Server FixedTable OneUser) : Type 0 where
  pub gate : OneUser
  pub fits : Fits ledger_of s (empty [] gate)
  pub user : AcceptsOnly (is_user gate) (codes "user") (codes "pass")
