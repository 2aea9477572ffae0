-- The request that a line's words stand for at a version.
use Rattle.std.specs.Prelude.{ℕ, List, codes, Option, Some, None, if◌then◌else◌}
use Rattle.wire.specs.declared.Version.{Version}
use Rattle.wire.specs.Versions.{hello_has_login}
use Rattle.messages.specs.View.{AuthView, RequestView, Hello, Logon, Logoff, Goodbye, Reset, Run, Begin, Commit, Rollback, Discard, Pull}
use Rattle.cli_scripts.specs.Views as script
use Rattle.cli_scripts.specs.Views.{ScriptRequestView}

-- the user `user` by the scheme `basic`, with these credentials
abbrev pub login : List ℕ → AuthView
login credentials = record {
  scheme = codes "basic";
  principal = codes "user";
  credentials = credentials;
}

-- the login of a HELLO, if the version has one there
abbrev pub login_at : Version → Option AuthView
login_at v = if hello_has_login v then Some (login (codes "pass")) else None

-- the request that a script's request is at a version; a HELLO names the client `t/1`
abbrev pub meant : Version → ScriptRequestView → RequestView
meant v script.Hello = Hello (codes "t/1") (login_at v)
meant v script.Logon = Logon (login (codes "pass"))
meant v script.LogonBad = Logon (login (codes "bad"))
meant v script.Logoff = Logoff
meant v script.Goodbye = Goodbye
meant v script.Reset = Reset
meant v (script.Run text ps mode token) = Run text ps mode token
meant v (script.Begin mode token) = Begin mode token
meant v script.Commit = Commit
meant v script.Rollback = Rollback
meant v (script.Discard count) = Discard count
meant v (script.Pull count) = Pull count
