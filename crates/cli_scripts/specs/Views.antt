-- What a line says, as plain data: texts by their bytes, parameters by the trees of their cells.
use Rattle.std.specs.Prelude.{ℕ, List, Option, string_bytes}
use Rattle.packstream.specs.Tree.{Tree}
use Rattle.structures_cells.specs.Shape.{entries}
use Rattle.messages.specs.declared.request.Mode.{Mode}
use Rattle.messages.specs.declared.request.Count.{Count}
use Rattle.messages.specs.View.{token_view}
use Rattle.cli_scripts.specs.declared.request.ScriptRequest.{ScriptRequest}
use Rattle.cli_scripts.specs.declared.request.ScriptRequest.TheVariants as request
use Rattle.cli_scripts.specs.declared.line.Peer.{Peer}
use Rattle.cli_scripts.specs.declared.line.Amount.{Amount}
use Rattle.cli_scripts.specs.declared.line.Times.{Times}
use Rattle.cli_scripts.specs.declared.line.Line.{Line}
use Rattle.cli_scripts.specs.declared.line.Line.TheVariants as line

-- the bytes of a text
abbrev pub Text : Type 0
Text = List ℕ

-- parameters: names and cells, in their order
abbrev pub Params : Type 0
Params = List (Text × Tree)

-- a request as a line says it; which message it is depends on the version
pub data ScriptRequestView : Type 0 where
  Hello : ScriptRequestView
  Logon : ScriptRequestView
  LogonBad : ScriptRequestView
  Logoff : ScriptRequestView
  Goodbye : ScriptRequestView
  Reset : ScriptRequestView
  Run : Text → Params → Mode → Option Text → ScriptRequestView
  Begin : Mode → Option Text → ScriptRequestView
  Commit : ScriptRequestView
  Rollback : ScriptRequestView
  Discard : Count → ScriptRequestView
  Pull : Count → ScriptRequestView

-- an event of a script; each but an opening has the number of its connection first, from 0
pub data LineView : Type 0 where
  Open : Peer → LineView
  Submit : ℕ → ScriptRequestView → LineView
  ToServer : ℕ → Amount → LineView
  ToClient : ℕ → Amount → LineView
  Work : ℕ → Times → LineView
  Noop : ℕ → LineView
  Cut : ℕ → LineView
  ClientLost : ℕ → LineView
  ServerLost : ℕ → LineView
  Foreign : ℕ → List ℕ → LineView

-- the content of a script's request
abbrev pub script_request_view : ScriptRequest → ScriptRequestView
script_request_view request.Hello = Hello
script_request_view request.Logon = Logon
script_request_view request.LogonBad = LogonBad
script_request_view request.Logoff = Logoff
script_request_view request.Goodbye = Goodbye
script_request_view request.Reset = Reset
script_request_view (request.Run text params mode token) =
    Run (string_bytes text) (entries params.items) mode (token_view token)
script_request_view (request.Begin mode token) = Begin mode (token_view token)
script_request_view request.Commit = Commit
script_request_view request.Rollback = Rollback
script_request_view (request.Discard count) = Discard count
script_request_view (request.Pull count) = Pull count

-- the content of a line
abbrev pub line_view : Line → LineView
line_view (line.Open peer) = Open peer
line_view (line.Submit conn request) = Submit conn (script_request_view request)
line_view (line.ToServer conn amount) = ToServer conn amount
line_view (line.ToClient conn amount) = ToClient conn amount
line_view (line.Work conn times) = Work conn times
line_view (line.Noop conn) = Noop conn
line_view (line.Cut conn) = Cut conn
line_view (line.ClientLost conn) = ClientLost conn
line_view (line.ServerLost conn) = ServerLost conn
line_view (line.Foreign conn bytes) = Foreign conn bytes.items
