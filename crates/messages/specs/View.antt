-- Requests and responses as plain data: texts by their bytes, cells by their trees.
use Rattle.std.specs.Prelude.{ℕ, List, String, string_bytes, Option, None, Some, option_map}
use Rattle.std.specs.declared.alloc.Global.{Global}
use Rattle.packstream.specs.Tree.{Tree}
use Rattle.structures_cells.specs.Shape.{shapes, entries}
use Rattle.messages.specs.declared.request.Mode.{Mode}
use Rattle.messages.specs.declared.request.Count.{Count}
use Rattle.messages.specs.declared.request.Auth.{Auth}
use Rattle.messages.specs.declared.request.Request.{Request}
use Rattle.messages.specs.declared.request.Request.TheVariants as request
use Rattle.messages.specs.declared.response.Response.{Response}
use Rattle.messages.specs.declared.response.Response.TheVariants as response

-- who a client is: scheme, principal and credentials
pub record AuthView : Type 0 where
  pub scheme : List ℕ
  pub principal : List ℕ
  pub credentials : List ℕ

-- a request as contracts see it: texts by their bytes, parameters by the trees of their cells
pub data RequestView : Type 0 where
  Hello : List ℕ → Option AuthView → RequestView
  Logon : AuthView → RequestView
  Logoff : RequestView
  Goodbye : RequestView
  Reset : RequestView
  Run : List ℕ → List (List ℕ × Tree) → Mode → Option (List ℕ) → RequestView
  Begin : Mode → Option (List ℕ) → RequestView
  Commit : RequestView
  Rollback : RequestView
  Discard : Count → RequestView
  Pull : Count → RequestView

-- a response as contracts see it: an error by its bytes, metadata and rows by the trees of cells
pub data ResponseView : Type 0 where
  Success : List (List ℕ × Tree) → ResponseView
  Record : List Tree → ResponseView
  Ignored : ResponseView
  Failure : List ℕ → List ℕ → ResponseView

-- the view of who a client is, by the bytes of its texts
abbrev pub auth_view : Auth → AuthView
auth_view a = record {
  scheme = string_bytes a.scheme;
  principal = string_bytes a.principal;
  credentials = string_bytes a.credentials;
}

-- the view of who a client is, if it is said
abbrev pub auth_in : Option Auth → Option AuthView
auth_in None = None
auth_in (Some a) = Some (auth_view a)

-- a token by its bytes, if there is one
abbrev pub token_view : Option (String Global) → Option (List ℕ)
token_view token = option_map string_bytes token

-- the view of a request
abbrev pub request_view : Request → RequestView
request_view (request.Hello agent auth) = Hello (string_bytes agent) (auth_in auth)
request_view (request.Logon auth) = Logon (auth_view auth)
request_view request.Logoff = Logoff
request_view request.Goodbye = Goodbye
request_view request.Reset = Reset
request_view (request.Run text params mode token) =
    Run (string_bytes text) (entries params.items) mode (token_view token)
request_view (request.Begin mode token) = Begin mode (token_view token)
request_view request.Commit = Commit
request_view request.Rollback = Rollback
request_view (request.Discard count) = Discard count
request_view (request.Pull count) = Pull count

-- the view of a response
abbrev pub response_view : Response → ResponseView
response_view (response.Success metadata) = Success (entries metadata.items)
response_view (response.Record cells) = Record (shapes cells.items)
response_view response.Ignored = Ignored
response_view (response.Failure code message) = Failure (string_bytes code) (string_bytes message)
