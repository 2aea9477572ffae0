-- The requests of queries, of a transaction and of the greeting.
use Rattle.std.specs.Prelude.{ℕ, Bool, true, false, Some, None, List, [], ◌∷◌, ◌++◌, string_bytes}
use Rattle.packstream.specs.Tree.{Tree}
use Rattle.structures_cells.specs.Shape.{entries}
use Rattle.messages.specs.declared.Mode.{Mode}
use Rattle.messages.specs.View.{AuthView, RequestView}
use Rattle.driver.specs.declared.queries.Query.{Query}

-- a query: its text by its bytes, its parameters in order
pub record QueryView : Type 0 where
  pub text : List ℕ
  pub params : List (List ℕ × Tree)

abbrev pub query_view : Query → QueryView
query_view q = record { text = string_bytes q.text; params = entries q.params.items }

-- its RUN, under no token
abbrev pub query_run : Mode → QueryView → RequestView
query_run mode q = RequestView.Run q.text q.params mode None

-- each with what is asked of its rows
abbrev pub asks_of : Mode → RequestView → List QueryView → List RequestView
asks_of mode rows [] = []
asks_of mode rows (q ∷ qs) = query_run mode q ∷ rows ∷ asks_of mode rows qs

-- what follows BEGIN in a transaction of these queries
abbrev pub within : Mode → RequestView → List QueryView → List RequestView
within mode rows qs = asks_of mode rows qs ++ RequestView.Commit ∷ []

-- what opens a connection: HELLO with the login, or LOGON behind it
abbrev pub greeting : Bool → List ℕ → AuthView → List RequestView
greeting true agent auth = RequestView.Hello agent (Some auth) ∷ []
greeting false agent auth = RequestView.Hello agent None ∷ RequestView.Logon auth ∷ []
