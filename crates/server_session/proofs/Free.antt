-- What a reply adds to the ledger is free there.
use Rattle.std.proofs.Common.{ℕ, List}
use Rattle.wire.specs.declared.Version.{Version}
use Rattle.messages.specs.Prelude.{RequestView}
use Rattle.machine.specs.declared.states.State.{State}
use Rattle.machine.specs.declared.kinds.Kind.{Kind}
use Rattle.machine.specs.Prelude.{kind_of}
use Rattle.engine.specs.Prelude.{EntryView}
use Rattle.server_session.specs.Prelude.{Setting, Open, Tx, Reply, serve, IsFree}
pub use Rattle.server_session.specs.Prelude.{entry_in}
use Rattle.server_session.proofs.Served.{Served, adds, serving}

-- what a request is answered with adds what is free
served_free : (S : Setting) (ledger : List EntryView) (s : State) (left : Open) (tx : Tx) (k : Kind) (reply : Reply) → Served S ledger s left tx k reply → IsFree ledger (entry_in reply)
served_free S ledger s left tx k reply (adds d m change free row) = free
served_free S ledger s left tx k reply _ = tt

pub serve_free : (S : Setting) (v : Version) (c : ℕ) (ledger : List EntryView) (s : State) (left : Open) (tx : Tx) (q : RequestView) → IsFree ledger (entry_in (serve S v c ledger s left tx q))
serve_free S v c ledger s left tx q = served_free S ledger s left tx (kind_of q) _ (serving S v c ledger s left tx q)
