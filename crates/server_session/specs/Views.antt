-- What contracts see of a session: what it keeps.
use Rattle.std.specs.Prelude.{List, [], ◌∷◌, map, drop, Option, Some, None, Result, Ok, Err}
use Rattle.messages.specs.declared.fault.MsgFault.{MsgFault}
use Rattle.messages.specs.declared.request.Request.{Request}
use Rattle.messages.specs.View.{request_view}
use Rattle.messages.specs.Arrivals.{Arrival, Asked, Unread, TooLong}
use Rattle.packstream.specs.Tree.{Tree}
use Rattle.packstream.specs.Writing.{whole}
use Rattle.structures_cells.specs.Shape.{shapes}
use Rattle.engine.specs.RowCells.{cells_in}
use Rattle.engine.specs.Views.{EntryView, rows_in, token_view, writes_view}
use Rattle.server_session.specs.declared.session.Session.{Session}
use Rattle.server_session.specs.declared.waiting.Waiting.{Waiting}
use Rattle.server_session.specs.declared.waiting.Waiting.TheVariants as waiting
use Rattle.server_session.specs.declared.remaining.Remaining.{Remaining}
use Rattle.server_session.specs.declared.result.OpenResult.{OpenResult}
use Rattle.server_session.specs.declared.result.Transaction.{Transaction}
use Rattle.server_session.specs.Session.{Open, Tx}
use Rattle.server_session.specs.Rest.{Kept, Snapshot}

-- what waits
abbrev pub arrival_of : Waiting → Arrival
arrival_of (waiting.Asked request) = Asked (request_view request)
arrival_of (waiting.Unread e) = Unread e
arrival_of waiting.TooLong = TooLong

-- what was asked, as it arrives
abbrev pub arrival_told : Result Request MsgFault → Arrival
arrival_told (Ok request) = Asked (request_view request)
arrival_told (Err e) = Unread e

-- all that waits, in its order
abbrev pub waiting_in : List Waiting → List Arrival
waiting_in ws = map arrival_of ws

-- the first of a list, if there is one
abbrev pub first_of : {A : Type 0} → List A → Option A
first_of [] = None
first_of (x ∷ xs) = Some x

-- the rows that are left, by what is held of them
abbrev pub remaining_rows : Remaining → List (List Tree)
remaining_rows r = rows_in r.width r.count (drop r.start (shapes (cells_in r.cells)))

-- the open result, by what is held of it
abbrev pub open_of : OpenResult → Open
open_of r = record {
  rows = remaining_rows r.rows;
  mode = r.mode;
  write = first_of (writes_view r.writes.items);
  written = r.written;
  token = token_view r.token;
}

-- the open transaction, by what is held of it
abbrev pub tx_of : Transaction → Tx
tx_of t = record { mode = t.mode; writes = writes_view t.writes.items; token = token_view t.token }

-- what a session keeps, by what is held of it
abbrev pub kept_of : Session → Kept
kept_of x =
    record {
      version = x.version;
      state = x.state;
      ended = x.cause;
      first = x.first;
      waiting = waiting_in x.queue.waiting.items;
      result = open_of x.result;
      tx = tx_of x.tx;
      unsent = whole x.out;
    }

-- the same before what was put behind the mark of its output
abbrev pub kept_before : Session → Kept
kept_before x = record (kept_of x) { unsent = x.out.before }

-- a session beside an engine, by what it keeps and by the engine's ledger
abbrev pub snapshot_of : {E : Type 0} → (E → List EntryView) → Session → E → Snapshot
snapshot_of entries x engine = record { kept = kept_of x; ledger = entries engine }
