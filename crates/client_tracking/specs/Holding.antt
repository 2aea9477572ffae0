-- What a tracking client holds: a client at a rest of its run, and the account of what it told.
use Rattle.std.specs.Prelude.{map, List, Vec}
use Rattle.std.specs.declared.alloc.Global.{Global}
use Rattle.packstream.specs.Tree.{Tree}
use Rattle.structures_cells.specs.Shape.{shapes}
use Rattle.messages.specs.View.{response_view}
use Rattle.client.specs.Rest.{Rest}
use Rattle.client.specs.Fits.{rest_of}
use Rattle.structures.specs.declared.Cell.{Cell}
use Rattle.client_tracking.specs.declared.replies.Reply.{Reply}
use Rattle.client_tracking.specs.declared.tracking.TrackingClient.{TrackingClient}
use Rattle.client_tracking.specs.Account.{Account, ReplyView}

-- a row by the trees of its cells
abbrev pub row_view : Vec Cell Global → List Tree
row_view row = shapes row.items

-- a reply as contracts see it
abbrev pub reply_view : Reply → ReplyView
reply_view r = record {
  ordinal = r.ordinal;
  outcome = r.outcome;
  response = response_view r.response;
  rows = map row_view r.rows.items;
  left = r.left;
}

-- where its client stands
abbrev pub rest_in : TrackingClient → Rest
rest_in t = rest_of t.client

-- the account that it keeps
abbrev pub account_of : TrackingClient → Account
account_of t = record {
  replies = map reply_view t.replies.items;
  rows = map row_view t.rows.items;
  left = t.left;
  lost = t.losses;
  limit = t.limit;
}
