-- What pieces that are fed leave as it was: what is to go out, and what was told before.
use Rattle.std.proofs.Common.{◌≡◌, refl, sym, ◌∙◌, ap, subst, ℕ, Bool, true, false, if◌then◌else◌, Result, Ok, Err, Option, Some, None, List, [], ◌∷◌, ◌++◌, length, map, append_assoc, append-nil, arith}
use Rattle.std.proofs.lemmas.Bool.{cond_both}
use Rattle.std.proofs.lemmas.List.{drop_all}
use Rattle.wire.specs.declared.Wish.{Wish}
use Rattle.wire.specs.Prelude.{takes, at_client, Item}
use Rattle.client.specs.declared.ClientFault.{ClientFault}
use Rattle.client.specs.declared.ClientFault.TheVariants as client_fault
use Rattle.client.specs.Prelude.{Rest, Fed, Note, Nothing, Chose, Row, Summary, feed_of, fed_item, fed_open, starts}
use Rattle.client_tracking.specs.declared.faults.FeedFault.TheVariants as feed_fault
use Rattle.client_tracking.specs.Account.{Account, ReplyView, with_note, keeps_row}
use Rattle.client_tracking.specs.Feeding.{is_full, Tracked, with_answer, used_by}
use Rattle.client_tracking.specs.Runs.{Hears as HearsPiece, TrackedRun, tracked_call, tracked_calls}
use Rattle.driver.specs.declared.breaks.Break.{Break}
use Rattle.driver.specs.Prelude.{Stand, stand_in, heard_stand, emptied_stand, Place, Hears, Exchanges}
use Rattle.driver.proofs.Leading.{leads_hears}

-- Nothing more goes out, and what was told is told still.
pub record Keeps (from to : Stand) : Type 0 where
  pub unsent : to.rest.unsent ≡ from.rest.unsent
  pub more : List ReplyView
  pub replies : to.account.replies ≡ from.account.replies ++ more
  pub lost : to.account.lost ≡ from.account.lost

keeps_all : (s : Stand) → Keeps s s
keeps_all s = record { unsent = refl; more = []; replies = sym (append-nil s.account.replies); lost = refl }

keeps_on : (a b c : Stand) → Keeps a b → Keeps b c → Keeps a c
keeps_on a b c f g = record {
  unsent = g.unsent ∙ f.unsent;
  more = f.more ++ g.more;
  replies = g.replies ∙ ap (λ l. l ++ g.more) f.replies ∙ append_assoc a.account.replies f.more g.more;
  lost = g.lost ∙ f.lost;
}

fed_unsent : (r : Rest) (piece : List ℕ) → (feed_of r piece).rest.unsent ≡ r.unsent
fed_unsent r piece =
    cond_both r.knows.over (let f : Fed = record { rest = r; answer = Err client_fault.Closed } in f) (fed_open r (takes at_client r.item piece)) (λ (f : Fed). f.rest.unsent ≡ r.unsent) (λ _. refl)
    (λ _. by_item (record r { item = (takes at_client r.item piece).rest }) (takes at_client r.item piece).used (takes at_client r.item piece).item)
  where
    by_item : (r : Rest) (used : ℕ) (o : Option Item) → (fed_item r used o).rest.unsent ≡ r.unsent
    by_item r used None = refl
    by_item r used (Some x) = refl

-- an account with more replies, of the same losses
record Longer (old new : Account) : Type 0 where
  pub more : List ReplyView
  pub replies : new.replies ≡ old.replies ++ more
  pub lost : new.lost ≡ old.lost

as_long : (a b : Account) → b.replies ≡ a.replies → b.lost ≡ a.lost → Longer a b
as_long a b e f = record { more = []; replies = e ∙ sym (append-nil a.replies); lost = f }

noted : (a : Account) (x : Note) → Longer a (with_note a x)
noted a Nothing = as_long a a refl refl
noted a (Chose o) = as_long a a refl refl
noted a (Row cells) = cond_both (keeps_row a) _ _ (λ (z : Account). Longer a z) (λ _. record { more = []; replies = sym (append-nil a.replies); lost = refl }) (λ _. record { more = []; replies = sym (append-nil a.replies); lost = refl })
noted a (Summary j p o r) = record { more = record { ordinal = j; outcome = o; response = r; rows = a.rows; left = a.left } ∷ []; replies = refl; lost = refl }

answered : (a : Account) (x : Result (ℕ × Note) ClientFault) → Longer a (with_answer a x)
answered a (Ok used) = noted a used.1
answered a (Err e) = as_long a a refl refl

keeps_piece : (s : Stand) (piece : List ℕ) → Keeps s (heard_stand s piece)
keeps_piece s piece = go (is_full s.rest.knows s.account)
  where
    go : (b : Bool)
        → let t : Tracked = (if b then record { rest = s.rest; account = s.account; answer = Err feed_fault.Full } else record { rest = (feed_of s.rest piece).rest; account = with_answer s.account (feed_of s.rest piece).answer; answer = used_by (feed_of s.rest piece).answer }) in
        let to : Stand = record { rest = t.rest; account = t.account } in
        Keeps s to
    go true = keeps_all s
    go false =
        let l = answered s.account (feed_of s.rest piece).answer in
        record { unsent = fed_unsent s.rest piece; more = l.more; replies = l.replies; lost = l.lost }

keeps_pieces : (pieces : List (List ℕ)) (x : TrackedRun) → Keeps (stand_in x) (stand_in (tracked_calls x (map HearsPiece pieces)))
keeps_pieces [] x = keeps_all (stand_in x)
keeps_pieces (p ∷ ps) x =
    let y = tracked_call x (HearsPiece p) in
    keeps_on (stand_in x) (stand_in y) (stand_in (tracked_calls y (map HearsPiece ps)))
    (subst (λ (s : Stand). Keeps (stand_in x) s) (sym (leads_hears (stand_in x) p x refl).stands) (keeps_piece (stand_in x) p)) (keeps_pieces ps y)

-- a run that stands there
abbrev pub run_at : Stand → TrackedRun
run_at s = record { run = record (starts Wish.Newest) { rest = s.rest }; account = s.account }

pub hears_keeps : {from to : Stand} {bytes : List ℕ} → Hears from to bytes → Keeps from to
hears_keeps {from = from} {to = to} h = subst (λ (s : Stand). Keeps from s) (h.leads (run_at from) refl).stands (keeps_pieces h.pieces (run_at from))

emptied : (s : Stand) → (emptied_stand s).rest.unsent ≡ []
emptied s = drop_all (length s.rest.unsent) s.rest.unsent (omega arith)

-- Once all that waits was written, nothing is to go out.
pub exchange_empties : (from to : Place) (r : Result (Unit {0}) Break) → Exchanges from to r → to.stand.rest.unsent ≡ []
exchange_empties from to (Ok u) x = ap (λ (s : Stand). s.rest.unsent) x.settles ∙ (hears_keeps x.converses.reads.hears).unsent ∙ emptied from.stand
exchange_empties from to (Err e) x = ap (λ (s : Stand). s.rest.unsent) x.settles ∙ (hears_keeps x.converses.reads.hears).unsent ∙ emptied from.stand
