-- What a client tells of which no request waits.
use Rattle.std.proofs.Common.{◌≡◌, refl, sym, ◌∙◌, ap, ℕ, Bool, true, false, if◌then◌else◌, ◌&&◌, not, Option, Some, None, Err, Ok, List, [], ◌∷◌}
use Rattle.std.proofs.lemmas.Bool.{cond_both}
use Rattle.wire.specs.declared.Wish.{Wish}
use Rattle.wire.specs.Prelude.{takes, at_client, Item}
use Rattle.messages.specs.Prelude.{Heard, RequestView}
use Rattle.client.specs.declared.ClientFault.TheVariants as client_fault
use Rattle.client.specs.Prelude.{note_of, Knows, Rest, Hearing, heard_as, Fed, fed_item, fed_open, feed_of}
use Rattle.client.proofs.Makes.{Makes, makes, spoils, turns_away, takes_version, tells_none, tells_row, tells_summary}
use Rattle.client_tracking.specs.declared.faults.FeedFault.TheVariants as feed_fault
use Rattle.client_tracking.specs.Account.{Account}
use Rattle.client_tracking.specs.Feeding.{is_full, Tracked, with_answer, used_by, tracked_feed}

made_idle : (a : Account) (wish : Wish) (k : Knows) (used : ℕ) (x : Heard) (h : Hearing) → Makes wish k x h → k.waiting ≡ [] → with_answer a (if h.bad then Err client_fault.BadPeer else Ok (used, note_of x h)) ≡ a
made_idle a wish k used x h (spoils y) e = refl
made_idle a wish k used x h (turns_away n) e = refl
made_idle a wish k used x h (takes_version v n i) e = refl
made_idle a wish k used x h tells_none e = refl
made_idle a wish k used x h (tells_row cells n later w) e = let no : RequestView.Pull n ∷ later ≡ [] = sym w ∙ e in cc
made_idle a wish k used x h (tells_summary r s) e = let no : s.first ∷ s.later ≡ [] = sym s.waits ∙ e in cc

-- it is told of no row and of no summary
idle_tells : (a : Account) (r : Rest) (piece : List ℕ) → r.knows.waiting ≡ [] → with_answer a (feed_of r piece).answer ≡ a
idle_tells a r piece e =
    cond_both r.knows.over (let f : Fed = record { rest = r; answer = Err client_fault.Closed } in f) (fed_open r (takes at_client r.item piece)) (λ (f : Fed). with_answer a f.answer ≡ a) (λ _. refl)
    (λ _. by_item (record r { item = (takes at_client r.item piece).rest }) e (takes at_client r.item piece).used (takes at_client r.item piece).item)
  where
    by_item : (r : Rest) → r.knows.waiting ≡ [] → (used : ℕ) (o : Option Item) → with_answer a (fed_item r used o).answer ≡ a
    by_item r e used None = refl
    by_item r e used (Some x) = made_idle a r.wish r.knows used (heard_as r.knows.version x) _ (makes r.wish r.knows (heard_as r.knows.version x)) e

-- so its account stays, and it isn't full
pub idle_feed : (r : Rest) (a : Account) (piece : List ℕ) → r.knows.waiting ≡ [] → tracked_feed r a piece ≡ record { rest = (feed_of r piece).rest; account = a; answer = used_by (feed_of r piece).answer }
idle_feed r a piece e =
    ap (λ (b : Bool). choose b) not_full
    ∙ ap (λ (z : Account). let t : Tracked = record { rest = (feed_of r piece).rest; account = z; answer = used_by (feed_of r piece).answer } in t) (idle_tells a r piece e)
  where
    choose : Bool → Tracked
    choose b = if b then record { rest = r; account = a; answer = Err feed_fault.Full } else record { rest = (feed_of r piece).rest; account = with_answer a (feed_of r piece).answer; answer = used_by (feed_of r piece).answer }

    not_full : is_full r.knows a ≡ false
    not_full = ap (λ (ws : List RequestView). is_full (record r.knows { waiting = ws }) a) e ∙ ends r.knows.over
      where
        ends : (b : Bool) → (not b && false) ≡ false
        ends true = refl
        ends false = refl
