-- What a piece does to the rest of a client's run.
use Rattle.std.proofs.Common.{◌≡◌, refl, sym, ◌∙◌, ap, subst, ℕ, ◌+◌, Bool, true, false, Option, Some, None, Result, Ok, Err, if◌then◌else◌, List, length}
use Rattle.wire.specs.declared.Version.{Version}
use Rattle.wire.specs.Prelude.{Item, Opened, Took, at_client, takes}
use Rattle.messages.specs.declared.MsgFault.{MsgFault}
use Rattle.messages.specs.Prelude.{Heard as AnyHeard, ResponseView, response_of}
use Rattle.client.specs.declared.heard.Heard.{Heard}
use Rattle.client.specs.declared.heard.Heard.TheVariants.{Nothing}
use Rattle.client.specs.declared.faults.ClientFault.{ClientFault}
use Rattle.client.specs.declared.faults.ClientFault.TheVariants as client_fault
use Rattle.client.specs.Prelude.{Rest, Knows, Hearing, Note, note_of, heard_as, heard_message, heard_response, hears_item, Fed, fed_heard, fed_item, fed_open, note, plain, came_in, Hears}
use Rattle.client.specs.Hearings.{Feeds}
use Rattle.client.specs.Taking.{whole_message}

-- bytes that stand for nothing are all heard alike
same_plain : (r : Rest) (used : ℕ) (x : AnyHeard) → fed_heard r used x (hears_item r.wish r.knows x) ≡ fed_heard r used (plain x) (hears_item r.wish r.knows (plain x))
same_plain r used (AnyHeard.Chosen o) = refl
same_plain r used _ = refl

fed_came : (r : Rest) (used : ℕ) (o : Option Item) → fed_item r used o ≡ fed_heard r used (came_in r.knows.version o) (hears_item r.wish r.knows (came_in r.knows.version o))
fed_came r used None = refl
fed_came r used (Some x) = same_plain r used (heard_as r.knows.version x)

-- what is told of a piece, from what is told of its item
ok_note : (used : ℕ) (n m : Note) (b : Bool) → ◌≡◌ {A = Result Note ClientFault} (Ok n) (if b then Err client_fault.BadPeer else Ok m) → ◌≡◌ {A = Result (ℕ × Note) ClientFault} (Ok (used, n)) (if b then Err client_fault.BadPeer else Ok (used, m))
ok_note used n m true h = absurd cc
ok_note used n m false h = let e : n ≡ m = cc in ap (λ z. Ok (used, z)) e

err_note : (used : ℕ) (e : ClientFault) (m : Note) (b : Bool) → ◌≡◌ {A = Result Note ClientFault} (Err e) (if b then Err client_fault.BadPeer else Ok m)
    → (e ≡ client_fault.BadPeer) × (◌≡◌ {A = Result (ℕ × Note) ClientFault} (Err client_fault.BadPeer) (if b then Err client_fault.BadPeer else Ok (used, m)))
err_note used e m true h = (cc, refl)
err_note used e m false h = absurd cc

-- a refusal is of a bad answer
pub is_bad : (x : AnyHeard) (h : Hearing) (knows : Knows) (e : ClientFault) → Hears h x (Err e) knows → e ≡ client_fault.BadPeer
is_bad x h knows e k = (err_note 0 e (note_of x h) h.bad k.0).0

-- What is heard of a piece, and what is known then.
module _ (r : Rest) (m : Took Opened Item) (x : AnyHeard) (came : x ≡ came_in r.knows.version m.item) (knows : Knows) (new : Rest) (is : new ≡ record r { item = m.rest; knows = knows }) where
  abbrev heard : Hearing
  heard = hears_item r.wish r.knows x

  by_heard : fed_open r m ≡ fed_heard (record r { item = m.rest }) m.used x heard
  by_heard = fed_came (record r { item = m.rest }) m.used m.item ∙ ap (λ y. fed_heard (record r { item = m.rest }) m.used y (hears_item r.wish r.knows y)) (sym came)

  there : knows ≡ heard.knows → new ≡ (fed_open r m).rest
  there e = is ∙ ap (λ (k : Knows). record r { item = m.rest; knows = k }) e ∙ sym (ap (λ (f : Fed). f.rest) by_heard)

  pub heard_feeds : (used : ℕ) (told : Heard) → used ≡ m.used → Hears heard x (Ok told) knows → Feeds new r (fed_open r m) (Ok (used, told))
  heard_feeds used told u k = (ap (λ n. Ok (n, note told)) u ∙ ok_note m.used (note told) (note_of x heard) heard.bad k.0 ∙ sym (ap (λ f. f.answer) by_heard), there k.1)

  pub refused_feeds : (e : ClientFault) → Hears heard x (Err e) knows → Feeds new r (fed_open r m) (Err e)
  refused_feeds e k =
      let bad = err_note m.used e (note_of x heard) heard.bad k.0 in
      subst (λ z. Feeds new r (fed_open r m) (Err z)) (sym bad.0) (bad.1 ∙ sym (ap (λ f. f.answer) by_heard), there k.1)

-- a piece with which nothing ends
pub quiet_feeds : (r : Rest) (m : Took Opened Item) (new : Rest) (used : ℕ) → AnyHeard.Quiet ≡ came_in r.knows.version m.item → new ≡ record r { item = m.rest } → used ≡ m.used → Feeds new r (fed_open r m) (Ok (used, Nothing))
quiet_feeds r m new used came there u = heard_feeds r m AnyHeard.Quiet came r.knows new there used Nothing u (refl, refl)

-- What is told of a whole message that a piece begins with.
module _ (r : Rest) (piece message : List ℕ) (v : Version) (known : r.knows.version ≡ Some v) (whole : takes at_client r.item piece ≡ whole_message message r.item) (a : Result ResponseView MsgFault) (says : response_of v message ≡ a) (knows : Knows) where
  came_so : plain (heard_response a) ≡ came_in r.knows.version (takes at_client r.item piece).item
  came_so = sym (ap (λ (t : Took Opened Item). came_in r.knows.version t.item) whole ∙ ap (λ o. plain (heard_message o message)) known ∙ ap (λ b. plain (heard_response b)) says)

  new_is : record r { knows = knows } ≡ record r { item = (takes at_client r.item piece).rest; knows = knows }
  new_is = ap (λ (i : Opened). record r { item = i; knows = knows }) (sym (ap (λ (t : Took Opened Item). t.rest) whole))

  pub message_told : (told : Heard) → Hears (hears_item r.wish r.knows (plain (heard_response a))) (plain (heard_response a)) (Ok told) knows → Feeds (record r { knows = knows }) r (fed_open r (takes at_client r.item piece)) (Ok (length message + 4, told))
  message_told told k = heard_feeds r (takes at_client r.item piece) _ came_so knows _ new_is _ told (sym (ap (λ (t : Took Opened Item). t.used) whole)) k

  pub message_refused : (e : ClientFault) → Hears (hears_item r.wish r.knows (plain (heard_response a))) (plain (heard_response a)) (Err e) knows → Feeds (record r { knows = knows }) r (fed_open r (takes at_client r.item piece)) (Err e)
  message_refused e k = refused_feeds r (takes at_client r.item piece) _ came_so knows _ new_is e k
