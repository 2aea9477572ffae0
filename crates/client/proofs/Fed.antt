-- What a feed leaves of a client that goes on, and what it tells: what the bytes that the client took by then do.
use Rattle.std.proofs.Common.{◌≡◌, refl, sym, ◌∙◌, ap, ap₂, subst, ℕ, false, ◌||◌, if◌then◌else◌, Option, Some, None, option_map, option_to_list, Err, List, ◌++◌, take}
use Rattle.wire.specs.declared.Version.{Version}
use Rattle.wire.specs.declared.Wish.{Wish}
use Rattle.wire.specs.Prelude.{Took, state, takes, Item, Opened, at_client}
use Rattle.messages.specs.Prelude.{RequestView, Heard, hears}
use Rattle.messages_deframer.proofs.Arriving.{rest_then}
use Rattle.client.specs.declared.faults.ClientFault.TheVariants as client_fault
use Rattle.client.specs.Prelude.{Knows, Rest, Fed, heard_as, fed_item, fed_open, feed_of, Reading, knows_of, hear, reading, reading_of, tellings_in}
use Rattle.client.proofs.Steps.{hear_knows, item_tells}
use Rattle.client.proofs.Hears.{hear_keeps, more_heard}

-- where a client stands that took these bytes and isn't lost
abbrev pub rest_at : Wish → List RequestView → List ℕ → List ℕ → Rest
rest_at wish sent unsent bytes = record {
  wish = wish;
  knows = knows_of (reading_of wish sent bytes) sent false;
  item = state at_client at_client.start bytes;
  unsent = unsent;
}

module _ (wish : Wish) (sent : List RequestView) (unsent bytes : List ℕ) (on : ((reading_of wish sent bytes).ended ≡ false) × ((reading_of wish sent bytes).bad ≡ false)) (piece : List ℕ) where
  abbrev r : Reading
  r = reading_of wish sent bytes

  abbrev before : Rest
  before = rest_at wish sent unsent bytes

  abbrev t : Took Opened Item
  t = takes at_client (state at_client at_client.start bytes) piece

  abbrev took : List ℕ
  took = bytes ++ take t.used piece

  abbrev read_with : Option Item → Reading
  read_with o = reading wish sent (option_to_list (option_map (heard_as r.version) o) ++ hears bytes)

  read_then : reading_of wish sent took ≡ read_with t.item
  read_then = ap (reading wish sent) (more_heard wish sent bytes on piece)

  goes : (r.ended || r.bad) ≡ false
  goes = ap₂ (λ a b. a || b) on.0 on.1

  pub one_more : (x : Item) → read_with (Some x) ≡ hear wish sent r (heard_as r.version x)
  one_more x = ap (λ b. if b then r else hear wish sent r (heard_as r.version x)) goes

  -- a version that is known stays
  pub version_then : (v : Version) → r.version ≡ Some v → (reading_of wish sent took).version ≡ Some v
  version_then v e = ap (λ (z : Reading). z.version) read_then ∙ go t.item
    where
      go : (o : Option Item) → (read_with o).version ≡ Some v
      go None = e
      go (Some x) = ap (λ (z : Reading). z.version) (one_more x) ∙ hear_keeps wish sent r v (heard_as r.version x) e

  abbrev Leaves : Reading → Fed → Type 0
  Leaves z f = (f.rest ≡ record before { knows = knows_of z sent false; item = t.rest }) × (z.told ≡ tellings_in f.answer ++ r.told)

  by_item : (o : Option Item) → Leaves (read_with o) (fed_item (record before { item = t.rest }) t.used o)
  by_item None = (refl, refl)
  by_item (Some x) =
      let y : Heard = heard_as r.version x in (
        ap (λ (k : Knows). record before { knows = k; item = t.rest }) (sym (hear_knows wish sent r on.0 on.1 y) ∙ sym (ap (λ (z : Reading). knows_of z sent false) (one_more x))),
        ap (λ (z : Reading). z.told) (one_more x) ∙ sym (item_tells wish (knows_of r sent false) t.used r.told y),
      )

  open_fed : Leaves (read_with t.item) (feed_of before piece)
  open_fed = subst (λ b. Leaves (read_with t.item) (if b then record { rest = before; answer = Err client_fault.Closed } else fed_open before t)) (sym goes) (by_item t.item)

  pub fed_rest : (feed_of before piece).rest ≡ rest_at wish sent unsent took
  fed_rest = open_fed.0 ∙ ap₂ (λ (z : Reading) (i : Opened). record before { knows = knows_of z sent false; item = i }) (sym read_then) (sym (rest_then 4 bytes piece))

  pub fed_told : (reading_of wish sent took).told ≡ tellings_in (feed_of before piece).answer ++ r.told
  fed_told = ap (λ (z : Reading). z.told) read_then ∙ open_fed.1
