-- What a client makes of its server's bytes, piece by piece.
use Rattle.std.proofs.Common.{◌≡◌, refl, sym, ◌∙◌, ap, subst, ℕ, Bool, true, false, if◌then◌else◌, Option, Some, None, option_to_list, Result, Ok, Err, List, [], ◌∷◌, ◌++◌, take, drop, append_assoc, append-nil, true≢false, inr, IsErrOf}
use Rattle.wire.specs.declared.Wish.{Wish}
use Rattle.wire.specs.Prelude.{Item, Opened, at_client, outputs, state, takes, Took}
use Rattle.wire.proofs.Readers.{outputs-append, state-append, takes_outputs}
use Rattle.messages.specs.Prelude.{Heard as AnyHeard}
use Rattle.client.specs.declared.Heard.{Heard}
use Rattle.client.specs.declared.ClientFault.{ClientFault}
use Rattle.client.specs.declared.ClientFault.TheVariants as client_fault
use Rattle.client.specs.Prelude.{Knows, Hearing, hears_item, heard_as, Note, Nothing, note_of, Rest, Fed, feed_of, fed_item, fed_open, note, note_result, UnlessMemory}
use Rattle.client.proofs.Makes.{makes, spoiled_over}
use Rattle.client_blocking.specs.Prelude.{notes_by, notes_of, Tale, after_notes, tale_of, hears_all, after_all, has_ended, FeedsPiece, PartFed}
use Rattle.streams.proofs.Parts.{fed_more}

-- nothing is heard after the end
pub over_tale : (wish : Wish) (k : Knows) (xs : List Item) → k.over ≡ true → tale_of wish k xs ≡ record { knows = k; notes = [] }
over_tale wish k [] e = refl
over_tale wish k (x ∷ xs) e = rw e refl

more_notes : (a b : List Note) (t : Tale) → after_notes a (after_notes b t) ≡ after_notes (a ++ b) t
more_notes a b t = ap (λ l. record { knows = t.knows; notes = l }) (sym (append_assoc a b t.notes))

tale-append : (wish : Wish) (k : Knows) (xs ys : List Item) → tale_of wish k (xs ++ ys) ≡ after_notes (tale_of wish k xs).notes (tale_of wish (tale_of wish k xs).knows ys)
tale-append wish k [] ys = refl
tale-append wish k (x ∷ xs) ys = go k.over refl (tale-append wish (hears_item wish k (heard_as k.version x)).knows xs ys)
  where
    h : Hearing
    h = hears_item wish k (heard_as k.version x)

    notes : List Note
    notes = notes_of (heard_as k.version x) h

    first : Bool → List Item → Tale
    first b zs = if b then record { knows = k; notes = [] } else after_notes notes (tale_of wish h.knows zs)

    go : (b : Bool) → k.over ≡ b → tale_of wish h.knows (xs ++ ys) ≡ after_notes (tale_of wish h.knows xs).notes (tale_of wish (tale_of wish h.knows xs).knows ys)
        → first b (xs ++ ys) ≡ after_notes (first b xs).notes (tale_of wish (first b xs).knows ys)
    go true e m = sym (over_tale wish k ys e)
    go false e m = ap (after_notes notes) m ∙ more_notes notes (tale_of wish h.knows xs).notes (tale_of wish (tale_of wish h.knows xs).knows ys)

pub hears_all-append : (r : Rest) (a b : List ℕ) → hears_all r (a ++ b) ≡ after_notes (hears_all r a).notes (hears_all (after_all r a) b)
hears_all-append r a b =
    ap (tale_of r.wish r.knows) (outputs-append Opened Item at_client r.item a b) ∙ tale-append r.wish r.knows (outputs at_client r.item a) (outputs at_client (state at_client r.item a) b)

pub after_all-append : (r : Rest) (a b : List ℕ) → after_all r (a ++ b) ≡ after_all (after_all r a) b
after_all-append r a b =
    ap (λ (t : Tale). record r { knows = t.knows; item = state at_client r.item (a ++ b) }) (hears_all-append r a b)
    ∙ ap (λ (i : Opened). record r { knows = (hears_all (after_all r a) b).knows; item = i }) (state-append Opened Item at_client r.item a b)

-- what a feed of a piece answers, and where the client stands then, by the bytes that were used
abbrev FedAs : Rest → List ℕ → Result (ℕ × Note) ClientFault → Rest → Type 0
FedAs s piece (Ok t) rest = (after_all s (take t.0 piece) ≡ rest) × ((hears_all s (take t.0 piece)).notes ≡ notes_by t.1)
FedAs s piece (Err client_fault.Closed) rest = (s ≡ rest) × (s.knows.over ≡ true)
FedAs s piece (Err client_fault.BadPeer) rest = (n : ℕ) × (after_all s (take n piece) ≡ rest) × ((hears_all s (take n piece)).notes ≡ []) × ((hears_all s (take n piece)).knows.over ≡ true)
FedAs s piece (Err client_fault.Memory) rest = Unit {0}

module _ (s : Rest) (piece : List ℕ) where
  abbrev t : Took Opened Item
  t = takes at_client s.item piece

  abbrev front : List ℕ
  front = take t.used piece

  -- the used bytes have the item that ended, or none
  module _ (x : Tale) (said : tale_of s.wish s.knows (option_to_list t.item) ≡ x) where
    told_is : hears_all s front ≡ x
    told_is = ap (tale_of s.wish s.knows) (takes_outputs Opened Item at_client s.item piece).0 ∙ said

    stands_is : after_all s front ≡ record s { knows = x.knows; item = t.rest }
    stands_is = ap (λ (z : Tale). record s { knows = z.knows; item = state at_client s.item front }) told_is ∙ ap (λ (i : Opened). record s { knows = x.knows; item = i }) (takes_outputs Opened Item at_client s.item piece).1

    fed_ok : (n : Note) → x.notes ≡ notes_by n → FedAs s piece (Ok (t.used, n)) (record s { knows = x.knows; item = t.rest })
    fed_ok n e = (stands_is, ap (λ (z : Tale). z.notes) told_is ∙ e)

    fed_bad : x.notes ≡ [] → x.knows.over ≡ true → FedAs s piece (Err client_fault.BadPeer) (record s { knows = x.knows; item = t.rest })
    fed_bad e over = (t.used, stands_is, ap (λ (z : Tale). z.notes) told_is ∙ e, ap (λ (z : Tale). z.knows.over) told_is ∙ over)

  -- an item ended
  module _ (x : Item) (e : t.item ≡ Some x) (goes : s.knows.over ≡ false) where
    abbrev y : AnyHeard
    y = heard_as s.knows.version x

    abbrev h : Hearing
    h = hears_item s.wish s.knows y

    abbrev tale_by : Bool → Tale
    tale_by b = record { knows = h.knows; notes = (if b then [] else notes_by (note_of y h)) ++ [] }

    said_by : (b : Bool) → h.bad ≡ b → tale_of s.wish s.knows (option_to_list t.item) ≡ tale_by b
    said_by b bad =
        ap (λ o. tale_of s.wish s.knows (option_to_list o)) e
        ∙ ap (λ (c : Bool). if c then record { knows = s.knows; notes = [] } else after_notes (notes_of y h) (record { knows = h.knows; notes = [] })) goes ∙ ap tale_by bad

    by_bad : (b : Bool) → h.bad ≡ b → FedAs s piece (if b then Err client_fault.BadPeer else Ok (t.used, note_of y h)) (record s { knows = h.knows; item = t.rest })
    by_bad false bad = fed_ok (tale_by false) (said_by false bad) (note_of y h) (append-nil _)
    by_bad true bad = fed_bad (tale_by true) (said_by true bad) refl (spoiled_over s.wish s.knows y h (makes s.wish s.knows y) bad)

  by_item : (o : Option Item) → t.item ≡ o → s.knows.over ≡ false → (let f = fed_item (record s { item = t.rest }) t.used o in FedAs s piece f.answer f.rest)
  by_item None e goes = fed_ok (record { knows = s.knows; notes = [] }) (ap (λ o. tale_of s.wish s.knows (option_to_list o)) e) Nothing refl
  by_item (Some x) e goes = by_bad x e goes (hears_item s.wish s.knows (heard_as s.knows.version x)).bad refl

  by_over : (b : Bool) → s.knows.over ≡ b → (let f : Fed = if b then record { rest = s; answer = Err client_fault.Closed } else fed_open s t in FedAs s piece f.answer f.rest)
  by_over true e = (refl, e)
  by_over false e = by_item t.item refl e

  feeds_as : (a : Result (ℕ × Note) ClientFault) → a ≡ (feed_of s piece).answer → FedAs s piece a (feed_of s piece).rest
  feeds_as a e = subst (λ z. FedAs s piece z (feed_of s piece).rest) (sym e) (by_over s.knows.over refl)

-- Notes that some bytes and then more tell, behind those before.
pub notes_then : (r : Rest) (fed more : List ℕ) (before mid after : List Note) → mid ≡ before ++ (hears_all r fed).notes → after ≡ mid ++ (hears_all (after_all r fed) more).notes → after ≡ before ++ (hears_all r (fed ++ more)).notes
notes_then r fed more before mid after told e =
    let next = (hears_all (after_all r fed) more).notes in
    e ∙ ap (λ l. l ++ next) told ∙ append_assoc before (hears_all r fed).notes next ∙ ap (λ t. before ++ t.notes) (sym (hears_all-append r fed more))

pub part_kept : {r : Rest} {piece rest : List ℕ} {before mid after : List Note} {Now : Rest → Type 0} → PartFed r piece rest before mid Now → after ≡ mid → PartFed r piece rest before after Now
part_kept p e = record { fed = p.fed; parts = p.parts; told = e ∙ p.told; now = p.now }

-- what the client answers to a feed of a piece
abbrev pub Feeds : Rest → List ℕ → (Rest → Type 0) → Result (ℕ × Heard) ClientFault → Type 0
Feeds s piece Now result = UnlessMemory result ((note_result result ≡ (feed_of s piece).answer) × Now (feed_of s piece).rest)

-- A piece of which some was fed.
module _ {r : Rest} {piece rest : List ℕ} {before mid : List Note} {Was Now : Rest → Type 0} (part : PartFed r piece rest before mid Was) where
  pub part_goes_on : (told : ℕ × Heard) (later : List ℕ) (after : List Note) → Feeds (after_all r part.fed) rest Now (Ok told) → later ≡ drop told.0 rest → after ≡ mid ++ notes_by (note told.1) → PartFed r piece later before after Now
  part_goes_on told later after k l e =
      let h = feeds_as (after_all r part.fed) rest (Ok (told.0, note told.1)) k.0 in
      record {
        fed = part.fed ++ take told.0 rest;
        parts = sym (fed_more part.fed rest later piece told.0 (sym part.parts) l);
        told = notes_then r part.fed (take told.0 rest) before mid after part.told (e ∙ ap (λ l. mid ++ l) (sym h.1));
        now = subst Now (sym (after_all-append r part.fed (take told.0 rest) ∙ h.0)) k.1;
      }

  pub part_refused : (fault : ClientFault) → Feeds (after_all r part.fed) rest Now (Err fault) → (IsErrOf {T = ℕ × Heard} (Err fault) client_fault.Memory → Now (after_all r part.fed)) → FeedsPiece r piece before mid (has_ended fault) Now
  part_refused client_fault.Closed k m =
      let h = feeds_as (after_all r part.fed) rest (Err client_fault.Closed) k.0 in
      record { fed = part.fed; unheard = rest; parts = part.parts; told = part.told; now = subst Now (sym h.0) k.1; ends = λ _. inr h.1 }
  part_refused client_fault.BadPeer k m =
      let h = feeds_as (after_all r part.fed) rest (Err client_fault.BadPeer) k.0 in
      record {
        fed = part.fed ++ take h.0 rest;
        unheard = drop h.0 rest;
        parts = sym (fed_more part.fed rest (drop h.0 rest) piece h.0 (sym part.parts) refl);
        told = notes_then r part.fed (take h.0 rest) before mid mid part.told (sym (append-nil mid) ∙ ap (λ l. mid ++ l) (sym h.2));
        now = subst Now (sym (after_all-append r part.fed (take h.0 rest) ∙ h.1)) k.1;
        ends = λ _. inr (ap (λ t. t.knows.over) (hears_all-append r part.fed (take h.0 rest)) ∙ h.3);
      }
  part_refused client_fault.Memory k m = record { fed = part.fed; unheard = rest; parts = part.parts; told = part.told; now = m refl; ends = λ e. absurd (true≢false (sym e)) }

  pub part_broken : Now (after_all r part.fed) → FeedsPiece r piece before mid false Now
  part_broken now = record { fed = part.fed; unheard = rest; parts = part.parts; told = part.told; now = now; ends = λ e. absurd (true≢false (sym e)) }
