-- What a stream's reader takes of a piece, and that what the ends of a connection keep is enough for what a client is given, and for what it submits.
use Rattle.std.proofs.Common.{◌≡◌, refl, ◌∙◌, ap, ℕ, zero, suc, ◌+◌, ◌-◌, ◌≤◌, min, List, ◌∷◌, length, take, drop, arith, sym, subst, if◌then◌else◌, nat_lt, Option, Some, None, option_map, option_to_list, [], ◌++◌, append-nil, length-append, false, ap₂, Bool, true, ◌||◌, unwrap_or, Result, Ok, Err, true≢false, length-take}
use Rattle.std.proofs.lemmas.List.{drop-take, length-reverse, drop-append-le}
use Rattle.std.proofs.lemmas.Bool.{lt-ltb, le-ltb, cond-true, cond-false, cond_both}
use Rattle.wire.specs.Prelude.{Reader, state, outputs, ends_at, takes, reach, Took, Item, Opened, at_client, wish_version}
use Rattle.wire.proofs.Readers.{reads_pieces}
use Rattle.wire.specs.declared.Wish.{Wish}
use Rattle.messages.specs.Prelude.{RequestView, Heard, hears, heard_of, request_bytes}
use Rattle.client.specs.Prelude.{heard_as, Note, Nothing, hears_item, note_of, reading_of, Reading, knows_of, after_item, hear, reading, tellings_in}
use Rattle.client.proofs.Hears.{one_heard, more_heard}
use Rattle.std.proofs.Math.Seq.{take-add}
use Rattle.client.specs.declared.ClientFault.{ClientFault}
use Rattle.client.specs.Rest as asking
use Rattle.client.proofs.Makes.{Makes, spoils, makes}
use Rattle.client.proofs.Later.{reading_later, reading_count}
use Rattle.client.proofs.Fed.{rest_at, fed_rest, fed_told}
use Rattle.world.specs.Prelude.{Connection, output, bytes_delivered, heard_by_bytes, wish_of, input, Seen, Gave, give, taken_for, note_now, note_given, tells_of, client_rest}
use Rattle.world.proofs.Trace.{input_more}

-- a front of a longer one
pub take_within : {A : Type 0} (n m : ℕ) (xs : List A) → min n (length xs) ≤ m → take n (take m xs) ≡ take n xs
take_within (suc n) zero (x ∷ xs) l = absurd (omega arith)
take_within (suc n) (suc m) (x ∷ xs) l = ap (λ z. x ∷ z) (take_within n m xs (omega arith))
take_within _ _ _ l = refl

pub parts : (a b : ℕ) → b ≤ a → a ≡ b + (a - b)
parts a b l = omega arith

pub rest_of : (a b c : ℕ) → (a - b) - c ≡ a - (b + c)
rest_of a b c = omega arith

-- what is left of a front
pub drop_within : {A : Type 0} (u m : ℕ) (xs : List A) → u ≤ m → drop u (take m xs) ≡ take (m - u) (drop u xs)
drop_within u m xs l = ap (λ z. drop u (take z xs)) (parts m u l) ∙ drop-take u (m - u) xs

-- What is made of the items of a stream grows where an item ends, and nowhere else: so it takes the bytes that the stream's reader takes.
pub reach_within : {X : Type 0} (items : List ℕ → List X) (up piece : List ℕ) → reach items up piece ≤ length piece
reach_within items up [] = omega arith
reach_within items up (b ∷ bs) = let h = reach_within items (up ++ b ∷ []) bs in cond_both (nat_lt (length (items up)) (length (items (up ++ b ∷ [])))) 1 _ (λ n. n ≤ suc (length bs)) (λ _. omega arith) (λ _. omega arith)

-- it depends on lengths alone
pub reach_lengths : {X Y : Type 0} (f : List ℕ → List X) (g : List ℕ → List Y) → ((bytes : List ℕ) → length (f bytes) ≡ length (g bytes)) → (up piece : List ℕ) → reach f up piece ≡ reach g up piece
reach_lengths f g e up [] = refl
reach_lengths f g e up (b ∷ bs) = rw (e up, e (up ++ b ∷ []), reach_lengths f g e (up ++ b ∷ []) bs) refl

module _ (R X Y : Type 0) (p : Reader R X) (f : List X → List Y) (means : X → Y) (base : List X) where
  abbrev items : List ℕ → List X
  items bytes = outputs p p.start bytes

  abbrev meanings : List ℕ → List Y
  meanings bytes = f (items bytes)

  -- an item that ends has its meaning
  abbrev pub Adds : Option X → Type 0
  Adds o = f (base ++ option_to_list o) ≡ f base ++ option_to_list (option_map means o)

  next_state : (up : List ℕ) (b : ℕ) → state p p.start (up ++ b ∷ []) ≡ p.byte (state p p.start up) b
  next_state up b = (reads_pieces R X p).states p.start up (b ∷ [])

  next_items : (up : List ℕ) (b : ℕ) → items up ≡ base → items (up ++ b ∷ []) ≡ base ++ option_to_list (p.item (state p p.start up) b)
  next_items up b e =
      (reads_pieces R X p).items p.start up (b ∷ []) ∙ ap (λ z. items up ++ z) (append-nil (option_to_list (p.item (state p p.start up) b)))
      ∙ ap (λ z. z ++ option_to_list (p.item (state p p.start up) b)) e

  pub reach_used : (up piece : List ℕ) → items up ≡ base → Adds (takes p (state p p.start up) piece).item → reach meanings up piece ≡ (takes p (state p p.start up) piece).used
  reach_used up [] e a = refl
  reach_used up (b ∷ bs) e a = go (p.item (state p p.start up) b) refl a (λ same more. reach_used (up ++ b ∷ []) bs same more)
    where
      r : R
      r = state p p.start up

      go : (o : Option X) → p.item r b ≡ o → Adds (ends_at (p.byte r b) o (takes p (p.byte r b) bs)).item
          → (items (up ++ b ∷ []) ≡ base → Adds (takes p (state p p.start (up ++ b ∷ [])) bs).item → reach meanings (up ++ b ∷ []) bs ≡ (takes p (state p p.start (up ++ b ∷ [])) bs).used)
          → (if nat_lt (length (meanings up)) (length (meanings (up ++ b ∷ []))) then 1 else suc (reach meanings (up ++ b ∷ []) bs)) ≡ (ends_at (p.byte r b) o (takes p (p.byte r b) bs)).used
      go None n a h =
          let same : items (up ++ b ∷ []) ≡ base = next_items up b e ∙ ap (λ o. base ++ option_to_list o) n ∙ append-nil base in
          let l : length (meanings (up ++ b ∷ [])) ≡ length (meanings up) = ap (λ z. length (f z)) (same ∙ sym e) in
          let later = h same (subst (λ z. Adds (takes p z bs).item) (sym (next_state up b)) a) in
          cond-false _ _ _ (le-ltb (length (meanings up)) (length (meanings (up ++ b ∷ []))) (omega arith)) ∙ ap suc (later ∙ ap (λ z. (takes p z bs).used) (next_state up b))
      go (Some x) n a h =
          let more : meanings (up ++ b ∷ []) ≡ f base ++ means x ∷ [] = ap f (next_items up b e ∙ ap (λ o. base ++ option_to_list o) n) ∙ a in
          let l : length (meanings (up ++ b ∷ [])) ≡ length (f base) + 1 = ap length more ∙ length-append (f base) (means x ∷ []) in
          let k : length (meanings up) ≡ length (f base) = ap (λ z. length (f z)) e in
          cond-true _ _ _ (lt-ltb (length (meanings up)) (length (meanings (up ++ b ∷ []))) (omega arith))

-- A client that goes on takes what its stream's reader takes of a piece.
module _ (wish : Wish) (sent : List RequestView) (bytes : List ℕ) (on : ((reading_of wish sent bytes).ended ≡ false) × ((reading_of wish sent bytes).bad ≡ false)) (piece : List ℕ) where
  abbrev hearings : List ℕ → List Heard
  hearings bs = heard_of (outputs at_client at_client.start bs)

  pub used_same : reach hears bytes piece ≡ (takes at_client (state at_client at_client.start bytes) piece).used
  used_same =
      reach_lengths hears hearings (λ bs. length-reverse (hearings bs)) bytes piece
      ∙ reach_used Opened Item Heard at_client heard_of (heard_as (reading_of wish sent bytes).version) (outputs at_client at_client.start bytes) bytes piece refl (one_heard wish sent bytes on piece)

-- what is seen of a client's answer; used, where it tells none
abbrev pub seen_as : ℕ → Result (ℕ × Note) ClientFault → Seen
seen_as used (Ok told) = Gave told.0 (Ok told.1)
seen_as used (Err e) = Gave used (Err e)

-- what is told of an item that isn't bad, as the reading after it tells it
made_note : (wish : Wish) (k : asking.Knows) (r : Reading) (x : Heard) (h : asking.Hearing) → Makes wish k x h → h.bad ≡ false → note_of x h ≡ tells_of x (after_item r h)
made_note wish k r x h (spoils y) e = absurd (true≢false e)
made_note wish k r x h _ e = refl

-- one more item is told
told_item : (xs : List Heard) (o : Option Heard) (r2 : Reading) → note_now xs (option_to_list o ++ xs) r2 ≡ unwrap_or (option_map (λ x. tells_of x r2) o) Nothing
told_item xs None r2 = cond-false (nat_lt (length xs) (length xs)) _ _ (le-ltb (length xs) (length xs) (omega arith))
told_item xs (Some x) r2 = cond-true (nat_lt (length xs) (length (x ∷ xs))) _ _ (lt-ltb (length xs) (length (x ∷ xs)) (omega arith))

-- what is seen of a client that goes on
module _ (wish : Wish) (sent : List RequestView) (xs : List Heard) (on : ((reading wish sent xs).ended ≡ false) × ((reading wish sent xs).bad ≡ false)) (item : Opened) (unsent : List ℕ) (used : ℕ) where
  abbrev r1 : Reading
  r1 = reading wish sent xs

  abbrev knows : asking.Knows
  knows = knows_of r1 sent false

  abbrev heard_then : Option Item → List Heard
  heard_then o = option_to_list (option_map (heard_as r1.version) o) ++ xs

  pub item_seen : (o : Option Item) → let r2 = reading wish sent (heard_then o) in
      seen_as used (asking.fed_item (record { wish = wish; knows = knows; item = item; unsent = unsent }) used o).answer ≡ Gave used (note_given r2.bad (note_now xs (heard_then o) r2))
  item_seen None = sym (ap₂ (λ b n. Gave used (note_given b n)) on.1 (told_item xs None r1))
  item_seen (Some x) =
      let y = heard_as r1.version x in
      let e : reading wish sent (y ∷ xs) ≡ hear wish sent r1 y = cond-false (r1.ended || r1.bad) r1 (hear wish sent r1 y) (ap₂ (λ a b. a || b) on.0 on.1) in
      by_bad y (hears_item wish knows y).bad refl ∙ ap (λ (z : Reading). Gave used (note_given z.bad (tells_of y z))) (sym e)
      ∙ ap (λ n. Gave used (note_given (reading wish sent (y ∷ xs)).bad n)) (sym (told_item xs (Some y) (reading wish sent (y ∷ xs))))
    where
      by_bad : (y : Heard) (b : Bool) → (hears_item wish knows y).bad ≡ b
          → seen_as used (if b then Err ClientFault.BadPeer else Ok (used, note_of y (hears_item wish knows y))) ≡ Gave used (note_given b (tells_of y (hear wish sent r1 y)))
      by_bad y true f = refl
      by_bad y false f = ap (λ n. Gave used (Ok n)) (made_note wish knows r1 y _ (makes wish knows y) f)

module _ (k : Connection) (out n : ℕ) (lives : k.client_lost ≡ false) (on : ((heard_by_bytes k).ended ≡ false) × ((heard_by_bytes k).bad ≡ false)) where
  abbrev pub piece : List ℕ
  piece = take n (drop k.down (output k))

  abbrev m : ℕ
  m = reach hears (bytes_delivered k) piece

  abbrev k2 : Connection
  k2 = record k { taken = taken_for n k; down = k.down + m }

  abbrev t : Took Opened Item
  t = takes at_client (state at_client at_client.start (bytes_delivered k)) piece

  pub given_more : bytes_delivered k2 ≡ bytes_delivered k ++ take m piece
  given_more =
      take-add k.down m (output k)
      ∙ ap (λ z. take k.down (output k) ++ z) (sym (take_within m n (drop k.down (output k)) (let w = reach_within hears (bytes_delivered k) piece in omega (arith, length-take n (drop k.down (output k))))))

  taken_more : bytes_delivered k2 ≡ bytes_delivered k ++ take t.used piece
  taken_more = given_more ∙ ap (λ i. bytes_delivered k ++ take i piece) (used_same (wish_of k.peer) k.sent (bytes_delivered k) on piece)

  heard_more : hears (bytes_delivered k2) ≡ option_to_list (option_map (heard_as (heard_by_bytes k).version) t.item) ++ hears (bytes_delivered k)
  heard_more = ap hears taken_more ∙ more_heard (wish_of k.peer) k.sent (bytes_delivered k) on piece

  -- one item at most
  pub one_more : length (hears (bytes_delivered k2)) ≤ suc (length (hears (bytes_delivered k)))
  one_more = at (option_map (heard_as (heard_by_bytes k).version) t.item) (ap length heard_more)
    where
      at : (o : Option Heard) → length (hears (bytes_delivered k2)) ≡ length (option_to_list o ++ hears (bytes_delivered k)) → length (hears (bytes_delivered k2)) ≤ suc (length (hears (bytes_delivered k)))
      at None e = omega arith
      at (Some x) e = omega arith

  abbrev unsent : List ℕ
  unsent = drop out (input (wish_of k.peer) k.sent)

  -- of a client that isn't lost
  abbrev held : List ℕ → asking.Rest
  held bytes = rest_at (wish_of k.peer) k.sent unsent bytes

  held_is : (bytes : List ℕ) → record (held bytes) { knows = knows_of (reading_of (wish_of k.peer) k.sent bytes) k.sent k.client_lost } ≡ held bytes
  held_is bytes = ap (λ b. record (held bytes) { knows = knows_of (reading_of (wish_of k.peer) k.sent bytes) k.sent b }) lives

  -- what the client keeps is enough: the rest then, what is seen, and what it has told
  pub give_same : let f = asking.feed_of (client_rest out k) piece in (f.rest ≡ client_rest out (give n k).conn) × (seen_as ((give n k).conn.down - k.down) f.answer ≡ (give n k).seen)
  give_same =
      let used : (k.down + m) - k.down ≡ t.used = let u = used_same (wish_of k.peer) k.sent (bytes_delivered k) on piece in omega arith in
      let is = held_is (bytes_delivered k) in (
        ap (λ r. (asking.feed_of r piece).rest) is ∙ fed_rest (wish_of k.peer) k.sent unsent (bytes_delivered k) on piece ∙ ap held (sym taken_more) ∙ sym (held_is (bytes_delivered k2)),
        ap₂ (λ r u. seen_as u (asking.feed_of r piece).answer) is used
            ∙ ap (λ (f : asking.Fed). seen_as t.used f.answer) (cond-false ((heard_by_bytes k).ended || (heard_by_bytes k).bad) (record { rest = held (bytes_delivered k); answer = Err ClientFault.Closed }) (asking.fed_open (held (bytes_delivered k)) t) (ap₂ (λ a b. a || b) on.0 on.1))
            ∙ item_seen (wish_of k.peer) k.sent (hears (bytes_delivered k)) on t.rest unsent t.used t.item
            ∙ ap (λ ys. let r = reading (wish_of k.peer) k.sent ys in Gave t.used (note_given r.bad (note_now (hears (bytes_delivered k)) ys r))) (sym heard_more)
            ∙ ap (λ u. Gave u (note_given (heard_by_bytes k2).bad (note_now (hears (bytes_delivered k)) (hears (bytes_delivered k2)) (heard_by_bytes k2)))) (sym used),
      )

  pub give_told : (heard_by_bytes k2).told ≡ tellings_in (asking.feed_of (client_rest out k) piece).answer ++ (heard_by_bytes k).told
  give_told =
      ap (λ bytes. (reading_of (wish_of k.peer) k.sent bytes).told) taken_more ∙ fed_told (wish_of k.peer) k.sent unsent (bytes_delivered k) on piece
      ∙ ap (λ r. tellings_in (asking.feed_of r piece).answer ++ (heard_by_bytes k).told) (sym (held_is (bytes_delivered k)))

-- what it keeps is enough for a submit: the rest after one that isn't refused
module _ (k : Connection) (out : ℕ) (q : RequestView) (few : out ≤ length (input (wish_of k.peer) k.sent)) where
  abbrev rest_as : Reading → List RequestView → List ℕ → asking.Rest
  rest_as rd w u =
      record {
        wish = wish_of k.peer;
        knows = record { version = rd.version; over = k.client_lost || (rd.ended || rd.bad); first = rd.count; phase = rd.phase; waiting = w };
        item = state at_client at_client.start (bytes_delivered k);
        unsent = u;
      }

  -- where the client knows the version that it wished
  pub submitted_same : (heard_by_bytes k).bad ≡ false → k.client_lost ≡ false → (heard_by_bytes k).version ≡ Some (wish_version (wish_of k.peer)) → asking.after_submit (client_rest out k) q ≡ client_rest out (record k { sent = k.sent ++ q ∷ [] })
  submitted_same good lives ver =
      ap₂ (λ w u. rest_as (heard_by_bytes k) w u) (waits k.client_lost lives)
      (ap (λ o. drop out (input (wish_of k.peer) k.sent) ++ asking.asking_bytes o q) ver
      ∙ sym (drop-append-le out (input (wish_of k.peer) k.sent) (request_bytes (wish_version (wish_of k.peer)) q) few)
      ∙ ap (drop out) (sym (input_more (wish_of k.peer) k.sent q)))
      ∙ ap (λ rd. rest_as rd (if k.client_lost then [] else drop rd.count (k.sent ++ q ∷ [])) (drop out (input (wish_of k.peer) (k.sent ++ q ∷ [])))) (sym (reading_later (wish_of k.peer) k.sent (q ∷ []) (hears (bytes_delivered k)) good))
    where
      waits : (b : Bool) → b ≡ false → (if b then [] else drop (heard_by_bytes k).count k.sent) ++ q ∷ [] ≡ (if b then [] else drop (heard_by_bytes k).count (k.sent ++ q ∷ []))
      waits false e = sym (drop-append-le (heard_by_bytes k).count k.sent (q ∷ []) (reading_count (wish_of k.peer) k.sent (hears (bytes_delivered k))))
      waits true e = cc
