-- What arrives by the bytes that a feed takes: one more arrival where an item ends, and none else.
use Rattle.std.proofs.Common.{◌≡◌, refl, sym, ◌∙◌, ap, subst, ℕ, Bool, true, false, ◌⊎◌, inl, inr, Option, Some, None, Result, Ok, Err, List, [], ◌∷◌, ◌++◌, take, option_map, option_to_list, if◌then◌else◌}
use Rattle.wire.specs.declared.Version.{Version}
use Rattle.wire.specs.Prelude.{Took, state, takes, Item, Opening, Message, Opened, at_server, items_received}
use Rattle.messages.specs.declared.fault.MsgFault.{MsgFault}
use Rattle.messages.specs.Prelude.{RequestView, request_of, Arrival, Shook, NoMagic, Asked, Unread, TooLong, version_shaken, server_end, arrival_of_offer, then_request, requests_in, after_shake, arrivals_of, arrivals}
use Rattle.server.specs.Prelude.{arrives, places_of}
use Rattle.server_session.specs.Prelude.{arrival_by, unread_among}
use Rattle.wire.proofs.Opening.{IsChunk}
use Rattle.messages_deframer.proofs.Arriving.{Next, opens, follows, items_then, next_item, item_adds}

-- what stands for no request takes a slot
pub unread_placed : (xs : List Arrival) → unread_among (places_of xs) ≡ unread_among xs
unread_placed [] = refl
unread_placed (Unread e ∷ xs) = refl
unread_placed (TooLong ∷ xs) = refl
unread_placed (x ∷ xs) = unread_placed xs

pub placed-append : (xs ys : List Arrival) → places_of (xs ++ ys) ≡ places_of xs ++ places_of ys
placed-append [] ys = refl
placed-append (Asked q ∷ xs) ys = ap (λ z. Asked q ∷ z) (placed-append xs ys)
placed-append (Unread e ∷ xs) ys = ap (λ z. Unread e ∷ z) (placed-append xs ys)
placed-append (TooLong ∷ xs) ys = ap (λ z. TooLong ∷ z) (placed-append xs ys)
placed-append (x ∷ xs) ys = placed-append xs ys

-- a chunk alone is what arrives of it
chunk_is : (v : Version) (x : Item) → IsChunk x → requests_in v (x ∷ []) ≡ arrives v x ∷ []
chunk_is v (Opening b) i = absurd i
chunk_is v (Message b) i = go (request_of v b)
  where
    go : (r : Result RequestView MsgFault) → then_request r [] ≡ arrival_by r ∷ []
    go (Ok q) = refl
    go (Err e) = refl
chunk_is v _ i = refl

abbrev head_or : Arrival → List Arrival → Arrival
head_or a [] = a
head_or a (x ∷ xs) = x

-- Of a stream of chunks comes no handshake.
abbrev pub is_shake : Arrival → Bool
is_shake (Shook o) = true
is_shake NoMagic = true
is_shake _ = false

no_shake : (v : Version) (y : Item) → IsChunk y → is_shake (arrives v y) ≡ false
no_shake v (Opening b) i = absurd i
no_shake v (Message b) i = go (request_of v b)
  where
    go : (r : Result RequestView MsgFault) → is_shake (arrival_by r) ≡ false
    go (Ok q) = refl
    go (Err x) = refl
no_shake v _ i = refl

-- what a shaking is
shaken_is : (bytes : List ℕ) → is_shake (arrival_of_offer bytes) ≡ true
shaken_is bytes = go _ _
  where
    go : (o : Option Version) (b : Bool) → is_shake (if b then Shook o else NoMagic) ≡ true
    go o true = refl
    go o false = refl

-- Nothing has arrived yet; or an offer has, of which this version was taken.
abbrev pub Stage : List ℕ → Version → Type 0
Stage bytes v = (arrivals bytes ≡ []) ⊎ ((rest : List Arrival) × (arrivals bytes ≡ Shook (Some v) ∷ rest))

-- what a piece's item is, where it is one: a handshake where nothing has arrived, and after one none
abbrev pub IsNext : List Arrival → Option Arrival → Type 0
IsNext xs None = Unit {0}
IsNext [] (Some a) = is_shake a ≡ true
IsNext (x ∷ xs) (Some a) = is_shake a ≡ false

module _ (bytes : List ℕ) (v : Version) (stage : Stage bytes v) (readable : unread_among (arrivals bytes) ≡ false) (piece : List ℕ) where
  abbrev t : Took Opened Item
  t = takes at_server (state at_server at_server.start bytes) piece

  -- an item that ends is one more arrival
  pub one_arrives : arrivals_of (items_received bytes ++ option_to_list t.item) ≡ arrivals_of (items_received bytes) ++ option_to_list (option_map (arrives v) t.item)
  one_arrives =
      item_adds RequestView Arrival server_end (λ xs. unread_among xs ≡ false) (λ xs h. h) (λ m xs h. h) (λ f h. absurd cc) (λ h. absurd cc) (arrives v) (λ b. refl) (items_received bytes) t.item (next_item 20 bytes piece)
      (λ b ys e. let sh = shook stage b ys e in record {
        version = v;
        told = ap version_shaken sh;
        good = sym (ap (λ a. unread_among (a ∷ after_shake a ys)) sh) ∙ sym (ap (λ z. unread_among (arrivals_of z)) e) ∙ readable;
        alone = chunk_is v;
      })
    where
      shook : Stage bytes v → (b : List ℕ) (ys : List Item) → items_received bytes ≡ Opening b ∷ ys → arrival_of_offer b ≡ Shook (Some v)
      shook (inl h) b ys e = let no : arrival_of_offer b ∷ after_shake (arrival_of_offer b) ys ≡ [] = sym (ap arrivals_of e) ∙ h in absurd (cc)
      shook (inr h) b ys e = ap (head_or (arrival_of_offer b)) (sym (ap arrivals_of e) ∙ h.1)

  -- what arrives of the bytes with those that are used
  pub more_arrives : arrivals (bytes ++ take t.used piece) ≡ arrivals bytes ++ option_to_list (option_map (arrives v) t.item)
  more_arrives = ap arrivals_of (items_then 20 bytes piece) ∙ one_arrives

  -- and what it is: a handshake first, and then none
  pub next_arrival : IsNext (arrivals bytes) (option_map (arrives v) t.item)
  next_arrival = go t.item (next_item 20 bytes piece)
    where
      go : (o : Option Item) → Next (items_received bytes) o → IsNext (arrivals bytes) (option_map (arrives v) o)
      go None next = tt
      go (Some x) (opens e m) = subst (λ z. IsNext (arrivals_of z) (Some (arrives v x))) (sym e) (subst (λ z. is_shake (arrives v z) ≡ true) (sym m.1) (shaken_is m.0))
      go (Some x) (follows b ys e c m) = subst (λ z. IsNext (arrivals_of z) (Some (arrives v x))) (sym e) (no_shake v x m)
