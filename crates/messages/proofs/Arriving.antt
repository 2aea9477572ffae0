-- What arrives: of a client's bytes at a server, of a server's bytes at a client, and of any bytes by the whole messages that the grammar of chunks has of them.
use Rattle.messages.proofs.Words.{◌≡◌, ℕ, ◌-◌, Some, List, [], ◌∷◌, ◌++◌, length, take, refl, ap, ◌∙◌, arith, Option, None, append-nil, append_assoc, ◌⊎◌, if◌then◌else◌, nat_le, map, reverse, Version, V44, Wish, Only, offer_of, wish_version, version_answer, Item, Opening, item_bytes, bytes_in_order, within, AllCome, Noop, within_newest_first, Spoken, arrived, refusal, Unfinished, fresh, items_of, messages, texts-map, within-map, frames_fronts, offered_length, said_text-map, said_within-map, said_arrives, past_opening, take-nil, reverse-append, reverse-reverse, answer_length, Piece, reads_items, RequestView, request_spelling, response_spelling, Shook, Asked, arrival_of_offer, requests_in, arrivals, request_bytes, AreWritten, RequestsArrive, Heard, Chosen, Quiet, Told, heard_version, heard_in, heard_of, heard_bytes, IsSaid, IsSpoken, SaysArrive, SoFarArrives, NoVersionArrives, without_idle, requests_of, ArrivesWhole, cond_both}
use Rattle.messages.proofs.Sent.{request_fits, request_is, sent, sent_text, response_fits, response_is}

abbrev item_of : Version → RequestView → Item
item_of v m = sent (request_spelling v m)

all_come : (v : Version) (ms : List RequestView) → AreWritten v ms → AllCome (map (item_of v) ms)
all_come v [] h = tt
all_come v (m ∷ ms) h = grind (arith, request_fits v m h.0.0 h.0.1 h.0.2, all_come v ms h.1)

all_asked : (v : Version) (ms : List RequestView) → AreWritten v ms → requests_in v (map (item_of v) ms) ≡ map Asked ms
all_asked v [] h = refl
all_asked v (m ∷ ms) h = grind (arith, request_is v m h.0.0 h.0.2, all_asked v ms h.1)

written_within : (v : Version) (n : ℕ) (ms : List RequestView) → AreWritten v ms → AreWritten v (within (request_bytes v) n ms)
written_within v n [] h = tt
written_within v n (m ∷ ms) h = cond_both (nat_le (length (request_bytes v m)) n) (m ∷ within (request_bytes v) (n - length (request_bytes v m)) ms) [] (AreWritten v)
    (λ e. (h.0, written_within v (n - length (request_bytes v m)) ms h.1)) (λ e. tt)

-- an offer of a client of this product
offer_shakes : (wish : Wish) → arrival_of_offer (offer_of wish) ≡ Shook (Some (wish_version wish))
offer_shakes (Only V44) = refl
offer_shakes wish = refl

-- an offer of which this version is taken, then requests
offer_then : (start : List ℕ) (v : Version) → length start ≡ 20 → arrival_of_offer start ≡ Shook (Some v) → (ms : List RequestView) (n : ℕ) → AreWritten v ms
    → arrivals (take n (start ++ bytes_in_order (request_bytes v) ms)) ≡ (if nat_le (length start) n then Shook (Some v) ∷ map Asked (within (request_bytes v) (n - length start) ms) else [])
offer_then start v long shakes ms n h =
    let same = λ (m : RequestView). sent_text (request_spelling v m) in
    grind (
      arith,
      texts-map RequestView (request_bytes v) (item_of v) same ms,
      frames_fronts 20 start (map (item_of v) ms) n (omega arith) long (all_come v ms h),
      within-map RequestView (request_bytes v) (item_of v) same (n - length start) ms,
      all_asked v (within (request_bytes v) (n - length start) ms) (written_within v (n - length start) ms h),
      shakes,
    )

pub requests_arrive : RequestsArrive
requests_arrive wish ms n h = offer_then (offer_of wish) (wish_version wish) (offered_length wish) (offer_shakes wish) ms n h

abbrev item_heard : Version → Heard → Item
item_heard v (Chosen o) = Opening (version_answer o)
item_heard v Quiet = Noop
item_heard v (Told m) = sent (response_spelling v m)
item_heard v x = Opening []

text_heard : (v : Version) (x : Heard) → item_bytes (item_heard v x) ≡ heard_bytes v x
text_heard v x = grind (arith, sent_text)

answer_heard : (o : Option Version) → heard_version (version_answer o) ≡ Chosen o
answer_heard o = grind arith

-- each comes as an item of the wire
spoken : (v : Version) (xs : List Heard) → IsSpoken v xs → Spoken 4 (map (item_heard v) xs)
spoken v (Chosen o ∷ xs) h = (answer_length o, ap (map (item_heard v)) h.1)
spoken v (Quiet ∷ xs) h = spoken v xs h
spoken v (Told m ∷ xs) h = grind (arith, response_fits v m h.0.0 h.0.1 h.0.2, spoken v xs h.1)
spoken v xs h = absurd h

-- After a version, the oldest first.
abbrev AreSaid : Version → List Heard → Type 0
AreSaid v [] = Unit {0}
AreSaid v (Quiet ∷ xs) = AreSaid v xs
AreSaid v (Told m ∷ xs) = IsSaid v m × AreSaid v xs
AreSaid v (x ∷ xs) = ⊥

all_heard : (v : Version) (xs : List Heard) → AreSaid v xs → heard_in v (map (item_heard v) xs) ≡ xs
all_heard v (Told m ∷ xs) h = grind (arith, response_is v m h.0.0 h.0.2, all_heard v xs h.1)
all_heard v (Quiet ∷ xs) h = grind (arith, all_heard v xs h)
all_heard v xs h = grind arith

reverse-onto : {A : Type 0} (x : A) (xs ys : List A) → reverse (x ∷ xs) ++ ys ≡ reverse xs ++ x ∷ ys
reverse-onto x xs ys = ap (λ l. l ++ ys) (reverse-append (x ∷ []) xs) ∙ append_assoc (reverse xs) (x ∷ []) ys

-- the version, the newest first, and then what came after it, the oldest first
heard_then : (v : Version) (xs ys : List Heard) → IsSpoken v xs → AreSaid v ys → heard_of (reverse (map (item_heard v) xs) ++ map (item_heard v) ys) ≡ reverse xs ++ ys
heard_then v (Chosen o ∷ xs) ys h k = grind (arith, answer_heard (Some v), all_heard v ys k)
heard_then v (Quiet ∷ xs) ys h k = grind (arith, reverse-onto (item_heard v Quiet) (map (item_heard v) xs) (map (item_heard v) ys), reverse-onto Quiet xs ys, heard_then v xs (Quiet ∷ ys) h k)
heard_then v (Told m ∷ xs) ys h k = grind (arith, reverse-onto (item_heard v (Told m)) (map (item_heard v) xs) (map (item_heard v) ys), reverse-onto (Told m) xs ys, heard_then v xs (Told m ∷ ys) h.1 (h.0, k))
heard_then v xs ys h k = absurd h

heard_back : (v : Version) (xs : List Heard) → (xs ≡ []) ⊎ IsSpoken v xs → reverse (heard_of (reverse (map (item_heard v) xs))) ≡ xs
heard_back v xs h = grind (arith, append-nil (reverse (map (item_heard v) xs)), heard_then v xs [], append-nil (reverse xs), reverse-reverse xs)

-- what lies whole in a front is the older part, or nothing
front_spoken : (v : Version) (text : Heard → List ℕ) (n : ℕ) (xs : List Heard) → IsSpoken v xs → (within_newest_first text n xs ≡ []) ⊎ IsSpoken v (within_newest_first text n xs)
front_spoken v text n [] h = absurd h
front_spoken v text n (x ∷ xs) h = grind (arith, front_spoken v text n xs)

pub says_arrive : SaysArrive
says_arrive v xs n h = grind (
  arith,
  said_text-map Heard (heard_bytes v) (item_heard v) (text_heard v) xs,
  said_arrives (map (item_heard v) xs) n (spoken v xs h),
  reverse-reverse {A = Item},
  said_within-map Heard (heard_bytes v) (item_heard v) (text_heard v) n xs,
  heard_back v (within_newest_first (heard_bytes v) n xs) (front_spoken v (heard_bytes v) n xs h),
)

pub so_far_arrives : SoFarArrives
so_far_arrives v xs n h = grind (arith, take-nil {A = ℕ} n, says_arrive v xs n)

pub no_version_arrives : NoVersionArrives
no_version_arrives n = grind (arith, said_arrives (Opening (version_answer None) ∷ []) n (refl, refl), reverse-reverse {A = Item})

-- the refusal comes last
asked_whole : (v : Version) (ps : List Piece) (s : Unfinished) → without_idle (requests_in v (arrived ps ++ refusal s)) ≡ requests_of v (messages ps) s.too_big
asked_whole v [] s = grind arith
asked_whole v (p ∷ ps) s = grind (arith, asked_whole v ps s)

pub arrives_whole : ArrivesWhole
arrives_whole offer bytes v len shakes =
    let seen = items_of fresh bytes in grind (arith, past_opening 20 offer bytes (omega arith) len, (reads_items bytes).0, asked_whole v seen.items seen.rest)
