-- What an end takes of more bytes: what it took before, and more, or nothing more.
use Rattle.messages.proofs.Words.{arith, append-nil, ◌≡◌, ◌⊎◌, inl, inr, Option, Some, None, Result, Ok, Err, List, [], ◌∷◌, ◌++◌, refl, ap, ℕ, ◌∙◌, append_assoc, reverse, Version, Item, Opening, Noop, Message, Opened, at_server, items_received, at_client, items_heard, state, outputs, MsgFault, outputs-append, reverse-append, reverse-reverse, End, then_read, taken_in, taken_by, taken, Arrival, server_end, IsLast, ArrivalsGoOn, NothingFollows, Heard, client_end, heard_of, HearsGoOn, arrivals, IsLastHeard, NothingMoreHeard, RequestView, ResponseView}

-- Something after which nothing is read is among them.
abbrev pub Ended : {A : Type 0} → (A → Type 0) → List A → Type 0
Ended IsLast [] = ⊥
Ended IsLast (a ∷ xs) = IsLast a ⊎ Ended IsLast xs

pub ended_at : {A : Type 0} (IsLast : A → Type 0) (before after : List A) (last : A) → IsLast last → Ended IsLast (before ++ last ∷ after)
ended_at IsLast [] after last h = inl h
ended_at IsLast (a ∷ before) after last h = inr (ended_at IsLast before after last h)

-- a list that begins with this one, and has no more where this one has ended
abbrev Grows : {A : Type 0} → (A → Type 0) → List A → List A → Type 0
Grows {A} IsLast xs zs = (rest : List A) × (zs ≡ xs ++ rest) × (Ended IsLast xs → rest ≡ [])

goes_on : {A : Type 0} (IsLast : A → Type 0) (a : A) (xs zs : List A) → (IsLast a → ⊥) → Grows IsLast xs zs → Grows IsLast (a ∷ xs) (a ∷ zs)
goes_on IsLast a xs zs n h = grind (arith, h)

-- no no-op, no message and nothing with a version is the last
module _ (M A : Type 0) (e : End M A) (IsLast : A → Type 0) (idle : IsLast e.idle → ⊥) (message : (m : M) → IsLast (e.message m) → ⊥) (opened : (a : A) (v : Version) → e.version a ≡ Some v → IsLast a → ⊥) where
  in_more : (v : Version) (xs ys : List Item) → Grows IsLast (taken_in e v xs) (taken_in e v (xs ++ ys))
  in_more v [] ys = (taken_in e v ys, refl, λ h. absurd h)
  in_more v (Noop ∷ xs) ys = goes_on IsLast e.idle (taken_in e v xs) (taken_in e v (xs ++ ys)) idle (in_more v xs ys)
  in_more v (Message b ∷ xs) ys = go (e.read v b) (in_more v xs ys)
    where
      go : (r : Result M MsgFault) → Grows IsLast (taken_in e v xs) (taken_in e v (xs ++ ys)) → Grows IsLast (then_read e r (taken_in e v xs)) (then_read e r (taken_in e v (xs ++ ys)))
      go (Ok m) h = goes_on IsLast (e.message m) (taken_in e v xs) (taken_in e v (xs ++ ys)) (message m) h
      go (Err f) h = ([], refl, λ x. refl)
  in_more v xs ys = ([], refl, λ h. refl)

  by_more : (a : A) (o : Option Version) → e.version a ≡ o → (xs ys : List Item) → Grows IsLast (a ∷ taken_by e o xs) (a ∷ taken_by e o (xs ++ ys))
  by_more a (Some v) s xs ys = goes_on IsLast a (taken_in e v xs) (taken_in e v (xs ++ ys)) (opened a v s) (in_more v xs ys)
  by_more a None s xs ys = ([], refl, λ h. refl)

  -- it is what was taken before, and more, unless that has ended
  pub items_more : (xs ys : List Item) → Grows IsLast (taken e xs) (taken e (xs ++ ys))
  items_more [] ys = (taken e ys, refl, λ h. absurd h)
  items_more (Opening bytes ∷ xs) ys = by_more (e.opening bytes) (e.version (e.opening bytes)) refl xs ys
  items_more xs ys = ([], refl, λ h. refl)

-- after a version that is taken requests are read
arrive_more : (bytes more : List ℕ) → Grows IsLast (arrivals bytes) (arrivals (bytes ++ more))
arrive_more bytes more = rw (outputs-append Opened Item at_server at_server.start bytes more)
    (items_more RequestView Arrival server_end IsLast (λ x. x) (λ m x. x) (λ a v e h. grind arith) (items_received bytes) (outputs at_server (state at_server at_server.start bytes) more))

pub arrivals_go_on : ArrivalsGoOn
arrivals_go_on bytes more = let h = arrive_more bytes more in (h.0, h.1)

pub nothing_follows : NothingFollows
nothing_follows bytes more before after last h e = grind (arith, arrive_more bytes more, ended_at IsLast before after last h, append-nil (arrivals bytes))

-- after a version that is answered responses are read
heard_more : (bytes more : List ℕ) → Grows IsLastHeard (heard_of (items_heard bytes)) (heard_of (items_heard (bytes ++ more)))
heard_more bytes more = rw (outputs-append Opened Item at_client at_client.start bytes more)
    (items_more ResponseView Heard client_end IsLastHeard (λ x. x) (λ m x. x) (λ a v e h. grind arith) (items_heard bytes) (outputs at_client (state at_client at_client.start bytes) more))

pub hears_go_on : HearsGoOn
hears_go_on bytes more = let h = heard_more bytes more in (reverse h.0, ap reverse h.1 ∙ reverse-append (heard_of (items_heard bytes)) h.0)

pub nothing_more_heard : NothingMoreHeard
nothing_more_heard bytes more newer older last h e = grind (
  arith,
  heard_more bytes more,
  reverse-reverse (heard_of (items_heard bytes)),
  reverse-append newer (last ∷ older),
  reverse-append (last ∷ []) older,
  append_assoc (reverse older) (last ∷ []) (reverse newer),
  ended_at IsLastHeard (reverse older) (reverse newer) last h,
  append-nil (heard_of (items_heard bytes)),
)
