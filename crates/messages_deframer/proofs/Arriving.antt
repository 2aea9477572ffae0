-- What comes of a stream by the bytes that are used of a piece: what opens it, and then chunks.
use Rattle.std.proofs.Common.{◌≡◌, refl, sym, ◌∙◌, ap, subst, ℕ, Option, Some, None, option_map, option_to_list, Result, Ok, Err, List, [], ◌∷◌, ◌++◌, take, append-nil}
use Rattle.wire.specs.declared.Version.{Version}
use Rattle.wire.specs.Prelude.{Took, state, outputs, takes, Item, Opening, Noop, Message, TooBig, Opened, opening, opening_reader}
use Rattle.wire.proofs.Opening.{AreChunks, IsChunk, MayBeChunk, MayOpen, Came, part, whole, came, opening_taken, chunk_taken}
use Rattle.wire.proofs.Readers.{outputs-append, state-append, takes_outputs}
use Rattle.messages.specs.declared.fault.MsgFault.{MsgFault}
use Rattle.messages.specs.Prelude.{End, then_read, taken_in, taken_by, taken}

-- What ends with a piece, by what had come before it: what opens the stream where nothing had, and else a chunk.
pub data Next (xs : List Item) (o : Option Item) : Type 0 where
  opens : xs ≡ [] → MayOpen o → Next xs o
  follows : (bytes : List ℕ) (ys : List Item) → xs ≡ Opening bytes ∷ ys → AreChunks ys → MayBeChunk o → Next xs o

module _ (k : ℕ) (bytes piece : List ℕ) where
  abbrev before : List Item
  before = outputs (opening_reader k) (opening []) bytes

  abbrev t : Took Opened Item
  t = takes (opening_reader k) (state (opening_reader k) (opening []) bytes) piece

  -- what has come then
  pub items_then : outputs (opening_reader k) (opening []) (bytes ++ take t.used piece) ≡ before ++ option_to_list t.item
  items_then =
      outputs-append Opened Item (opening_reader k) (opening []) bytes (take t.used piece)
      ∙ ap (λ xs. before ++ xs) (takes_outputs Opened Item (opening_reader k) (state (opening_reader k) (opening []) bytes) piece).0

  -- and what is unfinished
  pub rest_then : state (opening_reader k) (opening []) (bytes ++ take t.used piece) ≡ t.rest
  rest_then =
      state-append Opened Item (opening_reader k) (opening []) bytes (take t.used piece)
      ∙ (takes_outputs Opened Item (opening_reader k) (state (opening_reader k) (opening []) bytes) piece).1

  pub next_item : Next before t.item
  next_item = go (came k [] bytes)
    where
      go : Came k before (state (opening_reader k) (opening []) bytes) → Next before (takes (opening_reader k) (state (opening_reader k) (opening []) bytes) piece).item
      go (part b e s) = subst (λ r. Next before (takes (opening_reader k) r piece).item) (sym s) (opens e (opening_taken k b piece))
      go (whole b ys u e c s) = subst (λ r. Next before (takes (opening_reader k) r piece).item) (sym s) (follows b ys e c (chunk_taken k u piece))

-- What an end takes of one more item, where nothing that it took is the last: what the item means.
module _ (M A : Type 0) (e : End M A) (GoOn : List A → Type 0) (idle : (xs : List A) → GoOn (e.idle ∷ xs) → GoOn xs) (message : (m : M) (xs : List A) → GoOn (e.message m ∷ xs) → GoOn xs) (unread : (f : MsgFault) → GoOn (e.unread f ∷ []) → ⊥) (past : GoOn (e.past ∷ []) → ⊥)
    (means : Item → A) (opened : (b : List ℕ) → e.opening b ≡ means (Opening b)) where
  -- messages are read at this version, and these items of chunks were taken
  pub record IsOpen (b : List ℕ) (ys : List Item) : Type 0 where
    pub version : Version
    pub told : e.version (e.opening b) ≡ Some version
    pub good : GoOn (taken_in e version ys)
    pub alone : (x : Item) → IsChunk x → taken_in e version (x ∷ []) ≡ means x ∷ []

  chunk_adds : (v : Version) (ys : List Item) (x : Item) → taken_in e v (x ∷ []) ≡ means x ∷ [] → AreChunks ys → GoOn (taken_in e v ys) → taken_in e v (ys ++ x ∷ []) ≡ taken_in e v ys ++ means x ∷ []
  chunk_adds v [] x is c h = is
  chunk_adds v (Opening b ∷ ys) x is c h = absurd c.0
  chunk_adds v (Noop ∷ ys) x is c h = ap (λ z. e.idle ∷ z) (chunk_adds v ys x is c.1 (idle (taken_in e v ys) h))
  chunk_adds v (TooBig ∷ ys) x is c h = absurd (past h)
  chunk_adds v (Message b ∷ ys) x is c h = go (e.read v b) h (chunk_adds v ys x is c.1)
    where
      go : (r : Result M MsgFault) → GoOn (then_read e r (taken_in e v ys)) → (GoOn (taken_in e v ys) → taken_in e v (ys ++ x ∷ []) ≡ taken_in e v ys ++ means x ∷ []) → then_read e r (taken_in e v (ys ++ x ∷ [])) ≡ then_read e r (taken_in e v ys) ++ means x ∷ []
      go (Ok m) h more = ap (λ z. e.message m ∷ z) (more (message m (taken_in e v ys) h))
      go (Err f) h more = absurd (unread f h)

  none_by : (o : Option Version) → taken_by e o [] ≡ []
  none_by None = refl
  none_by (Some v) = refl

  pub item_adds : (xs : List Item) (o : Option Item) → Next xs o → ((b : List ℕ) (ys : List Item) → xs ≡ Opening b ∷ ys → IsOpen b ys) → taken e (xs ++ option_to_list o) ≡ taken e xs ++ option_to_list (option_map means o)
  item_adds xs None next open_at = ap (taken e) (append-nil xs) ∙ sym (append-nil (taken e xs))
  item_adds xs (Some x) (opens none m) open_at =
      subst (λ z. taken e (z ++ x ∷ []) ≡ taken e z ++ means x ∷ []) (sym none)
      (subst (λ z. taken e (z ∷ []) ≡ means z ∷ []) (sym m.1) (ap (λ z. e.opening m.0 ∷ z) (none_by (e.version (e.opening m.0))) ∙ ap (λ z. z ∷ []) (opened m.0)))
  item_adds xs (Some x) (follows b ys some c m) open_at =
      let is : IsOpen b ys = open_at b ys some in
      subst (λ z. taken e (z ++ x ∷ []) ≡ taken e z ++ means x ∷ []) (sym some)
      (subst (λ w. e.opening b ∷ taken_by e w (ys ++ x ∷ []) ≡ (e.opening b ∷ taken_by e w ys) ++ means x ∷ []) (sym is.told) (ap (λ z. e.opening b ∷ z) (chunk_adds is.version ys x (is.alone x m) c is.good)))
