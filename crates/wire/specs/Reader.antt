-- Items of bytes, read one byte at a time: what is kept between two pieces, and what a piece completes. Every reading of a stream is
-- one walk over its bytes.
use Rattle.std.specs.Prelude.{◌≡◌, ℕ, suc, ◌+◌, Option, Some, None, option_to_list, List, [], ◌∷◌, ◌++◌, length, take, ◌<◌, ◌≤◌, if◌then◌else◌, nat_lt, slice_get, map}
use Rattle.std.specs.Option.{option_map}

-- R is what is kept of an unfinished item, X an item.
pub record Reader (R X : Type 0) : Type 0 where
  pub start : R
  pub byte : R → ℕ → R
  -- the item that the byte completes
  pub item : R → ℕ → Option X

-- The walk, by what a byte does to what is kept, by what is made of that and of the bytes after it, and by what is made if no
-- bytes are left. What is made may stop at the first item, or go on; it may be the items, or what is kept.
abbrev pub walk : {R D A : Type 0} → (R → ℕ → D) → (D → (R → A) → A) → (R → A) → R → List ℕ → A
walk does made ended r [] = ended r
walk does made ended r (b ∷ bs) = made (does r b) (λ s. walk does made ended s bs)

-- what a byte does to a reader: what is kept then, and the item that it completes
abbrev pub after_byte : {R X : Type 0} → Reader R X → R → ℕ → R × Option X
after_byte p r b = (p.byte r b, p.item r b)

-- what is kept after bytes
abbrev pub state : {R X : Type 0} → Reader R X → R → List ℕ → R
state p r bytes = walk (after_byte p) (λ d more. more d.0) (λ s. s) r bytes

-- the items that bytes complete, the oldest first
abbrev pub outputs : {R X : Type 0} → Reader R X → R → List ℕ → List X
outputs p r bytes = walk (after_byte p) (λ d more. option_to_list d.1 ++ more d.0) (λ s. []) r bytes

-- A piece is used up to the end of the item begun, else all of it.
pub record Took (R X : Type 0) : Type 0 where
  pub used : ℕ
  pub item : Option X
  pub rest : R

-- what is taken, with one more byte used before it
abbrev pub one_more : {R X : Type 0} → Took R X → Took R X
one_more t = record { used = suc t.used; item = t.item; rest = t.rest }

-- a byte that completes an item is all that is used, and r is kept; else t is taken after it
abbrev pub ends_at : {R X : Type 0} → R → Option X → Took R X → Took R X
ends_at r (Some x) t = record { used = 1; item = Some x; rest = r }
ends_at r None t = one_more t

-- of no bytes nothing is taken
abbrev pub nothing_taken : {R X : Type 0} → R → Took R X
nothing_taken r = record { used = 0; item = None; rest = r }

-- what a reader takes of a piece, after what it has kept: it stops at the first item
abbrev pub takes : {R X : Type 0} → Reader R X → R → List ℕ → Took R X
takes p r bytes =
    walk (after_byte p) (λ d more. ends_at d.0 d.1 (more d.0)) nothing_taken r bytes

-- where n bytes completed nothing, what comes after them
abbrev pub or_more : {R X : Type 0} → Took R X → Option X → Took R X → Took R X
or_more t (Some x) other = t
or_more t None other = other

-- what is taken of a piece in two parts: t of the first, of n bytes, and more if t has no item
abbrev pub then_takes : {R X : Type 0} → ℕ → Took R X → (R → Took R X) → Took R X
then_takes n t more = or_more t t.item
    (record {
      used = n + (more t.rest).used;
      item = (more t.rest).item;
      rest = (more t.rest).rest;
    })

-- What a reader does with pieces. It depends on what is kept alone.
pub record ReadsPieces (R X : Type 0) (p : Reader R X) : Type 0 where
  -- a stream in two parts
  pub states : (r : R) (a b : List ℕ) → state p r (a ++ b) ≡ state p (state p r a) b
  pub items : (r : R) (a b : List ℕ)
      → outputs p r (a ++ b) ≡ outputs p r a ++ outputs p (state p r a) b
  -- the bytes used of a piece complete at most one item, at the last of them, and what is kept then is what they leave
  pub within : (r : R) (piece : List ℕ) → (takes p r piece).used ≤ length piece
  pub item : (r : R) (piece : List ℕ)
      → outputs p r (take (takes p r piece).used piece) ≡ option_to_list (takes p r piece).item
  pub rest : (r : R) (piece : List ℕ)
      → state p r (take (takes p r piece).used piece) ≡ (takes p r piece).rest
  -- no fewer bytes complete anything
  pub early : (r : R) (piece : List ℕ) (k : ℕ) → k < (takes p r piece).used
      → outputs p r (take k piece) ≡ []
  -- a piece that completes nothing is used up
  pub all : (r : R) (piece : List ℕ) → (takes p r piece).item ≡ None
      → (takes p r piece).used ≡ length piece
  -- a piece in two parts does what it does whole
  pub parts : (r : R) (a b : List ℕ)
      → takes p r (a ++ b) ≡ then_takes (length a) (takes p r a) (λ s. takes p s b)

-- the items of bytes from the start
abbrev pub items_so_far : {R X : Type 0} → Reader R X → List ℕ → List X
items_so_far p bytes = outputs p p.start bytes

-- how many bytes of a piece a stream takes after others: up to the end of the item begun, told by its items alone
abbrev pub reach : {X : Type 0} → (List ℕ → List X) → List ℕ → List ℕ → ℕ
reach items taken [] = 0
reach items taken (b ∷ bs) =
    if nat_lt (length (items taken)) (length (items (taken ++ b ∷ []))) then 1
    else suc (reach items (taken ++ b ∷ []) bs)

-- Such bytes are those that a reader takes, and they complete the item that it takes.
pub record ReachesItems (R X : Type 0) (p : Reader R X) : Type 0 where
  pub used : (up piece : List ℕ)
      → reach (items_so_far p) up piece ≡ (takes p (state p p.start up) piece).used
  pub items : (up piece : List ℕ)
      → items_so_far p (up ++ take (reach (items_so_far p) up piece) piece)
      ≡ items_so_far p up ++ option_to_list (takes p (state p p.start up) piece).item
  pub rest : (up piece : List ℕ)
      → state p p.start (up ++ take (reach (items_so_far p) up piece) piece)
      ≡ (takes p (state p p.start up) piece).rest
  pub last : (up piece : List ℕ)
      → slice_get (items_so_far p (up ++ take (reach (items_so_far p) up piece) piece))
      (length (items_so_far p up)) ≡ (takes p (state p p.start up) piece).item

-- the same reader, with its items as what they mean
abbrev pub meaning_reader : {R X Y : Type 0} → (X → Y) → Reader R X → Reader R Y
meaning_reader f p = record {
  start = p.start;
  byte = p.byte;
  item = λ r b. option_map f (p.item r b);
}

-- It keeps what the other keeps, and completes what its items mean.
abbrev pub ReadsMapped : Type 0 → Type 0 → Type 0 → Type 0
ReadsMapped R X Y = (f : X → Y) (p : Reader R X) (r : R) (bytes : List ℕ)
    → (outputs (meaning_reader f p) r bytes ≡ map f (outputs p r bytes))
    × (state (meaning_reader f p) r bytes ≡ state p r bytes)
