-- Which texts are keys of which dictionary, and the tree of a dictionary's keys.
use Rattle.std.specs.Prelude.{◌≡◌, ◌⊎◌, ◌≤◌, ◌<◌, ◌+◌, ◌*◌, ◌-◌, ◌/◌, ◌%◌, ◌^◌, ◌==◌, ℕ, zero, suc, Bool, false, if◌then◌else◌, nat_lt, List, [], ◌∷◌, length, take, drop, map, slice_get, Option, Some, None}
use Rattle.std.specs.Int.{bit_at}
use Rattle.packstream_incremental.specs.declared.texts.Key.{Key}
use Rattle.packstream_incremental.specs.declared.texts.Link.{Link}

-- where the bytes of a key are, and where the keys of its dictionary begin
pub record Name : Type 0 where
  pub start : ℕ
  pub len : ℕ
  pub first : ℕ

-- bytes of texts, and which of them are names
pub record Kept : Type 0 where
  pub bytes : List ℕ
  pub names : List Name

-- what contracts see of a key
abbrev pub name : Key → Name
name k = record { start = k.start; len = k.len; first = k.first }

-- what contracts see of keys, in their order
abbrev pub names_of : List Key → List Name
names_of keys = map name keys

-- the bytes of a name
abbrev pub text_of : List ℕ → Name → List ℕ
text_of bytes n = take n.len (drop n.start bytes)

-- The key s is one of the dictionary whose keys begin there.
pub record IsNamed (names : List Name) (bytes : List ℕ) (first : ℕ) (s : List ℕ) : Type 0 where
  pub index : ℕ
  pub found : Name
  pub there : slice_get names index ≡ Some found
  pub begins : found.first ≡ first
  pub text : text_of bytes found ≡ s

-- A name lies in so many bytes, and its dictionary's keys don't begin behind it.
abbrev pub ArePlaced : List Name → ℕ → Type 0
ArePlaced names len = (i : ℕ) (n : Name) → slice_get names i ≡ Some n
    → (n.first ≤ i) × (n.start + n.len ≤ len)

-- There is a key of the dictionary whose keys begin there.
pub record HasName (names : List Name) (first : ℕ) : Type 0 where
  pub index : ℕ
  pub found : Name
  pub there : slice_get names index ≡ Some found
  pub begins : found.first ≡ first

-- The next key is the first of its dictionary, or another key begins there.
abbrev pub IsRoot : List Name → ℕ → Type 0
IsRoot names first = (first ≡ length names) ⊎ HasName names first

-- ---- the tree, which proofs alone need

-- the digest of bytes, going on from that of the bytes before them
unfoldable pub digest_from : ℕ → List ℕ → ℕ
digest_from digest [] = digest
digest_from digest (b ∷ bs) =
    digest_from (((digest + (b + 1)) % 2 ^ 64 * 0x9E3779B97F4A7C15) % 2 ^ 64) bs

-- the digest of bytes, a number of 64 bits
unfoldable pub digest_of : List ℕ → ℕ
digest_of s = digest_from 0 s

-- a bit of a number is 1; the lowest is that at 0
abbrev pub bit_in : ℕ → ℕ → Bool
bit_in n i = bit_at n i == 1

-- a bit of a number is 1, if there is a number
abbrev pub bit_of : Option ℕ → ℕ → Bool
bit_of None i = false
bit_of (Some b) i = bit_in b i

-- the side of a key that has so many above it: a bit of its digest, the highest first, and then of its bytes;
-- true is right
unfoldable pub side_of : ℕ → List ℕ → ℕ → Bool
side_of digest s above =
    if nat_lt above 64 then bit_in digest (63 - above)
    else bit_of (slice_get s ((above - 64) / 8)) ((above - 64) % 8)

-- the key at `next` hangs on this side of the key at `at`, both of one dictionary
pub record HangsOn (keys : List Key) (first at : ℕ) (side : Bool) (next : ℕ) : Type 0 where
  pub upper : Key
  pub lower : Key
  pub upper_is : slice_get keys at ≡ Some upper
  pub upper_first : upper.first ≡ first
  pub linked : (if side then upper.right else upper.left) ≡ next
  pub later : at < next
  pub lower_is : slice_get keys next ≡ Some lower
  pub lower_first : lower.first ≡ first
  pub above : lower.above ≡ Some (record { key = at; is_right = side })

-- From a key with so many above it, the sides that s chooses lead in so many steps to a key of the dictionary.
abbrev pub Leads : List Key → ℕ → List ℕ → ℕ → ℕ → ℕ → ℕ → Type 0
Leads keys first s above at zero to = at ≡ to
Leads keys first s above at (suc steps) to =
    (next : ℕ) × HangsOn keys first at (side_of (digest_of s) s above) next
    × Leads keys first s (suc above) next steps to

-- the key at i is in its place: the first of its dictionary, or where its own sides lead
pub record IsInPlace (keys : List Key) (bytes : List ℕ) (i : ℕ) (k : Key) : Type 0 where
  pub root : Key
  pub root_is : slice_get keys k.first ≡ Some root
  pub root_first : root.first ≡ k.first
  pub behind : k.first ≤ i
  pub within : k.start + k.len ≤ length bytes
  pub digest : k.digest ≡ digest_of (text_of bytes (name k))
  pub steps : ℕ
  pub leads : Leads keys k.first (text_of bytes (name k)) 0 k.first steps i

-- Each key is in its place.
abbrev pub IsTree : List Key → List ℕ → Type 0
IsTree keys bytes = (i : ℕ) (k : Key) → slice_get keys i ≡ Some k → IsInPlace keys bytes i k

-- nothing hangs on that side yet
abbrev pub HangsNone : List Key → ℕ → ℕ → Bool → Type 0
HangsNone keys first at side = (next : ℕ) → HangsOn keys first at side next → ⊥

-- The sides of s lead from the root of its dictionary to the key of the link, and nothing hangs on its next side there.
pub record IsFreeAt (keys : List Key) (first : ℕ) (s : List ℕ) (link : Link) : Type 0 where
  pub steps : ℕ
  pub leads : Leads keys first s 0 first steps link.key
  pub side : link.is_right ≡ side_of (digest_of s) s steps
  pub none : HangsNone keys first link.key link.is_right
  pub upper : Key
  pub upper_is : slice_get keys link.key ≡ Some upper
  pub upper_first : upper.first ≡ first
  pub root : Key
  pub root_is : slice_get keys first ≡ Some root
  pub root_first : root.first ≡ first

-- where a key with this text is to hang: below the key to which its sides lead, or as the first
abbrev pub IsFree : List Key → ℕ → List ℕ → Option Link → Type 0
IsFree keys first s None = first ≡ length keys
IsFree keys first s (Some link) = IsFreeAt keys first s link

-- there is the key that the link is of
abbrev pub HasLink : List Key → Option Link → Type 0
HasLink keys None = Unit {0}
HasLink keys (Some link) = link.key < length keys

-- the key with this number hung on a side of a key
abbrev pub with_below : Bool → ℕ → Key → Key
with_below side number k =
    record k { left = if side then k.left else number; right = if side then number else k.right }

-- the keys, with the key of this number hung on a side of the one at a place
abbrev pub hung_at : ℕ → Bool → ℕ → List Key → List Key
hung_at at side number [] = []
hung_at zero side number (k ∷ keys) = with_below side number k ∷ keys
hung_at (suc at) side number (k ∷ keys) = k ∷ hung_at at side number keys

-- the keys, with the key of this number hung where a link says; without a link they stay as they are
abbrev pub hung : Option Link → ℕ → List Key → List Key
hung None number keys = keys
hung (Some link) number keys = hung_at link.key link.is_right number keys
