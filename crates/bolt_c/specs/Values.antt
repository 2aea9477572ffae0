-- The values in the bytes of a message: the one that begins at a place, or the head of one that has members, by the table of markers.
use Rattle.std.specs.Prelude.{◌≡◌, ◌++◌, ℕ, ℤ, pos, ◌+◌, Bool, true, false, if◌then◌else◌, nat_lt, Option, Some, None, List, [], ◌∷◌, length, drop}
use Rattle.byteorder.specs.Endian.{big_number, twos_complement}
use Rattle.packstream.specs.declared.marker.Marker.{Marker}
use Rattle.packstream.specs.declared.marker.Marker.TheVariants as announces
use Rattle.packstream.specs.Markers.{width, size_len, marker}
use Rattle.packstream.specs.Faults.{size_in, needs}
use Rattle.packstream.specs.Good.{count, entry_count}
use Rattle.packstream.specs.Spelling.{SpellsTree, SpellsAll, SpellsEntries}
use Rattle.packstream.specs.Tree.{Tree, null, boolean, int, float, byte_string, text, list, dict, structure}
use Rattle.bolt_c.specs.declared.values.Kind.{Kind}
use Rattle.bolt_c.specs.declared.values.Kind.TheVariants as kind
use Rattle.bolt_c.specs.declared.values.Value.{Value}

-- the number of a kind
abbrev pub kind_code : Kind → ℕ
kind_code kind.Null = 0
kind_code kind.Bool = 1
kind_code kind.Int = 2
kind_code kind.Float = 3
kind_code kind.Bytes = 4
kind_code kind.Text = 5
kind_code kind.List = 6
kind_code kind.Dict = 7
kind_code kind.Structure = 8

-- a value with no bytes of its own and no members: an integer, or the bits of a float
abbrev pub plain : Kind → ℤ → ℕ → Value
plain k z bits =
    record { kind = kind_code k; tag = 0; integer = z; real = bits; at = 0; count = 0 }

-- one with so many members, entries or fields
abbrev pub counted : Kind → ℕ → ℕ → Value
counted k tag n =
    record { kind = kind_code k; tag = tag; integer = pos 0; real = 0; at = 0; count = n }

-- one of so many bytes, which stand at a place
abbrev pub placed : Kind → ℕ → ℕ → Value
placed k at n =
    record { kind = kind_code k; tag = 0; integer = pos 0; real = 0; at = at; count = n }

-- a truth as a number
abbrev pub truth : Bool → ℤ
truth false = pos 0
truth true = pos 1

-- a structure's tag, out of the bytes behind its marker
abbrev pub tag_in : List ℕ → ℕ
tag_in [] = 0
tag_in (tag ∷ rest) = tag

-- what a marker announces, by the bytes behind it, which stand at a place
abbrev pub announced : Marker → ℕ → List ℕ → Value
announced announces.Null at rest = plain kind.Null (pos 0) 0
announced (announces.Bool x) at rest = plain kind.Bool (truth x) 0
announced (announces.Tiny z) at rest = plain kind.Int z 0
announced (announces.Int w) at rest =
    plain kind.Int (twos_complement (width w) (big_number (width w) rest)) 0
announced announces.Float at rest = plain kind.Float (pos 0) (big_number 8 rest)
announced (announces.Bytes size) at rest = placed kind.Bytes (at + size_len size) (size_in size rest)
announced (announces.Text size) at rest = placed kind.Text (at + size_len size) (size_in size rest)
announced (announces.List size) at rest = counted kind.List 0 (size_in size rest)
announced (announces.Dict size) at rest = counted kind.Dict 0 (size_in size rest)
announced (announces.Struct n) at rest = counted kind.Structure (tag_in rest) n

-- A value and the place behind it: behind the bytes of a text, and behind the head of what has members. None if the byte is no marker, or it is cut
-- off.
abbrev pub head_by : Option Marker → ℕ → List ℕ → Option (Value × ℕ)
head_by None at rest = None
head_by (Some what) at rest = if nat_lt (length rest) (needs what rest) then None
    else Some (announced what at rest, at + needs what rest)

-- the value that begins with these bytes, of which the first stands at a place; none without a byte
abbrev pub head_from : ℕ → List ℕ → Option (Value × ℕ)
head_from at [] = None
head_from at (m ∷ rest) = head_by (marker m) (at + 1) rest

-- the value that begins at a place of these bytes, or the head of one that has members, with the place behind it
abbrev pub head_at : List ℕ → ℕ → Option (Value × ℕ)
head_at bytes at = head_from at (drop at bytes)

-- the value that a tree is; at: where the bytes of a text begin
abbrev pub value_of : Tree → ℕ → Value
value_of null at = plain kind.Null (pos 0) 0
value_of (boolean x) at = plain kind.Bool (truth x) 0
value_of (int z) at = plain kind.Int z 0
value_of (float bits) at = plain kind.Float (pos 0) bits
value_of (byte_string s) at = placed kind.Bytes at (length s)
value_of (text s) at = placed kind.Text at (length s)
value_of (list ts) at = counted kind.List 0 (count ts)
value_of (dict es) at = counted kind.Dict 0 (entry_count es)
value_of (structure tag ts) at = counted kind.Structure tag (count ts)

-- the bytes of a text, or of what is bytes itself
abbrev pub own_bytes : Tree → List ℕ
own_bytes (byte_string s) = s
own_bytes (text s) = s
own_bytes t = []

-- These bytes spell what is in a tree, one member after the other; of a dictionary each key and then its value.
abbrev pub SpellsMembers : Tree → List ℕ → Type 0
SpellsMembers (list ts) b = SpellsAll ts b
SpellsMembers (dict es) b = SpellsEntries es b
SpellsMembers (structure tag ts) b = SpellsAll ts b
SpellsMembers t b = b ≡ []

-- Where bytes that spell a tree stand behind others, its value is read there, and its members come next.
pub record ReadsHead (t : Tree) (before b after : List ℕ) : Type 0 where
  pub head : List ℕ
  pub members : List ℕ
  pub parts : b ≡ head ++ (own_bytes t ++ members)
  pub spelled : SpellsMembers t members
  pub read : head_at (before ++ (b ++ after)) (length before)
      ≡ Some (value_of t (length before + length head), length before + length head + length (own_bytes t))

-- So it is of every spelling of every tree.
abbrev pub HeadsTell : Type 0
HeadsTell = (t : Tree) (before b after : List ℕ) → SpellsTree t b → ReadsHead t before b after
