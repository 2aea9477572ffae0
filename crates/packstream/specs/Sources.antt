-- The items by which a source is read.
use Rattle.std.specs.Prelude.{ℕ, List, ◌∷◌, Option, Ok}
use Rattle.packstream.specs.declared.marker.Size.TheVariants.{Here}
use Rattle.packstream.specs.declared.source.Item.{Item}
use Rattle.packstream.specs.Tree.{Tree, null, boolean, int, float, byte_string, text}
use Rattle.packstream.specs.Reading.{Read, list_at, dict_at, struct_at}

-- The value that begins with this item, by how its members are read. `left` bytes are left from its marker on, and
-- `rest` are the bytes after the item.
abbrev pub after : Option (List ℕ → Read Tree) → ℕ → Item → List ℕ → Read Tree
after inner left Item.Null rest = Ok (null, rest)
after inner left (Item.Bool b) rest = Ok (boolean b, rest)
after inner left (Item.Int z) rest = Ok (int z, rest)
after inner left (Item.Float n) rest = Ok (float n, rest)
after inner left (Item.Bytes s) rest = Ok (byte_string s.now, rest)
after inner left (Item.Text s) rest = Ok (text s.now, rest)
after inner left (Item.List n) rest = list_at inner left (Here n) rest
after inner left (Item.Dict n) rest = dict_at inner left (Here n) rest
after inner left (Item.Struct n tag) rest = struct_at inner left n (tag ∷ rest)
