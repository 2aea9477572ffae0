-- What cells are, kind by kind.
use Rattle.std.specs.Prelude.{◌≡◌, ℕ, ℤ, Bool, false, if◌then◌else◌, Option, None, Some, List, ◌∷◌, Vec, string_bytes}
use Rattle.std.specs.declared.alloc.Global.{Global}
use Rattle.std.specs.Str.{bytes_eq}
use Rattle.structures.specs.declared.Cell.{Cell}
use Rattle.structures.specs.declared.Cell.TheVariants as cell
use Rattle.structures.specs.declared.Cell.TheVariants.{List as ListCase}

-- each has a value of its own kind alone
abbrev pub bool_in : Cell → Option Bool
bool_in (cell.Bool b) = Some b
bool_in c = None

abbrev pub int_in : Cell → Option ℤ
int_in (cell.Int z) = Some z
int_in c = None

-- the 64 bits of a float
abbrev pub float_in : Cell → Option ℕ
float_in (cell.Float bits) = Some bits
float_in c = None

abbrev pub text_in : Cell → Option (List ℕ)
text_in (cell.Text s) = Some (string_bytes s)
text_in c = None

abbrev pub bytes_in : Cell → Option (List ℕ)
bytes_in (cell.Bytes v) = Some v.items
bytes_in c = None

-- the members of a list, and none of any other kind
abbrev pub HasMembers : Cell → Option (List Cell) → Type 0
HasMembers c None = (v : Vec Cell Global) → c ≡ ListCase v → ⊥
HasMembers c (Some cells) = (v : Vec Cell Global) × (c ≡ ListCase v) × (cells ≡ v.items)

-- it is this text
abbrev pub is_text : List ℕ → Cell → Bool
is_text name (cell.Text s) = bytes_eq (string_bytes s) name
is_text name c = false

-- the member of a row under the first field of this name
abbrev pub column : List ℕ → List Cell → List Cell → Option Cell
column name (f ∷ fs) (c ∷ cs) = if is_text name f then Some c else column name fs cs
column name fs cs = None
