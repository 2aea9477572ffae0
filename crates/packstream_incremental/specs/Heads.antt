-- A head: its marker, and the number after it.
use Rattle.std.specs.Prelude.{◌≡◌, ℕ, ℤ, ◌+◌, ◌*◌, List, [], ◌∷◌, Option, Some}
use Rattle.byteorder.specs.Endian.{big_bytes}
use Rattle.packstream.specs.declared.marker.Size.{Size}
use Rattle.packstream.specs.declared.marker.Size.TheVariants.{Here, After}
use Rattle.packstream.specs.declared.marker.Marker.{Marker}
use Rattle.packstream.specs.declared.marker.Marker.TheVariants as announces
use Rattle.packstream.specs.Markers.{width, marker, size_len}
use Rattle.packstream_incremental.specs.declared.progress.Part.{Part}
use Rattle.packstream_incremental.specs.declared.progress.Part.TheVariants as part

-- how many bytes the number after a marker takes
abbrev pub field : Option Marker → ℕ
field (Some (announces.Int w)) = width w
field (Some announces.Float) = 8
field (Some (announces.Bytes size)) = size_len size
field (Some (announces.Text size)) = size_len size
field (Some (announces.List size)) = size_len size
field (Some (announces.Dict size)) = size_len size
field (Some (announces.Struct n)) = 1
field m = 0

-- the length or count, where this number stands after the marker
abbrev pub size_with : Size → ℕ → ℕ
size_with (Here n) number = n
size_with (After w) number = number

-- how many bytes of a text or a byte string follow the number
abbrev pub body : Option Marker → ℕ → ℕ
body (Some (announces.Bytes size)) number = size_with size number
body (Some (announces.Text size)) number = size_with size number
body m number = 0

-- the number of which these bytes are the next ones, the highest first
abbrev pub number_from : ℕ → List ℕ → ℕ
number_from number [] = number
number_from number (b ∷ bs) = number_from (number * 256 + b) bs

-- a marker, and the bytes of the number after it
abbrev pub head_bytes : ℕ → ℕ → List ℕ
head_bytes m number = m ∷ big_bytes (field (marker m)) number

-- the bytes of a part, but those of its text or byte string
abbrev pub part_head : Part → List ℕ
part_head part.Nothing = []
part_head (part.Head m number has) = m ∷ big_bytes has number
part_head (part.Body m number lacks) = head_bytes m number

-- the byte is an integer
abbrev pub IsTiny : ℕ → Type 0
IsTiny b = (z : ℤ) × (marker b ≡ Some (announces.Tiny z))

-- each of these bytes is one
abbrev pub AreTiny : List ℕ → Type 0
AreTiny [] = Unit {0}
AreTiny (b ∷ bs) = IsTiny b × AreTiny bs
