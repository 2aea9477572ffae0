-- What the bytes at the front of a piece are, from a place in a stream of chunks ("Bolt message chunking").
use Rattle.std.specs.Prelude.{◌≡◌, ℕ, ◌+◌, ◌-◌, ◌*◌, ◌<◌, ◌==◌, nat_lt, min, if◌then◌else◌, List, [], ◌∷◌, length, true, false, Option, Some, None}
use Rattle.wire.specs.declared.parts.Cut.{Cut}
use Rattle.wire.specs.declared.parts.Part.{Part}
use Rattle.wire.specs.declared.parts.Part.TheVariants as part
use Rattle.wire.specs.Place.{Place, start}
use Rattle.wire.specs.Limits.{max_message}

-- An answer, and the place after its bytes.
pub record Bite : Type 0 where
  pub cut : Cut
  pub place : Place

-- an answer by the number of bytes used, what they are, and the place after them
abbrev pub bite : ℕ → Part → Place → Bite
bite used what place = record { cut = record { used = used; what = what }; place = place }

-- a chunk has begun
abbrev pub inside : ℕ → ℕ → Place
inside sum lacks = record { header = None; lacks = lacks; sum = sum; too_big = false }

-- a header has taken the message past the limit
abbrev pub past : ℕ → Place
past sum = record { header = None; lacks = 0; sum = sum; too_big = true }

-- a length is known: 0 ends a message, and is a no-op if none has begun
abbrev pub on_length : ℕ → ℕ → ℕ → Bite
on_length used sum n = if n == 0 then bite used (if sum == 0 then part.Noop else part.End) start
    else (if nat_lt max_message (sum + n) then bite used part.TooBig (past sum)
    else bite used part.Head (inside (sum + n) n))

-- both bytes of a header, big-endian
abbrev pub whole_header : ℕ → ℕ → ℕ → ℕ → Bite
whole_header used sum high low = on_length used sum (high * 256 + low)

-- the bytes of a header, as many as there are
abbrev pub on_header : Place → Option ℕ → List ℕ → Bite
on_header p header [] = bite 0 part.Head p
on_header p (Some high) (low ∷ more) = whole_header 1 p.sum high low
on_header p None (high ∷ []) = bite 1 part.Head (record p { header = Some high })
on_header p None (high ∷ low ∷ more) = whole_header 2 p.sum high low

-- the data of the chunk, as much as there is
abbrev pub on_data : Place → List ℕ → Bite
on_data p [] = bite 0 part.Head p
on_data p (b ∷ bs) = bite (min p.lacks (length (b ∷ bs))) part.Data
    (record p { lacks = p.lacks - min p.lacks (length (b ∷ bs)) })

-- what is of one kind at the front of a piece
abbrev pub cut_at : Place → List ℕ → Bite
cut_at p piece = if p.too_big then bite 0 part.TooBig p
    else (if p.lacks == 0 then on_header p p.header piece else on_data p piece)

-- The piece is data of the chunk alone, and this is the place behind it.
pub record IsData (old : Place) (piece : List ℕ) (new : Place) : Type 0 where
  pub some : 0 < length piece
  pub cut : (cut_at old piece).cut ≡ record { used = length piece; what = part.Data }
  pub place : new ≡ (cut_at old piece).place
