-- Which streams fail, and that it is told.
use Rattle.std.specs.Prelude.{◌≡◌, Bool, true, Result, Ok, Err}

-- a stream that was sound is sound: it has failed only if it had before
abbrev pub StaysSound : Bool → Bool → Type 0
StaysSound had has = has ≡ true → had ≡ true

-- it is so, unless this fault is told
abbrev pub UnlessTold : {T E : Type 0} → Result T E → E → Type 0 → Type 0
UnlessTold (Ok x) fault So = So
UnlessTold (Err e) fault So = (e ≡ fault → ⊥) → So
