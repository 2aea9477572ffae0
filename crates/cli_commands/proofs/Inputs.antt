-- An input of which nothing is read.
use Rattle.std.proofs.Common.{refl, List, [], ℕ, Some, None, Option}
use Rattle.std.specs.Io.KnownBytes.{Consumes}

pub reads_none : (left : Option (List ℕ)) → (front : List ℕ) × Consumes left left front
reads_none None = ([], tt)
reads_none (Some xs) = ([], refl)
