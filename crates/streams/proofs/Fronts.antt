-- What a sink took before it failed, in parts.
use Rattle.std.proofs.Common.{ap, ◌∙◌, ℕ, List, [], ◌++◌, append_assoc, append-nil, Option}
use Rattle.std.specs.Io.KnownBytes.{Appends}
use Rattle.std.proofs.KnownBytes.{Appends-trans}
use Rattle.streams.specs.Prelude.{AppendsFront}

-- what a sink took whole
pub front_whole : (a b : Option (List ℕ)) (bs : List ℕ) → Appends a b bs → AppendsFront a b bs
front_whole a b bs h = (bs, [], append-nil bs, h)

-- what it took before, and a beginning of what comes after
pub front_after : (a b c : Option (List ℕ)) (bs cs : List ℕ) → Appends a b bs → AppendsFront b c cs → AppendsFront a c (bs ++ cs)
front_after a b c bs cs p q = (bs ++ q.0, q.1, append_assoc bs q.0 q.1 ∙ ap (λ z. bs ++ z) q.2, Appends-trans a b c bs q.0 p q.3)
