-- The bytes of a source and of a sink, and what calls move of them.
use Rattle.std.specs.Prelude.{ℕ, List, Option}
use Rattle.std.specs.Io.KnownBytes.{Appends, Consumes}
use Rattle.streams.specs.Fronts.{AppendsFront}
use Rattle.streams.specs.Moving.{Grows, MovesFront}

-- a source: all bytes that its reads have given, in order, and the bytes that are left, if they are known
pub record SourceView : Type 0 where
  pub given : List ℕ
  pub left : Option (List ℕ)

-- a sink: all bytes that its writes have taken, in order, and the bytes that it holds, if they are known
pub record SinkView : Type 0 where
  pub put : List ℕ
  pub taken : Option (List ℕ)

abbrev pub source_view : {I : Type 0} → (I → List ℕ) → (I → Option (List ℕ)) → I → SourceView
source_view given left s = record { given = given s; left = left s }

abbrev pub sink_view : {O : Type 0} → (O → List ℕ) → (O → Option (List ℕ)) → O → SinkView
sink_view put taken s = record { put = put s; taken = taken s }

-- Reads gave exactly these bytes: the source's history grew by them, and a known rest lost them.
pub record GivesBytes (from to : SourceView) (bytes : List ℕ) : Type 0 where
  pub grows : Grows from.given to.given bytes
  pub known : Consumes from.left to.left bytes

-- Writes put exactly these bytes: the sink's history grew by them, and so did known contents.
pub record PutsBytes (from to : SinkView) (bytes : List ℕ) : Type 0 where
  pub grows : Grows from.put to.put bytes
  pub known : Appends from.taken to.taken bytes

-- Writes put a prefix of these bytes.
pub record PutsFront (from to : SinkView) (bytes : List ℕ) : Type 0 where
  pub grows : MovesFront from.put to.put bytes
  pub known : AppendsFront from.taken to.taken bytes
