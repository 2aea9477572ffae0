-- The words of this crate's definitions, as proofs import them.
pub use Rattle.packstream_incremental.specs.Piecewise.{Point, Points, nothing_read, IsBeginning, MayGoOn, Joins, TurnsBad, Takes, Reads, TellsValue, TellsFault, Finishes}
pub use Rattle.packstream_incremental.specs.Heads.{field, size_with, body, number_from, head_bytes, part_head, IsTiny, AreTiny}
pub use Rattle.packstream_incremental.specs.Naming.{Name, Kept, name, names_of, text_of, IsNamed, ArePlaced, IsRoot, HangsOn, Leads, IsInPlace, IsTree, HangsNone, IsFreeAt, IsFree, HasLink, with_below, hung_at, hung}
unfoldable pub use Rattle.packstream_incremental.specs.Naming.{digest_from, digest_of, side_of}
pub use Rattle.packstream_incremental.specs.Frames.{Frame, waits, IsFrame, place, whole, AreFrames, next_of, level, after_value, AreLevels, AreNames, HasNames, BeginsBefore, BeginBefore, IsApart, HasOwnNames, HaveNames, push_tree, push_entry, with_member, tree_so_far, still, Left, ends, Stands, IsLeft, Passes, head_fault}
pub use Rattle.packstream_incremental.specs.Holding.{Holds, holds, point, mark_of, at_mark, with_fault, with_item, IsAdmitted, IsPart, IsLacking, Goes, IsListOf, IsValue, IsDone, IsStanding, IsKeeping, HasGrown, HasTaken, IsFaultOf, IsKept, points_at, IsKeptAt, IsMark, HoldsOn}
