-- What a handle owns.
use Rattle.std.specs.Prelude.{Option, Some, None}
use Rattle.std.specs.Coded.{coded_option}
use Rattle.core.specs.Ptr.{points_to}
use Rattle.libc.specs.Heap.{chunk}
use base.Fml.{Fml, ftrue, ffalse, fsep}
use base.Stored.{Coded}
use denote.Memory.{lone}
use denote.RattleType.{RattleType}
use denote.RawPtr.{Ptr, block_ptr, null_ptr}
use mir.Raw.{raw}
use Rattle.bolt_c.specs.contracts.held.Held.{the_row}

-- a value at a place that malloc gave, and the right to free it
abbrev pub on_heap : (R : RattleType) → Ptr → R.Denot → Fml
on_heap R p x = fsep (points_to R p x) (chunk (raw (lone R.mir)) p)

-- what a handle holds, as it is stored
abbrev pub stored : Coded (Option the_row.Denot)
stored = coded_option the_row.coded

-- what a handle owns: where it holds a client, that client at its place; where it holds none it is null, and owns nothing
abbrev pub lies : Option the_row.Denot → Ptr → Fml
lies None null_ptr = ftrue
lies (Some x) (block_ptr b o) = on_heap the_row (block_ptr b o) x
lies k p = ffalse
