-- The faults of the layers below, as those of a message.
use Rattle.packstream.specs.declared.fault.PackFault.{PackFault}
use Rattle.packstream.specs.declared.fault.PackFault.TheVariants as pack
use Rattle.structures.specs.declared.fault.CellFault.{CellFault}
use Rattle.structures.specs.declared.fault.CellFault.TheVariants as cell
use Rattle.messages.specs.declared.fault.MsgFault.{MsgFault}
use Rattle.messages.specs.declared.fault.MsgFault.TheVariants.{Pack, Cell, CellPack, Memory}

-- the fault of a value as that of a message; want of memory is the message's own
abbrev pub of_pack : PackFault → MsgFault
of_pack (pack.Refused r o) = Pack r o
of_pack pack.Memory = Memory

-- the fault of a cell as that of a message; want of memory is the message's own
abbrev pub of_cell : CellFault → MsgFault
of_cell (cell.Refused r k) = Cell r k
of_cell (cell.Pack r o) = CellPack r o
of_cell cell.Memory = Memory
