-- The rules that a message breaks, as `bolt_ask` tells them: two characters as one number, the first times 256 and the second.
use Rattle.std.specs.Prelude.{ℕ}
use Rattle.packstream.specs.declared.fault.Reason.{Reason as PackReason}
use Rattle.packstream.specs.declared.fault.Reason.TheVariants as pack
use Rattle.structures_cells.specs.declared.fault.Reason.{Reason as CellReason}
use Rattle.structures_cells.specs.declared.fault.Reason.TheVariants as cell
use Rattle.messages.specs.declared.fault.MsgFault.{MsgFault}
use Rattle.messages.specs.declared.fault.MsgFault.TheVariants as fault
use Rattle.client.specs.declared.faults.Unwritable.{Unwritable}
use Rattle.client.specs.declared.faults.Unwritable.TheVariants as unwritable

-- P1 to P7 and P9
abbrev pub pack_rule : PackReason → ℕ
pack_rule pack.Short = 0x5031
pack_rule pack.Marker = 0x5032
pack_rule pack.Utf8 = 0x5033
pack_rule pack.KeyKind = 0x5034
pack_rule pack.KeyTwice = 0x5035
pack_rule pack.Depth = 0x5036
pack_rule pack.Trailing = 0x5037
pack_rule pack.Size = 0x5039

-- S1 to S6
abbrev pub cell_rule : CellReason → ℕ
cell_rule cell.UnknownTag = 0x5331
cell_rule cell.FieldCount = 0x5332
cell_rule cell.FieldKind = 0x5333
cell_rule cell.Range = 0x5334
cell_rule cell.PathShape = 0x5335
cell_rule cell.NotInVersion = 0x5336

-- the rule that bytes break, M2 to M5 and M8 with those of values and of cells, and where; no rule for want of memory
abbrev pub broken : MsgFault → ℕ × ℕ
broken (fault.Pack r offset) = (pack_rule r, offset)
broken fault.NotAMessage = (0x4d32, 0)
broken fault.UnknownTag = (0x4d33, 0)
broken fault.Fields = (0x4d34, 0)
broken fault.Extra = (0x4d35, 0)
broken (fault.Cell r number) = (cell_rule r, number)
broken (fault.CellPack r place) = (pack_rule r, place)
broken fault.Memory = (0, 0)
broken fault.Size = (0x4d38, 0)

-- the rule that a request breaks that can't be written, and where
abbrev pub broken_in : Unwritable → ℕ × ℕ
broken_in (unwritable.Pack r place) = (pack_rule r, place)
broken_in unwritable.Extra = (0x4d35, 0)
broken_in (unwritable.Cell r number) = (cell_rule r, number)
broken_in (unwritable.CellPack r place) = (pack_rule r, place)
