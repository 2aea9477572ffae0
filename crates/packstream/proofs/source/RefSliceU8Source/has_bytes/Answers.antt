use Rattle.packstream.proofs.Ranges.{bytes_from_each}
use Rattle.packstream.proofs.source.RefSliceU8Source.has_bytes.Goals as goal

pub returns : goal.returns
returns c = bytes_from_each c.args.self.now c.type_inv.self
