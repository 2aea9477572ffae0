use Rattle.std.proofs.Common.{rules, arith}
use Rattle.packstream.specs.declared.value.Value.{the_lemmas}
use Rattle.packstream.proofs.Putting.{writing}
use Rattle.packstream.proofs.encoder.+encoder.Goals as goal

pub put_pairs-put_value-requires : goal.put_pairs-put_value-requires
put_pairs-put_value-requires t c = (search (rules, the_lemmas), grind (arith, writing))

pub put_value-put_dict-requires : goal.put_value-put_dict-requires
put_value-put_dict-requires t c = (search (rules, the_lemmas), grind (arith, writing))
