use Rattle.packstream.proofs.Words.{Some, Decides-eqb, strip_prefix_is}
use Rattle.packstream.proofs.source.RefSliceU8Source.strip_prefix.Goals as goal

pub returns-in-Some : goal.returns-in-Some
returns-in-Some c = strip_prefix_is Decides-eqb c.args.self.now c.args.prefix.now (Some c.in-Some.rest) c.in-Some.ensures.cases
