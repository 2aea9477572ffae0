use Rattle.messages_deframer.proofs.Fronts.{is_alone}
use Rattle.messages_deframer.proofs.stream.Stream.behind_data.Goals as goal

pub returns : goal.returns
returns c = is_alone c.behind_data.result c.args.self.now c.args.piece.now c.if-self.false c.behind_data.ensures
