use Rattle.std.proofs.Common.{map, arith}
use Rattle.std.proofs.lemmas.List.{length-map}
use Rattle.cli_scripts.proofs.Parted.{too_many}
use Rattle.cli_scripts.proofs.requests.ending_of.Goals as goal

pub returns-in_default : goal.returns-in_default
returns-in_default c = too_many (map (λ w. w.now) c.args.words.now) (simp length-map (omega arith))
