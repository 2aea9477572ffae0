use Rattle.std.proofs.Common.{map, arith}
use Rattle.std.proofs.lemmas.List.{length-map}
use Rattle.cli_scripts.proofs.Parted.{too_long}
use Rattle.cli_scripts.proofs.requests.of_words.Goals as goal

pub returns-in_default : goal.returns-in_default
returns-in_default c = too_long c.args.name.now (map (λ w. w.now) c.args.after.now) (simp length-map (omega arith))
