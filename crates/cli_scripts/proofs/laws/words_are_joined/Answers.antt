use Rattle.cli_scripts.proofs.Parted.{are_words}
use Rattle.cli_scripts.proofs.laws.words_are_joined.Goals as goal

pub returns : goal.returns
returns c = are_words
