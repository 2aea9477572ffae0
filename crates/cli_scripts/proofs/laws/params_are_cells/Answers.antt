use Rattle.cli_scripts.proofs.Dictionaries.{are_params}
use Rattle.cli_scripts.proofs.laws.params_are_cells.Goals as goal

pub returns : goal.returns
returns c = are_params
