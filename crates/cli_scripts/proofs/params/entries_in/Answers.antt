use Rattle.std.proofs.Common.{ap, ◌∙◌, Some}
use Rattle.structures_cells.specs.Prelude.{shape, entries}
use Rattle.structures_cells.proofs.Views.{shape-Dict}
use Rattle.cli_scripts.specs.Prelude.{entries_in}
use Rattle.cli_scripts.proofs.Dictionaries.{pairs_back}
use Rattle.cli_scripts.proofs.params.entries_in.Goals as goal

pub returns-in-Dict : goal.returns-in-Dict
returns-in-Dict c = ap entries_in (ap shape c.in-Dict.is ∙ shape-Dict c.in-Dict.pairs) ∙ ap Some (pairs_back (entries c.in-Dict.pairs.items))
