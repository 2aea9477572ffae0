-- What is printed of a cell is the spelling of its one form.
use Rattle.std.proofs.Common.{◌≡◌, ap, ◌∙◌}
use Rattle.hex.specs.Hex.{encode_lower}
use Rattle.packstream.specs.Prelude.{Tree, canon}
use Rattle.wire.specs.declared.Version.{Version}
use Rattle.structures_cells.specs.Prelude.{fault, structures}
use Rattle.structures_cells.proofs.Fine.{fine_scan}
use Rattle.structures_cells.proofs.Views.{shape-List}
use Rattle.structures.specs.Prelude.{Form, form}
use Rattle.structures.proofs.Formed.{again}
use Rattle.cli_output.specs.Telling.{spelled}

pub ruleset row_cells = (shape-List)

pub spelled_form : (v : Version) (cell t : Tree) → Form v cell t → spelled v cell ≡ encode_lower (canon t)
unfolding spelled
spelled_form v cell t f = ap (λ (s : Tree). encode_lower (canon s)) (ap (form v) f.1 ∙ again v t (fine_scan (fault v) 0 f.0.0 (structures t) f.0.1))
