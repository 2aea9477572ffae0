use Rattle.structures_decoder.proofs.Words.{shape}
use Rattle.structures_decoder.proofs.Fronts.{forms}
use Rattle.structures_decoder.proofs.whole.cell_from.Goals as goal

pub returns : goal.returns
returns g c =
    let f = forms (record { alloc = c.args.alloc; version = c.args.version }) c.cell_in.result (λ x. shape x.0) (λ x. g.S.Source.left x.1) (g.S.Source.left c.args.source) c.args.room c.has_bytes.ensures c.requires c.cell_in.ensures in
    record { spelled = f.0; good = f.1; deep = f.2; writable = f.3 }
