use Rattle.structures_decoder.proofs.Words.{list, trees_of, shapes}
use Rattle.structures_decoder.proofs.Fronts.{forms}
use Rattle.structures_decoder.proofs.whole.list_from.Goals as goal

pub returns : goal.returns
returns g c =
    let f = forms (record { alloc = c.args.alloc; version = c.args.version }) c.list_in.result (λ x. list (trees_of (shapes x.0.items))) (λ x. g.S.Source.left x.1) (g.S.Source.left c.args.source) c.args.room c.has_bytes.ensures c.requires c.list_in.ensures in
    record { spelled = f.0; good = f.1; deep = f.2; writable = f.3 }
