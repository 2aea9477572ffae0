use Rattle.structures_decoder.proofs.Words.{dict, entries_of, entries}
use Rattle.structures_decoder.proofs.Fronts.{forms}
use Rattle.structures_decoder.proofs.whole.dict_from.Goals as goal

pub returns : goal.returns
returns g c =
    let f = forms (record { alloc = c.args.alloc; version = c.args.version }) c.dict_in.result (λ x. dict (entries_of (entries x.0.items))) (λ x. g.S.Source.left x.1) (g.S.Source.left c.args.source) c.args.room c.has_bytes.ensures c.requires c.dict_in.ensures in
    record { spelled = f.0; good = f.1; deep = f.2; writable = f.3 }
