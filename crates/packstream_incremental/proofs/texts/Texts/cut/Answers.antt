use Rattle.std.proofs.Common.{take, length, ap, sym, subst, ◌∙◌}
use Rattle.std.specs.List.{take-map}
use Rattle.packstream_incremental.specs.Prelude.{Kept, ArePlaced, name, names_of}
use Rattle.packstream_incremental.proofs.Treeing.{tree_cut}
use Rattle.packstream_incremental.proofs.texts.Texts.cut.Goals as goal

pub invariant_of-self : goal.invariant_of-self
invariant_of-self c =
    let placed = subst (λ (v : Kept). ArePlaced (take c.args.keys v.names) (length (take c.args.bytes v.bytes))) (sym c.self.view_is) c.requires in
    rw (c.truncate.ensures.items, c.truncate-2.ensures.items) (tree_cut c.self.inside.keys.items c.self.inside.bytes.items c.args.keys c.args.bytes c.self.invariant placed)

pub returns-clause-keys : goal.returns-clause-keys
returns-clause-keys c =
    ap names_of c.truncate-2.ensures.items ∙ sym (take-map name c.args.keys c.self.inside.keys.items) ∙ ap (λ (v : Kept). take c.args.keys v.names) c.self.view_is
