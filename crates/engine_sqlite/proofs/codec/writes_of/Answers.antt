use Rattle.std.proofs.Common.{◌≡◌, ◌++◌, ◌∷◌, [], ◌∙◌, ap, subst, sym, rules, List, ℕ}
use Rattle.std.proofs.lemmas.List.{map-append}
use Rattle.engine.specs.Views.{write_view, writes_view}
use Rattle.engine_sqlite.specs.Spelled.{SpellsWrites}
use Rattle.engine_sqlite.proofs.Spelling.{taken_more}
use Rattle.engine_sqlite.proofs.codec.writes_of.Goals as goal

pub loop-preserved : goal.loop-preserved
loop-preserved c =
    let old = c.loop.writes.items in
    let write = c.in_ok-write.write in
    let behind = c.in_ok-write.behind.now in
    let items : c.push.new.self.items ≡ old ++ write ∷ [] = search rules in
    let more = taken_more (writes_view old) (write_view write) c.loop.invariant.0 c.args.bytes.now c.loop.rest.now behind c.loop.invariant.1 c.loop.invariant.2 c.in_ok-write.ensures in
    subst (λ ws. (next : List ℕ) × SpellsWrites ws next × (c.args.bytes.now ≡ next ++ behind)) (sym (ap writes_view items ∙ map-append write_view old (write ∷ []))) more
