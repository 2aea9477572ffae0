use Rattle.structures_decoder.proofs.Words.{refl, rules}
use Rattle.structures_decoder.proofs.fields.elements_in.Goals as goal

pub returns-in_ok-end-in-8 : goal.returns-in_ok-end-in-8
returns-in_ok-end-in-8 g c =
    λ room. (search rules, (g.S.Source.left c.in_ok-own-in-8.rest, c.in_ok-own-in-8.ensures room, (g.S.Source.left c.in_ok-start-in-8.rest, c.in_ok-start-in-8.ensures room, (g.S.Source.left c.in_ok-end-in-8.rest, c.in_ok-end-in-8.ensures room, refl))))
