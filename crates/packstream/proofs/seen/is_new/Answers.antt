use Rattle.packstream.proofs.Words.{◌≡◌, ◌%◌, ◌∙◌, sym, refl, arith, in_place, names}
use Rattle.std.proofs.lemmas.Grind.{get_or_default_zero}
use Rattle.packstream.proofs.Keys.{knows_other}
use Rattle.packstream.proofs.seen.is_new.Goals as goal

pub returns-clause-seen : goal.returns-clause-seen
returns-clause-seen g c = λ knows _.
    let read = get_or_default_zero c.args.seen.now.places.items (c.hash_of-hash.result % c.len.result) c.index-number.result.now (omega arith) in
    let there : in_place c.args.seen.now c.args.key.now ≡ c.index-number.result.now = cc in
    knows_other c.args.seen.now _ (names c.args.pairs.now) c.args.key.now knows (λ z. c.if-number-eq0.false (sym there ∙ z)) refl c.hash_of-hash.result c.hash_of-hash.ensures c.in_ok-insert.ensures.updates
