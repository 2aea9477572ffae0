use Rattle.packstream.proofs.Words.{◌≡◌, false, None, rules, is_among, names}
use Rattle.packstream.proofs.NextKeys.{new_key}
use Rattle.packstream.proofs.source.next_key.Goals as goal

pub returns : goal.returns
returns g c =
    let no : is_among c.in_ok-key.key.now (names c.args.pairs.now) ≡ false = search rules in
    new_key (names c.args.pairs.now) (g.S.Source.left c.args.source.now) c.in_ok-key.key.now (g.S.Source.left c.in_ok-key.rest) no (c.in_ok-key.ensures None)
