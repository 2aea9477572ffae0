use Rattle.cli_sessions.proofs.Looped.{Appends-nil, Appends-trans, ap, front_after, front_in, heard_as_fed, heard_front, line_front, nil_from_length, refl, rest_of, rules, sym, with_item, ◌∙◌}
use Rattle.cli_sessions.proofs.passing.hear.Goals as goal

pub loop-one-init : goal.loop-one-init
loop-one-init g c = record { client = refl; prints = λ z h. h; begins = λ z h. h; version = refl }

pub loop-one-preserved : goal.loop-one-preserved
loop-one-preserved g c =
    let so = rw c.in-Some.ensures.steps.0 at c.loop-one.invariant in
    let k = c.in-Ok.ensures in
    rw k.version (record {
      client = k.client ∙ so.client;
      prints = λ z h. so.prints z (Appends-trans _ _ z _ _ k.puts h);
      begins = λ z h. so.begins z (front_after _ _ z _ _ k.puts h);
      version = so.version;
    })

pub returns-in-Err-clause-hears : goal.returns-in-Err-clause-hears
returns-in-Err-clause-hears g c = λ p s.
    let so = rw (c.into_iter-one-iterator.ensures.into_iter_gives.0, c.in-Some.ensures.steps.0) at c.loop-one.invariant in
    let h = rw c.new-heard.ensures.items at (c.feed_piece-fed.ensures.feeds (with_item p s.item).rest s.at.fits) in
    heard_front s h _ _ (so.begins _ (front_in _ _ _ _ (line_front _ _ _ c.in-Err.fault c.in-Err.ensures.puts)))

pub returns-clause-hears : goal.returns-clause-hears
returns-clause-hears g c = λ p s.
    let end = nil_from_length c.loop-one.one-iterator.rest.items (search rules) in
    let so = rw (c.into_iter-one-iterator.ensures.into_iter_gives.0, end) at c.loop-one.invariant in
    let h = rw c.new-heard.ensures.items at (c.feed_piece-fed.ensures.feeds (with_item p s.item).rest s.at.fits) in
    heard_as_fed s c.loop-one.caller _ _ c.feed_piece-fed.result h (λ q f. ap rest_of so.client ∙ f) (sym so.version) (so.prints _ (Appends-nil _))
