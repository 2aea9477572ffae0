use Rattle.std.proofs.Common.{refl, ◌∙◌, ap, None, Some, [], ◌∷◌, ◌++◌, append-nil}
use Rattle.driver.specs.Prelude.{health, Streams, streams, ending, asked_view, made_at}
use Rattle.driver.proofs.Retried.{from_first}
use Rattle.driver.proofs.retrying.try_once.Goals as goal

pub returns-in-Some-clause-tries : goal.returns-in-Some-clause-tries
returns-in-Some-clause-tries g c =
    let a = asked_view c.args.asked.now in
    let from : Streams = streams (g.C.In.Source.given c.in-Some.source) (g.C.Out.Sink.put c.in-Some.sink) (health (g.C.In.Source.has_ended c.in-Some.source) (g.C.In.Source.has_failed c.in-Some.source) (g.C.Out.Sink.has_failed c.in-Some.sink)) in
    let to : Streams = streams (g.C.In.Source.given c.attempt_over-attempted.new.source) (g.C.Out.Sink.put c.attempt_over-attempted.new.sink) (health (g.C.In.Source.has_ended c.attempt_over-attempted.new.source) (g.C.In.Source.has_failed c.attempt_over-attempted.new.source) (g.C.Out.Sink.has_failed c.attempt_over-attempted.new.sink)) in
    let broken = c.attempt_over-attempted.result.broken in
    let told = c.attempt_over-attempted.ensures in (
      Some (ending to broken),
      c.closed.ensures.logs ∙ ap (λ l. l ++ Some (ending to broken) ∷ []) (c.in-Some.ensures.kept ∙ append-nil _),
      told.0,
      told.1,
      λ conn. from_first a conn from to broken (made_at a.wish conn told.0) c.in-Some.ensures.fresh.0 c.in-Some.ensures.fresh.1 (told.2 conn),
    )

pub returns-in-None-clause-tries : goal.returns-in-None-clause-tries
returns-in-None-clause-tries g c = (None, c.in-None.ensures.kept, None, refl, λ conn. refl)
