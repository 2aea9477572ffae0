use Rattle.std.proofs.Common.{◌≡◌, ◌<◌, ℕ, List, length, take, min, Result, Ok, Err, arith, rules, length-take, OnErr}
use Rattle.packstream.specs.Writing.{whole}
use Rattle.server_session.proofs.session.Session.take_out.Goals as goal

-- what can't be had is of some bytes
some_taken : {X E : Type 0} (r : Result X E) (max count : ℕ) (b : List ℕ) → count ≡ min max (length b) → OnErr r (0 < count) → OnErr r (0 < length (take max b))
some_taken (Ok x) max count b is some = tt
some_taken (Err e) max count b is some = omega (arith, length-take max b, is, some)

pub returns-clause-memory : goal.returns-clause-memory
returns-clause-memory c = some_taken c.freeze_to.result c.args.max _ (whole c.args.self.now.out) (search rules) c.freeze_to.ensures.memory
