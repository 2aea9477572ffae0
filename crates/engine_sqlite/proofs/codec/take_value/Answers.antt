use Rattle.std.proofs.Common.{refl, take, arith}
use Rattle.engine_sqlite.proofs.Spelling.{front_and_rest}
use Rattle.engine_sqlite.proofs.codec.take_value.Goals as goal

pub slice_bounds-result-count : goal.slice_bounds-result-count
slice_bounds-result-count c =
    let fact = (c.in-Ok.ensures.value c.in-Ok.packed c.in-Ok.count).0 refl in
    omega (arith, fact.1)

pub slice_bounds-result-start : goal.slice_bounds-result-start
slice_bounds-result-start c =
    let fact = (c.in-Ok.ensures.value c.in-Ok.packed c.in-Ok.count).0 refl in
    omega (arith, fact.1)

pub returns-in-Ok : goal.returns-in-Ok
returns-in-Ok c =
    let fact = (c.in-Ok.ensures.value c.in-Ok.packed c.in-Ok.count).0 refl in
    (take c.in-Ok.count c.args.bytes.now, fact.0, fact.2, front_and_rest c.in-Ok.count c.args.bytes.now)
