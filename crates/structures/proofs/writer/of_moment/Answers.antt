use Rattle.std.proofs.Common.{◌≡◌, ◌+ℤ◌, false, cond, ap, sym, ◌∙◌, rules, arith, to_z, of_z, w64}
use Rattle.std.proofs.lemmas.Int.{ints}
use Rattle.std.proofs.lemmas.Result.{IfOk-weaker}
use Rattle.structures.proofs.Prelude.{int, structure, tree_then, no_trees, tree, has_utc_times, to_local}
use Rattle.structures.proofs.Formed.{local_sum}
use Rattle.structures.proofs.writer.of_moment.Goals as goal

pub returns-else-has_utc_times : goal.returns-else-has_utc_times
returns-else-has_utc_times c =
    let s = local_sum c.args.scope.version c.args.utc c.args.nanos c.args.offset c.requires in
    let z0 : to_z w64 (of_z w64 (c.args.utc +ℤ c.args.offset)) ≡ c.args.utc +ℤ c.args.offset = omega (arith, ints, s.0, s.1) in
    let z1 : to_z w64 (of_z w64 c.args.nanos) ≡ c.args.nanos = search rules in
    let z2 : to_z w64 (of_z w64 c.args.offset) ≡ c.args.offset = search rules in
    let zu : to_z w64 (of_z w64 c.args.utc) ≡ c.args.utc = search rules in
    let legacy : has_utc_times c.args.scope.version ≡ false = sym c.if-has_utc_times.ensures in
    let fields = tree_then (int c.args.utc) (tree_then (int c.args.nanos) (tree_then (int c.args.offset) no_trees)) in
    IfOk-weaker c.of_ints-else-has_utc_times.result _ _ (λ w p.
    (let q : tree w ≡ structure 0x46 (tree_then (int (to_z w64 (of_z w64 (to_z w64 (of_z w64 c.args.utc) +ℤ to_z w64 (of_z w64 c.args.offset))))) (tree_then (int (to_z w64 (of_z w64 c.args.nanos))) (tree_then (int (to_z w64 (of_z w64 c.args.offset))) no_trees))) = p in rw (zu, z2, z1, z0) at q)
    ∙ sym (ap (λ b. cond b (structure 0x49 fields) (structure 0x46 (to_local fields))) legacy)) c.of_ints-else-has_utc_times.ensures
