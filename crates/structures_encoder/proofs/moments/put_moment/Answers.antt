use Rattle.structures_encoder.proofs.Words.{refl, rules, arith, int, float, no_trees, tree_then, shape-Point2D, shape-Point3D}
use Rattle.structures_encoder.proofs.Adding.{last, none, then, as_is, structure_added}
use Rattle.structures_encoder.proofs.moments.put_moment.Goals as goal

pub returns-in_ok-put_bits-in-Point2D : goal.returns-in_ok-put_bits-in-Point2D
returns-in_ok-put_bits-in-Point2D c =
    let p = c.in-Point2D in
    last c.put_bits-in-Point2D.ensures (search rules) (λ last. rw (p.is, shape-Point2D p.srid p.x p.y) (structure_added (tree_then (int p.srid) (tree_then (float p.x) (tree_then (float p.y) no_trees))) c.in_ok-put_opening-in-Point2D.ensures.opens (omega arith) (omega arith) refl
    (then (as_is c.in_ok-put_number-in-Point2D.ensures.put (search rules)) (then c.in_ok-put_bits-in-Point2D.ensures.put (then last none)))))

pub returns-in_ok-put_bits-in-Point3D-2 : goal.returns-in_ok-put_bits-in-Point3D-2
returns-in_ok-put_bits-in-Point3D-2 c =
    let p = c.in-Point3D in
    last c.put_bits-in-Point3D-3.ensures (search rules) (λ last. rw (p.is, shape-Point3D p.srid p.x p.y p.z) (structure_added (tree_then (int p.srid) (tree_then (float p.x) (tree_then (float p.y) (tree_then (float p.z) no_trees)))) c.in_ok-put_opening-in-Point3D.ensures.opens (omega arith) (omega arith) refl
    (then (as_is c.in_ok-put_number-in-Point3D.ensures.put (search rules)) (then c.in_ok-put_bits-in-Point3D.ensures.put (then c.in_ok-put_bits-in-Point3D-2.ensures.put (then last none))))))
