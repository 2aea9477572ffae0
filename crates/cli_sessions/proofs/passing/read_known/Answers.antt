use Rattle.cli_sessions.proofs.Looped.{Consumes, Consumes-trans, List, length, length-take-le, post_of, put_mid, rules, subst, sym, take, take-append-add, take-append-le, ℕ, ◌++◌, ◌+◌, ◌-◌, ◌≡◌, ◌≤◌}
use Rattle.cli_sessions.proofs.passing.read_known.Goals as goal

-- bytes that were read into the rest of a buffer
taken_more : (a k n : ℕ) (xs ys : List ℕ) → a ≤ length xs → n ≤ length ys → take (a + n) (put_mid a k xs ys) ≡ take a xs ++ take n ys
taken_more a k n xs ys p q = cc (take-append-add (take a xs) (ys ++ post_of a k xs) n, take-append-le n ys (post_of a k xs) q, length-take-le a xs p)

pub loop-at-preserved : goal.loop-at-preserved
loop-at-preserved g c =
    let so = c.loop-at.invariant in
    let old = c.loop-at.buffer in
    let new = c.read_after.new.buffer in
    let same = taken_more c.loop-at.at (length old - c.loop-at.at) c.in-Ok.count old new so.0 (search rules) in
    let both = Consumes-trans _ _ _ (take c.loop-at.at old) (take c.in-Ok.count new) so.2 c.in-Ok.ensures.bytes.0 in
    (search rules, search rules, subst (Consumes _ _) (sym same) both)
