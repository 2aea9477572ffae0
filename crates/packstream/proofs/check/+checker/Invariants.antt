use Rattle.packstream.proofs.Words.{◌≡◌, ◌-◌, ◌≤◌, [], take, drop, trees, trees_of, entries, entries_of, first_fault, faults_in_all, faults_in_entries, ArePlain, HavePlain, names, max_depth}
use Rattle.packstream.proofs.check.+checker.Given as goal

abbrev pub invariant-check_members-loop-member : goal.invariant-check_members-loop-member
invariant-check_members-loop-member l = (first_fault (faults_in_all (max_depth - l.room) (trees_of (trees (drop l.member-index l.members)))) l.at ≡ first_fault (faults_in_all (max_depth - l.room) (trees_of (trees l.members))) l.from) × (ArePlain (trees_of (trees (drop l.member-index l.members))) → ArePlain (trees_of (trees l.members)))

abbrev pub invariant-check_pairs-loop-i : goal.invariant-check_pairs-loop-i
invariant-check_pairs-loop-i l = (first_fault (faults_in_entries (max_depth - l.room) (names (take l.i l.pairs)) (entries_of (entries (drop l.i l.pairs)))) l.at ≡ first_fault (faults_in_entries (max_depth - l.room) [] (entries_of (entries l.pairs))) l.from) × (HavePlain (entries_of (entries (drop l.i l.pairs))) → HavePlain (entries_of (entries l.pairs))) × (l.i ≤ l.twin)
