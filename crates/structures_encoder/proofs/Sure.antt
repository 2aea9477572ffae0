-- What is ready is good and nests within its room.
use Rattle.structures_encoder.proofs.Words.{ℕ, ◌-◌, ◌≤◌, arith, Tree, null, boolean, list, dict, structure, Trees, no_trees, tree_then, Entries, no_entries, entry_then, IsPlain, ArePlain, HavePlain, depth, trees_depth, entries_depth, IsSound, AreSound, HaveSoundValues, IsReady, AreReady, HaveReady}

-- what nests no deeper than the room, is sound and plain
abbrev pub IsSure : ℕ → ℕ → Type 0 → Type 0 → Type 0
IsSure deep room Sound Plain = (deep ≤ room) × Sound × Plain

mutual
  pub sure : (t : Tree) (r : ℕ) → IsReady r t → IsSure (depth t) r (IsSound t) (IsPlain t)
  sure null r h = (omega arith, tt, tt)
  sure (boolean b) r h = (omega arith, tt, tt)
  sure (list ts) r h = let some = h.0 in let a = all_sure ts (r - 1) h.1 in (omega (arith, some, a.0), a.1, a.2)
  sure (dict es) r h = let some = h.0 in let a = under_sure es (r - 1) h.2 in (omega (arith, some, a.0), (h.1, a.1), a.2)
  sure (structure tag ts) r h = let some = h.0 in let a = all_sure ts (r - 1) h.3 in (omega (arith, some, a.0), (h.2, a.1), (h.1, a.2))
  sure t r h = (omega arith, tt, h)

  pub all_sure : (ts : Trees) (r : ℕ) → AreReady r ts → IsSure (trees_depth ts) r (AreSound ts) (ArePlain ts)
  all_sure no_trees r h = (omega arith, tt, tt)
  all_sure (tree_then t ts) r h =
      let a = sure t r h.0 in
      let b = all_sure ts r h.1 in
      (omega (arith, a.0, b.0), (a.1, b.1), (a.2, b.2))

  pub under_sure : (es : Entries) (r : ℕ) → HaveReady r es → IsSure (entries_depth es) r (HaveSoundValues es) (HavePlain es)
  under_sure no_entries r h = (omega arith, tt, tt)
  under_sure (entry_then k t es) r h =
      let a = sure t r h.1.0 in
      let b = under_sure es r h.1.1 in
      (omega (arith, a.0, b.0), (a.1, b.1), (h.0, a.2, b.2))
