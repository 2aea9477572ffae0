-- Trees that are good within a room. Private functions and proofs alone need it.
use Rattle.std.specs.Prelude.{◌≤◌, ◌-◌, ◌<◌, ◌^◌, ℕ, [], FitsSigned}
use Rattle.std.specs.Int.{w64}
use Rattle.std.specs.Str.{IsUtf8}
use Rattle.packstream.specs.Plain.{AreBytes}
use Rattle.packstream.specs.Good.{AreNewKeys, count}
use Rattle.packstream.specs.Tree.{Tree, null, boolean, int, float, byte_string, text, list, dict, structure, Trees, no_trees, tree_then, Entries, no_entries, entry_then}

-- at most so deep, no key twice, numbers in range, texts UTF-8, at most 15 fields
abbrev mutual
  pub IsReady : ℕ → Tree → Type 0
  IsReady r null = Unit {0}
  IsReady r (boolean b) = Unit {0}
  IsReady r (int z) = FitsSigned w64 z
  IsReady r (float n) = n < 2 ^ 64
  IsReady r (byte_string s) = AreBytes s
  IsReady r (text s) = IsUtf8 s
  IsReady r (list ts) = (1 ≤ r) × AreReady (r - 1) ts
  IsReady r (dict es) = (1 ≤ r) × AreNewKeys [] es × HaveReady (r - 1) es
  IsReady r (structure tag ts) = (1 ≤ r) × (tag < 256) × (count ts ≤ 15) × AreReady (r - 1) ts

  pub AreReady : ℕ → Trees → Type 0
  AreReady r no_trees = Unit {0}
  AreReady r (tree_then t ts) = IsReady r t × AreReady r ts

  pub HaveReady : ℕ → Entries → Type 0
  HaveReady r no_entries = Unit {0}
  HaveReady r (entry_then k t es) = IsUtf8 k × (IsReady r t × HaveReady r es)
