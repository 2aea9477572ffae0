-- When two trees are one, as a test.
use Rattle.std.specs.Prelude.{Bool, true, false, ◌&&◌, ◌==◌}
use Rattle.std.specs.Ordering.{int_eq}
use Rattle.std.specs.Str.{bytes_eq}
use Rattle.packstream.specs.Tree.{Tree, null, boolean, int, float, byte_string, text, list, dict, structure, Trees, no_trees, tree_then, Entries, no_entries, entry_then}

-- two booleans are one
abbrev pub same_bool : Bool → Bool → Bool
same_bool true b = b
same_bool false true = false
same_bool false false = true

-- two trees are one; two lists of them; two lists of entries, in this order
abbrev mutual
  pub same_tree : Tree → Tree → Bool
  same_tree null null = true
  same_tree (boolean a) (boolean b) = same_bool a b
  same_tree (int a) (int b) = int_eq a b
  same_tree (float a) (float b) = a == b
  same_tree (byte_string a) (byte_string b) = bytes_eq a b
  same_tree (text a) (text b) = bytes_eq a b
  same_tree (list ts) (list us) = same_trees ts us
  same_tree (dict es) (dict fs) = same_entries es fs
  same_tree (structure a ts) (structure b us) = (a == b) && same_trees ts us
  same_tree _ _ = false

  pub same_trees : Trees → Trees → Bool
  same_trees no_trees no_trees = true
  same_trees (tree_then t ts) (tree_then u us) = same_tree t u && same_trees ts us
  same_trees _ _ = false

  pub same_entries : Entries → Entries → Bool
  same_entries no_entries no_entries = true
  same_entries (entry_then k t es) (entry_then l u fs) =
      bytes_eq k l && (same_tree t u && same_entries es fs)
  same_entries _ _ = false
