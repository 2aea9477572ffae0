-- The tree of a cell, one level at a time.
use Rattle.std.proofs.Common.{◌≡◌, ℕ, ℤ, List, map, String, Vec, Global, string_bytes, sym, ap, ◌∙◌, rules, Option}
use Rattle.std.proofs.lemmas.Simd.{map-map}
use Rattle.packstream.specs.Prelude.{Tree, int, float, list, dict, structure, no_trees, tree_then, trees_of, entries_of}
use Rattle.structures_cells.specs.Prelude.{shape, node_shape, unbound_shape, relationship_shape, path_shape, shapes, entries, text_of, texts_of, element_of, elements_of, path_of}
use Rattle.structures_cells.specs.declared.cell.ElementIds.{ElementIds}
use Rattle.structures_cells.specs.declared.cell.Cell.{Cell, List as ListCase, Dict as DictCase, Date, Time, LocalTime, LocalDateTime, DateTime, ZonedLocal, ZonedUtc, Duration, Point2D, Point3D, the_lemmas}
use Rattle.structures_cells.specs.declared.cell.Cell.TheViews.{roll-Node, roll-UnboundRelationship, roll-Relationship, roll-Path, roll-out-Path}
use Rattle.structures_cells.specs.declared.cell.Cell.TheOpen.{Node-F, UnboundRelationship-F, Relationship-F, Path-F}
use Rattle.structures_cells.specs.declared.cell.UnboundRelationship.{UnboundRelationship}
use Rattle.structures_cells.specs.declared.cell.Relationship.{Relationship}
use Rattle.structures_cells.specs.declared.cell.Path.{Path, out-Path}
use Rattle.structures_cells.specs.declared.cell.Node.{Node}

abbrev pub Pair : Type 0
Pair = String Global × Cell

pub shape-Dict : (v : Vec Pair Global) → shape (DictCase v) ≡ dict (entries_of (entries v.items))
shape-Dict v = search (rules, the_lemmas, map-map)

-- the same, by a name that an attribute can have
pub ruleset dicts = (shape-Dict)

abbrev pub node_parts : ℤ → List (String Global) → List Pair → Option (String Global) → Tree
node_parts id labels ps e = structure 0x4E (tree_then (int id) (tree_then (texts_of labels) (tree_then (dict (entries_of (entries ps))) (element_of e))))

pub node-out : (n : Node) → node_shape n ≡ node_parts n.id n.labels.items n.properties.items n.element_id
node-out n = search (rules, the_lemmas, map-map)

pub node-roll : (n : Node-F Cell Node Path Relationship UnboundRelationship) → node_shape (roll-Node n) ≡ node_parts n.id n.labels.items n.properties.items n.element_id
node-roll n = search (rules, the_lemmas, map-map)

abbrev pub unbound_parts : ℤ → String Global → List Pair → Option (String Global) → Tree
unbound_parts id kind ps e = structure 0x72 (tree_then (int id) (tree_then (text_of kind) (tree_then (dict (entries_of (entries ps))) (element_of e))))

pub unbound-out : (n : UnboundRelationship) → unbound_shape n ≡ unbound_parts n.id n.kind n.properties.items n.element_id
unbound-out n = search (rules, the_lemmas, map-map)

pub unbound-roll : (n : UnboundRelationship-F Cell Node Path Relationship UnboundRelationship) → unbound_shape (roll-UnboundRelationship n) ≡ unbound_parts n.id n.kind n.properties.items n.element_id
unbound-roll n = search (rules, the_lemmas, map-map)

abbrev pub relationship_parts : ℤ → ℤ → ℤ → String Global → List Pair → Option ElementIds → Tree
relationship_parts id start end kind ps e = structure 0x52 (tree_then (int id) (tree_then (int start) (tree_then (int end) (tree_then (text_of kind) (tree_then (dict (entries_of (entries ps))) (elements_of e))))))

pub relationship-out : (n : Relationship) → relationship_shape n ≡ relationship_parts n.id n.start n.end n.kind n.properties.items n.element_ids
relationship-out n = search (rules, the_lemmas, map-map)

pub relationship-roll : (n : Relationship-F Cell Node Path Relationship UnboundRelationship) → relationship_shape (roll-Relationship n) ≡ relationship_parts n.id n.start n.end n.kind n.properties.items n.element_ids
relationship-roll n = search (rules, the_lemmas, map-map)

pub path-roll : (p : Path-F Cell Node Path Relationship UnboundRelationship) → path_shape (roll-Path p) ≡ path_of (map node_shape p.nodes.items) (map unbound_shape p.relationships.items) p.indices.items
path-roll p = search (rules, the_lemmas)

pub path-out : (p : Path) → path_shape p ≡ path_of (map node_shape (out-Path p).nodes.items) (map unbound_shape (out-Path p).relationships.items) (out-Path p).indices.items
path-out p = ap path_shape (sym (roll-out-Path p)) ∙ path-roll (out-Path p)

pub same_node : (x : Node-F Cell Node Path Relationship UnboundRelationship) (n : Node) → x.id ≡ n.id → map text_of x.labels.items ≡ map text_of n.labels.items → entries x.properties.items ≡ entries n.properties.items → element_of x.element_id ≡ element_of n.element_id → node_shape (roll-Node x) ≡ node_shape n
same_node x n i l p e =
    let m : node_parts x.id x.labels.items x.properties.items x.element_id ≡ node_parts n.id n.labels.items n.properties.items n.element_id = cc in
    node-roll x ∙ m ∙ sym (node-out n)

pub same_unbound : (x : UnboundRelationship-F Cell Node Path Relationship UnboundRelationship) (n : UnboundRelationship) → x.id ≡ n.id → string_bytes x.kind ≡ string_bytes n.kind → entries x.properties.items ≡ entries n.properties.items → element_of x.element_id ≡ element_of n.element_id → unbound_shape (roll-UnboundRelationship x) ≡ unbound_shape n
same_unbound x n i k p e =
    let m : unbound_parts x.id x.kind x.properties.items x.element_id ≡ unbound_parts n.id n.kind n.properties.items n.element_id = cc in
    unbound-roll x ∙ m ∙ sym (unbound-out n)

pub same_relationship : (x : Relationship-F Cell Node Path Relationship UnboundRelationship) (n : Relationship) → x.id ≡ n.id → x.start ≡ n.start → x.end ≡ n.end → string_bytes x.kind ≡ string_bytes n.kind → entries x.properties.items ≡ entries n.properties.items → elements_of x.element_ids ≡ elements_of n.element_ids → relationship_shape (roll-Relationship x) ≡ relationship_shape n
same_relationship x n i s d k p e =
    let m : relationship_parts x.id x.start x.end x.kind x.properties.items x.element_ids ≡ relationship_parts n.id n.start n.end n.kind n.properties.items n.element_ids = cc in
    relationship-roll x ∙ m ∙ sym (relationship-out n)

pub same_path : (x : Path-F Cell Node Path Relationship UnboundRelationship) (p : Path) → map node_shape x.nodes.items ≡ map node_shape (out-Path p).nodes.items → map unbound_shape x.relationships.items ≡ map unbound_shape (out-Path p).relationships.items → x.indices.items ≡ (out-Path p).indices.items → path_shape (roll-Path x) ≡ path_shape p
same_path x p n r i =
    let m : path_of (map node_shape x.nodes.items) (map unbound_shape x.relationships.items) x.indices.items ≡ path_of (map node_shape (out-Path p).nodes.items) (map unbound_shape (out-Path p).relationships.items) (out-Path p).indices.items = cc in
    path-roll x ∙ m ∙ sym (path-out p)

pub shape-Date : (days : ℤ) → shape (Date days) ≡ structure 0x44 (tree_then (int days) no_trees)
shape-Date days = search (rules, the_lemmas)

pub shape-Time : (nanos : ℤ) (offset : ℤ) → shape (Time nanos offset) ≡ structure 0x54 (tree_then (int nanos) (tree_then (int offset) no_trees))
shape-Time nanos offset = search (rules, the_lemmas)

pub shape-LocalTime : (nanos : ℤ) → shape (LocalTime nanos) ≡ structure 0x74 (tree_then (int nanos) no_trees)
shape-LocalTime nanos = search (rules, the_lemmas)

pub shape-LocalDateTime : (seconds : ℤ) (nanos : ℤ) → shape (LocalDateTime seconds nanos) ≡ structure 0x64 (tree_then (int seconds) (tree_then (int nanos) no_trees))
shape-LocalDateTime seconds nanos = search (rules, the_lemmas)

pub shape-DateTime : (utc : ℤ) (nanos : ℤ) (offset : ℤ) → shape (DateTime utc nanos offset) ≡ structure 0x49 (tree_then (int utc) (tree_then (int nanos) (tree_then (int offset) no_trees)))
shape-DateTime utc nanos offset = search (rules, the_lemmas)

pub shape-ZonedLocal : (seconds : ℤ) (nanos : ℤ) (zone : String Global) → shape (ZonedLocal seconds nanos zone) ≡ structure 0x66 (tree_then (int seconds) (tree_then (int nanos) (tree_then (text_of zone) no_trees)))
shape-ZonedLocal seconds nanos zone = search (rules, the_lemmas)

pub shape-ZonedUtc : (seconds : ℤ) (nanos : ℤ) (zone : String Global) → shape (ZonedUtc seconds nanos zone) ≡ structure 0x69 (tree_then (int seconds) (tree_then (int nanos) (tree_then (text_of zone) no_trees)))
shape-ZonedUtc seconds nanos zone = search (rules, the_lemmas)

pub shape-Duration : (months : ℤ) (days : ℤ) (seconds : ℤ) (nanos : ℤ) → shape (Duration months days seconds nanos) ≡ structure 0x45 (tree_then (int months) (tree_then (int days) (tree_then (int seconds) (tree_then (int nanos) no_trees))))
shape-Duration months days seconds nanos = search (rules, the_lemmas)

pub shape-Point2D : (srid : ℤ) (x : ℕ) (y : ℕ) → shape (Point2D srid x y) ≡ structure 0x58 (tree_then (int srid) (tree_then (float x) (tree_then (float y) no_trees)))
shape-Point2D srid x y = search (rules, the_lemmas)

pub shape-Point3D : (srid : ℤ) (x : ℕ) (y : ℕ) (z : ℕ) → shape (Point3D srid x y z) ≡ structure 0x59 (tree_then (int srid) (tree_then (float x) (tree_then (float y) (tree_then (float z) no_trees))))
shape-Point3D srid x y z = search (rules, the_lemmas)

pub shape-List : (v : Vec Cell Global) → shape (ListCase v) ≡ list (trees_of (shapes v.items))
shape-List v = search (rules, the_lemmas)
