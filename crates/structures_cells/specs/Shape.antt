-- The tree that a `Cell` is seen as: a typed cell is its tag and its fields, a DateTime always that of UTC seconds.
use Rattle.std.specs.Prelude.{ℕ, ℤ, List, map, String, string_bytes, Option, None, Some}
use Rattle.std.specs.declared.alloc.Global.{Global}
use Rattle.packstream.specs.Tree.{Tree, null, boolean, int, float, byte_string, text, list, dict, structure, Trees, no_trees, tree_then}
use Rattle.packstream.specs.View.{trees_of, entries_of}
use Rattle.structures_cells.specs.declared.cell.Cell.{Cell}
use Rattle.structures_cells.specs.declared.cell.Cell.TheOpen.{Cell-F, Node-F, UnboundRelationship-F, Relationship-F, Path-F}
use Rattle.structures_cells.specs.declared.cell.Cell.TheFolds.{fold-Cell, fold-Node, fold-UnboundRelationship, fold-Relationship, fold-Path}
use Rattle.structures_cells.specs.declared.cell.Node.{Node}
use Rattle.structures_cells.specs.declared.cell.UnboundRelationship.{UnboundRelationship}
use Rattle.structures_cells.specs.declared.cell.Relationship.{Relationship}
use Rattle.structures_cells.specs.declared.cell.Path.{Path}
use Rattle.structures_cells.specs.declared.cell.ElementIds.{ElementIds}
use Rattle.structures_cells.specs.Table.{node_tag, relationship_tag, unbound_tag, path_tag, date_tag, time_tag, local_time_tag, local_date_time_tag, date_time_tag, legacy_zoned_tag, zoned_tag, duration_tag, point_2d_tag, point_3d_tag}

-- a text, by its bytes
abbrev pub text_of : String Global → Tree
text_of s = text (string_bytes s)

-- a list of texts, each by its bytes
abbrev pub texts_of : List (String Global) → Tree
texts_of ss = list (trees_of (map text_of ss))

-- a list of integers
abbrev pub numbers_of : List ℤ → Tree
numbers_of zs = list (trees_of (map int zs))

-- a dictionary of these keys, by their bytes, and values
abbrev pub dict_of : List (String Global × Tree) → Tree
dict_of es = dict (entries_of (map (λ e. (string_bytes e.0, e.1)) es))

-- the element id if it is there
abbrev pub element_of : Option (String Global) → Trees
element_of None = no_trees
element_of (Some s) = tree_then (text_of s) no_trees

-- the three of a relationship
abbrev pub elements_of : Option ElementIds → Trees
elements_of None = no_trees
elements_of (Some e) = tree_then (text_of e.own)
    (tree_then (text_of e.start) (tree_then (text_of e.end) no_trees))

-- a node: id, labels, properties, and the element id if it is there
abbrev pub node_step : Node-F Tree Tree Tree Tree Tree → Tree
node_step n =
    structure node_tag (tree_then (int n.id)
    (tree_then (texts_of n.labels.items)
    (tree_then (dict_of n.properties.items) (element_of n.element_id))))

-- a relationship in a path: id, type, properties, and the element id if it is there
abbrev pub unbound_step : UnboundRelationship-F Tree Tree Tree Tree Tree → Tree
unbound_step r =
    structure unbound_tag (tree_then (int r.id)
    (tree_then (text_of r.kind)
    (tree_then (dict_of r.properties.items) (element_of r.element_id))))

-- a relationship: id, those of its ends, type, properties, and the element ids if they are there
abbrev pub relationship_step : Relationship-F Tree Tree Tree Tree Tree → Tree
relationship_step r =
    structure relationship_tag
    (tree_then (int r.id) (tree_then (int r.start)
    (tree_then (int r.end) (tree_then (text_of r.kind)
    (tree_then (dict_of r.properties.items) (elements_of r.element_ids))))))

-- a path: its nodes, its relationships, and the indices of its walk
abbrev pub path_of : List Tree → List Tree → List ℤ → Tree
path_of nodes relationships indices =
    structure path_tag (tree_then (list (trees_of nodes))
    (tree_then (list (trees_of relationships))
    (tree_then (numbers_of indices) no_trees)))

-- the same of a path whose parts are already seen as their trees
abbrev pub path_step : Path-F Tree Tree Tree Tree Tree → Tree
path_step p = path_of p.nodes.items p.relationships.items p.indices.items

-- one level, with each cell inside already seen as its tree
abbrev pub cell_step : Cell-F Tree Tree Tree Tree Tree → Tree
cell_step Cell-F.Null = null
cell_step (Cell-F.Bool b) = boolean b
cell_step (Cell-F.Int z) = int z
cell_step (Cell-F.Float n) = float n
cell_step (Cell-F.Bytes v) = byte_string v.items
cell_step (Cell-F.Text s) = text_of s
cell_step (Cell-F.List v) = list (trees_of v.items)
cell_step (Cell-F.Dict v) = dict_of v.items
cell_step (Cell-F.Node n) = n.value
cell_step (Cell-F.Relationship r) = r.value
cell_step (Cell-F.UnboundRelationship r) = r.value
cell_step (Cell-F.Path p) = p.value
cell_step (Cell-F.Date d) = structure date_tag (tree_then (int d) no_trees)
cell_step (Cell-F.Time n o) = structure time_tag (tree_then (int n) (tree_then (int o) no_trees))
cell_step (Cell-F.LocalTime n) = structure local_time_tag (tree_then (int n) no_trees)
cell_step (Cell-F.LocalDateTime s n) =
    structure local_date_time_tag (tree_then (int s) (tree_then (int n) no_trees))
cell_step (Cell-F.DateTime s n o) =
    structure date_time_tag (tree_then (int s) (tree_then (int n) (tree_then (int o) no_trees)))
cell_step (Cell-F.ZonedLocal s n z) =
    structure legacy_zoned_tag
    (tree_then (int s) (tree_then (int n) (tree_then (text_of z) no_trees)))
cell_step (Cell-F.ZonedUtc s n z) =
    structure zoned_tag (tree_then (int s) (tree_then (int n) (tree_then (text_of z) no_trees)))
cell_step (Cell-F.Duration m d s n) =
    structure duration_tag (tree_then (int m)
    (tree_then (int d) (tree_then (int s) (tree_then (int n) no_trees))))
cell_step (Cell-F.Point2D i x y) =
    structure point_2d_tag (tree_then (int i) (tree_then (float x) (tree_then (float y) no_trees)))
cell_step (Cell-F.Point3D i x y z) =
    structure point_3d_tag (tree_then (int i)
    (tree_then (float x) (tree_then (float y) (tree_then (float z) no_trees))))

-- a cell, and what stands in it, as trees
abbrev pub shape : Cell → Tree
shape = fold-Cell Tree Tree Tree Tree Tree cell_step node_step path_step relationship_step unbound_step

-- a node, and what stands in it, as a tree
abbrev pub node_shape : Node → Tree
node_shape = fold-Node Tree Tree Tree Tree Tree cell_step node_step path_step relationship_step
    unbound_step

-- a relationship in a path, and what stands in it, as a tree
abbrev pub unbound_shape : UnboundRelationship → Tree
unbound_shape = fold-UnboundRelationship Tree Tree Tree Tree Tree cell_step node_step
    path_step relationship_step unbound_step

-- a relationship, and what stands in it, as a tree
abbrev pub relationship_shape : Relationship → Tree
relationship_shape = fold-Relationship Tree Tree Tree Tree Tree cell_step node_step
    path_step relationship_step unbound_step

-- a path, and what stands in it, as a tree
abbrev pub path_shape : Path → Tree
path_shape = fold-Path Tree Tree Tree Tree Tree cell_step node_step path_step relationship_step
    unbound_step

-- cells as trees, in order
abbrev pub shapes : List Cell → List Tree
shapes cs = map shape cs

-- an entry: its key by its bytes, its value as a tree
abbrev pub entry : String Global × Cell → List ℕ × Tree
entry e = (string_bytes e.0, shape e.1)

-- entries in order: keys by their bytes, values as trees
abbrev pub entries : List (String Global × Cell) → List (List ℕ × Tree)
entries es = map entry es
