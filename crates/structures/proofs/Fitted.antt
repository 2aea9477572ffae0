-- What is written of a cell, and a cell in the form of a version, one level at a time.
use Rattle.std.proofs.Common.{◌≡◌, ℕ, ℤ, List, [], ◌∷◌, map, Option, Some, None, String, Global, false, ◌==◌, refl, ap, Vec, Box, string_bytes, sym, ◌∙◌}
use Rattle.std.proofs.lemmas.Simd.{map-map}
use Rattle.structures.proofs.Prelude.{Tree, int, list, dict, structure, no_trees, tree_then, entry_then, trees_of, entries_of, Version, text_of, texts_of, element_of, elements_of, numbers_of, entries, shape, shapes, node_shape, unbound_shape, relationship_shape, path_shape, path_of, row, row_in, table, Pair, relationship_parts, node-out, node-roll, unbound-out, unbound-roll, relationship-out, relationship-roll, path-out, path-roll, shape-List, shape-Dict, form, form_all, form_under, form_entry, fitted, fitted_all, fitted_under, fitted_by, fitted_entry, element_at, elements_at, V50, V51, Cell, ListCase, DictCase, Path, out-Path, roll-Path, every_version, Field, Integer, Text, Labels, Properties}
use Rattle.structures_cells.specs.declared.cell.ElementIds.{ElementIds}
use Rattle.structures_cells.specs.declared.cell.Cell.TheViews.{out-roll-Path}
use Rattle.structures_cells.specs.declared.cell.Cell.TheOpen.{Node-F, UnboundRelationship-F, Relationship-F, Path-F}
use Rattle.structures_cells.specs.declared.cell.Node.{Node, roll-Node}
use Rattle.structures_cells.specs.declared.cell.Relationship.{Relationship, roll-Relationship}
use Rattle.structures_cells.specs.declared.cell.UnboundRelationship.{UnboundRelationship, roll-UnboundRelationship}

pub form_list : (v : Version) (ts : List Tree) → form_all v (trees_of ts) ≡ trees_of (map (form v) ts)
form_list v [] = refl
form_list v (t ∷ ts) = ap (λ x. tree_then (form v t) x) (form_list v ts)

pub form_pairs : (v : Version) (es : List (List ℕ × Tree)) → form_under v (entries_of es) ≡ entries_of (map (form_entry v) es)
form_pairs v [] = refl
form_pairs v (e ∷ es) = ap (λ x. entry_then e.0 (form v e.1) x) (form_pairs v es)

-- a node, or a relationship without ends, by its three parts
pub named_written : (v : Version) (tag : ℕ) (id : ℤ) (x : Tree) (ps : List Pair) (e : Option (String Global)) (w : Tree) → (tag == 0x49) ≡ false → form v x ≡ x
    → w ≡ structure tag (tree_then (int id) (tree_then x (tree_then (dict (entries_of (map (form_entry v) (entries ps)))) (element_of e)))) → w ≡ form v (structure tag (tree_then (int id) (tree_then x (tree_then (dict (entries_of (entries ps))) (element_of e)))))
named_written v tag id x ps None w n f h = rw (h, n, f, form_pairs v (entries ps)) refl
named_written v tag id x ps (Some s) w n f h = rw (h, n, f, form_pairs v (entries ps)) refl

pub form_numbers : (v : Version) (zs : List ℤ) → form_all v (trees_of (map int zs)) ≡ trees_of (map int zs)
form_numbers v [] = refl
form_numbers v (z ∷ zs) = ap (λ x. tree_then (int z) x) (form_numbers v zs)

pub relationship_written : (v : Version) (id s t : ℤ) (kind : String Global) (ps : List Pair) (e : Option ElementIds) (w : Tree)
    → w ≡ structure 0x52 (tree_then (int id) (tree_then (int s) (tree_then (int t) (tree_then (text_of kind) (tree_then (dict (entries_of (map (form_entry v) (entries ps)))) (elements_of e)))))) → w ≡ form v (relationship_parts id s t kind ps e)
relationship_written v id s t kind ps None w h = rw (h, form_pairs v (entries ps)) refl
relationship_written v id s t kind ps (Some x) w h = rw (h, form_pairs v (entries ps)) refl

pub path_written : (v : Version) (ns ls : List Tree) (is : List ℤ) (a b d : Tree) → a ≡ list (trees_of (map (form v) ns)) → b ≡ list (trees_of (map (form v) ls)) → d ≡ numbers_of is
    → structure 0x50 (tree_then a (tree_then b (tree_then d no_trees))) ≡ form v (structure 0x50 (tree_then (list (trees_of ns)) (tree_then (list (trees_of ls)) (tree_then (numbers_of is) no_trees))))
path_written v ns ls is a b d ea eb ed = rw (ea, eb, ed, form_list v ns, form_list v ls, form_numbers v is) refl

pub fitted_list : (v : Version) (ts : List Tree) → fitted_all v (trees_of ts) ≡ trees_of (map (fitted v) ts)
fitted_list v [] = refl
fitted_list v (t ∷ ts) = ap (λ x. tree_then (fitted v t) x) (fitted_list v ts)

pub fitted_pairs : (v : Version) (es : List (List ℕ × Tree)) → fitted_under v (entries_of es) ≡ entries_of (map (fitted_entry v) es)
fitted_pairs v [] = refl
fitted_pairs v (e ∷ es) = ap (λ x. entry_then e.0 (fitted v e.1) x) (fitted_pairs v es)

-- three fields, and an element id where the version has one
named_fitted : (v : Version) (tag : ℕ) (a b d : Field) (id : ℤ) (t u : Tree) (e : Option (String Global)) → row_in tag table ≡ Some (row tag every_version (a ∷ b ∷ d ∷ []) (Text ∷ []))
    → structure tag (tree_then (int id) (tree_then (fitted v t) (tree_then (fitted v u) (element_at v id (element_of e))))) ≡ fitted v (structure tag (tree_then (int id) (tree_then t (tree_then u (element_of e)))))
named_fitted V50 tag a b d id t u None r = sym (ap (λ o. structure tag (fitted_by V50 o (fitted_all V50 (tree_then (int id) (tree_then t (tree_then u no_trees)))))) r)
named_fitted V51 tag a b d id t u None r = sym (ap (λ o. structure tag (fitted_by V51 o (fitted_all V51 (tree_then (int id) (tree_then t (tree_then u no_trees)))))) r)
named_fitted v tag a b d id t u e r = sym (ap (λ o. structure tag (fitted_by v o (fitted_all v (tree_then (int id) (tree_then t (tree_then u (element_of e))))))) r)

relationship_fitted : (v : Version) (id s d : ℤ) (kind : String Global) (ps : List Pair) (e : Option ElementIds)
    → structure 0x52 (tree_then (int id) (tree_then (int s) (tree_then (int d) (tree_then (text_of kind) (tree_then (dict (entries_of (map (fitted_entry v) (entries ps)))) (elements_at v id s d (elements_of e))))))) ≡ fitted v (relationship_parts id s d kind ps e)
relationship_fitted V50 id s d kind ps None = rw (fitted_pairs V50 (entries ps)) refl
relationship_fitted V51 id s d kind ps None = rw (fitted_pairs V51 (entries ps)) refl
relationship_fitted v id s d kind ps e = rw (fitted_pairs v (entries ps)) refl

pub fit_node_is : (v : Version) (x : Node-F Cell Node Path Relationship UnboundRelationship) (n : Node) → x.id ≡ n.id → map text_of x.labels.items ≡ map text_of n.labels.items → entries x.properties.items ≡ map (fitted_entry v) (entries n.properties.items) → element_of x.element_id ≡ element_at v n.id (element_of n.element_id)
    → node_shape (roll-Node x) ≡ fitted v (node_shape n)
fit_node_is v x n i l p e = node-roll x ∙ rw (i, l, p, e, fitted_list v (map text_of n.labels.items), map-map (fitted v) text_of n.labels.items, fitted_pairs v (entries n.properties.items)) refl
    ∙ named_fitted v 0x4E Integer Labels Properties n.id (texts_of n.labels.items) (dict (entries_of (entries n.properties.items))) n.element_id refl ∙ ap (fitted v) (sym (node-out n))

pub fit_unbound_is : (v : Version) (x : UnboundRelationship-F Cell Node Path Relationship UnboundRelationship) (n : UnboundRelationship) → x.id ≡ n.id → string_bytes x.kind ≡ string_bytes n.kind → entries x.properties.items ≡ map (fitted_entry v) (entries n.properties.items) → element_of x.element_id ≡ element_at v n.id (element_of n.element_id)
    → unbound_shape (roll-UnboundRelationship x) ≡ fitted v (unbound_shape n)
fit_unbound_is v x n i k p e = unbound-roll x ∙ rw (i, k, p, e, fitted_pairs v (entries n.properties.items)) refl
    ∙ named_fitted v 0x72 Integer Text Properties n.id (text_of n.kind) (dict (entries_of (entries n.properties.items))) n.element_id refl ∙ ap (fitted v) (sym (unbound-out n))

pub fit_relationship_is : (v : Version) (x : Relationship-F Cell Node Path Relationship UnboundRelationship) (n : Relationship) → x.id ≡ n.id → x.start ≡ n.start → x.end ≡ n.end → string_bytes x.kind ≡ string_bytes n.kind → entries x.properties.items ≡ map (fitted_entry v) (entries n.properties.items) → elements_of x.element_ids ≡ elements_at v n.id n.start n.end (elements_of n.element_ids)
    → relationship_shape (roll-Relationship x) ≡ fitted v (relationship_shape n)
fit_relationship_is v x n i s d k p e = relationship-roll x ∙ rw (i, s, d, k, p, e) refl ∙ relationship_fitted v n.id n.start n.end n.kind n.properties.items n.element_ids ∙ ap (fitted v) (sym (relationship-out n))

pub fit_list_is : (v : Version) (a b : Vec Cell Global) → shapes a.items ≡ map (fitted v) (shapes b.items) → shape (ListCase a) ≡ fitted v (shape (ListCase b))
fit_list_is v a b h = shape-List a ∙ ap (λ (ts : List Tree). list (trees_of ts)) h ∙ ap list (sym (fitted_list v (shapes b.items))) ∙ ap (fitted v) (sym (shape-List b))

pub fit_dict_is : (v : Version) (a b : Vec Pair Global) → entries a.items ≡ map (fitted_entry v) (entries b.items) → shape (DictCase a) ≡ fitted v (shape (DictCase b))
fit_dict_is v a b h = shape-Dict a ∙ ap (λ es. dict (entries_of es)) h ∙ ap dict (sym (fitted_pairs v (entries b.items))) ∙ ap (fitted v) (sym (shape-Dict b))

pub fit_path_is : (v : Version) (x : Path-F Cell Node Path Relationship UnboundRelationship) (p : Path) → map node_shape x.nodes.items ≡ map (fitted v) (map node_shape (out-Path p).nodes.items) → map unbound_shape x.relationships.items ≡ map (fitted v) (map unbound_shape (out-Path p).relationships.items) → x.indices.items ≡ (out-Path p).indices.items
    → path_shape (roll-Path x) ≡ fitted v (path_shape p)
fit_path_is v x p n r i =
    let whole : path_of (map (fitted v) (map node_shape (out-Path p).nodes.items)) (map (fitted v) (map unbound_shape (out-Path p).relationships.items)) (out-Path p).indices.items ≡ fitted v (path_of (map node_shape (out-Path p).nodes.items) (map unbound_shape (out-Path p).relationships.items) (out-Path p).indices.items) = rw (fitted_list v (map node_shape (out-Path p).nodes.items), fitted_list v (map unbound_shape (out-Path p).relationships.items), fitted_list v (map int (out-Path p).indices.items), map-map (fitted v) int (out-Path p).indices.items) refl in
    path-roll x ∙ ap (λ y. path_of y (map unbound_shape x.relationships.items) x.indices.items) n ∙ ap (λ y. path_of (map (fitted v) (map node_shape (out-Path p).nodes.items)) y x.indices.items) r ∙ ap (λ y. path_of (map (fitted v) (map node_shape (out-Path p).nodes.items)) (map (fitted v) (map unbound_shape (out-Path p).relationships.items)) y) i ∙ whole ∙ ap (fitted v) (sym (path-out p))

-- the same of a path whose nodes are fitted first, and then its relationships
pub fit_path_in_turn : (v : Version) (p : Path) (ns : Vec Node Global) (rs : Vec UnboundRelationship Global) → map node_shape ns.items ≡ map (fitted v) (map node_shape (out-Path p).nodes.items) → map unbound_shape rs.items ≡ map (fitted v) (map unbound_shape (out-Path (roll-Path (record (out-Path p) { nodes = ns }))).relationships.items)
    → path_shape (roll-Path (record (out-Path (roll-Path (record (out-Path p) { nodes = ns }))) { relationships = rs })) ≡ fitted v (path_shape p)
fit_path_in_turn v p ns rs n r =
    let e = out-roll-Path (record (out-Path p) { nodes = ns }) in
    fit_path_is v (record (out-Path (roll-Path (record (out-Path p) { nodes = ns }))) { relationships = rs }) p (ap (λ f. map node_shape f.nodes.items) e ∙ n) (r ∙ ap (λ f. map (fitted v) (map unbound_shape f.relationships.items)) e) (ap (λ f. f.indices.items) e)

-- a cell that stands behind a box
pub fit_boxed : {A : Type 0} (case : Box A Global → Cell) (see : A → Tree) → ((b : Box A Global) → shape (case b) ≡ see b.value) → (v : Version) (a b : Box A Global) (old : A) → old ≡ b.value → see a.value ≡ fitted v (see old) → shape (case a) ≡ fitted v (shape (case b))
fit_boxed case see is v a b old same h = is a ∙ h ∙ ap (λ x. fitted v (see x)) same ∙ ap (fitted v) (sym (is b))
