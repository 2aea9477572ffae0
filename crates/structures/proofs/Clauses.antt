-- What was read can be written. A value is read and a cell is written in one way, or refused for one fault; so what is answered, clause by clause, is one.
use Rattle.std.proofs.Common.{◌≡◌, ℕ, List, Ok, Err, refl, sym, ap, arith, ◌∙◌, subst, inl, inr, ◌↔◌, Result, map, Vec, Global, String}
use Rattle.structures.proofs.Prelude.{Tree, list, dict, tree, trees, trees_of, entries_of, seen_entries, Value, ListValue, DictValue, tree-List, tree-Dict, Version, Reason, fault, structures, scan, IsBad, IsFine, fault_of_structure, IsWritable, IsUnwritable, shape, shapes, entries, scan_fine, fine_scan, Form, typed, form, HasOneReading, HasOneWriting, Reads, Writes, HasGoodForm, HasBadForm, Gave, UnlessMemory, IsUnpacked, Packs, form_entry, typed_shape, shapes_typed, pairs_typed, Cell, PackReason, CellFault}
use Rattle.structures_cells.proofs.Scanning.{Found}
use Rattle.structures.proofs.Formed.{read_again, again, form_is, packed_is, writable_when}
use Rattle.structures.proofs.Fitted.{form_list, form_pairs}
use Rattle.packstream.proofs.Checking.{bad_when}
use Rattle.structures.specs.declared.fault.CellFault.TheVariants as told

-- what was read can be written
pub read_writable : (v : Version) (s t : Tree) → Form v s t → IsWritable v s
read_writable v s t f = subst (IsWritable v) (sym f.1) (scan_fine (fault_of_structure v) 0 (structures (typed t)) (read_again v t (fine_scan (fault v) 0 f.0.0 (structures t) f.0.1)).1)

pub never_unwritable : (v : Version) (s t : Tree) (k : ℕ) (r : Reason) → Form v s t → IsUnwritable v s k r → ⊥
never_unwritable v s t k r f u = let w = read_writable v s t f in let both : ◌≡◌ {A = Found} (Ok w.0) (Err (r, k)) = sym w.1 ∙ u in cc

-- faults that are one have one number and one reason
same_place : (x : Reason × ℕ) (k : ℕ) (r : Reason) → ◌≡◌ {A = Found} (Err x) (Err (r, k)) → (x.1 ≡ k) × (x.0 ≡ r)
same_place x k r h = let w : x ≡ (r, k) = cc in (ap (λ (y : Reason × ℕ). y.1) w, ap (λ (y : Reason × ℕ). y.0) w)

read_once : (v : Version) (t : Tree) (f : Found) → scan (fault v) 0 (structures t) ≡ f → HasOneReading v t
read_once v t (Ok n) e = inl (record {
  cell = typed t;
  formed = ((n, e), refl);
  only = λ s h. sym h.1;
  never_bad = λ k r h. cc;
})
read_once v t (Err x) e = inr (record {
  number = x.1;
  why = x.0;
  bad = e;
  only = λ k r h. same_place x k r (sym e ∙ h);
  forms_none = λ s h. cc (h.0.1);
})

pub one_reading_is : (v : Version) (t : Tree) → HasOneReading v t
one_reading_is v t = read_once v t (scan (fault v) 0 (structures t)) refl

-- a cell has at most one form
pub same_form : (v : Version) (s t u : Tree) → Form v s t → Form v s u → t ≡ u
same_form v s t u f g =
    sym (again v t (fine_scan (fault v) 0 f.0.0 (structures t) f.0.1)) ∙ ap (form v) (sym f.1) ∙ ap (form v) g.1 ∙ again v u (fine_scan (fault v) 0 g.0.0 (structures u) g.0.1)

written_once : (v : Version) (c : Cell) (f : Found) → scan (fault_of_structure v) 0 (structures (shape c)) ≡ f → HasOneWriting v (shape c)
written_once v c (Ok n) e =
    let is = form_is v c (fine_scan (fault_of_structure v) 0 n (structures (shape c)) e) in
    inl (record {
      value = form v (shape c);
      writable = (n, e);
      formed = is;
      only = λ t g. same_form v (shape c) (form v (shape c)) t is g;
      never_unwritable = λ k r h. never_unwritable v (shape c) (form v (shape c)) k r is h;
    })
written_once v c (Err x) e = inr (record {
  number = x.1;
  why = x.0;
  unwritable = e;
  only = λ k r h. same_place x k r (sym e ∙ h);
  never_writable = λ w. cc (w.1);
  has_none = λ t g. never_unwritable v (shape c) t x.1 x.0 g e;
})

pub one_writing_is : (v : Version) (c : Cell) → HasOneWriting v (shape c)
one_writing_is v c = written_once v c (scan (fault_of_structure v) 0 (structures (shape c))) refl

module _ (v : Version) (t : Tree) where
  -- the clauses are all
  pub reads_by : (r : Result Cell CellFault) → ((s : Tree) → UnlessMemory r (Gave r s ↔ Form v s t))
      → ((q : Reason) (k : ℕ) → UnlessMemory r ((r ≡ Err (told.Refused q k)) ↔ IsBad v t k q))
      → (r ≡ Err told.Memory → IsFine v t) → Reads v t r
  reads_by (Ok c) cell bad memory = (cell (shape c)).0 refl
  reads_by (Err (told.Refused q k)) cell bad memory = (bad q k).0 refl
  reads_by (Err told.Memory) cell bad memory = memory refl
  reads_by (Err (told.Pack q o)) cell bad memory = elim (one_reading_is v t) [ inl h ↦ (cell h.cell).1 h.formed | inr h ↦ let e = (bad h.why h.number).1 h.bad in cc ]

never_both : (v : Version) (s : Tree) (k : ℕ) (r : Reason) → IsWritable v s → IsUnwritable v s k r → ⊥
never_both v s k r w u = let both : ◌≡◌ {A = Found} (Ok w.0) (Err (r, k)) = sym w.1 ∙ u in cc

one_unpacked : (t : Tree) (q r : PackReason) (o p : ℕ) → IsUnpacked t q o → IsUnpacked t r p → ◌≡◌ {A = Result Tree CellFault} (Err (told.Pack q o)) (Err (told.Pack r p))
one_unpacked t q r o p a b = let both : ◌≡◌ {A = Result ℕ (PackReason × ℕ)} (Err (q, o)) (Err (r, p)) = sym a ∙ b in let same : (q, o) ≡ (r, p) = cc in ap (λ (x : PackReason × ℕ). Err (told.Pack x.0 x.1)) same

module _ (v : Version) (s : Tree) where
  -- the fault of the cell's form
  unpacked_of : (t : Tree) → Form v s t → (q : PackReason) (o : ℕ) → HasBadForm v s q o → IsUnpacked t q o
  unpacked_of t f q o h = subst (λ x. IsUnpacked x q o) (same_form v s h.value t h.formed f) h.unpacked

  both_forms : (t : Tree) → HasGoodForm v s t → (q : PackReason) (o : ℕ) → HasBadForm v s q o → ⊥
  both_forms t g q o h = bad_when t (q, o) (sym (unpacked_of t g.formed q o h)) g.good

  pub writes_value : (r : Result Tree CellFault) → Writes v s r → (t : Tree) → UnlessMemory r ((r ≡ Ok t) ↔ HasGoodForm v s t)
  writes_value (Ok u) w t = ((λ e. subst (λ r. Writes v s r) e w), (λ h. ap (λ x. Ok x) (same_form v s u t w.formed h.formed)))
  writes_value r w t = grind (arith, never_both, both_forms)

  pub writes_pack : (r : Result Tree CellFault) → Writes v s r → (q : PackReason) (o : ℕ) → UnlessMemory r ((r ≡ Err (told.Pack q o)) ↔ HasBadForm v s q o)
  writes_pack r w q o = grind (arith, never_both, both_forms, one_unpacked, unpacked_of)

  -- the clauses are all
  pub writes_by : (r : Result Tree CellFault) → ((t : Tree) → UnlessMemory r ((r ≡ Ok t) ↔ HasGoodForm v s t))
      → ((q : Reason) (k : ℕ) → UnlessMemory r ((r ≡ Err (told.Refused q k)) ↔ IsUnwritable v s k q))
      → ((q : PackReason) (o : ℕ)
      → UnlessMemory r ((r ≡ Err (told.Pack q o)) ↔ HasBadForm v s q o))
      → (r ≡ Err told.Memory → IsWritable v s) → Writes v s r
  writes_by (Ok u) value bad pack memory = (value u).0 refl
  writes_by (Err (told.Refused q k)) value bad pack memory = (bad q k).0 refl
  writes_by (Err told.Memory) value bad pack memory = memory refl
  writes_by (Err (told.Pack q o)) value bad pack memory = (pack q o).0 refl

-- what is written of a cell, of a list of cells and of entries
module _ (v : Version) (r : Result Tree CellFault) where
  pub cell_packed : (c : Cell) (t : Tree) → IsWritable v (shape c) → t ≡ form v (shape c) → Packs t r → Writes v (shape c) r
  cell_packed c t = packed_is v (shape c) t r (typed_shape c)

  pub list_packed : (cs : List Cell) (x : Vec Value Global) → IsWritable v (list (trees_of (shapes cs))) → trees x.items ≡ map (form v) (shapes cs) → Packs (tree (ListValue x)) r → Writes v (list (trees_of (shapes cs))) r
  list_packed cs x w e = packed_is v (list (trees_of (shapes cs))) (tree (ListValue x)) r (shapes_typed cs) w (tree-List x ∙ ap list (ap trees_of e ∙ sym (form_list v (shapes cs))))

  pub dict_packed : (es : List (String Global × Cell)) (x : Vec (String Global × Value) Global) → IsWritable v (dict (entries_of (entries es))) → seen_entries x.items ≡ map (form_entry v) (entries es) → Packs (tree (DictValue x)) r → Writes v (dict (entries_of (entries es))) r
  dict_packed es x w e = packed_is v (dict (entries_of (entries es))) (tree (DictValue x)) r (pairs_typed es) w (tree-Dict x ∙ ap dict (ap entries_of e ∙ sym (form_pairs v (entries es))))

-- what writing cites: that there is a form, what is packed of it, and each clause
pub ruleset written = (writable_when, cell_packed, list_packed, dict_packed, writes_value, writes_pack)
