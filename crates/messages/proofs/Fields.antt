-- Fields one at a time: by their number, what they say by the row of their structure, and how a field of cells is written.
use Rattle.messages.proofs.Words.{subst, IsErrAnd, ◌≡◌, List, [], ◌∷◌, length, false, ◌==◌, refl, sym, ◌∙◌, Err, Global, String, rules, ℕ, true, ap, Option, Result, Ok, typed, dict, text, structure, entries_of, Trees, no_trees, tree_then, Tree, list, Entries, IsGood, tree, trees, trees_of, first_fault, faults_in, Value, TextCase, the_lemmas, text_of, scan, structure_fault, structures, IsWritable, Mode, Version, hello_has_login, MsgFault, Form, form, Reads, Writes, CellReason, PackReason, bad_when, fine_scan, CellFault, again, no_field, one_field, three_fields, field_text, entries_of_dict, dict_of_cells, list_of_cells, only_dict, contents_of_login, contents_of_run, as_dict, as_list, Name, Others, Named, ignored, extra, text_field, cells, cell_list, credentials, RUN, of_transaction, ◌>>=◌, contents, contents_of_named, contents_of_row, contents_of_extra, cell_of_field, cell_by, Answers, of_cell, value_by, form_by, cell_put, form_put, transaction_put, request_contents, Run}
use Rattle.messages.specs.declared.fault.MsgFault.TheVariants as fault
use Rattle.structures.specs.declared.fault.CellFault.TheVariants as cell_fault

pub some_field : (vs : List Value) → (length vs == 0) ≡ false → no_field (trees_of (trees vs)) ≡ Err fault.Fields
some_field [] h = cc
some_field (v ∷ vs) h = refl

pub not_one : (vs : List Value) → (length vs ≡ 1 → ⊥) → one_field (trees_of (trees vs)) ≡ Err fault.Fields
not_one (v ∷ []) h = absurd (h refl)
not_one vs h = refl

pub not_three : (vs : List Value) → (length vs ≡ 3 → ⊥) → three_fields (trees_of (trees vs)) ≡ Err fault.Fields
not_three (u ∷ v ∷ w ∷ []) h = absurd (h refl)
not_three vs h = refl

pub tree_of_text : (s : String Global) → tree (TextCase s) ≡ text_of s
tree_of_text s = search (rules, the_lemmas)

pub none_row : (v : Version) (n : Name) (ts : Trees) → contents_of_row v n [] ts ≡ (no_field ts >>= λ x. Ok (contents n [] []))
none_row v n no_trees = refl
none_row v n (tree_then t ts) = refl

pub extra_row : (v : Version) (n : Name) (o : Others) (ns : List Named) (ts : Trees) → contents_of_row v n (extra o ns ∷ []) ts ≡ (only_dict ts >>= λ es. contents_of_extra v o ns es >>= λ xs. Ok (contents n [] xs))
extra_row v n o ns (tree_then (dict es) no_trees) = refl
extra_row v n o ns (tree_then t no_trees) = refl
extra_row v n o ns ts = refl

-- who the client is, where HELLO carries it
pub login_here : (v : Version) (es : Entries) → hello_has_login v ≡ true → contents_of_named v (credentials hello_has_login) es ≡ contents_of_login es
login_here v es h = rw h refl

one_cell : (n : Name) (t : Tree) (kind : Tree → Result Tree MsgFault) (r : Result ℕ (CellReason × ℕ)) → kind (typed t) ≡ Ok (typed t) → ((cell_by r t >>= λ x. Ok (x ∷ [])) >>= λ fs. Ok (contents n fs [])) ≡ ((cell_by r t >>= kind) >>= λ c. Ok (contents n (c ∷ []) []))
one_cell n t kind (Ok k) e = rw e refl
one_cell n t kind (Err x) e = refl

pub cells_row : (v : Version) (n : Name) (ts : Trees) → contents_of_row v n (cells ∷ []) ts ≡ (one_field ts >>= λ t. dict_of_cells v t >>= λ c. Ok (contents n (c ∷ []) []))
cells_row v n (tree_then (dict es) no_trees) = one_cell n (dict es) as_dict (scan (structure_fault v) 0 (structures (dict es))) refl
cells_row v n (tree_then t no_trees) = refl
cells_row v n ts = refl

pub list_row : (v : Version) (n : Name) (ts : Trees) → contents_of_row v n (cell_list ∷ []) ts ≡ (one_field ts >>= λ t. list_of_cells v t >>= λ c. Ok (contents n (c ∷ []) []))
list_row v n (tree_then (list us) no_trees) = one_cell n (list us) as_list (scan (structure_fault v) 0 (structures (list us))) refl
list_row v n (tree_then t no_trees) = refl
list_row v n ts = refl

text_and_dict : (n : Name) (t : Tree) (es : Entries) (a : Result (List Tree) MsgFault) (r : Result ℕ (CellReason × ℕ)) → (a >>= λ x. ((cell_by r (dict es) >>= λ x. Ok (x ∷ [])) >>= λ xs. Ok (t ∷ xs)) >>= λ fs. Ok (contents n fs x))
    ≡ (a >>= λ x. (cell_by r (dict es) >>= as_dict) >>= λ c. Ok (contents n (t ∷ c ∷ []) x))
text_and_dict n t es (Ok a) (Ok k) = refl
text_and_dict n t es a r = refl

pub run_row : (v : Version) (ts : Trees) → contents_of_row v RUN (text_field ∷ cells ∷ extra ignored of_transaction ∷ []) ts
    ≡ (three_fields ts >>= λ p. field_text p.0 >>= λ s. entries_of_dict p.1 >>= λ ps. entries_of_dict p.2 >>= λ es. contents_of_run v s p.1 es)
run_row v (tree_then (text s) (tree_then (dict ps) (tree_then (dict es) no_trees))) = text_and_dict RUN (text s) ps (contents_of_named v of_transaction es) (scan (structure_fault v) 0 (structures (dict ps)))
run_row v (tree_then t (tree_then u (tree_then w no_trees))) = refl
run_row v ts = refl

-- a RUN is written of its text, of its parameters and of its other entries
pub run_put : (v : Version) (s : List ℕ) (ps : List (List ℕ × Tree)) (m : Mode) (token : Option (List ℕ)) (es : Entries) (u w : Tree) → transaction_put m token ≡ Ok es → cell_put v (dict (entries_of ps)) ≡ Ok u → w ≡ structure 0x10 (tree_then (text s) (tree_then u (tree_then (dict es) no_trees)))
    → form_put v (request_contents (Run s ps m token)) ≡ Ok w
run_put v s ps m token es u w e f is = rw (is, e, f) refl

-- a value that stands for a cell is the cell's form
pub form_again : (v : Version) (s t : Tree) → Form v s t → form v s ≡ t
form_again v s t f = ap (form v) f.1 ∙ again v t (fine_scan (structure_fault v) 0 f.0.0 (structures t) f.0.1)

good_value : (t : Tree) (r : Result ℕ (PackReason × ℕ)) → first_fault (faults_in 0 false t) 0 ≡ r → IsGood t → value_by r t ≡ Ok t
good_value t (Ok n) w g = refl
good_value t (Err e) w g = absurd (bad_when t e (sym w) g)

-- the form of a cell is told as that cell
pub told_cell : (v : Version) (s t : Tree) → Form v s t → cell_of_field v t ≡ Ok s
told_cell v s t f = ap (λ r. cell_by r t) f.0.1 ∙ ap Ok (sym f.1)

pub read_fault_is : (v : Version) (t : Tree) (e : CellFault) → Reads v t (Err e) → (of_cell e ≡ fault.Memory → ⊥) → cell_of_field v t ≡ Err (of_cell e)
read_fault_is v t (cell_fault.Refused r k) h n = ap (λ x. cell_by x t) h
read_fault_is v t (cell_fault.Pack r o) h n = absurd h
read_fault_is v t cell_fault.Memory h n = absurd (n refl)

-- a cell that can be written, and whose form is good, is written in it
pub put_formed : (v : Version) (s : Tree) → IsWritable v s → IsGood (form v s) → cell_put v s ≡ Ok (form v s)
put_formed v s w g = ap (λ r. form_by r (form v s)) w.1 ∙ good_value (form v s) (first_fault (faults_in 0 false (form v s)) 0) refl g

pub put_value : (v : Version) (s t : Tree) → Writes v s (Ok t) → cell_put v s ≡ Ok t
put_value v s t h = let e = form_again v s t h.formed in put_formed v s h.writable (subst IsGood (sym e) h.good) ∙ ap Ok e

pub put_fault : (v : Version) (s : Tree) (e : CellFault) → Writes v s (Err e) → (of_cell e ≡ fault.Memory → ⊥) → cell_put v s ≡ Err (of_cell e)
put_fault v s (cell_fault.Refused r k) h n = ap (λ x. form_by x (form v s)) h
put_fault v s (cell_fault.Pack r o) h n = ap (λ x. form_by x (form v s)) h.writable.1
    ∙ ap (λ u. value_by (first_fault (faults_in 0 false u) 0) u) (form_again v s h.value h.formed)
    ∙ ap (λ x. value_by x h.value) h.unpacked
put_fault v s cell_fault.Memory h n = absurd (n refl)

pub told_fault : {X Y : Type 0} (view : X → Y) (r : Result X MsgFault) (s : Result Y MsgFault) (e : MsgFault) → IsErrAnd r (λ x. x ≡ e) → ((e ≡ fault.Memory → ⊥) → s ≡ Err e) → Answers view r s
told_fault view (Ok x) s e h k = absurd h
told_fault view (Err x) s e h k = rw h k
