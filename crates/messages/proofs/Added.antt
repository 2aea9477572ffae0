-- A message that is written without a value: bytes that were added one after the other are its spelling.
use Rattle.messages.proofs.Words.{◌≡◌, ◌≤◌, ◌<◌, ◌+◌, ℕ, ℤ, pos, int_le, false, true, Bool, List, [], ◌∷◌, ◌++◌, length, Result, Ok, Err, codes, refl, ap, sym, subst, ◌∙◌, append_assoc, arith, FitsSigned, w64, IsUtf8, append-nil, length-append, PackReason, Tree, int, text, list, dict, structure, Trees, no_trees, tree_then, Entries, no_entries, entry_then, head, text_bytes, canon, IsGood, depth, first_fault, faults_in, entries_of, bad_when, Version, nil_left, scan, structure_fault, structures, structures_in, structures_under, fault_of_structure, IsWritable, form, typed, typed_all, typed_under, Mode, Read, Write, Count, All, Of, MsgFault, ◌>>=◌, count_tree, Contents, cell_put, with_dict, rows_put, mode_pairs, count_number, packed_by, spelling_within, spelling_of_tree, form_put, Adds, AddsEntries, AddsCells}
use Rattle.messages.proofs.Fields.{put_value, put_formed}
use Rattle.messages.proofs.Sent.{sized_fits}

mutual
  pub itself : (t : Tree) → structures t ≡ [] → typed t ≡ t
  itself (list ts) h = ap list (all_themselves ts h)
  itself (dict es) h = ap dict (under_themselves es h)
  itself (structure tag ts) h = absurd cc
  itself t h = refl

  all_themselves : (ts : Trees) → structures_in ts ≡ [] → typed_all ts ≡ ts
  all_themselves no_trees h = refl
  all_themselves (tree_then t ts) h = let none = nil_left (structures t) (structures_in ts) h in rw (itself t none, all_themselves ts (rw none at h)) refl

  under_themselves : (es : Entries) → structures_under es ≡ [] → typed_under es ≡ es
  under_themselves no_entries h = refl
  under_themselves (entry_then k t es) h = let none = nil_left (structures t) (structures_under es) h in rw (itself t none, under_themselves es (rw none at h)) refl

-- a field of cells without structures is written as itself
pub put_itself : (v : Version) (t : Tree) → IsGood t → structures t ≡ [] → cell_put v t ≡ Ok t
put_itself v t g h = put_value v t t (record { writable = (0, ap (scan (fault_of_structure v) 0) h); formed = ((0, ap (scan (structure_fault v) 0) h), sym (itself t h)); good = g })

-- Pieces.
pub three : (old h x y : List ℕ) → old ++ h ++ x ++ y ≡ old ++ (h ++ (x ++ y))
three old h x y = append_assoc (old ++ h) x y ∙ append_assoc old h (x ++ y)

-- the head of a dictionary, then its only entry
pub one_entry : (k : List ℕ) (t : Tree) (old a b new : List ℕ) → a ≡ old ++ 0xA1 ∷ [] → b ≡ a ++ text_bytes k → new ≡ b ++ canon t → new ≡ old ++ canon (dict (entry_then k t no_entries))
unfolding head
one_entry k t old a b new p q r = r ∙ ap (λ x. x ++ canon t) (q ∙ ap (λ x. x ++ text_bytes k) p) ∙ three old (0xA1 ∷ []) (text_bytes k) (canon t)
    ∙ ap (λ x. old ++ (0xA1 ∷ (text_bytes k ++ x))) (sym (append-nil (canon t)))

-- Structures of good fields are good.
pub plain_good : (tag : ℕ) → tag < 256 → IsGood (structure tag no_trees)
plain_good tag h = record { deep = omega arith; sound = (omega arith, tt); plain = (h, tt) }

pub field_good : (tag : ℕ) (t : Tree) → tag < 256 → IsGood t → depth t ≤ 31 → IsGood (structure tag (tree_then t no_trees))
field_good tag t h g d = record { deep = omega (arith, d); sound = (omega arith, (g.sound, tt)); plain = (h, (g.plain, tt)) }

pub run_good : (s : List ℕ) (t u : Tree) → IsUtf8 s → IsGood t → depth t ≤ 31 → IsGood u → depth u ≤ 31 → IsGood (structure 0x10 (tree_then (text s) (tree_then t (tree_then u no_trees))))
run_good s t u h g d k e =
    record { deep = omega (arith, d, e); sound = (omega arith, (tt, (g.sound, (k.sound, tt)))); plain = (omega arith, (h, (g.plain, (k.plain, tt)))) }

-- A structure of one field: its head was added, and then the field.
pub field_added : (f : Result Tree MsgFault) (tag : ℕ) (t : Tree) (old mid new : List ℕ) → tag < 256 → f ≡ Ok (structure tag (tree_then t no_trees)) → mid ≡ old ++ 0xB1 ∷ tag ∷ [] → new ≡ mid ++ canon t → IsGood t → depth t ≤ 31 → Adds f old new
field_added f tag t old mid new h is a b g d = record {
  value = structure tag (tree_then t no_trees);
  is = is;
  good = field_good tag t h g d;
  added = b ∙ ap (λ x. x ++ canon t) a ∙ append_assoc old (0xB1 ∷ tag ∷ []) (canon t) ∙ ap (λ x. old ++ (0xB1 ∷ tag ∷ x)) (sym (append-nil (canon t)));
}

-- of one dictionary with these entries
pub in_dict : (tag : ℕ) (r : Result Entries MsgFault) (old mid new : List ℕ) → tag < 256 → mid ≡ old ++ 0xB1 ∷ tag ∷ [] → AddsEntries r mid new → Adds (with_dict tag r) old new
in_dict tag r old mid new h e a = field_added (with_dict tag r) tag (dict a.entries) old mid new h (ap (λ x. with_dict tag x) a.is) e a.added a.good a.deep

-- and of one field of cells
pub field_of_cells : (v : Version) (s : Tree → Contents) (tag : ℕ) (c : Tree) (old mid new : List ℕ) → tag < 256 → ((x : Tree) → cell_put v c ≡ Ok x → form_put v (s c) ≡ Ok (structure tag (tree_then x no_trees)))
    → mid ≡ old ++ 0xB1 ∷ tag ∷ [] → AddsCells v c mid new → Adds (form_put v (s c)) old new
field_of_cells v s tag c old mid new h is a p = field_added (form_put v (s c)) tag p.value old mid new h (is p.value p.is) a p.added p.good p.deep

-- without structures, which are written as themselves
pub cells_added : (v : Version) (s : Tree → Contents) (tag : ℕ) (t u : Tree) (old mid new : List ℕ) → tag < 256 → ((x : Tree) → cell_put v x ≡ Ok x → form_put v (s x) ≡ Ok (structure tag (tree_then x no_trees))) → t ≡ u
    → mid ≡ old ++ 0xB1 ∷ tag ∷ [] → new ≡ mid ++ canon t → IsGood t → depth t ≤ 31 → structures t ≡ [] → Adds (form_put v (s u)) old new
cells_added v s tag t u old mid new h is e a b g d n = subst (λ x. Adds (form_put v (s x)) old new) e (field_added (form_put v (s t)) tag t old mid new h (is t (put_itself v t g n)) a b g d)

-- cells that can be written are added in their form
pub formed_cells : (v : Version) (t u : Tree) (old new : List ℕ) → t ≡ u → new ≡ old ++ canon (form v t) → IsGood (form v t) → depth (form v t) ≤ 31 → IsWritable v t → AddsCells v u old new
formed_cells v t u old new e a g d w = subst (λ x. AddsCells v x old new) e (record { value = form v t; is = put_formed v t w g; good = g; deep = d; added = a })

-- Entries.
by_test : (z : ℤ) (b : Bool) → int_le (pos 1) z ≡ b → rows_put (Of z) ≡ (count_number (int z) >>= λ t. Ok (entry_then (codes "n") t no_entries))
by_test z true e = rw e refl
by_test z false e = rw e refl

pub count_named : (c : Count) → rows_put c ≡ (count_number (count_tree c) >>= λ t. Ok (entry_then (codes "n") t no_entries))
count_named All = refl
count_named (Of z) = by_test z (int_le (pos 1) z) refl

pub rows_good : (z : ℤ) → FitsSigned w64 z → IsGood (dict (entry_then (codes "n") (int z) no_entries))
unfolding lib.Utf8.encode
rows_good z f = record { deep = omega arith; sound = ((refl, tt), (tt, tt)); plain = ((codes "n", (refl, refl)), f, tt) }

pub number_added : (c : Count) (z : ℤ) (old new : List ℕ) → count_number (count_tree c) ≡ Ok (int z) → IsGood (dict (entry_then (codes "n") (int z) no_entries)) → new ≡ old ++ canon (dict (entry_then (codes "n") (int z) no_entries))
    → AddsEntries (rows_put c) old new
number_added c z old new e g a = record {
  entries = entry_then (codes "n") (int z) no_entries;
  is = count_named c ∙ ap (λ x. x >>= λ t. Ok (entry_then (codes "n") t no_entries)) e;
  good = g;
  deep = omega arith;
  added = a;
}

pub mode_good : (m : Mode) → IsGood (dict (entries_of (mode_pairs m)))
unfolding lib.Utf8.encode
mode_good Read = record { deep = omega arith; sound = ((refl, tt), (tt, tt)); plain = ((codes "mode", (refl, refl)), (codes "r", (refl, refl)), tt) }
mode_good Write = record { deep = omega arith; sound = (tt, tt); plain = tt }

-- A structure without fields.
pub plain_added : (tag : ℕ) (old new : List ℕ) → tag < 256 → new ≡ old ++ canon (structure tag no_trees) → Adds (Ok (structure tag no_trees)) old new
plain_added tag old new h a = record { value = structure tag no_trees; is = refl; good = plain_good tag h; added = a }

-- What was added to an output that was taken over.
pub settled : (f : Result Tree MsgFault) (items before none more new : List ℕ) → before ≡ items → none ≡ [] → Adds f none more → new ≡ before ++ more → Adds f items new
settled f items before none more new b n a e =
    record { value = a.value; is = a.is; good = a.good; added = e ∙ ap (λ x. x ++ more) b ∙ ap (λ x. items ++ x) (a.added ∙ ap (λ x. x ++ canon a.value) n) }

pub short_by : (items before more new : List ℕ) → before ≡ items → new ≡ before ++ more → length more ≤ 65536 → length new ≤ length items + 65536
short_by items before more new b e h = omega (arith, h, ap length b, ap length e, length-append before more)

-- The spelling of a good form.
good_spelled : (t : Tree) (r : Result ℕ (PackReason × ℕ)) → first_fault (faults_in 0 false t) 0 ≡ r → IsGood t → (65536 < length (canon t) → ⊥) → (packed_by r t >>= spelling_within) ≡ Ok (canon t)
good_spelled t (Ok n) w g h = sized_fits t h
good_spelled t (Err e) w g h = absurd (bad_when t e (sym w) g)

module _ (f : Result Tree MsgFault) (old new : List ℕ) (a : Adds f old new) (short : length new ≤ length old + 65536) where
  too_long : 65536 < length (canon a.value) → ⊥
  too_long l = absurd (omega (arith, short, l, ap length a.added, length-append old (canon a.value)))

  pub appended : (b : List ℕ) × ((f >>= spelling_of_tree) ≡ Ok b) × (new ≡ old ++ b)
  appended = (canon a.value, ap (λ r. r >>= spelling_of_tree) a.is ∙ good_spelled a.value (first_fault (faults_in 0 false a.value) 0) refl a.good too_long, a.added)
