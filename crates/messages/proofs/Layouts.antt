-- What is told of a value by reading it is what the table lays out.
use Rattle.messages.proofs.Words.{◌≡◌, ◌↔◌, ℕ, List, [], ◌∷◌, ◌++◌, append-nil, true, cond, ◌||◌, Option, Some, Result, Ok, codes, refl, ap, arith, Any, Contains, bytes_eq, list_any, bytes_eq-Decides, Any-from_list_any, list_any-from_Any, Decides-eqb, Decides-int_eq, Tree, text, list, dict, structure, Trees, no_trees, tree_then, Entries, no_entries, entry_then, keys_of, Version, MsgFault, Holds, Named, Others, Field, text_field, cells, cell_list, extra, Row, requests, responses, layout, row_in, ◌>>=◌, Contents, contents, are_kinds, lookup, contents_of_entry, contents_of_named, is_named, all_named, contents_of_extra, contents_of_entries, contents_of_fields, contents_of_message, IsEntry, absent, here, further, SaysEntry, the_text, reads, writes, writes_unsaid, all_rows, some_rows, of_last, of_last_unsaid, the_token, token_unsaid, metadata_unsaid, SaysNamed, no_more, passed_over, then_named, SaysField, of_text, of_cells, of_list, of_extra, SaysFields, no_fields, then_field, of_row, SaysMessage, IsSpelled, Means, All-cons, All-head, All-tail, All-contains, All-from_recursion, Contains-append_right, AllByRecursion}
use Rattle.std.proofs.Common.{All}
use Rattle.messages.proofs.Fields.{told_cell}

ruleset entries_say = (the_text, reads, writes, writes_unsaid, all_rows, some_rows, of_last, of_last_unsaid, the_token, token_unsaid, metadata_unsaid)

-- The entry with a name.
looked_up : (name : List ℕ) (es : Entries) → IsEntry name es (lookup name es)
looked_up name no_entries = absent
looked_up name (entry_then k t es) = grind (arith, looked_up name es, bytes_eq-Decides, here, further)

entry_is : (name : List ℕ) (es : Entries) (o : Option Tree) → IsEntry name es o → lookup name es ≡ o
entry_is name _ _ absent = refl
entry_is name _ _ (here t es) = grind (arith, bytes_eq-Decides name name)
entry_is name _ _ (further k t es o other h) = grind (arith, bytes_eq-Decides name k, entry_is name es o h)

-- What an entry says.
entry_says : (h : Holds) (o : Option Tree) (xs : List Tree) → contents_of_entry h o ≡ Ok xs → SaysEntry h o xs
entry_says h o xs e = grind (arith, bytes_eq-Decides, Decides-int_eq, looked_up, entries_say)

entry_told : (h : Holds) (o : Option Tree) (xs : List Tree) → SaysEntry h o xs → contents_of_entry h o ≡ Ok xs
entry_told h o xs s = grind (arith, entry_is (codes "token"))

-- What the named entries say.
one_says : (v : Version) (es : Entries) (n : Named) (ns : List Named) (r s : Result (List Tree) MsgFault) (ys : List Tree) → (cond (n.stands v) r (Ok []) >>= λ x. s >>= λ xs. Ok (x ++ xs)) ≡ Ok ys
    → ((xs : List Tree) → r ≡ Ok xs → SaysEntry n.holds (lookup n.name es) xs) → ((xs : List Tree) → s ≡ Ok xs → SaysNamed v es ns xs) → SaysNamed v es (n ∷ ns) ys
one_says v es n ns r s ys e h k = grind (arith, looked_up n.name es, passed_over, then_named)

named_says : (v : Version) (es : Entries) (ns : List Named) (xs : List Tree) → contents_of_named v ns es ≡ Ok xs → SaysNamed v es ns xs
named_says v es [] xs e = grind (arith, no_more)
named_says v es (n ∷ ns) xs e = one_says v es n ns (contents_of_entry n.holds (lookup n.name es)) (contents_of_named v ns es) xs e (entry_says n.holds (lookup n.name es)) (named_says v es ns)

named_told : (v : Version) (es : Entries) (ns : List Named) (xs : List Tree) → SaysNamed v es ns xs → contents_of_named v ns es ≡ Ok xs
named_told v es _ _ no_more = refl
named_told v es _ _ (passed_over n ns xs e s) = rw (e, named_told v es ns xs s) refl
named_told v es _ _ (then_named n ns o x xs e at h s) = rw (e, entry_is n.name es o at, entry_told n.holds o x h, named_told v es ns xs s) refl

-- Whether other entries may stand there.
is_name : (k : List ℕ) (ns : List Named) → is_named k ns ≡ list_any (λ n. bytes_eq k n.name) ns
is_name k [] = refl
is_name k (n ∷ ns) = ap (λ b. bytes_eq k n.name || b) (is_name k ns)

name_is : (k : List ℕ) (ns : List Named) → (is_named k ns ≡ true) ↔ Any (λ n. k ≡ n.name) ns
name_is k ns = grind (arith, is_name k ns, bytes_eq-Decides, Any-from_list_any (λ (n : Named). bytes_eq k n.name) ns, list_any-from_Any (λ (n : Named). bytes_eq k n.name) ns)

names_only : (P : List ℕ → Type 0) (ns : List Named) (es : Entries) → ((k : List ℕ) → (is_named k ns ≡ true) ↔ P k) → (all_named ns es ≡ true) ↔ All P (keys_of es)
names_only P ns no_entries h = grind arith
names_only P ns (entry_then k t es) h = grind (arith, names_only P ns es h, h k, All-cons P k, All-head P k, All-tail P k)

extra_is : (v : Version) (o : Others) (ns : List Named) (es : Entries) (xs : List Tree) → (contents_of_extra v o ns es ≡ Ok xs) ↔ SaysField v (extra o ns) (dict es) [] xs
extra_is v o ns es xs = grind (arith, of_extra, named_says v es ns xs, named_told v es ns xs, names_only _ ns es (λ k. name_is k ns))

-- a dictionary with named entries is always the last field
abbrev IsExtraLast : List Field → Type 0
IsExtraLast [] = Unit {0}
IsExtraLast (extra o ns ∷ (k ∷ ks)) = ⊥
IsExtraLast (k ∷ ks) = IsExtraLast ks

-- what is told of the fields, all at once
abbrev AreTold : Version → List Field → Trees → List Tree → List Tree → Type 0
AreTold v ks ts fs xs = (are_kinds ks ts ≡ true) × (contents_of_entries v ks ts ≡ Ok xs) × (contents_of_fields v ks ts ≡ Ok fs)

told_fields : (v : Version) (ks : List Field) (ts : Trees) (fs xs : List Tree) → IsExtraLast ks → SaysFields v ks ts fs xs → AreTold v ks ts fs xs
told_fields v _ _ _ _ l no_fields = (refl, refl, refl)
told_fields v _ _ _ _ l (then_field _ ks _ ts _ fs _ xs (of_text s) r) = grind (arith, told_fields v ks ts fs xs l r)
told_fields v _ _ _ _ l (then_field _ ks _ ts _ fs _ xs (of_cells c es f) r) = grind (arith, told_fields v ks ts fs xs l r, told_cell v c (dict es) f)
told_fields v _ _ _ _ l (then_field _ ks _ ts _ fs _ xs (of_list c us f) r) = grind (arith, told_fields v ks ts fs xs l r, told_cell v c (list us) f)
told_fields v _ _ _ _ l (then_field _ _ _ _ _ _ _ _ (of_extra o ns es ys h s) no_fields) = rw (append-nil ys) (refl, (extra_is v o ns es ys).1 (of_extra o ns es ys h s), refl)
told_fields v _ _ _ _ l (then_field _ _ _ _ _ _ _ _ (of_extra o ns es ys h s) r) = absurd l

then_said : (v : Version) (k : Field) (ks : List Field) (t c : Tree) (ts : Trees) (fs xs : List Tree) → SaysField v k t (c ∷ []) [] → SaysFields v ks ts fs xs → SaysFields v (k ∷ ks) (tree_then t ts) (c ∷ fs) xs
then_said v k ks t c ts fs xs f r = then_field k ks t ts (c ∷ []) fs [] xs f r

fields_say : (v : Version) (ks : List Field) (ts : Trees) (fs xs : List Tree) → IsExtraLast ks → AreTold v ks ts fs xs → SaysFields v ks ts fs xs
fields_say v [] no_trees fs xs l k = grind (arith, no_fields)
fields_say v (text_field ∷ ks) (tree_then (text s) ts) fs xs l k = grind (arith, fields_say v ks ts, then_said v, of_text)
fields_say v (cells ∷ ks) (tree_then (dict es) ts) fs xs l k = grind (arith, fields_say v ks ts, then_said v, of_cells)
fields_say v (cell_list ∷ ks) (tree_then (list us) ts) fs xs l k = grind (arith, fields_say v ks ts, then_said v, of_list)
fields_say v (extra o ns ∷ []) (tree_then (dict es) no_trees) fs xs l k =
    let r : SaysFields v (extra o ns ∷ []) (tree_then (dict es) no_trees) [] (xs ++ []) = then_field (extra o ns) [] (dict es) no_trees [] [] xs [] ((extra_is v o ns es xs).0 k.1) no_fields in
    grind (arith, append-nil xs)
fields_say v ks ts fs xs l k = grind arith

-- A row is the layout of its name, with its named entries last, and is found in the table by its tag.
abbrev pub IsLaid : List Row → Row → Type 0
IsLaid table r = (layout r.name ≡ r) × IsExtraLast r.fields × (row_in r.tag table ≡ Some r)

-- each row of a table
abbrev pub AreLaid : List Row → Type 0
AreLaid table = AllByRecursion (IsLaid table) table

pub requests_laid : AreLaid requests
requests_laid = search

pub responses_laid : AreLaid responses
responses_laid = search

pub is_laid : (table : List Row) (r : Row) → AreLaid table → Contains table r → IsLaid table r
is_laid table r l there = All-contains (IsLaid table) table r (All-from_recursion (IsLaid table) table l) there

in_table : (tag : ℕ) (table : List Row) (r : Row) → row_in tag table ≡ Some r → Contains table r × (r.tag ≡ tag)
in_table tag [] r e = absurd cc
in_table tag (q ∷ rs) r e = grind (arith, in_table tag rs r, Decides-eqb, Contains-append_right (q ∷ []) rs r)

row_says : (v : Version) (table : List Row) (r : Row) (tag : ℕ) (ts : Trees) (fs xs : List Tree) (s : Contents) → IsLaid table r → Contains table r × (r.tag ≡ tag)
    → r.stands v ≡ true → AreTold v r.fields ts fs xs → s ≡ contents r.name fs xs → SaysMessage v table (structure tag ts) s
row_says v table r tag ts fs xs s l there on told is = (r.name, rw (l.0) there.0, rw (l.0, ← there.1, is) (of_row ts fs xs on (fields_say v r.fields ts fs xs l.1 told)))

pub message_says : (v : Version) (table : List Row) (t : Tree) (s : Contents) → AreLaid table → contents_of_message v table t ≡ Ok s → SaysMessage v table t s
message_says v table (structure tag ts) s l e =
    let r : (r : Row) × (fs : List Tree) × (xs : List Tree) × (row_in tag table ≡ Some r) × (r.stands v ≡ true) × AreTold v r.fields ts fs xs × (s ≡ contents r.name fs xs) = grind arith in
    let there = in_table tag table r.0 r.3 in row_says v table r.0 tag ts r.1 r.2 s (is_laid table r.0 l there.0) there r.4 r.5 r.6
message_says v table t s l e = absurd cc

-- what is told is what a row of the table says
pub told_by_rows : (v : Version) (table : List Row) (t : Tree) (s : Contents) → AreLaid table → (contents_of_message v table t ≡ Ok s) ↔ SaysMessage v table t s
told_by_rows v table t s l = (message_says v table t s l, λ m. let laid = is_laid table (layout m.0) l m.1 in grind (arith, told_fields v (layout m.0).fields))

-- so the bytes stand for what a row says of the value that they spell
pub spelled_by_rows : (v : Version) (table : List Row) (s : Contents) (b : List ℕ) → AreLaid table → Means v table s b ↔ IsSpelled v table s b
spelled_by_rows v table s b l = ((λ m. grind (arith, m, told_by_rows v table m.value s l)), λ m. grind (arith, m, told_by_rows v table m.value s l))
