-- Each answer of the fixed table is made of cells, for a ledger, own writes and parameters that are.
use Rattle.std.specs.Prelude.{◌≡◌, ◌≤◌, ◌<◌, ◌^◌, ◌+◌, ℕ, Bool, true, false, List, [], ◌∷◌, ◌++◌, length, map, filter, All, nat_lt, pos, codes, if◌then◌else◌, Option, Some, None, option_map, Ok, Err, IfOk, IfSome, FitsSigned, get_or, refl}
use Rattle.std.specs.Int.{w64}
use Rattle.std.specs.List.{find, range_with_len}
use Rattle.std.specs.Str.{IsUtf8}
use Rattle.std.proofs.Common.{subst, sym, ◌∙◌, arith, lit≤}
use Rattle.std.proofs.lemmas.Bool.{ltb-false}
use Rattle.std.proofs.lemmas.List.{length-map}
use Rattle.std.proofs.lemmas.List.Elements.{All-nil, All-cons, All-head, All-tail, All-append, All-filter, All-map}
use Rattle.std.proofs.lemmas.List.FromFn.{length-range_with_len, get_or-range_with_len}
use Rattle.packstream.proofs.Ranges.{fits_pos}
use Rattle.packstream.specs.Tree.{Tree, null, boolean, int, float, byte_string, text, list, dict, structure}
use Rattle.packstream.specs.Plain.{IsPlain}
use Rattle.structures_cells.specs.Cells.{IsCellTree}
use Rattle.engine.specs.Cells.{IsCellPair, AreCellPairs, AreCellEntries, IsOfCells}
use Rattle.engine.specs.Queries.{Defined, column, reads, writes, with, answer_for, query_of, fixed_answer, count_in, text_in, parameter, numbers, cells_found, node, unbound, walk}
use Rattle.engine.specs.Table.{table, last_of, is_of, is_not_of, writes_of, value_of}
use Rattle.engine.specs.Views.{WriteView, ParameterView, EntryView, too_many_rows}
use Rattle.engine.specs.declared.answer.Mode.{Mode}
use Rattle.engine.specs.declared.answer.Mode.TheVariants as mode
use Rattle.engine.specs.declared.query.Query.{Query}
use Rattle.engine.specs.declared.query.Query.TheVariants.{One, Rows, Get, Keys, Put, Echo, Walk}
use Rattle.engine.specs.Limits.{max_rows}

abbrev OfCells : Defined → Type 0
OfCells d = IfOk d IsOfCells

-- The table.
last_by : (key : List ℕ) (before : Tree) (w : WriteView) (ws : List WriteView) (b : Bool)
    → IsCellTree (last_of key w.1 ws) → IsCellTree (last_of key before ws)
    → IsCellTree (last_of key (if b then w.1 else before) ws)
last_by key before w ws true h k = h
last_by key before w ws false h k = k

last_cells : (key : List ℕ) (before : Tree) (ws : List WriteView) → IsCellTree before
    → AreCellPairs ws → IsCellTree (last_of key before ws)
last_cells key before [] h hs = h
last_cells key before (w ∷ ws) h hs =
    last_by key before w ws (is_of key w)
    (last_cells key w.1 ws (All-head IsCellPair w ws hs).1 (All-tail IsCellPair w ws hs))
    (last_cells key before ws h (All-tail IsCellPair w ws hs))

table_cells : (ws : List WriteView) → AreCellPairs ws → AreCellPairs (table ws)
table_cells [] hs = All-nil IsCellPair
table_cells (w ∷ ws) hs =
    let head = All-head IsCellPair w ws hs in
    let tail = All-tail IsCellPair w ws hs in
    All-cons IsCellPair (w.0, last_of w.0 w.1 ws) (filter (is_not_of w.0) (table ws))
    (head.0, last_cells w.0 w.1 ws head.1 tail)
    (All-filter (is_not_of w.0) IsCellPair (table ws) (table_cells ws tail))

writes_cells : (ledger : List EntryView) → AreCellEntries ledger → AreCellPairs (writes_of ledger)
writes_cells [] hs = All-nil IsCellPair
writes_cells (e ∷ es) hs =
    All-append IsCellPair e.writes (writes_of es)
    (All-head (λ entry. AreCellPairs entry.writes) e es hs)
    (writes_cells es (All-tail (λ entry. AreCellPairs entry.writes) e es hs))

value_by : (key : List ℕ) (w : WriteView) (ws : List WriteView) (b : Bool) → IsCellTree w.1
    → IfSome (value_of key ws) IsCellTree
    → IfSome
    (option_map (λ (e : WriteView). e.1) (if b then Some w else find (is_of key) ws)) IsCellTree
value_by key w ws true h k = h
value_by key w ws false h k = k

value_cells : (key : List ℕ) (ws : List WriteView) → AreCellPairs ws
    → IfSome (value_of key ws) IsCellTree
value_cells key [] hs = tt
value_cells key (w ∷ ws) hs =
    value_by key w ws (is_of key w) (All-head IsCellPair w ws hs).1
    (value_cells key ws (All-tail IsCellPair w ws hs))

-- The answers.
one_cell : (cell : Tree) → IsCellTree cell → All IsCellTree (cell ∷ [])
one_cell cell h = All-cons IsCellTree cell [] h (All-nil IsCellTree)

column_cells : (name : List ℕ) (cells : List Tree) → IsUtf8 name → All IsCellTree cells
    → IsOfCells (column name cells)
column_cells name cells u hs = record {
  fields = All-cons IsUtf8 name [] u (All-nil IsUtf8);
  rows = All-map (λ row. All IsCellTree row) (λ cell. cell ∷ []) cells
      (λ k d within. one_cell _ (hs k d within));
  write = tt;
}

reads_by : (name : List ℕ) (cells : List Tree) (many : Bool) → nat_lt max_rows (length cells) ≡ many
    → IsUtf8 name → (length cells ≤ max_rows → All IsCellTree cells)
    → OfCells (if many then Err too_many_rows else Ok (column name cells))
reads_by name cells true e u hs = tt
reads_by name cells false e u hs = column_cells name cells u (hs (ltb-false max_rows (length cells) e))

reads_cells : (name : List ℕ) (cells : List Tree) → IsUtf8 name
    → (length cells ≤ max_rows → All IsCellTree cells) → OfCells (reads name cells)
reads_cells name cells u hs = reads_by name cells (nat_lt max_rows (length cells)) refl u hs

with_cells : {A : Type 0} (P : A → Type 0) (o : Option A) (f : A → Defined) → IfSome o P
    → ((a : A) → P a → OfCells (f a)) → OfCells (with o f)
with_cells P None f p h = tt
with_cells P (Some a) f p h = h a p

any : {A : Type 0} (o : Option A) → IfSome o (λ _. Unit {0})
any None = tt
any (Some a) = tt

found_cells : (o : Option Tree) → IfSome o IsCellTree → All IsCellTree (cells_found o)
found_cells None h = All-nil IsCellTree
found_cells (Some cell) h = one_cell cell h

number_cell : (n k d : ℕ) → n ≤ max_rows → k < n
    → IsCellTree (int (pos (get_or (range_with_len 1 n) k d)))
number_cell n k d few within = (
  refl,
  subst (λ i. FitsSigned w64 (pos i)) (sym (get_or-range_with_len 1 n k d within))
      (fits_pos (1 + k) (omega arith)),
)

numbers_cells : (n : ℕ) → length (numbers n) ≤ max_rows → All IsCellTree (numbers n)
numbers_cells n few =
    let len : length (numbers n) ≡ n =
    length-map (range_with_len 1 n) (λ i. int (pos i)) ∙ length-range_with_len 1 n in
    All-map IsCellTree (λ i. int (pos i)) (range_with_len 1 n)
    (λ k d within. number_cell n k d (subst (λ m. m ≤ max_rows) len few)
    (subst (λ m. k < m) (length-range_with_len 1 n) within))

keys_cells : (t : List WriteView) → AreCellPairs t → All IsCellTree (map (λ e. text e.0) t)
keys_cells t hs = All-map IsCellTree (λ e. text e.0) t (λ k d within. (refl, (hs k d within).0))

text_cells : (o : Option Tree) → IfSome o IsCellTree → IfSome (text_in o) IsUtf8
text_cells None h = tt
text_cells (Some (text bytes)) h = h.1
text_cells (Some null) h = tt
text_cells (Some (boolean b)) h = tt
text_cells (Some (int z)) h = tt
text_cells (Some (float n)) h = tt
text_cells (Some (byte_string s)) h = tt
text_cells (Some (list ts)) h = tt
text_cells (Some (dict es)) h = tt
text_cells (Some (structure tag ts)) h = tt

node_plain : (id : ℕ) (label : List ℕ) → id < 2 ^ 63 → IsUtf8 label → IsPlain (node id label)
node_plain id label h u = (lit≤ tt, (fits_pos id h, ((u, tt), (tt, tt))))

unbound_plain : (id : ℕ) (kind : List ℕ) → id < 2 ^ 63 → IsUtf8 kind → IsPlain (unbound id kind)
unbound_plain id kind h u = (lit≤ tt, (fits_pos id h, (u, (tt, tt))))

walk_cell : IsCellTree walk
unfolding lib.Utf8.encode
walk_cell =
    let one = fits_pos 1 (lit≤ tt) in
    let first = node_plain 1 (codes "A") (lit≤ tt) (codes "A", (refl, refl)) in
    let second = node_plain 2 (codes "B") (lit≤ tt) (codes "B", (refl, refl)) in (
      refl,
      (
        lit≤ tt,
        (
          (first, (second, tt)),
          (
            (unbound_plain 7 (codes "TO") (lit≤ tt) (codes "TO", (refl, refl)), tt),
            ((one, (one, tt)), tt),
          ),
        ),
      ),
    )

count_cells : (o : Option ℕ) → OfCells (with o (λ n. reads (codes "i") (numbers n)))
unfolding lib.Utf8.encode
count_cells o = with_cells (λ _. Unit {0}) o (λ n. reads (codes "i") (numbers n)) (any o)
    (λ n _. reads_cells (codes "i") (numbers n) (codes "i", (refl, refl)) (numbers_cells n))

put_cells : (key : Option (List ℕ)) (value : Option Tree) → IfSome key IsUtf8
    → IfSome value IsCellTree → OfCells (with key (λ k. with value (λ v. writes k v)))
put_cells key value hk hv =
    with_cells IsUtf8 key (λ k. with value (λ v. writes k v)) hk
    (λ k u. with_cells IsCellTree value (λ v. writes k v) hv
    (λ v h. record {
      fields = All-nil IsUtf8;
      rows = All-nil (λ row. All IsCellTree row);
      write = (u, h);
    }))

-- a query's answer, for parameters and a table of cells
query_cells : (q : Query) (m : Mode) (ps : List ParameterView) (t : List WriteView)
    → AreCellPairs ps → AreCellPairs t → OfCells (answer_for (Some q) m ps t)
unfolding lib.Utf8.encode
query_cells One m ps t hp ht =
    reads_cells (codes "one") (int (pos 1) ∷ []) (codes "one", (refl, refl))
    (λ _. one_cell (int (pos 1)) (refl, fits_pos 1 (lit≤ tt)))
query_cells Rows m ps t hp ht = count_cells (count_in (parameter (codes "n") ps))
query_cells Get m ps t hp ht =
    let key = text_in (parameter (codes "key") ps) in
    with_cells (λ _. Unit {0}) key (λ k. reads (codes "value") (cells_found (value_of k t)))
    (any key)
    (λ k _. reads_cells (codes "value") (cells_found (value_of k t)) (codes "value", (refl, refl))
    (λ _. found_cells (value_of k t) (value_cells k t ht)))
query_cells Keys m ps t hp ht =
    reads_cells (codes "key") (map (λ e. text e.0) t) (codes "key", (refl, refl))
    (λ _. keys_cells t ht)
query_cells Put mode.Read ps t hp ht = tt
query_cells Put mode.Write ps t hp ht =
    put_cells (text_in (parameter (codes "key") ps)) (parameter (codes "value") ps)
    (text_cells (parameter (codes "key") ps) (value_cells (codes "key") ps hp))
    (value_cells (codes "value") ps hp)
query_cells Echo m ps t hp ht =
    let x = parameter (codes "x") ps in
    with_cells IsCellTree x (λ cell. reads (codes "x") (cell ∷ [])) (value_cells (codes "x") ps hp)
    (λ cell h. reads_cells (codes "x") (cell ∷ []) (codes "x", (refl, refl))
    (λ _. one_cell cell h))
query_cells Walk m ps t hp ht =
    reads_cells (codes "p") (walk ∷ []) (codes "p", (refl, refl)) (λ _. one_cell walk walk_cell)

asked_cells : (q : Option Query) (m : Mode) (ps : List ParameterView) (t : List WriteView)
    → AreCellPairs ps → AreCellPairs t → OfCells (answer_for q m ps t)
asked_cells None m ps t hp ht = tt
asked_cells (Some q) m ps t hp ht = query_cells q m ps t hp ht

-- each answer is made of cells
pub fixed_cells : (ledger : List EntryView) (own : List WriteView) (asked_text : List ℕ)
    (params : List ParameterView) (m : Mode) → AreCellEntries ledger → AreCellPairs own
    → AreCellPairs params → IfOk (fixed_answer ledger own asked_text params m) IsOfCells
fixed_cells ledger own asked_text params m hl ho hp =
    asked_cells (query_of asked_text) m params (table (writes_of ledger ++ own)) hp
    (table_cells (writes_of ledger ++ own)
    (All-append IsCellPair (writes_of ledger) own (writes_cells ledger hl) ho))
