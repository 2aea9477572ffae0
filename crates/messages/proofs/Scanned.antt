-- A message that is read without a value: what was read of its parts one after the other is read of it.
use Rattle.messages.proofs.Words.{◌≡◌, ◌≤◌, ◌<◌, ℕ, ℤ, true, List, [], ◌∷◌, ◌++◌, Option, None, Ok, codes, refl, ap, sym, subst, ◌∙◌, arith, Vec, Global, append-nil, SpellsText, SpellsTree, Tree, int, text, list, dict, structure, no_trees, tree_then, Entries, no_entries, entry_then, head, canon, IsGood, depth, entries_of, trees_of, marker, AreBytes, Spells, SpellsEntries, Here, canon_spells, Version, every_version, has_logon, Cell, DictCell, ListCell, entries, shape, shapes, IsWritable, Pair, shape-Dict, shape-List, Form, form, form_all, form_under, form_of, SpellsFront, Mode, Read, Write, Count, AuthView, RequestView, ResponseView, request_contents, response_contents, Row, Name, Named, Others, ignored, refused, extra, requests, responses, HELLO, LOGON, RUN, BEGIN, PULL, DISCARD, SUCCESS, RECORD, FAILURE, hello, credentials, of_transaction, how_many, of_error, ◌>>=◌, Contents, contents, contents_of_number, contents_of_login, contents_of_dict, contents_of_extra, contents_of_row, contents_of_message, cell_of_field, is_token, count_tree, mode_tree, token_tree, login_trees, Logon, Run, Begin, Pull, Discard, Success, Record, Means, Req, Resp, mode_pairs, mode_front, token_dict, SpellsEntry, SpellsExtra, SpellsNamed, SpellsDict, SpellsList}
use Rattle.messages.proofs.Added.{plain_good, field_good, run_good, rows_good, mode_good}
use Rattle.messages.proofs.Fields.{told_cell}
use Rattle.messages.proofs.Kept.{extra_kept}
use Rattle.messages.proofs.Named.{token_entries, write_good, read_good}

-- ---- structures

-- one without fields stands for what its tag says
pub plain_means : (v : Version) (table : List Row) (s : Contents) (tag : ℕ) → tag < 256 → contents_of_message v table (structure tag no_trees) ≡ Ok s → Means v table s (0xB0 ∷ tag ∷ [])
unfolding marker
plain_means v table s tag small says = record { value = structure tag no_trees; good = plain_good tag small; spelled = ((omega arith, (small, tt)), ([], refl, (0xB0, refl, refl))); says = says }

-- one of one field
field_means : (v : Version) (table : List Row) (s : Contents) (tag : ℕ) (t : Tree) (b : List ℕ) → tag < 256 → contents_of_message v table (structure tag (tree_then t no_trees)) ≡ Ok s → IsGood t → depth t ≤ 31 → Spells t b → Means v table s (0xB1 ∷ tag ∷ b)
unfolding marker
field_means v table s tag t b small says g deep spells = record {
  value = structure tag (tree_then t no_trees);
  good = field_good tag t small g deep;
  spelled = ((omega arith, (small, spells.0)), (b, (b, [], spells.1, refl, sym (append-nil b)), (0xB1, refl, refl)));
  says = says;
}

-- what is spelled at the front, where nothing follows it
whole : (t : Tree) (rest b : List ℕ) → rest ≡ [] → SpellsFront t rest b → Spells t b
whole t rest b none s = subst (Spells t) (sym (s.2 ∙ ap (λ r. s.0 ++ r) none ∙ append-nil s.0)) s.1

-- ---- named entries

extra_means : (v : Version) (table : List Row) (n : Name) (tag : ℕ) (o : Others) (ns : List Named) (xs : List Tree) (b : List ℕ) → tag < 256
    → ((es : Entries) → contents_of_message v table (structure tag (tree_then (dict es) no_trees)) ≡ contents_of_row v n (extra o ns ∷ []) (tree_then (dict es) no_trees))
    → SpellsExtra v o ns xs b → Means v table (contents n [] xs) (0xB1 ∷ tag ∷ b)
extra_means v table n tag o ns xs b small row x =
    field_means v table (contents n [] xs) tag (dict x.entries) b small (row x.entries ∙ ap (λ r. r >>= λ ys. Ok (contents n [] ys)) x.told) x.good x.deep x.spelled

pub pull_means : (v : Version) (c : Count) (b : List ℕ) → SpellsExtra v refused how_many (count_tree c ∷ []) b → Req v (Pull c) (0xB1 ∷ 0x3F ∷ b)
pull_means v c b x = extra_means v requests PULL 0x3F refused how_many (count_tree c ∷ []) b (omega arith) (λ es. refl) x

pub discard_means : (v : Version) (c : Count) (b : List ℕ) → SpellsExtra v refused how_many (count_tree c ∷ []) b → Req v (Discard c) (0xB1 ∷ 0x2F ∷ b)
discard_means v c b x = extra_means v requests DISCARD 0x2F refused how_many (count_tree c ∷ []) b (omega arith) (λ es. refl) x

pub begin_means : (v : Version) (m : Mode) (token : Option (List ℕ)) (b : List ℕ) → SpellsExtra v ignored of_transaction (mode_tree m ∷ token_tree token ∷ []) b → Req v (Begin m token) (0xB1 ∷ 0x11 ∷ b)
begin_means v m token b x = extra_means v requests BEGIN 0x11 ignored of_transaction (mode_tree m ∷ token_tree token ∷ []) b (omega arith) (λ es. refl) x

-- what cells say that were read of a dictionary is what the dictionary says
pub named_extra : (v : Version) (o : Others) (ns : List Named) (xs : List Tree) (es : Entries) (b : List ℕ) → SpellsNamed es b → contents_of_extra v o ns es ≡ Ok xs → SpellsExtra v o ns xs b
named_extra v o ns xs es b x h = record { entries = x.entries; good = x.good; deep = x.deep; spelled = x.spelled; told = x.told v o ns ∙ h }

-- a message of a dictionary that was read as cells
named_means : (v : Version) (table : List Row) (n : Name) (tag : ℕ) (ns : List Named) (s : Contents) (es : Entries) (b : List ℕ) → tag < 256
    → ((fs : Entries) → contents_of_message v table (structure tag (tree_then (dict fs) no_trees)) ≡ contents_of_row v n (extra ignored ns ∷ []) (tree_then (dict fs) no_trees))
    → SpellsNamed es b → contents_of_dict v n ns es ≡ Ok s → Means v table s (0xB1 ∷ tag ∷ b)
named_means v table n tag ns s es b small row x h =
    field_means v table s tag (dict x.entries) b small (row x.entries ∙ ap (λ r. r >>= λ ys. Ok (contents n [] ys)) (x.told v ignored ns) ∙ h) x.good x.deep x.spelled

pub hello_means : (v : Version) (r : RequestView) (es : Entries) (b : List ℕ) → SpellsNamed es b → contents_of_dict v HELLO hello es ≡ Ok (request_contents r) → Req v r (0xB1 ∷ 0x01 ∷ b)
hello_means v r es b = named_means v requests HELLO 0x01 hello (request_contents r) es b (omega arith) (λ fs. refl)

pub logon_means : (v : Version) (l : AuthView) (es : Entries) (b : List ℕ) → has_logon v ≡ true → SpellsNamed es b → contents_of_login es ≡ Ok (login_trees l) → Req v (Logon l) (0xB1 ∷ 0x6A ∷ b)
logon_means v l es b h x e = named_means v requests LOGON 0x6A (credentials every_version) _ es b (omega arith) (λ fs. rw h refl) x (ap (λ r. r >>= λ xs. Ok (contents LOGON [] xs)) e)

pub failure_means : (v : Version) (r : ResponseView) (es : Entries) (b : List ℕ) → SpellsNamed es b → contents_of_dict v FAILURE of_error es ≡ Ok (response_contents r) → Resp v r (0xB1 ∷ 0x7F ∷ b)
failure_means v r es b = named_means v responses FAILURE 0x7F of_error (response_contents r) es b (omega arith) (λ fs. refl)

-- ---- cells

-- cells that can be written are told of their form
form_told : (v : Version) (c : Cell) (s : Tree) → shape c ≡ s → IsWritable v s → cell_of_field v (form v s) ≡ Ok s
form_told v c s e w = told_cell v s (form v s) (subst (λ t. IsWritable v t → Form v t (form v t)) e (form_of v c) w)

pub dict_scanned : (v : Version) (ps : Vec Pair Global) (rest b : List ℕ) → SpellsFront (form v (dict (entries_of (entries ps.items)))) rest b → IsGood (form v (dict (entries_of (entries ps.items))))
    → depth (form v (dict (entries_of (entries ps.items)))) ≤ 31 → IsWritable v (dict (entries_of (entries ps.items))) → SpellsDict v (dict (entries_of (entries ps.items))) rest b
dict_scanned v ps rest b s g d w = record { entries = form_under v (entries_of (entries ps.items)); good = g; deep = d; spelled = s; told = form_told v (DictCell ps) _ (shape-Dict ps) w }

-- a dictionary of no entries
pub empty_scanned : (v : Version) (rest b : List ℕ) → b ≡ 0xA0 ∷ rest → SpellsDict v (dict no_entries) rest b
unfolding head
empty_scanned v rest b e = record { entries = no_entries; good = mode_good Write; deep = omega arith; spelled = (0xA0 ∷ [], canon_spells (dict no_entries) (mode_good Write) (omega arith), e); told = refl }

pub list_scanned : (v : Version) (cs : Vec Cell Global) (rest b : List ℕ) → SpellsFront (form v (list (trees_of (shapes cs.items)))) rest b → IsGood (form v (list (trees_of (shapes cs.items))))
    → depth (form v (list (trees_of (shapes cs.items)))) ≤ 31 → IsWritable v (list (trees_of (shapes cs.items))) → SpellsList v (list (trees_of (shapes cs.items))) rest b
list_scanned v cs rest b s g d w = record { members = form_all v (trees_of (shapes cs.items)); good = g; deep = d; spelled = s; told = form_told v (ListCell cs) _ (shape-List cs) w }

pub extra_scanned : (v : Version) (es : Entries) (rest b : List ℕ) → rest ≡ [] → SpellsFront (form v (dict es)) rest b → IsGood (form v (dict es)) → depth (form v (dict es)) ≤ 31 → SpellsNamed es b
extra_scanned v es rest b none s g d =
    record { entries = form_under v es; good = g; deep = d; spelled = whole (form v (dict es)) rest b none s; told = λ w o ns. extra_kept w v o ns es }

pub success_means : (v : Version) (ps : List (List ℕ × Tree)) (rest b : List ℕ) → rest ≡ [] → SpellsDict v (dict (entries_of ps)) rest b → Resp v (Success ps) (0xB1 ∷ 0x70 ∷ b)
success_means v ps rest b none p =
    field_means v responses _ 0x70 (dict p.entries) b (omega arith) (ap (λ r. (r >>= λ x. Ok (x ∷ [])) >>= λ fs. Ok (contents SUCCESS fs [])) p.told) p.good p.deep (whole (dict p.entries) rest b none p.spelled)

pub record_means : (v : Version) (cs : List Tree) (rest b : List ℕ) → rest ≡ [] → SpellsList v (list (trees_of cs)) rest b → Resp v (Record cs) (0xB1 ∷ 0x71 ∷ b)
record_means v cs rest b none p =
    field_means v responses _ 0x71 (list p.members) b (omega arith) (ap (λ r. (r >>= λ x. Ok (x ∷ [])) >>= λ fs. Ok (contents RECORD fs [])) p.told) p.good p.deep (whole (list p.members) rest b none p.spelled)

three_spelled : (tag : ℕ) (t u w : Tree) (b c d : List ℕ) → tag < 256 → AreBytes b → SpellsFront t c b → SpellsFront u d c → Spells w d → Spells (structure tag (tree_then t (tree_then u (tree_then w no_trees)))) (0xB3 ∷ tag ∷ b)
unfolding marker
three_spelled tag t u w b c d small bytes s r q =
    ((omega arith, (small, bytes)), (b, (s.0, c, s.1.1, (r.0, d, r.1.1, (d, [], q.1, refl, sym (append-nil d)), r.2), s.2), (0xB3, refl, refl)))

-- what a RUN says, by its parameters and by its other entries
run_says : (v : Version) (s : List ℕ) (ps es : Entries) (c : Tree) (xs : List Tree) → cell_of_field v (dict ps) ≡ Ok c → contents_of_extra v ignored of_transaction es ≡ Ok xs
    → contents_of_message v requests (structure 0x10 (tree_then (text s) (tree_then (dict ps) (tree_then (dict es) no_trees)))) ≡ Ok (contents RUN (text s ∷ c ∷ []) xs)
run_says v s ps es c xs p x =
    ap (λ r. r >>= λ ys. ((cell_of_field v (dict ps) >>= λ y. Ok (y ∷ [])) >>= λ fs. Ok (text s ∷ fs)) >>= λ fs. Ok (contents RUN fs ys)) x ∙ ap (λ r. ((r >>= λ y. Ok (y ∷ [])) >>= λ fs. Ok (text s ∷ fs)) >>= λ fs. Ok (contents RUN fs xs)) p

-- a RUN, whose text is in UTF-8
pub run_means : (v : Version) (s u : List ℕ) (ps : List (List ℕ × Tree)) (m : Mode) (token : Option (List ℕ)) (b c d : List ℕ) → AreBytes b → u ≡ s → SpellsFront (text u) c b → IsGood (text u) → SpellsDict v (dict (entries_of ps)) d c
    → SpellsExtra v ignored of_transaction (mode_tree m ∷ token_tree token ∷ []) d → Req v (Run s ps m token) (0xB3 ∷ 0x10 ∷ b)
run_means v s u ps m token b c d bytes same t tg p x = subst (λ r. Req v (Run r ps m token) (0xB3 ∷ 0x10 ∷ b)) same (record {
  value = structure 0x10 (tree_then (text u) (tree_then (dict p.entries) (tree_then (dict x.entries) no_trees)));
  good = run_good u (dict p.entries) (dict x.entries) tg.plain p.good p.deep x.good x.deep;
  spelled = three_spelled 0x10 (text u) (dict p.entries) (dict x.entries) b c d (omega arith) bytes t p.spelled x.spelled;
  says = run_says v u p.entries x.entries (dict (entries_of ps)) (mode_tree m ∷ token_tree token ∷ []) p.told x.told;
})

-- ---- entries where they stand

entry_first : (k : List ℕ) (t : Tree) (es : Entries) (rest b : List ℕ) → SpellsEntry k t rest b → SpellsEntries es rest → SpellsEntries (entry_then k t es) b
entry_first k t es rest b e q = (e.0, e.1, rest, e.2, e.3, q, e.4)

one_spelled : (k : List ℕ) (t : Tree) (w b rest : List ℕ) → AreBytes w → w ≡ 0xA1 ∷ b → SpellsEntry k t rest b → rest ≡ [] → Spells (dict (entry_then k t no_entries)) w
unfolding marker
one_spelled k t w b rest bytes is e none = (bytes, (Here 1, [], b, (refl, refl), entry_first k t no_entries rest b e none, (0xA1, refl, is)))

number_entry : (z : ℤ) (b c rest : List ℕ) → b ≡ 0x81 ∷ 0x6E ∷ c → SpellsFront (int z) rest c → SpellsEntry (codes "n") (int z) rest b
unfolding marker lib.Utf8.encode
number_entry z b c rest is s = (0x81 ∷ 0x6E ∷ [], s.0, record { size = Here 1; field = []; sized = (refl, refl); utf8 = (codes "n", (refl, refl)); begins = (0x81, refl, refl) }, s.1.1, is ∙ ap (λ x. 0x81 ∷ 0x6E ∷ x) s.2)

pub rows_scanned : (v : Version) (c : Count) (z : ℤ) (w d rest : List ℕ) → AreBytes w → w ≡ 0xA1 ∷ 0x81 ∷ 0x6E ∷ d → SpellsFront (int z) rest d → IsGood (int z) → rest ≡ [] → contents_of_number z ≡ Ok (count_tree c ∷ [])
    → SpellsExtra v refused how_many (count_tree c ∷ []) w
rows_scanned v c z w d rest bytes is s g none h = record {
  entries = entry_then (codes "n") (int z) no_entries;
  good = rows_good z g.plain;
  deep = omega arith;
  spelled = one_spelled (codes "n") (int z) w (0x81 ∷ 0x6E ∷ d) rest bytes is (number_entry z (0x81 ∷ 0x6E ∷ d) d rest refl s) none;
  told = ap (λ r. r >>= λ x. Ok (x ++ [])) h;
}

-- the entries of a transaction without a token
pub mode_scanned : (v : Version) (m : Mode) (b : List ℕ) → b ≡ canon (dict (entries_of (mode_pairs m))) → SpellsExtra v ignored of_transaction (mode_tree m ∷ token_tree None ∷ []) b
unfolding head
mode_scanned v Read b e = record { entries = entries_of (mode_pairs Read); good = mode_good Read; deep = omega arith; spelled = rw e (canon_spells _ (mode_good Read) (omega arith)); told = refl }
mode_scanned v Write b e = record { entries = entries_of (mode_pairs Write); good = mode_good Write; deep = omega arith; spelled = rw e (canon_spells _ (mode_good Write) (omega arith)); told = refl }

-- the entry of a token, the last
token_entry : (s b d rest : List ℕ) → b ≡ 0x8B ∷ codes "tx_metadata" ++ 0xA1 ∷ 0x85 ∷ codes "token" ++ d → SpellsFront (text s) rest d → rest ≡ [] → SpellsEntries (token_entries s) b
unfolding marker lib.Utf8.encode
token_entry s b d rest is t none =
    let name : SpellsText (codes "tx_metadata") (0x8B ∷ codes "tx_metadata") = record { size = Here 11; field = []; sized = (refl, refl); utf8 = (codes "tx_metadata", (refl, refl)); begins = (0x8B, refl, refl) } in
    let key : SpellsText (codes "token") (0x85 ∷ codes "token") = record { size = Here 5; field = []; sized = (refl, refl); utf8 = (codes "token", (refl, refl)); begins = (0x85, refl, refl) } in
    let first = entry_first (codes "token") (text s) no_entries rest (0x85 ∷ codes "token" ++ d) (0x85 ∷ codes "token", t.0, key, t.1.1, ap (λ x. 0x85 ∷ codes "token" ++ x) t.2) none in
    let words : SpellsTree (token_dict s) (0xA1 ∷ 0x85 ∷ codes "token" ++ d) = (Here 1, [], 0x85 ∷ codes "token" ++ d, (refl, refl), first, (0xA1, refl, refl)) in
    (0x8B ∷ codes "tx_metadata", 0xA1 ∷ 0x85 ∷ codes "token" ++ d, [], name, words, refl, is ∙ ap (λ x. 0x8B ∷ codes "tx_metadata" ++ x) (sym (append-nil (0xA1 ∷ 0x85 ∷ codes "token" ++ d))))

-- a token behind the mode
pub token_scanned : (v : Version) (m : Mode) (s w b d rest : List ℕ) → AreBytes w → w ≡ mode_front m ++ b → b ≡ 0x8B ∷ codes "tx_metadata" ++ 0xA1 ∷ 0x85 ∷ codes "token" ++ d → SpellsFront (text s) rest d → rest ≡ [] → is_token s ≡ true → IsGood (text s)
    → SpellsExtra v ignored of_transaction (mode_tree m ∷ text s ∷ []) w
unfolding marker lib.Utf8.encode
token_scanned v Write s w b d rest bytes is at t none f g = record {
  entries = token_entries s;
  good = write_good s g.plain;
  deep = omega arith;
  spelled = (bytes, (Here 1, [], b, (refl, refl), token_entry s b d rest at t none, (0xA1, refl, is)));
  told = rw f refl;
}
token_scanned v Read s w b d rest bytes is at t none f g =
    let key : SpellsText (codes "mode") (0x84 ∷ codes "mode") = record { size = Here 4; field = []; sized = (refl, refl); utf8 = (codes "mode", (refl, refl)); begins = (0x84, refl, refl) } in
    let mode : SpellsText (codes "r") (0x81 ∷ 0x72 ∷ []) = record { size = Here 1; field = []; sized = (refl, refl); utf8 = (codes "r", (refl, refl)); begins = (0x81, refl, refl) } in
    record {
      entries = entry_then (codes "mode") (text (codes "r")) (token_entries s);
      good = read_good s g.plain;
      deep = omega arith;
      spelled = (bytes, (Here 2, [], 0x84 ∷ codes "mode" ++ 0x81 ∷ 0x72 ∷ b, (refl, refl), (0x84 ∷ codes "mode", 0x81 ∷ 0x72 ∷ [], b, key, mode, token_entry s b d rest at t none, refl), (0xA2, refl, is)));
      told = rw f refl;
    }
