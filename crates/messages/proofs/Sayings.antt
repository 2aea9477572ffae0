-- What a row of the table says of a plain value is what some message holds, made of texts, of numbers in their ranges and of cells; and no value is a request and a response.
use Rattle.messages.proofs.Words.{MatchBool, ◌≡◌, ℕ, pos, List, [], ◌∷◌, ◌++◌, ℤ, arith, Option, None, Some, IfSome, Result, Ok, Err, codes, refl, ap, subst, IsUtf8, FitsSigned, w64, Tree, text, list, dict, Trees, no_trees, tree_then, Entries, no_entries, entry_then, structure, entries_of, trees_of, AreBytes, IsPlain, ArePlain, HavePlain, Version, V51, typed_all, typed_under, Read, Write, All, Of, MsgFault, Holds, a_text, a_mode, a_count, last_query, a_token, Named, Field, text_field, cells, cell_list, extra, Name, HELLO, Row, layout, requests, responses, row_in, ◌>>=◌, Contents, contents, contents_of_message, mode_tree, token_tree, count_tree, request_contents, response_contents, Means, contents_in, request_held, response_held, pairs_of, list_of, IsEntry, further, SaysEntry, some_rows, the_token, SaysNamed, no_more, passed_over, then_named, of_text, of_cells, of_list, of_extra, SaysFields, no_fields, then_field, SaysRow, of_row, IsCell, IsRequest, IsResponse, RequestsAreMade, ResponsesAreMade}
use Rattle.messages.proofs.Sent.{said_means, asked_back, answered_back}
use Rattle.messages.proofs.Layouts.{message_says, AreLaid, is_laid, requests_laid, responses_laid}

-- What holds of everything that an entry may say holds of what it says.
abbrev Each : Holds → (List Tree → Type 0) → Type 0
Each a_text P = (s : List ℕ) → IsUtf8 s → P (text s ∷ [])
Each a_mode P = P (mode_tree Read ∷ []) × P (mode_tree Write ∷ [])
Each a_count P = P (count_tree All ∷ []) × ((n : ℤ) → FitsSigned w64 n → P (count_tree (Of n) ∷ []))
Each last_query P = P []
Each a_token P = P (token_tree None ∷ []) × ((s : List ℕ) → IsUtf8 s → P (token_tree (Some s) ∷ []))

found_plain : (name : List ℕ) (es : Entries) (o : Option Tree) → IsEntry name es o → HavePlain es → IfSome o IsPlain
found_plain name _ _ (further k t es o other e) h = found_plain name es o e h.2
found_plain name es o e h = search

entry_each : (k : Holds) (o : Option Tree) (xs : List Tree) → SaysEntry k o xs → IfSome o IsPlain → (P : List Tree → Type 0) → Each k P → P xs
entry_each _ _ _ (the_token es s there low high) h P all = all.1 s (found_plain (codes "token") es (Some (text s)) there h)
entry_each _ _ _ (some_rows n one) h P all = all.1 (pos n) h
entry_each k o xs s h P all = search

-- the same of named entries
abbrev EachNamed : Version → List Named → (List Tree → Type 0) → Type 0
EachNamed v [] P = P []
EachNamed v (n ∷ ns) P = MatchBool (n.stands v) (Each n.holds (λ x. EachNamed v ns (λ xs. P (x ++ xs)))) (EachNamed v ns P)

named_each : (v : Version) (es : Entries) (ns : List Named) (xs : List Tree) → SaysNamed v es ns xs → HavePlain es → (P : List Tree → Type 0) → EachNamed v ns P → P xs
named_each v es _ _ no_more h P all = all
named_each v es _ _ (passed_over n ns xs off s) h P all = named_each v es ns xs s h P (rw off at all)
named_each v es _ _ (then_named n ns o x xs on there y s) h P all =
    named_each v es ns xs s h (λ ys. P (x ++ ys)) (entry_each n.holds o x y (found_plain n.name es o there h) (λ z. EachNamed v ns (λ ys. P (z ++ ys))) (rw on at all))

-- and of fields
abbrev EachFields : Version → List Field → (List Tree → List Tree → Type 0) → Type 0
EachFields v [] P = P [] []
EachFields v (text_field ∷ ks) P = (s : List ℕ) → IsUtf8 s → EachFields v ks (λ fs xs. P (text s ∷ fs) xs)
EachFields v (cells ∷ ks) P = (es : Entries) → IsCell v (dict es) → EachFields v ks (λ fs xs. P (dict es ∷ fs) xs)
EachFields v (cell_list ∷ ks) P = (ts : Trees) → IsCell v (list ts) → EachFields v ks (λ fs xs. P (list ts ∷ fs) xs)
EachFields v (extra o ns ∷ ks) P = EachNamed v ns (λ x. EachFields v ks (λ fs xs. P fs (x ++ xs)))

fields_each : (v : Version) (ks : List Field) (ts : Trees) (fs xs : List Tree) → SaysFields v ks ts fs xs → ArePlain ts → (P : List Tree → List Tree → Type 0) → EachFields v ks P → P fs xs
fields_each v _ _ _ _ no_fields h P all = all
fields_each v _ _ _ _ (then_field _ ks _ ts _ fs _ xs (of_text s) r) h P all = fields_each v ks ts fs xs r h.1 (λ gs ys. P (text s ∷ gs) ys) (all s h.0)
fields_each v _ _ _ _ (then_field _ ks _ ts _ fs _ xs (of_cells c es f) r) h P all =
    fields_each v ks ts fs xs r h.1 (λ gs ys. P (c ∷ gs) ys) (rw (f.1) (all (typed_under es) (dict es, h.0, (f.0, refl))))
fields_each v _ _ _ _ (then_field _ ks _ ts _ fs _ xs (of_list c us f) r) h P all =
    fields_each v ks ts fs xs r h.1 (λ gs ys. P (c ∷ gs) ys) (rw (f.1) (all (typed_all us) (list us, h.0, (f.0, refl))))
fields_each v _ _ _ _ (then_field _ ks _ ts _ fs _ xs (of_extra o ns es ys only s) r) h P all =
    fields_each v ks ts fs xs r h.1 (λ gs zs. P gs (ys ++ zs)) (named_each v es ns ys s h.0 (λ y. EachFields v ks (λ gs zs. P gs (y ++ zs))) all)

row_each : (v : Version) (r : Row) (t : Tree) (s : Contents) → SaysRow v r t s → IsPlain t → (P : Contents → Type 0) → EachFields v r.fields (λ fs xs. P (contents r.name fs xs)) → P s
row_each v r _ _ (of_row ts fs xs on f) h P all = fields_each v r.fields ts fs xs f h.1 (λ gs ys. P (contents r.name gs ys)) all

-- and of the rows of a table
message_each : (v : Version) (table : List Row) (P : Contents → Type 0) → AreLaid table
    → ((n : Name) → row_in (layout n).tag table ≡ Some (layout n) → EachFields v (layout n).fields (λ fs xs. P (contents (layout n).name fs xs)))
    → (t : Tree) (s : Contents) → IsPlain t → contents_of_message v table t ≡ Ok s → P s
message_each v table P laid all t s h e = let m = message_says v table t s laid e in row_each v (layout m.0) t s m.2 h P (all m.0 (is_laid table (layout m.0) laid m.1).2)

entries_again : (es : Entries) → entries_of (pairs_of es) ≡ es
entries_again no_entries = refl
entries_again (entry_then k t es) = ap (λ l. entry_then k t l) (entries_again es)

trees_again : (ts : Trees) → trees_of (list_of ts) ≡ ts
trees_again no_trees = refl
trees_again (tree_then t ts) = ap (λ l. tree_then t l) (trees_again ts)

-- A request holds it, and is so made.
abbrev pub IsAsked : Version → Contents → Type 0
IsAsked v s = (request_contents (request_held s) ≡ s) × IsRequest v (request_held s)

asks : (v : Version) (n : Name) → row_in (layout n).tag requests ≡ Some (layout n) → EachFields v (layout n).fields (λ fs xs. IsAsked v (contents (layout n).name fs xs))
asks V51 HELLO e = search
asks v HELLO e = search
asks v n e = first_of (search (entries_again), grind arith)

pub asked : (v : Version) (t : Tree) (s : Contents) → IsPlain t → contents_of_message v requests t ≡ Ok s → IsAsked v s
asked v = message_each v requests (IsAsked v) requests_laid (asks v)

-- A response holds it, and is so made.
abbrev pub IsAnswered : Version → Contents → Type 0
IsAnswered v s = (response_contents (response_held s) ≡ s) × IsResponse v (response_held s)

answers : (v : Version) (n : Name) → row_in (layout n).tag responses ≡ Some (layout n) → EachFields v (layout n).fields (λ fs xs. IsAnswered v (contents (layout n).name fs xs))
answers v HELLO e = absurd cc
answers v n e = first_of (search (entries_again, trees_again), grind arith)

pub answered : (v : Version) (t : Tree) (s : Contents) → IsPlain t → contents_of_message v responses t ≡ Ok s → IsAnswered v s
answered v = message_each v responses (IsAnswered v) responses_laid (answers v)

pub told_says : (v : Version) (t : Tree) (s : Contents) → IsPlain t → contents_of_message v responses t ≡ Ok s → response_contents (response_held s) ≡ s
told_says v t s h e = (answered v t s h e).0

-- bytes mean the message that is told of them
pub means_told : {Y : Type 0} (holds : Y → Contents) (back : Contents → Y) (v : Version) (table : List Row) → ((t : Tree) (s : Contents) → IsPlain t → contents_of_message v table t ≡ Ok s → holds (back s) ≡ s)
    → (b : List ℕ) (bytes : AreBytes b) (m : Y) (r : Result Contents MsgFault) → contents_in v table b ≡ r → (r >>= λ s. Ok (back s)) ≡ Ok m → Means v table (holds m) b
means_told holds back v table again b bytes m (Ok s) e h =
    let w = said_means v table s b bytes e in let k = again w.value s w.good.plain w.says in let same : holds m ≡ s = cc in rw same w
means_told holds back v table again b bytes m (Err x) e h = absurd cc

pub requests_are_made : RequestsAreMade
requests_are_made v m b r = subst (IsRequest v) (asked_back m) (asked v r.value (request_contents m) r.good.plain r.says).1

pub responses_are_made : ResponsesAreMade
responses_are_made v m b r = subst (IsResponse v) (answered_back m) (answered v r.value (response_contents m) r.good.plain r.says).1

-- no tag is of a request and a response
row_tagged : (v : Version) (r : Row) (t : Tree) (s : Contents) → SaysRow v r t s → (ts : Trees) × (t ≡ structure r.tag ts)
row_tagged v r _ _ (of_row ts fs xs on f) = (ts, refl)

unasked : (v : Version) (n : Name) (ts : Trees) (s : Contents) → row_in (layout n).tag responses ≡ Some (layout n) → contents_of_message v requests (structure (layout n).tag ts) ≡ Ok s → ⊥
unasked v HELLO ts s e h = cc
unasked v n ts s e h = cc

pub not_both : (v w : Version) (t : Tree) (s u : Contents) → contents_of_message v requests t ≡ Ok s → contents_of_message w responses t ≡ Ok u → ⊥
not_both v w t s u h k =
    let m = message_says w responses t u responses_laid k in let r = row_tagged w (layout m.0) t u m.2 in
    unasked v m.0 r.0 s (is_laid responses (layout m.0) responses_laid m.1).2 (rw r.1 at h)
