-- What is written is told again, and is plain where the message is made of texts, of numbers in their ranges and of cells; so a spelling reads back.
use Rattle.messages.proofs.Words.{◌≡◌, ℕ, pos, int_le, ◌++◌, true, false, List, [], ◌∷◌, Option, None, Some, IfSome, Result, Ok, Err, codes, refl, ap, sym, subst, ◌∙◌, arith, IsUtf8, Tree, text, dict, list, structure, no_trees, tree_then, Entries, entry_then, entries_of, trees_of, IsPlain, HavePlain, first_fault, faults_in, IsGood, fits_neg, Version, V44, V50, V51, scan, structures, fault_of_structure, shape, Cell, DictCell, ListCell, shape-Dict, shape-List, fine_scan, form, formed_is, Request, Response, Mode, Read, Write, All, Of, MsgFault, good_when, Row, requests, responses, request_view, response_view, RequestView, Hello, Logon, Run, Begin, Discard, Pull, ResponseView, Success, Record, Failure, ◌>>=◌, Contents, contents_of_message, contents_of_mode, is_token, contents_of_metadata, lookup, mode_tree, token_tree, cell_of_field, request_contents, response_contents, cell_put, IsCell, IsRequest, IsResponse, RequestsReadBack, ResponsesReadBack, form_put, spelling_of_tree, request_spelling, response_spelling, transaction_put, mode_pairs, token_dict, Means, Req, Resp}
use Rattle.messages.proofs.Fields.{form_again, told_cell}
use Rattle.messages.proofs.Added.{mode_good, rows_good}
use Rattle.messages.proofs.Named.{token_entries, write_good, read_good, login_good}
use Rattle.messages.proofs.Sent.{request_is, response_is, means_of}
use Rattle.messages.specs.declared.request.Request.TheVariants as request
use Rattle.messages.specs.declared.response.Response.TheVariants as response
use Rattle.messages.specs.declared.fault.MsgFault.TheVariants as fault

-- a field of cells that is written is told as these cells again
abbrev pub IsBack : Version → Tree → Type 0
IsBack v c = (u : Tree) → cell_put v c ≡ Ok u → cell_of_field v u ≡ Ok c

abbrev pub AreBack : Version → RequestView → Type 0
AreBack v (Run s ps m token) = IsBack v (dict (entries_of ps))
AreBack v m = Unit {0}

abbrev pub AreAnsweredBack : Version → ResponseView → Type 0
AreAnsweredBack v (Success ms) = IsBack v (dict (entries_of ms))
AreAnsweredBack v (Record cs) = IsBack v (list (trees_of cs))
AreAnsweredBack v m = Unit {0}

-- What is written of a message says it again, and is plain where the message is made of what it may be.
pub record SaysBack (v : Version) (table : List Row) (s : Contents) (Made : Type 0) (t : Tree) : Type 0 where
  pub told : contents_of_message v table t ≡ Ok s
  pub plain : Made → IsPlain t

back_from : (v : Version) (table : List Row) (s : Contents) (Made : Type 0) (x t : Tree) → ◌≡◌ {A = Result Tree MsgFault} (Ok x) (Ok t) → contents_of_message v table x ≡ Ok s → (Made → IsPlain x) → SaysBack v table s Made t
back_from v table s Made x t e k p = let same : x ≡ t = cc in subst (SaysBack v table s Made) same (record { told = k; plain = p })

-- what is written of a field of cells is its form
put_is : (v : Version) (s u : Tree) → cell_put v s ≡ Ok u → u ≡ form v s
put_is v s u h = grind arith

-- a mode is written alone, and with a token before it
pub put_alone : (m : Mode) → transaction_put m None ≡ Ok (entries_of (mode_pairs m))
put_alone m = grind arith

pub put_with : (m : Mode) (s : List ℕ) → is_token s ≡ true → transaction_put m (Some s) ≡ Ok (entries_of (mode_pairs m ++ (codes "tx_metadata", token_dict s) ∷ []))
put_with m s e = grind arith

pub not_put : (m : Mode) (s : List ℕ) → is_token s ≡ false → transaction_put m (Some s) ≡ Err fault.Extra
not_put m s e = grind arith

transaction_plain : (m : Mode) (token : Option (List ℕ)) (es : Entries) → transaction_put m token ≡ Ok es → IfSome token IsUtf8 → HavePlain es
transaction_plain m None es h u = let same : entries_of (mode_pairs m) ≡ es = (let k = put_alone m in cc) in rw (← same) ((mode_good m).plain)
transaction_plain Read (Some s) es h u = let same : entry_then (codes "mode") (text (codes "r")) (token_entries s) ≡ es = grind arith in rw (← same) ((read_good s u).plain)
transaction_plain Write (Some s) es h u = let same : token_entries s ≡ es = grind arith in rw (← same) ((write_good s u).plain)

-- entries that say this mode and this token, and are plain where the token is UTF-8
transaction_told : (m : Mode) (token : Option (List ℕ)) (es : Entries) → transaction_put m token ≡ Ok es
    → (contents_of_mode (lookup (codes "mode") es) ≡ Ok (mode_tree m ∷ [])) × (contents_of_metadata (lookup (codes "tx_metadata") es) ≡ Ok (token_tree token ∷ [])) × (IfSome token IsUtf8 → HavePlain es)
transaction_told m token es h = (grind arith, grind arith, transaction_plain m token es h)

-- A cell of the version is written as a plain value.
written_form : (v : Version) (s u : Tree) (c : IsCell v s) → cell_put v s ≡ Ok u → u ≡ c.0
written_form v s u c h = put_is v s u h ∙ form_again v s c.0 c.2

pub cell_again : (v : Version) (s : Tree) → IsCell v s → IsBack v s
cell_again v s c u h = ap (cell_of_field v) (written_form v s u c h) ∙ told_cell v s c.0 c.2

cell_plain : (v : Version) (s u : Tree) → IsCell v s → cell_put v s ≡ Ok u → IsPlain u
cell_plain v s u c h = subst IsPlain (sym (written_form v s u c h)) c.1

pub asks_back : (v : Version) (m : RequestView) (t : Tree) → AreBack v m → form_put v (request_contents m) ≡ Ok t → SaysBack v requests (request_contents m) (IsRequest v m) t
unfolding lib.Utf8.encode
asks_back V51 (Hello a None) t p h = back_from V51 requests _ _ _ t h refl (λ i. (omega arith, (((codes "user_agent", (refl, refl)), i.0, tt), tt)))
asks_back V44 (Hello a (Some l)) t p h = back_from V44 requests _ _ _ t h refl (λ i. (omega arith, (((codes "user_agent", (refl, refl)), i.0, (login_good l i.1).plain), tt)))
asks_back V50 (Hello a (Some l)) t p h = back_from V50 requests _ _ _ t h refl (λ i. (omega arith, (((codes "user_agent", (refl, refl)), i.0, (login_good l i.1).plain), tt)))
asks_back V51 (Logon l) t p h = back_from V51 requests _ _ _ t h refl (λ i. (omega arith, ((login_good l i).plain, tt)))
asks_back v (Run s ps m token) t p h =
    let q : (es : Entries) × (u : Tree) × (transaction_put m token ≡ Ok es) × (cell_put v (dict (entries_of ps)) ≡ Ok u) × (structure 0x10 (tree_then (text s) (tree_then u (tree_then (dict es) no_trees))) ≡ t) = grind arith in
    let k = transaction_told m token q.0 q.2 in
    rw (← q.4) (record { told = grind (arith, k.0, k.1, p q.1 q.3, put_is v (dict (entries_of ps)) q.1 q.3); plain = λ i. (omega arith, (i.0, (cell_plain v _ q.1 i.1 q.3, (k.2 i.2, tt)))) })
asks_back v (Begin m token) t p h =
    let q : (es : Entries) × (transaction_put m token ≡ Ok es) × (structure 0x11 (tree_then (dict es) no_trees) ≡ t) = grind arith in let k = transaction_told m token q.0 q.1 in
    rw (← q.2) (record { told = rw (k.0, k.1) refl; plain = λ i. (omega arith, (k.2 i, tt)) })
asks_back v (Discard All) t p h = back_from v requests _ _ _ t h refl (λ i. (omega arith, (((codes "n", (refl, refl)), fits_neg 0 (omega arith), tt), tt)))
asks_back v (Discard (Of z)) t p h =
    let e : int_le (pos 1) z ≡ true = grind arith in back_from v requests _ _ _ t (rw e at h) (grind arith) (λ i. (omega arith, ((rows_good z i).plain, tt)))
asks_back v (Pull All) t p h = back_from v requests _ _ _ t h refl (λ i. (omega arith, (((codes "n", (refl, refl)), fits_neg 0 (omega arith), tt), tt)))
asks_back v (Pull (Of z)) t p h =
    let e : int_le (pos 1) z ≡ true = grind arith in back_from v requests _ _ _ t (rw e at h) (grind arith) (λ i. (omega arith, ((rows_good z i).plain, tt)))
asks_back v m t p h = grind arith

pub tells_back : (v : Version) (m : ResponseView) (t : Tree) → AreAnsweredBack v m → form_put v (response_contents m) ≡ Ok t → SaysBack v responses (response_contents m) (IsResponse v m) t
unfolding lib.Utf8.encode
tells_back v (Success ms) t p h =
    let q : (u : Tree) × (cell_put v (dict (entries_of ms)) ≡ Ok u) × (structure 0x70 (tree_then u no_trees) ≡ t) = grind arith in
    rw (← q.2) (record { told = grind (arith, p q.0 q.1, put_is v (dict (entries_of ms)) q.0 q.1); plain = λ i. (omega arith, (cell_plain v _ q.0 i q.1, tt)) })
tells_back v (Record cs) t p h =
    let q : (u : Tree) × (cell_put v (list (trees_of cs)) ≡ Ok u) × (structure 0x71 (tree_then u no_trees) ≡ t) = grind arith in
    rw (← q.2) (record { told = grind (arith, p q.0 q.1, put_is v (list (trees_of cs)) q.0 q.1); plain = λ i. (omega arith, (cell_plain v _ q.0 i q.1, tt)) })
tells_back v (Failure c m) t p h = back_from v responses _ _ _ t h refl (λ i. (omega arith, (((codes "code", (refl, refl)), i.0, ((codes "message", (refl, refl)), i.1, tt)), tt)))
tells_back v m t p h = grind arith

-- what is written of a cell is told as that cell
cell_back : (v : Version) (c : Cell) → IsBack v (shape c)
cell_back v c u h =
    let w : (n : ℕ) × (scan (fault_of_structure v) 0 (structures (shape c)) ≡ Ok n) = grind arith in
    let f = formed_is v c (fine_scan (fault_of_structure v) 0 w.0 (structures (shape c)) w.1) in
    ap (cell_of_field v) (put_is v (shape c) u h) ∙ told_cell v (shape c) (form v (shape c)) f

pub request_back : (v : Version) (r : Request) → AreBack v (request_view r)
request_back v (request.Run s ps m token) = subst (IsBack v) (shape-Dict ps) (cell_back v (DictCell ps))
request_back v r = tt

pub response_back : (v : Version) (r : Response) → AreAnsweredBack v (response_view r)
response_back v (response.Success ms) = subst (IsBack v) (shape-Dict ms) (cell_back v (DictCell ms))
response_back v (response.Record cs) = subst (IsBack v) (shape-List cs) (cell_back v (ListCell cs))
response_back v r = tt

-- A good form is told again as the message that it was made of.
pub asks_again : (v : Version) (r : Request) (t : Tree) (b : List ℕ) → form_put v (request_contents (request_view r)) ≡ Ok t → IsGood t → request_spelling v (request_view r) ≡ Ok b → Req v (request_view r) b
unfolding request_spelling
asks_again v r t b e g h = means_of (form_put v (request_contents (request_view r))) t v requests (request_contents (request_view r)) b e g (asks_back v (request_view r) t (request_back v r) e).told h

pub tells_again : (v : Version) (r : Response) (t : Tree) (b : List ℕ) → form_put v (response_contents (response_view r)) ≡ Ok t → IsGood t → response_spelling v (response_view r) ≡ Ok b → Resp v (response_view r) b
unfolding response_spelling
tells_again v r t b e g h = means_of (form_put v (response_contents (response_view r))) t v responses (response_contents (response_view r)) b e g (tells_back v (response_view r) t (response_back v r) e).told h

asked_again : (v : Version) (m : RequestView) → IsRequest v m → AreBack v m
asked_again v (Run s ps m token) h = cell_again v (dict (entries_of ps)) h.1
asked_again v m h = tt

said_again : (v : Version) (m : ResponseView) → IsResponse v m → AreAnsweredBack v m
said_again v (Success ms) h = cell_again v (dict (entries_of ms)) h
said_again v (Record cs) h = cell_again v (list (trees_of cs)) h
said_again v m h = tt

-- What has a spelling was made of a good value.
means_back : (v : Version) (table : List Row) (s : Contents) (Made : Type 0) (b : List ℕ) (r : Result Tree MsgFault) → Made → ((t : Tree) → r ≡ Ok t → SaysBack v table s Made t) → (r >>= spelling_of_tree) ≡ Ok b → Means v table s b
means_back v table s Made b r made back h =
    let t : (t : Tree) × (n : ℕ) × (r ≡ Ok t) × (spelling_of_tree t ≡ Ok b) × (Ok n ≡ first_fault (faults_in 0 false t) 0) = grind arith in
    let k = back t.0 t.2 in means_of r t.0 v table s b t.2 (good_when t.0 t.1 t.4 (k.plain made)) k.told h

pub request_reads_back : RequestsReadBack
unfolding request_spelling
request_reads_back v m b q h =
    let r = means_back v requests (request_contents m) (IsRequest v m) b (form_put v (request_contents m)) q (λ t w. asks_back v m t (asked_again v m q) w) h in
    (r, request_is v m b r)

pub response_reads_back : ResponsesReadBack
unfolding response_spelling
response_reads_back v m b q h =
    let r = means_back v responses (response_contents m) (IsResponse v m) b (form_put v (response_contents m)) q (λ t w. tells_back v m t (said_again v m q) w) h in
    (r, response_is v m b r)
