-- Named entries that are texts, and those of a token, added one after the other.
use Rattle.messages.proofs.Words.{◌≡◌, ◌≤◌, ◌<◌, ℕ, suc, true, false, List, [], ◌∷◌, ◌++◌, length, map, None, Some, Result, Ok, codes, refl, ap, sym, subst, ◌∙◌, append_assoc, arith, IsUtf8, String, Global, string_bytes, Bor, append-nil, first_fault, good_when, IsUtf8-string_bytes, Tree, text, dict, structure, no_trees, Entries, no_entries, entry_then, entry_count, head, text_bytes, canon, canon_entries, IsGood, depth, entries_of, Version, hello_has_login, has_logon, Auth, Read, Write, HasTexts, MsgFault, AuthView, auth_view, Hello, Logon, Logoff, Failure, request_contents, response_contents, form_put, is_token, transaction_put, token_dict, named_text, of_texts, login_pairs, hello_pairs, error_pairs, Adds, AddsEntries}
use Rattle.messages.proofs.Added.{field_good, mode_good}

-- the head of a dictionary, then its entries
pub dict_on : (es : Entries) (old a new : List ℕ) → a ≡ old ++ head 0xA0 0xD8 (entry_count es) → new ≡ a ++ canon_entries es → new ≡ old ++ canon (dict es)
dict_on es old a new p q = q ∙ ap (λ x. x ++ canon_entries es) p ∙ append_assoc old (head 0xA0 0xD8 (entry_count es)) (canon_entries es)

pub ruleset texts_fit = (IsUtf8-string_bytes)

-- ---- a token

abbrev pub token_entries : List ℕ → Entries
token_entries s = entries_of ((codes "tx_metadata", token_dict s) ∷ [])

pub token_entry_added : (s old a new : List ℕ) → a ≡ old ++ (0x8B ∷ codes "tx_metadata" ++ 0xA1 ∷ 0x85 ∷ codes "token") → new ≡ a ++ text_bytes s → new ≡ old ++ canon_entries (token_entries s)
unfolding head
token_entry_added s old a new p q = q ∙ ap (λ x. x ++ text_bytes s) p ∙ append_assoc old (0x8B ∷ codes "tx_metadata" ++ 0xA1 ∷ 0x85 ∷ codes "token") (text_bytes s)
    ∙ ap (λ x. old ++ (0x8B ∷ codes "tx_metadata" ++ 0xA1 ∷ 0x85 ∷ codes "token" ++ x)) (sym (append-nil (text_bytes s ++ []) ∙ append-nil (text_bytes s)))

pub write_good : (s : List ℕ) → IsUtf8 s → IsGood (dict (token_entries s))
unfolding lib.Utf8.encode
write_good s u = record { deep = omega arith; sound = ((refl, tt), (((refl, tt), (tt, tt)), tt)); plain = ((codes "tx_metadata", (refl, refl)), ((codes "token", (refl, refl)), u, tt), tt) }

pub read_good : (s : List ℕ) → IsUtf8 s → IsGood (dict (entry_then (codes "mode") (text (codes "r")) (token_entries s)))
unfolding lib.Utf8.encode first_fault
read_good s u = good_when _ 4 refl ((codes "mode", (refl, refl)), (codes "r", (refl, refl)), ((codes "tx_metadata", (refl, refl)), ((codes "token", (refl, refl)), u, tt), tt))

pub token_added : (s old a new : List ℕ) → is_token s ≡ true → IsUtf8 s → a ≡ old ++ 0xA1 ∷ [] → new ≡ a ++ canon_entries (token_entries s) → AddsEntries (transaction_put Write (Some s)) old new
unfolding head
token_added s old a new f u p q = record { entries = token_entries s; is = rw f refl; good = write_good s u; deep = omega arith; added = dict_on (token_entries s) old a new p q }

pub mode_and_token_added : (s old a new : List ℕ) → is_token s ≡ true → IsUtf8 s → a ≡ old ++ (0xA2 ∷ 0x84 ∷ codes "mode" ++ 0x81 ∷ 0x72 ∷ []) → new ≡ a ++ canon_entries (token_entries s) → AddsEntries (transaction_put Read (Some s)) old new
unfolding head
mode_and_token_added s old a new f u p q = record {
  entries = entry_then (codes "mode") (text (codes "r")) (token_entries s);
  is = rw f refl;
  good = read_good s u;
  deep = omega arith;
  added = q ∙ ap (λ x. x ++ canon_entries (token_entries s)) p ∙ append_assoc old (0xA2 ∷ 0x84 ∷ codes "mode" ++ 0x81 ∷ 0x72 ∷ []) (canon_entries (token_entries s));
}

-- the mode alone
pub of_writing : (old new : List ℕ) → new ≡ old ++ 0xA0 ∷ [] → AddsEntries (transaction_put Write None) old new
unfolding head
of_writing old new a = record { entries = no_entries; is = refl; good = mode_good Write; deep = omega arith; added = a }

pub of_reading : (old new : List ℕ) → new ≡ old ++ (0xA1 ∷ 0x84 ∷ codes "mode" ++ 0x81 ∷ 0x72 ∷ []) → AddsEntries (transaction_put Read None) old new
unfolding head
of_reading old new a = record { entries = entry_then (codes "mode") (text (codes "r")) no_entries; is = refl; good = mode_good Read; deep = omega arith; added = a }

-- ---- texts

pub count_texts : (xs : List (Bor (List ℕ) × Bor (List ℕ))) → entry_count (entries_of (map named_text xs)) ≡ length xs
count_texts [] = refl
count_texts (x ∷ xs) = ap suc (count_texts xs)

-- the heads of a structure and of its dictionary, then the entries
pub texts_put : (tag : ℕ) (xs : List (Bor (List ℕ) × Bor (List ℕ))) (old a b new : List ℕ) → a ≡ old ++ 0xB1 ∷ tag ∷ [] → b ≡ a ++ head 0xA0 0xD8 (length xs) → new ++ [] ≡ b ++ canon_entries (entries_of (map named_text xs))
    → new ≡ old ++ canon (of_texts tag (map named_text xs))
texts_put tag xs old a b new p q r =
    let es = entries_of (map named_text xs) in
    dict_on es a b new (q ∙ ap (λ n. a ++ head 0xA0 0xD8 n) (sym (count_texts xs))) (sym (append-nil new) ∙ r) ∙ ap (λ x. x ++ canon (dict es)) p ∙ append_assoc old (0xB1 ∷ tag ∷ []) (canon (dict es))
    ∙ ap (λ x. old ++ (0xB1 ∷ tag ∷ x)) (sym (append-nil (canon (dict es))))

texts_added : (f : Result Tree MsgFault) (tag : ℕ) (ps qs : List (List ℕ × Tree)) (old new : List ℕ) → tag < 256 → f ≡ Ok (of_texts tag qs) → ps ≡ qs → new ≡ old ++ canon (of_texts tag ps) → IsGood (dict (entries_of qs)) → depth (dict (entries_of qs)) ≤ 31 → Adds f old new
texts_added f tag ps qs old new h is e a g d = record { value = of_texts tag qs; is = is; good = field_good tag (dict (entries_of qs)) h g d; added = a ∙ ap (λ x. old ++ canon (of_texts tag x)) e }

pub login_good : (l : AuthView) → HasTexts l → IsGood (dict (entries_of (login_pairs l)))
unfolding lib.Utf8.encode first_fault
login_good l t = good_when _ 4 refl ((codes "scheme", (refl, refl)), t.scheme, ((codes "principal", (refl, refl)), t.principal, ((codes "credentials", (refl, refl)), t.credentials, tt)))

agent_good : (s : List ℕ) → IsUtf8 s → IsGood (dict (entries_of (hello_pairs s None)))
unfolding lib.Utf8.encode
agent_good s u = record { deep = omega arith; sound = ((refl, tt), (tt, tt)); plain = ((codes "user_agent", (refl, refl)), u, tt) }

agent_and_login_good : (s : List ℕ) (l : AuthView) → IsUtf8 s → HasTexts l → IsGood (dict (entries_of (hello_pairs s (Some l))))
unfolding lib.Utf8.encode first_fault
agent_and_login_good s l u t = good_when _ 5 refl ((codes "user_agent", (refl, refl)), u, (login_good l t).plain)

error_good : (c m : List ℕ) → IsUtf8 c → IsUtf8 m → IsGood (dict (entries_of (error_pairs c m)))
unfolding lib.Utf8.encode
error_good c m u w = record { deep = omega arith; sound = ((refl, (refl, tt)), (tt, (tt, tt))); plain = ((codes "code", (refl, refl)), u, ((codes "message", (refl, refl)), w, tt)) }

auth_texts : (a : Auth) → HasTexts (auth_view a)
auth_texts a = record { scheme = IsUtf8-string_bytes a.scheme; principal = IsUtf8-string_bytes a.principal; credentials = IsUtf8-string_bytes a.credentials }

-- ---- messages

pub hello_added : (v : Version) (s : String Global) (ps : List (List ℕ × Tree)) (old new : List ℕ) → hello_has_login v ≡ false → ps ≡ hello_pairs (string_bytes s) None → new ≡ old ++ canon (of_texts 0x01 ps) → Adds (form_put v (request_contents (Hello (string_bytes s) None))) old new
hello_added v s ps old new h e a = texts_added _ 0x01 ps _ old new (omega arith) (rw h refl) e a (agent_good (string_bytes s) (IsUtf8-string_bytes s)) (omega arith)

pub hello_and_login_added : (v : Version) (s : String Global) (l : Auth) (ps : List (List ℕ × Tree)) (old new : List ℕ) → hello_has_login v ≡ true → ps ≡ hello_pairs (string_bytes s) (Some (auth_view l)) → new ≡ old ++ canon (of_texts 0x01 ps)
    → Adds (form_put v (request_contents (Hello (string_bytes s) (Some (auth_view l))))) old new
hello_and_login_added v s l ps old new h e a = texts_added _ 0x01 ps _ old new (omega arith) (rw h refl) e a (agent_and_login_good (string_bytes s) (auth_view l) (IsUtf8-string_bytes s) (auth_texts l)) (omega arith)

pub logon_added : (v : Version) (l : Auth) (ps : List (List ℕ × Tree)) (old new : List ℕ) → has_logon v ≡ true → ps ≡ login_pairs (auth_view l) → new ≡ old ++ canon (of_texts 0x6A ps) → Adds (form_put v (request_contents (Logon (auth_view l)))) old new
logon_added v l ps old new h e a = texts_added _ 0x6A ps _ old new (omega arith) (rw h refl) e a (login_good (auth_view l) (auth_texts l)) (omega arith)

pub logoff_added : (v : Version) (old new : List ℕ) → has_logon v ≡ true → Adds (Ok (structure 0x6B no_trees)) old new → Adds (form_put v (request_contents Logoff)) old new
logoff_added v old new h a = subst (λ f. Adds f old new) (let k : ◌≡◌ {A = Result Tree MsgFault} (Ok (structure 0x6B no_trees)) (form_put v (request_contents Logoff)) = rw h refl in k) a

pub failure_added : (v : Version) (c m : String Global) (ps : List (List ℕ × Tree)) (old new : List ℕ) → ps ≡ error_pairs (string_bytes c) (string_bytes m) → new ≡ old ++ canon (of_texts 0x7F ps) → Adds (form_put v (response_contents (Failure (string_bytes c) (string_bytes m)))) old new
failure_added v c m ps old new e a = texts_added _ 0x7F ps _ old new (omega arith) refl e a (error_good (string_bytes c) (string_bytes m) (IsUtf8-string_bytes c) (IsUtf8-string_bytes m)) (omega arith)
