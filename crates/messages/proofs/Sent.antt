-- What bytes mean, by the relations and by the functions; and what is written of a message, which is a message of the wire and is read as that message.
use Rattle.messages.proofs.Words.{◌++◌, ◌≡◌, ◌↔◌, ℕ, List, [], ◌∷◌, Result, Ok, Err, IsErrAnd, inl, inr, sym, ap, ◌∙◌, refl, ◌<◌, ◌≤◌, length, false, arith, subst, Reason, PackFault, Tree, IsGood, Spells, AreBytes, Bad, entries_of, trees_of, whole_of, PackUnless, canon, first_fault, faults_in, whole_value, whole_fault, no_proper_beginning_is, Version, MsgFault, canon_spells, Item, Opening, Message, item_bytes, Row, requests, responses, RequestView, ResponseView, of_pack, ◌>>=◌, Contents, contents_of_message, Answers, request_contents, response_contents, Means, IsNone, Gave, UnlessMemory, value_told, contents_by, contents_in, request_held, response_held, pairs_of, list_of, Req, Resp, request_of, response_of, packed_by, spelling_within, spelling_of_tree, Appends, form_put, request_spelling, response_spelling, run_of_result}
use Rattle.packstream.specs.declared.fault.PackFault.TheVariants as pack

pub means_said : (v : Version) (table : List Row) (s : Contents) (b : List ℕ) → Means v table s b → contents_in v table b ≡ Ok s
means_said v table s b h = grind (arith, whole_value b)

-- what is read of a value is what is read of every spelling of it
pub spelled_answers : {X : Type 0} (view : X → Contents) (v : Version) (table : List Row) (u t : Tree) (b : List ℕ) (r : Result X MsgFault) → u ≡ t → IsGood t → Spells t b
    → Answers view r (contents_of_message v table u) → Answers view r (contents_in v table b)
spelled_answers view v table u t b r same good spells h = subst (λ s. Answers view r s) (ap (contents_of_message v table) same ∙ sym (ap (contents_by v table) ((whole_value b spells.0 t).1 (good, spells)))) h

pub none_said : (v : Version) (table : List Row) (e : MsgFault) (b : List ℕ) (bytes : AreBytes b) → IsNone v table e b → contents_in v table b ≡ Err e
none_said v table e b bytes (inl h) = ap (contents_by v table) ((whole_fault b bytes h.0 h.1).1 h.3) ∙ ap Err (sym h.2)
none_said v table e b bytes (inr h) = ap (contents_by v table) ((whole_value b bytes h.value).1 (h.good, h.spelled)) ∙ h.says

pub said_means : (v : Version) (table : List Row) (s : Contents) (b : List ℕ) (bytes : AreBytes b) → contents_in v table b ≡ Ok s → Means v table s b
said_means v table s b bytes h = grind (arith, whole_value b bytes)

pub said_none : (v : Version) (table : List Row) (e : MsgFault) (b : List ℕ) (bytes : AreBytes b) → contents_in v table b ≡ Err e → IsNone v table e b
said_none v table e b bytes h = grind (arith, whole_value b bytes, whole_fault b bytes)

pub err_is : {X : Type 0} (r : Result X MsgFault) (x : MsgFault) → IsErrAnd r (λ e. e ≡ x) → r ≡ Err x
err_is r x h = grind arith

-- what is read of the value that bytes spell
pub by_value : (v : Version) (table : List Row) (r : Result Tree (Reason × ℕ)) → contents_by v table r ≡ (value_told r >>= λ t. contents_of_message v table t)
by_value v table r = grind arith

-- the decoder's fault is what the bytes say
pub bad_answers : {X : Type 0} (view : X → Tree) (b : List ℕ) (bytes : AreBytes b) (p : PackFault) (r : Result X MsgFault)
    → ((q : Reason) (o : ℕ) → PackUnless {A = Tree} (Err p) (◌≡◌ {A = Result Tree PackFault} (Err p) (Err (pack.Refused q o)) ↔ Bad b o q)) → r ≡ Err (of_pack p) → Answers view r (value_told (whole_of b))
bad_answers view b bytes (pack.Refused q o) r h e = grind (arith, whole_fault b bytes q o, h q o)
bad_answers view b bytes pack.Memory r h e = grind arith

-- What a message holds tells it.
pairs_back : (es : List (List ℕ × Tree)) → pairs_of (entries_of es) ≡ es
pairs_back [] = refl
pairs_back (e ∷ es) = ap (λ r. e ∷ r) (pairs_back es)

list_back : (ts : List Tree) → list_of (trees_of ts) ≡ ts
list_back [] = refl
list_back (t ∷ ts) = ap (λ r. t ∷ r) (list_back ts)

pub asked_back : (m : RequestView) → request_held (request_contents m) ≡ m
asked_back m = grind (arith, pairs_back)

pub answered_back : (m : ResponseView) → response_held (response_contents m) ≡ m
answered_back m = grind (arith, pairs_back, list_back)

-- What was read is what the bytes stand for, where what a message holds tells it.
pub gives_message : {X Y : Type 0} (see : X → Y) (holds : Y → Contents) (back : Contents → Y) → ((y : Y) → back (holds y) ≡ y) → (v : Version) (table : List Row) (b : List ℕ) (bytes : AreBytes b) (r : Result X MsgFault)
    → Answers (λ x. holds (see x)) r (contents_in v table b) → (m : Y) → UnlessMemory r (Gave see r m ↔ Means v table (holds m) b)
gives_message see holds back tells v table b bytes r h m = grind (arith, said_means v table, means_said v table, tells)

fault_by : {X : Type 0} (view : X → Contents) (r : Result X MsgFault) (s : Result Contents MsgFault) (P : MsgFault → Type 0) → ((e : MsgFault) → (s ≡ Err e) ↔ P e)
    → Answers view r s → (e : MsgFault) → UnlessMemory r ((r ≡ Err e) ↔ P e)
fault_by view r s P is h e = grind (arith, is)

pub gives_fault : {X : Type 0} (view : X → Contents) (v : Version) (table : List Row) (b : List ℕ) (bytes : AreBytes b) (r : Result X MsgFault)
    → Answers view r (contents_in v table b) → (e : MsgFault) → UnlessMemory r ((r ≡ Err e) ↔ IsNone v table e b)
gives_fault view v table b bytes r = fault_by view r (contents_in v table b) (λ e. IsNone v table e b) (λ e. (said_none v table e b bytes, none_said v table e b bytes))

pub kept_fault : {A B : Type 0} (f : A → B) (r : Result A MsgFault) (e : MsgFault) → (r >>= λ x. Ok (f x)) ≡ Err e → r ≡ Err e
kept_fault f r e h = grind arith

pub gives_same : {X Y : Type 0} (see : X → Y) (holds : Y → Contents) (back : Contents → Y) → ((y : Y) → back (holds y) ≡ y) → (r : Result X MsgFault) (s : Result Contents MsgFault)
    → Answers (λ x. holds (see x)) r s → Answers see r (s >>= λ x. Ok (back x))
gives_same see holds back tells r s h = grind (arith, tells)

-- bytes and more that say something spell one value, and there are no more
pub one_value : (v w : Version) (table other : List Row) (s u : Contents) (b more : List ℕ) → Means v table s b → Means w other u (b ++ more)
    → (more ≡ []) × (t : Tree) × (contents_of_message v table t ≡ Ok s) × (contents_of_message w other t ≡ Ok u)
one_value v w table other s u b more p q = grind (arith, no_proper_beginning_is p.value q.value b more p.good q.good p.spelled q.spelled)

pub sized_fits : (t : Tree) → (65536 < length (canon t) → ⊥) → spelling_within t ≡ Ok (canon t)
sized_fits t h = grind arith

abbrev pub Told : Tree → Result Tree PackFault → Type 0
Told t made = (r : Reason) (o : ℕ) → (made ≡ Err (pack.Refused r o)) ↔ (first_fault (faults_in 0 false t) 0 ≡ Err (r, o))

pub good_text : (t u : Tree) → Told t (Ok u) → spelling_of_tree t ≡ spelling_within t
good_text t u h = grind (arith, λ (e : Reason × ℕ) (w : first_fault (faults_in 0 false t) 0 ≡ Err e). ((h e.0 e.1).1 w))

pub bad_text : (t : Tree) (p : PackFault) → Told t (Err p) → (◌≡◌ {A = Result Tree PackFault} (Err p) (Err pack.Memory) → ⊥) → spelling_of_tree t ≡ Err (of_pack p)
bad_text t (pack.Refused r o) h m = ap (λ x. packed_by x t >>= spelling_within) ((h r o).0 refl)
bad_text t pack.Memory h m = absurd (m refl)

pub nothing_appended : {A : Type 0} (r : Result A MsgFault) (old : List ℕ) (s : Result (List ℕ) MsgFault) (e : MsgFault) → r ≡ Err e → s ≡ Err e → Appends r old old s
nothing_appended r old s e h k = grind arith

-- what is written of a structure is its shortest spelling, which isn't too long
pub canon_is : (t : Tree) (b : List ℕ) → spelling_of_tree t ≡ Ok b → (b ≡ canon t) × (length (canon t) ≤ 65536)
canon_is t b h = grind arith

-- so it stands for what its value says
pub means_of : (f : Result Tree MsgFault) (t : Tree) (v : Version) (table : List Row) (s : Contents) (b : List ℕ) → f ≡ Ok t → IsGood t → contents_of_message v table t ≡ Ok s → (f >>= spelling_of_tree) ≡ Ok b → Means v table s b
means_of f t v table s b is good says e = grind (arith, canon_is t, canon_spells t good)

-- A spelling is no longer than a message may be.
pub short_put : (r : Result Tree MsgFault) (b : List ℕ) → (r >>= spelling_of_tree) ≡ Ok b → length b ≤ 65536
short_put r b h = grind (arith, canon_is)

-- What stands for a message has bytes.
some_means : (v : Version) (table : List Row) (s : Contents) (b : List ℕ) → Means v table s b → 0 < length b
some_means v table s b h = grind arith

-- a spelling that a message of the wire may be
abbrev pub Fits : List ℕ → Type 0
Fits b = (0 < length b) × (length b ≤ 65536)

pub request_fits : (v : Version) (m : RequestView) (b : List ℕ) → request_spelling v m ≡ Ok b → Req v m b → Fits b
unfolding request_spelling
request_fits v m b e h = (some_means v requests (request_contents m) b h, short_put (form_put v (request_contents m)) b e)

pub response_fits : (v : Version) (m : ResponseView) (b : List ℕ) → response_spelling v m ≡ Ok b → Resp v m b → Fits b
unfolding response_spelling
response_fits v m b e h = (some_means v responses (response_contents m) b h, short_put (form_put v (response_contents m)) b e)

pub request_is : (v : Version) (m : RequestView) (b : List ℕ) → Req v m b → request_of v b ≡ Ok m
unfolding request_of
request_is v m b h = ap (λ r. r >>= λ s. Ok (request_held s)) (means_said v requests (request_contents m) b h) ∙ ap Ok (asked_back m)

pub response_is : (v : Version) (m : ResponseView) (b : List ℕ) → Resp v m b → response_of v b ≡ Ok m
unfolding response_of
response_is v m b h = ap (λ r. r >>= λ s. Ok (response_held s)) (means_said v responses (response_contents m) b h) ∙ ap Ok (answered_back m)

-- the item of a spelling, or one of no bytes
abbrev pub sent : Result (List ℕ) MsgFault → Item
sent (Ok b) = Message b
sent (Err e) = Opening []

pub sent_text : (r : Result (List ℕ) MsgFault) → item_bytes (sent r) ≡ run_of_result r
sent_text r = grind arith
