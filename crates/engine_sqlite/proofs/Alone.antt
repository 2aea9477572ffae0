-- Bytes stand for one list of writes alone, and rows for one ledger.
use Rattle.std.proofs.Common.{◌≡◌, ◌≤◌, refl, sym, ap, subst, ◌∙◌, ℕ, suc, Some, None, List, [], ◌∷◌, ◌++◌, length, take, drop, length-append, arith}
use Rattle.std.proofs.Math.Seq.{drop-append_seam, take-append_seam}
use Rattle.std.proofs.lemmas.List.{append_assoc}
use Rattle.std.proofs.lemmas.List.Sorted.{IsPermutation-sym, IsPermutation-trans}
use Rattle.engine.specs.Views.{EntryView, Token, WriteView}
use Rattle.engine_sqlite.specs.Ledger.{AreRowsOf, HasOneLedger, IsRowOf}
use Rattle.engine_sqlite.specs.Spelled.{SpellsWrite, SpellsWrites}
use Rattle.engine_sqlite.proofs.Numbered.{AreNumbered, one_number, one_order}
use Rattle.packstream.proofs.Deciding.{front_alone_is}
use Rattle.packstream.specs.Good.{IsGood}
use Rattle.packstream.specs.Spelling.{Spells}
use Rattle.packstream.specs.Tree.{Tree, text}
use Rattle.sqlite.specs.Order.{Row, column}
use Rattle.sqlite.specs.Values.{or_null}
use Rattle.sqlite.specs.declared.types.Value.{Value}
use Rattle.sqlite.specs.declared.types.Value.TheVariants.{Text, Blob}
use Rattle.structures.specs.Form.{typed}

-- bytes can be cut behind a spelled value in one place alone
cut : (t u : Tree) (a b x y : List ℕ) → IsGood t → IsGood u → Spells t a → Spells u b → a ++ x ≡ b ++ y → (t ≡ u) × (x ≡ y)
cut t u a b x y good other spelled again same =
    let front : take (length b) (a ++ x) ≡ b = ap (take (length b)) same ∙ take-append_seam b y in
    let fits : length b ≤ length (a ++ x) = omega (arith, ap length same, length-append b y) in
    let one = front_alone_is t a x good spelled u (length b) other fits (subst (Spells u) (sym front) again) in
    let rest : drop (length a) (a ++ x) ≡ drop (length b) (b ++ y) = ap (λ n. drop n (a ++ x)) (sym one.1) ∙ ap (drop (length b)) same in
    (sym one.0, sym (drop-append_seam a x) ∙ rest ∙ drop-append_seam b y)

good_text : (s b : List ℕ) → Spells (text s) b → IsGood (text s)
good_text s b h = record { deep = omega arith; sound = tt; plain = h.1.utf8 }

-- the bytes of a write, and what follows them
one_write : (w v : WriteView) (a b x y : List ℕ) → SpellsWrite w a → SpellsWrite v b → a ++ x ≡ b ++ y → (w ≡ v) × (x ≡ y)
one_write w v a b x y h k same =
    let flat : h.key_bytes ++ (h.value_bytes ++ x) ≡ k.key_bytes ++ (k.value_bytes ++ y) =
    sym (append_assoc h.key_bytes h.value_bytes x) ∙ ap (λ s. s ++ x) (sym h.whole) ∙ same ∙ ap (λ s. s ++ y) k.whole ∙ append_assoc k.key_bytes k.value_bytes y in
    let keys = cut (text w.0) (text v.0) h.key_bytes k.key_bytes (h.value_bytes ++ x) (k.value_bytes ++ y) (good_text w.0 h.key_bytes h.key_spelled) (good_text v.0 k.key_bytes k.key_spelled) h.key_spelled k.key_spelled flat in
    let values = cut h.value k.value h.value_bytes k.value_bytes x y h.form.good k.form.good h.value_spelled k.value_spelled keys.1 in
    let texts = keys.0 in
    let key : w.0 ≡ v.0 = cc in
    let cell : w.1 ≡ v.1 = h.form.formed.1 ∙ ap typed values.0 ∙ sym k.form.formed.1 in
    (ap (λ (s : List ℕ). let p : WriteView = (s, w.1) in p) key ∙ ap (λ (c : Tree). let p : WriteView = (v.0, c) in p) cell, values.1)

-- a write has bytes
some_bytes : (w : WriteView) (front rest : List ℕ) → SpellsWrite w front → [] ≡ front ++ rest → ⊥
some_bytes w front rest h none =
    omega (arith, ap length none, length-append front rest, ap length h.whole, length-append h.key_bytes h.value_bytes, ap length h.key_spelled.1.begins.2)

pub one_writes : (ws vs : List WriteView) (b : List ℕ) → SpellsWrites ws b → SpellsWrites vs b → ws ≡ vs
one_writes [] [] b h k = refl
one_writes [] (v ∷ vs) b h k = absurd (some_bytes v k.0 k.1 k.2 (sym h ∙ k.4))
one_writes (w ∷ ws) [] b h k = absurd (some_bytes w h.0 h.1 h.2 (sym k ∙ h.4))
one_writes (w ∷ ws) (v ∷ vs) b h k =
    let both = one_write w v h.0 k.0 h.1 k.1 h.2 k.2 (sym h.4 ∙ k.4) in
    ap (λ x. x ∷ ws) both.0 ∙ ap (λ xs. v ∷ xs) (one_writes ws vs k.1 (subst (SpellsWrites ws) both.1 h.3) k.3)

one_token : (t u : Token) → or_null Text t ≡ or_null Text u → t ≡ u
one_token None None e = refl
one_token None (Some u) e = absurd cc
one_token (Some t) None e = absurd cc
one_token (Some t) (Some u) e = cc

one_blob : (b c : List ℕ) → ◌≡◌ {A = Value} (Blob b) (Blob c) → b ≡ c
one_blob b c e = cc

one_entry : (n : ℕ) (e x : EntryView) (row : Row) → IsRowOf n e row → IsRowOf n x row → e ≡ x
one_entry n e x row h k =
    let same = sym h.is ∙ k.is in
    let conn : e.conn ≡ x.conn = one_number e.conn x.conn (ap (λ r. column r 3) same) in
    let ordinal : e.ordinal ≡ x.ordinal = one_number e.ordinal x.ordinal (ap (λ r. column r 4) same) in
    let token : e.token ≡ x.token = one_token e.token x.token (ap (λ r. column r 5) same) in
    let bytes : h.bytes ≡ k.bytes = one_blob h.bytes k.bytes (ap (λ r. column r 6) same) in
    let writes : e.writes ≡ x.writes = one_writes e.writes x.writes k.bytes (subst (SpellsWrites e.writes) bytes h.spelled) k.spelled in
    ap (λ (c : ℕ). let v : EntryView = record { conn = c; ordinal = e.ordinal; writes = e.writes; token = e.token } in v) conn
    ∙ ap (λ (o : ℕ). let v : EntryView = record { conn = x.conn; ordinal = o; writes = e.writes; token = e.token } in v) ordinal
    ∙ ap (λ (ws : List WriteView). let v : EntryView = record { conn = x.conn; ordinal = x.ordinal; writes = ws; token = e.token } in v) writes
    ∙ ap (λ (t : Token). let v : EntryView = record { conn = x.conn; ordinal = x.ordinal; writes = x.writes; token = t } in v) token

one_rows : (n : ℕ) (es xs : List EntryView) (rows : List Row) → AreRowsOf n es rows → AreRowsOf n xs rows → es ≡ xs
one_rows n [] [] rows h k = refl
one_rows n [] (x ∷ xs) [] h k = absurd k
one_rows n [] (x ∷ xs) (row ∷ rows) h k = absurd h
one_rows n (e ∷ es) [] [] h k = absurd h
one_rows n (e ∷ es) [] (row ∷ rows) h k = absurd k
one_rows n (e ∷ es) (x ∷ xs) [] h k = absurd h
one_rows n (e ∷ es) (x ∷ xs) (row ∷ rows) h k =
    ap (λ y. y ∷ es) (one_entry n e x row h.0 k.0) ∙ ap (λ ys. x ∷ ys) (one_rows (suc n) es xs rows h.1 k.1)

-- rows of a ledger are numbered
pub numbered : (n : ℕ) (es : List EntryView) (rows : List Row) → AreRowsOf n es rows → AreNumbered n rows
numbered n [] [] h = tt
numbered n [] (row ∷ rows) h = absurd h
numbered n (e ∷ es) [] h = absurd h
numbered n (e ∷ es) (row ∷ rows) h = (ap (λ r. column r 0) h.0.is, numbered (suc n) es rows h.1)

pub one_ledger_is : HasOneLedger
one_ledger_is trees es others h k =
    let both = IsPermutation-trans h.rows (trees 0) k.rows (IsPermutation-sym (trees 0) h.rows h.same) k.same in
    let same = one_order 1 h.rows k.rows both (numbered 1 es h.rows h.each) (numbered 1 others k.rows k.each) in
    one_rows 1 es others k.rows (subst (AreRowsOf 1 es) same h.each) k.each
