-- The text of a summary, added an entry after the other.
use Rattle.std.proofs.Common.{◌+◌, true, nat_lt, refl, codes, ◌≡◌, ◌≤◌, ℕ, List, [], ◌∷◌, ◌++◌, length, ap, sym, ◌∙◌, append_assoc, arith}
use Rattle.std.proofs.lemmas.List.{append-nil}
use Rattle.std.proofs.lemmas.Bool.Decides.{nat_tests}
use Rattle.packstream.specs.Prelude.{Tree, text, dict, structure, no_trees, tree_then, Entries, no_entries, entry_then, entry_count, head, text_bytes, canon, canon_entries}
use Rattle.wire.specs.declared.Version.{Version}
use Rattle.wire.specs.Prelude.{written_run}
use Rattle.messages.specs.Prelude.{Summary, run_of_result, response_of_summary, form_of, IsShort}
use Rattle.messages.proofs.Fitting.{text_is}
use Rattle.server_session.specs.Prelude.{IsRun}

-- a place for a header and the head of a structure of one dictionary, then its entries
pub headed : (tag n : ℕ) (es : Entries) (a new : List ℕ) → head 0xA0 0xD8 (entry_count es) ≡ n ∷ [] → a ≡ 0 ∷ 0 ∷ 0xB1 ∷ tag ∷ n ∷ [] → new ≡ a ++ canon_entries es → new ≡ 0 ∷ 0 ∷ canon (structure tag (tree_then (dict es) no_trees))
headed tag n es a new h p q =
    q ∙ ap (λ x. x ++ canon_entries es) p ∙ ap (λ y. 0 ∷ 0 ∷ 0xB1 ∷ tag ∷ (y ++ canon_entries es)) (sym h)
    ∙ ap (λ x. 0 ∷ 0 ∷ 0xB1 ∷ tag ∷ x) (sym (append-nil (canon (dict es))))

-- an entry, then others
pub entry_first : (k s : List ℕ) (es : Entries) (a b new : List ℕ) → b ≡ a ++ (text_bytes k ++ text_bytes s) → new ≡ b ++ canon_entries es → new ≡ a ++ canon_entries (entry_then k (text s) es)
entry_first k s es a b new p q =
    q ∙ ap (λ x. x ++ canon_entries es) p ∙ append_assoc a (text_bytes k ++ text_bytes s) (canon_entries es)
    ∙ ap (λ x. a ++ x) (append_assoc (text_bytes k) (text_bytes s) (canon_entries es))

-- the last entry
pub entry_last : (k : List ℕ) (t : Tree) (a new : List ℕ) → new ≡ a ++ (text_bytes k ++ canon t) → new ≡ a ++ canon_entries (entry_then k t no_entries)
entry_last k t a new p = p ∙ ap (λ x. a ++ (text_bytes k ++ x)) (sym (append-nil (canon t)))

-- a head of few
pub small_head : (tiny m n : ℕ) → n ≤ 15 → head tiny m n ≡ (tiny + n) ∷ []
unfolding head
small_head tiny m n h = let e : nat_lt n 16 ≡ true = grind (arith, nat_tests) in rw e refl

-- the text of a bookmark of few digits
pub marked : (digits a b new : List ℕ) → length digits ≤ 12 → b ≡ a ++ (0x80 + (3 + length digits)) ∷ codes "bk:" → new ≡ b ++ digits → new ≡ a ++ text_bytes (codes "bk:" ++ digits)
unfolding head
marked digits a b new few p q =
    let front : List ℕ = (0x80 + (3 + length digits)) ∷ codes "bk:" in
    let m : ℕ = length (codes "bk:" ++ digits) in
    let same : m ≡ 3 + length digits = omega arith in
    let e : head 0x80 0xD0 m ≡ (0x80 + (3 + length digits)) ∷ [] = small_head 0x80 0xD0 m (omega (arith, few, same)) ∙ ap (λ x. (0x80 + x) ∷ []) same in
    q ∙ ap (λ x. x ++ digits) p ∙ append_assoc a front digits ∙ ap (λ x. a ++ (x ++ (codes "bk:" ++ digits))) (sym e)

-- a SUCCESS up to its bookmark, that, and what follows it
pub bookmarked : (n : ℕ) (mark last old a b new : List ℕ) → old ≡ [] → a ≡ old ++ 0 ∷ 0 ∷ 0xB1 ∷ 0x70 ∷ n ∷ 0x88 ∷ codes "bookmark" → b ≡ a ++ mark → new ≡ b ++ last
    → new ≡ 0 ∷ 0 ∷ 0xB1 ∷ 0x70 ∷ n ∷ (text_bytes (codes "bookmark") ++ (mark ++ last))
unfolding head
bookmarked n mark last old a b new o p q r =
    r ∙ ap (λ x. x ++ last) (q ∙ ap (λ x. x ++ mark) (p ∙ ap (λ x. x ++ 0 ∷ 0 ∷ 0xB1 ∷ 0x70 ∷ n ∷ 0x88 ∷ codes "bookmark") o))

-- the run of its text is the summary's
pub summary_run : (v : Version) (s : Summary) (run : List ℕ) → IsShort s → run ≡ written_run (canon (form_of s)) → IsRun v (response_of_summary s) run
summary_run v s run h e = e ∙ sym (ap run_of_result (text_is v s h))

-- parts that were added one after another are one text
pub ruleset added = (append_assoc, append-nil)
