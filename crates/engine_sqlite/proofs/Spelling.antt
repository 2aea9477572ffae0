-- Bytes of writes, put together and taken apart.
use Rattle.std.proofs.Common.{◌≡◌, refl, sym, ap, subst, ◌∙◌, ◌<◌, ℕ, ◌+◌, ◌-◌, List, [], ◌∷◌, ◌++◌, length, take, drop, get_or, append-nil}
use Rattle.std.proofs.lemmas.List.{append_assoc, length-drop, map-append, take-append-drop, take_more}
use Rattle.engine_sqlite.proofs.Front.{take_whole}
use Rattle.engine.specs.declared.ledger.Write.{Write}
use Rattle.engine.specs.Views.{WriteView, write_view, writes_view}
use Rattle.engine_sqlite.specs.Spelled.{AddsSpelling, AddsWrite, HasForm, SpellsWrites, TakesValue, TakesWrite}
use Rattle.packstream.specs.Tree.{Tree, text}

-- a key and then a value are a write
pub one_write : (key : List ℕ) (cell value : Tree) (old mid new : List ℕ) → HasForm cell value → AddsSpelling (text key) old mid → AddsSpelling value mid new
    → AddsWrite (key, cell) old new
one_write key cell value old mid new form a b = (
  a.0 ++ b.0,
  record { value = value; form = form; key_bytes = a.0; value_bytes = b.0; key_spelled = a.1; value_spelled = b.1; whole = refl },
  b.2 ∙ ap (λ xs. xs ++ b.0) a.2 ∙ append_assoc old a.0 b.0,
)

-- one write more
pub write_more : (ws : List WriteView) (w : WriteView) (old new : List ℕ) → SpellsWrites ws old → AddsWrite w old new → SpellsWrites (ws ++ w ∷ []) new
write_more [] w old new none more = (more.0, [], more.1, refl, more.2 ∙ ap (λ xs. xs ++ more.0) none ∙ sym (append-nil more.0))
write_more (v ∷ ws) w old new h more =
    (h.0, h.1 ++ more.0, h.2, write_more ws w h.1 (h.1 ++ more.0) h.3 (more.0, more.1, refl), more.2 ∙ ap (λ xs. xs ++ more.0) h.4 ∙ append_assoc h.0 h.1 more.0)

-- the same of bytes that are taken off the front
pub taken_more : (ws : List WriteView) (w : WriteView) (front bytes rest behind : List ℕ) → SpellsWrites ws front → bytes ≡ front ++ rest → TakesWrite w rest behind
    → (next : List ℕ) × SpellsWrites (ws ++ w ∷ []) next × (bytes ≡ next ++ behind)
taken_more ws w front bytes rest behind h is taken = (
  front ++ taken.0,
  write_more ws w front (front ++ taken.0) h (taken.0, taken.1, refl),
  is ∙ ap (λ xs. front ++ xs) taken.2 ∙ sym (append_assoc front taken.0 behind),
)

-- a key and then a value, taken off the front, are a write
pub one_taken : (key : List ℕ) (cell value : Tree) (bytes rest behind : List ℕ) → HasForm cell value → TakesValue (text key) bytes rest → TakesValue value rest behind
    → TakesWrite (key, cell) bytes behind
one_taken key cell value bytes rest behind form a b = (
  a.0 ++ b.0,
  record { value = value; form = form; key_bytes = a.0; value_bytes = b.0; key_spelled = a.2; value_spelled = b.2; whole = refl },
  a.3 ∙ ap (λ xs. a.0 ++ xs) b.3 ∙ sym (append_assoc a.0 b.0 behind),
)

-- the next of a slice's writes
pub next_write : (ws : List Write) (i : ℕ) (w : Write) (old new : List ℕ) → i < length ws → w ≡ get_or ws i w → SpellsWrites (writes_view (take i ws)) old → AddsWrite (write_view w) old new
    → SpellsWrites (writes_view (take (i + 1) ws)) new
next_write ws i w old new within is h more =
    let parts : take (i + 1) ws ≡ take i ws ++ w ∷ [] = take_more ws i w within ∙ ap (λ y. take i ws ++ y ∷ []) (sym is) in
    subst (λ vs. SpellsWrites vs new) (sym (ap writes_view parts ∙ map-append write_view (take i ws) (w ∷ []))) (write_more (writes_view (take i ws)) (write_view w) old new h more)

-- bytes are their front and what a slice has behind it
pub front_and_rest : (n : ℕ) (xs : List ℕ) → xs ≡ take n xs ++ take (length xs - n) (drop n xs)
front_and_rest n xs = sym (ap (λ rest. take n xs ++ rest) (take_whole (drop n xs) (length xs - n) (length-drop n xs)) ∙ take-append-drop n xs)
