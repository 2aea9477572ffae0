-- A piece that is fed by one call after the other.
use Rattle.std.proofs.Common.{◌≡◌, ◌≤◌, ◌+◌, ap, ap₂, ◌∙◌, subst, sym, refl, ℕ, Ok, List, [], ◌∷◌, ◌++◌, length, drop}
use Rattle.std.proofs.lemmas.List.{drop-drop}
use Rattle.client.specs.Prelude.{Rest}
use Rattle.client_tracking.specs.Account.{Account}
use Rattle.client_tracking.specs.Feeding.{tracked_feed}
use Rattle.bolt_c.specs.Feeding.{Stand, fed, FedBy}

pub stand_is : (a b : Stand) → a.rest ≡ b.rest → a.account ≡ b.account → a ≡ b
stand_is a b e f = ap₂ (λ (r : Rest) (z : Account). let s : Stand = record { rest = r; account = z } in s) e f

-- one call more
fed_more : (ns : List ℕ) (from now : Stand) (piece left : List ℕ) (n : ℕ) → FedBy ns from piece now left → (tracked_feed now.rest now.account left).answer ≡ Ok n → FedBy (ns ++ n ∷ []) from piece (fed now left) (drop n left)
fed_more [] from now piece left n h e = let a = h.0 in let b = h.1 in subst (λ (z : Stand). FedBy (n ∷ []) z piece (fed now left) (drop n left)) a (subst (λ (z : List ℕ). FedBy (n ∷ []) now z (fed now left) (drop n left)) b (e, (refl, refl)))
fed_more (m ∷ ns) from now piece left n h e = (h.0, fed_more ns (fed from piece) now (drop m piece) left n h.1 e)

-- So many bytes of a piece were used.
pub record PartFed (from now : Stand) (piece : List ℕ) (used : ℕ) : Type 0 where
  pub counts : List ℕ
  pub calls : FedBy counts from piece now (drop used piece)
  pub within : used ≤ length piece

-- and more by another call
pub part_on : {from now : Stand} {piece : List ℕ} {used : ℕ} → PartFed from now piece used → (left : List ℕ) → left ≡ drop used piece → (new : Stand) (more : ℕ) → Ok more ≡ (tracked_feed now.rest now.account left).answer → new ≡ fed now left → used + more ≤ length piece
    → PartFed from new piece (used + more)
part_on {from = from} {now = now} {piece = piece} {used = used} p left l new more e s within = record {
  counts = p.counts ++ more ∷ [];
  calls = subst (λ (z : Stand). FedBy (p.counts ++ more ∷ []) from piece z (drop (used + more) piece)) (sym s)
      (subst (λ (z : List ℕ). FedBy (p.counts ++ more ∷ []) from piece (fed now left) z) (ap (drop more) l ∙ drop-drop more used piece)
      (fed_more p.counts from now piece left more (subst (λ (z : List ℕ). FedBy p.counts from piece now z) (sym l) p.calls) (sym e)));
  within = within;
}
