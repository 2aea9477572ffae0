-- The bytes that are taken of a piece, told by the items of the bytes so far.
use Rattle.std.proofs.Common.{◌≡◌, refl, ◌∙◌, ap, ℕ, suc, ◌+◌, if◌then◌else◌, nat_lt, Option, Some, None, option_to_list, List, [], ◌∷◌, ◌++◌, length, take, slice_get, arith, append-nil, length-append}
use Rattle.std.proofs.lemmas.Bool.{lt-ltb, le-ltb, cond-true, cond-false}
use Rattle.wire.specs.Prelude.{Reader, state, outputs, ends_at, takes, items_so_far, reach, ReachesItems}
use Rattle.wire.proofs.Readers.{outputs-append, state-append, takes_outputs}

module _ (R X : Type 0) (p : Reader R X) where
  pub reach_takes : (up piece : List ℕ) → reach (items_so_far p) up piece ≡ (takes p (state p p.start up) piece).used
  reach_takes up [] = refl
  reach_takes up (b ∷ bs) = go (p.item r b) refl (reach_takes (up ++ b ∷ []) bs)
    where
      r : R
      r = state p p.start up

      next : state p p.start (up ++ b ∷ []) ≡ p.byte r b
      next = state-append R X p p.start up (b ∷ [])

      len : length (items_so_far p (up ++ b ∷ [])) ≡ length (items_so_far p up) + length (option_to_list (p.item r b))
      len = ap length (outputs-append R X p p.start up (b ∷ [])) ∙ length-append (items_so_far p up) (option_to_list (p.item r b) ++ []) ∙ ap (λ z. length (items_so_far p up) + length z) (append-nil (option_to_list (p.item r b)))

      go : (o : Option X) → p.item r b ≡ o → reach (items_so_far p) (up ++ b ∷ []) bs ≡ (takes p (state p p.start (up ++ b ∷ [])) bs).used
          → (if nat_lt (length (items_so_far p up)) (length (items_so_far p (up ++ b ∷ []))) then 1 else suc (reach (items_so_far p) (up ++ b ∷ []) bs)) ≡ (ends_at (p.byte r b) o (takes p (p.byte r b) bs)).used
      go None e h =
          let l : length (items_so_far p (up ++ b ∷ [])) ≡ length (items_so_far p up) + 0 = len ∙ ap (λ o. length (items_so_far p up) + length (option_to_list o)) e in
          cond-false _ _ _ (le-ltb (length (items_so_far p up)) (length (items_so_far p (up ++ b ∷ []))) (omega arith)) ∙ ap suc (h ∙ ap (λ z. (takes p z bs).used) next)
      go (Some x) e h =
          let l : length (items_so_far p (up ++ b ∷ [])) ≡ length (items_so_far p up) + 1 = len ∙ ap (λ o. length (items_so_far p up) + length (option_to_list o)) e in
          cond-true _ _ _ (lt-ltb (length (items_so_far p up)) (length (items_so_far p (up ++ b ∷ []))) (omega arith))

  -- the item that they complete, at most one
  pub items_taken : (up piece : List ℕ) → items_so_far p (up ++ take (reach (items_so_far p) up piece) piece) ≡ items_so_far p up ++ option_to_list (takes p (state p p.start up) piece).item
  items_taken up piece =
      outputs-append R X p p.start up (take (reach (items_so_far p) up piece) piece)
      ∙ ap (λ z. items_so_far p up ++ z) (ap (λ n. outputs p (state p p.start up) (take n piece)) (reach_takes up piece) ∙ (takes_outputs R X p (state p p.start up) piece).0)

  -- what is kept then
  pub state_taken : (up piece : List ℕ) → state p p.start (up ++ take (reach (items_so_far p) up piece) piece) ≡ (takes p (state p p.start up) piece).rest
  state_taken up piece =
      state-append R X p p.start up (take (reach (items_so_far p) up piece) piece)
      ∙ ap (λ n. state p (state p p.start up) (take n piece)) (reach_takes up piece) ∙ (takes_outputs R X p (state p p.start up) piece).1

  pub last_taken : (up piece : List ℕ) → slice_get (items_so_far p (up ++ take (reach (items_so_far p) up piece) piece)) (length (items_so_far p up)) ≡ (takes p (state p p.start up) piece).item
  last_taken up piece = ap (λ z. slice_get z (length (items_so_far p up))) (items_taken up piece) ∙ at_end (items_so_far p up) (takes p (state p p.start up) piece).item
    where
      at_end : (xs : List X) (o : Option X) → slice_get (xs ++ option_to_list o) (length xs) ≡ o
      at_end [] None = refl
      at_end [] (Some x) = refl
      at_end (y ∷ xs) o = at_end xs o

  pub reaches_items : ReachesItems R X p
  reaches_items = record { used = reach_takes; items = items_taken; rest = state_taken; last = last_taken }
