-- What every reader does with pieces depends on what it keeps alone.
use Rattle.std.proofs.Common.{◌≡◌, refl, sym, ◌∙◌, ap, ℕ, zero, suc, ◌+◌, ◌<◌, ◌≤◌, Option, Some, None, option_to_list, List, [], ◌∷◌, ◌++◌, length, take, zero-add, arith, append_assoc, map}
use Rattle.wire.specs.Prelude.{Reader, Took, state, outputs, one_more, ends_at, takes, or_more, then_takes, ReadsPieces, meaning_reader}

module _ (R X : Type 0) (p : Reader R X) where
  pub outputs-append : (r : R) (a b : List ℕ) → outputs p r (a ++ b) ≡ outputs p r a ++ outputs p (state p r a) b
  outputs-append r [] b = refl
  outputs-append r (x ∷ a) b = ap (λ z. option_to_list (p.item r x) ++ z) (outputs-append (p.byte r x) a b) ∙ sym (append_assoc (option_to_list (p.item r x)) _ _)

  pub state-append : (r : R) (a b : List ℕ) → state p r (a ++ b) ≡ state p (state p r a) b
  state-append r [] b = refl
  state-append r (x ∷ a) b = state-append (p.byte r x) a b

  -- from what is kept alone: what a piece completes, and what is kept then
  pub takes_outputs : (r : R) (piece : List ℕ) → (outputs p r (take (takes p r piece).used piece) ≡ option_to_list (takes p r piece).item) × (state p r (take (takes p r piece).used piece) ≡ (takes p r piece).rest)
  takes_outputs r [] = (refl, refl)
  takes_outputs r (b ∷ bs) = go (p.item r b) refl (takes_outputs (p.byte r b) bs)
    where
      t : Took R X
      t = takes p (p.byte r b) bs

      go : (o : Option X) → p.item r b ≡ o → (outputs p (p.byte r b) (take t.used bs) ≡ option_to_list t.item) × (state p (p.byte r b) (take t.used bs) ≡ t.rest)
          → (outputs p r (take (ends_at (p.byte r b) o t).used (b ∷ bs)) ≡ option_to_list (ends_at (p.byte r b) o t).item) × (state p r (take (ends_at (p.byte r b) o t).used (b ∷ bs)) ≡ (ends_at (p.byte r b) o t).rest)
      go None e h = (ap (λ o. option_to_list o ++ outputs p (p.byte r b) (take t.used bs)) e ∙ h.0, h.1)
      go (Some x) e h = (ap (λ o. option_to_list o ++ []) e, refl)

  used_within : (r : R) (piece : List ℕ) → (takes p r piece).used ≤ length piece
  used_within r [] = omega arith
  used_within r (b ∷ bs) = let ih = used_within (p.byte r b) bs in grind arith

  none_early : (r : R) (piece : List ℕ) (k : ℕ) → k < (takes p r piece).used → outputs p r (take k piece) ≡ []
  none_early r [] k h = absurd (omega arith)
  none_early r (b ∷ bs) zero h = refl
  none_early r (b ∷ bs) (suc k) h = let ih = none_early (p.byte r b) bs k in grind arith

  used_all : (r : R) (piece : List ℕ) → (takes p r piece).item ≡ None → (takes p r piece).used ≡ length piece
  used_all r [] e = refl
  used_all r (b ∷ bs) e = let ih = used_all (p.byte r b) bs in grind arith

  used_is : (t : Took R X) (n : ℕ) → t.used ≡ n → t ≡ record t { used = n }
  used_is t n e = ap (λ (k : ℕ). let u : Took R X = record { used = k; item = t.item; rest = t.rest } in u) e

  in_parts : (r : R) (a b : List ℕ) → takes p r (a ++ b) ≡ then_takes (length a) (takes p r a) (λ s. takes p s b)
  in_parts r [] b = used_is (takes p r b) (0 + (takes p r b).used) (sym (zero-add (takes p r b).used))
  in_parts r (x ∷ a) b = go (p.item r x) (takes p (p.byte r x) a) (takes p (p.byte r x) (a ++ b)) (in_parts (p.byte r x) a b)
    where
      more : R → Took R X
      more s = takes p s b

      longer : (o : Option X) (t whole : Took R X) → t.item ≡ o → whole ≡ or_more t o (record { used = length a + (more t.rest).used; item = (more t.rest).item; rest = (more t.rest).rest })
          → one_more whole ≡ or_more (one_more t) o (record { used = suc (length a) + (more t.rest).used; item = (more t.rest).item; rest = (more t.rest).rest })
      longer (Some y) t whole e h = ap one_more h
      longer None t whole e h = ap one_more h ∙ used_is _ (suc (length a) + (more t.rest).used) (omega arith)

      go : (o : Option X) (t whole : Took R X) → whole ≡ then_takes (length a) t more → ends_at (p.byte r x) o whole ≡ then_takes (length (x ∷ a)) (ends_at (p.byte r x) o t) more
      go (Some y) t whole h = refl
      go None t whole h = longer t.item t whole refl h

  pub reads_pieces : ReadsPieces R X p
  reads_pieces = record {
    states = state-append;
    items = outputs-append;
    within = used_within;
    item = λ r piece. (takes_outputs r piece).0;
    rest = λ r piece. (takes_outputs r piece).1;
    early = none_early;
    all = used_all;
    parts = in_parts;
  }

-- a reader whose items are what another's mean
module _ (R X Y : Type 0) (f : X → Y) (p : Reader R X) where
  outputs-mapped : (r : R) (bytes : List ℕ) → outputs (meaning_reader f p) r bytes ≡ map f (outputs p r bytes)
  outputs-mapped r [] = refl
  outputs-mapped r (b ∷ bs) = let ih = outputs-mapped (p.byte r b) bs in grind arith

  state-mapped : (r : R) (bytes : List ℕ) → state (meaning_reader f p) r bytes ≡ state p r bytes
  state-mapped r [] = refl
  state-mapped r (b ∷ bs) = state-mapped (p.byte r b) bs

  pub reads_mapped : (r : R) (bytes : List ℕ) → (outputs (meaning_reader f p) r bytes ≡ map f (outputs p r bytes)) × (state (meaning_reader f p) r bytes ≡ state p r bytes)
  reads_mapped r bytes = (outputs-mapped r bytes, state-mapped r bytes)
