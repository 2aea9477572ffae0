-- What an engine shows of its ledger, and what the database keeps of it, before and after a call.
use Rattle.std.proofs.Common.{◌≡◌, inl, inr, sym, ap, subst, ◌∙◌, ℕ, ◌+◌, Bool, true, false, if◌then◌else◌, List, [], ◌∷◌, ◌++◌, length, take, length-append, arith}
use Rattle.engine.specs.Tokens.{Found, Free, added_by}
use Rattle.engine.specs.Views.{EntryView}
use Rattle.engine_sqlite.specs.Ledger.{HasLedger, HoldsLedger, Lasts, LeavesEither, LeavesLedger}
use Rattle.engine_sqlite.proofs.Front.{take_front, take_whole}
use Rattle.sqlite.specs.State.{State}

-- an engine that shows all its entries leaves them
pub leaves_all : (s : State) (all : List EntryView) (n : ℕ) → length all ≡ n → LeavesEither s (take n all) all → LeavesLedger s (take n all)
leaves_all s all n is either clean trees may = elim (either clean trees may) [
  | inl one ↦ one
  | inr other ↦ subst (HoldsLedger trees) (sym (take_whole all n is)) other
]

-- such an engine, before and after an entry is added
pub lasts_all : (s : State) (all : List EntryView) (n : ℕ) → length all ≡ n → HasLedger s (take n all) → LeavesEither s (take n all) all → Lasts s all
lasts_all s all n is has either =
    record { has = subst (HasLedger s) (take_whole all n is) has; left = subst (LeavesLedger s) (take_whole all n is) (leaves_all s all n is either) }

-- an entry more, behind those that an engine shows, which are all
module _ (all new : List EntryView) (e : EntryView) (n : ℕ) (is : length all ≡ n) (grown : new ≡ all ++ e ∷ []) where
  shows_new : take (n + 1) new ≡ new
  shows_new = take_whole new (n + 1) (ap length grown ∙ length-append all (e ∷ []) ∙ omega (arith, is))

  pub shows_more : (shown : List EntryView) (f : Found) → shown ≡ take n all → f ≡ Free → take (n + 1) new ≡ shown ++ added_by e f
  shows_more shown f front free =
      shows_new ∙ grown ∙ ap (λ xs. xs ++ e ∷ []) (sym (front ∙ take_whole all n is)) ∙ ap (λ g. shown ++ added_by e g) (sym free)

  pub added_has : (s : State) → Lasts s new → HasLedger s (take (n + 1) new)
  added_has s h = subst (HasLedger s) (sym shows_new) h.has

  pub added_left : (s : State) → Lasts s new → LeavesLedger s (take (n + 1) new)
  added_left s h = subst (LeavesLedger s) (sym shows_new) h.left

-- an entry that was not told to be added: the engine shows what it showed, and has it or not
module _ (all new : List EntryView) (e : EntryView) (n : ℕ) (is_ahead : Bool) (is : length all ≡ n) (grown : new ≡ all ++ (if is_ahead then e ∷ [] else [])) where
  pub counted_new : length new ≡ (if is_ahead then n + 1 else n)
  counted_new = ap length grown ∙ length-append all (if is_ahead then e ∷ [] else []) ∙ tail is_ahead
    where
      tail : (b : Bool) → length all + length (if b then e ∷ [] else []) ≡ (if b then n + 1 else n)
      tail true = omega (arith, is)
      tail false = omega (arith, is)

  shows_front : take n new ≡ all
  shows_front = ap (take n) grown ∙ take_front all (if is_ahead then e ∷ [] else []) n is

  pub lacking_has : (s : State) → HasLedger s all → HasLedger s (take n new)
  lacking_has s h = subst (HasLedger s) (sym shows_front) h

  pub lacking_left : (s : State) → LeavesEither s all new → LeavesEither s (take n new) new
  lacking_left s h = subst (λ shown. LeavesEither s shown new) (sym shows_front) h

  pub leaves_shown : (s : State) → is_ahead ≡ false → LeavesEither s all new → LeavesLedger s (take n new)
  leaves_shown s runs h = leaves_all s new n (subst (λ b. length new ≡ (if b then n + 1 else n)) runs counted_new) (lacking_left s h)
