-- A client of ours that has ended was given all that its session said, since nothing is said behind what ends a conversation.
use Rattle.std.proofs.Common.{◌≡◌, refl, sym, ◌∙◌, ap, ap₂, subst, ℕ, ◌≤◌, true, false, nat_le, is_some, Option, Some, None, List, [], ◌∷◌, ◌++◌, length, map, slice_get, ⊎_elim, true≢false, arith, leb-true}
use Rattle.std.proofs.lemmas.Bool.{cond_both}
use Rattle.wire.specs.declared.Wish.{Wish}
use Rattle.wire.specs.Prelude.{bytes_newest_first}
use Rattle.messages.specs.Prelude.{Heard, heard_bytes, Arrival, Shook, RequestView}
use Rattle.machine.specs.Prelude.{is_defunct}
use Rattle.machine.specs.declared.State.{State}
use Rattle.engine.specs.Prelude.{EntryView}
use Rattle.server_session.specs.Prelude.{Setting, Open, Tx, Reply, OneRow, Summary, Bye}
use Rattle.client.specs.Prelude.{reading}
use Rattle.world.specs.Prelude.{Said, heard_as, Ours, Connection, output, said_version, heard_by_bytes, wish_of, World, Event, Effect, Reached, place, ledger, last_phase, said_within, delivered_whole, effect_of_step, feed, said_to, work}
use Rattle.world.proofs.Deeds as deed
use Rattle.world.proofs.Deeds.{Deed, along, replied, step_case, noop_case, feed_case}
use Rattle.world.proofs.Sound.{Sound, reached_sound, deed_does, does_peer, reads_on}
use Rattle.world.proofs.Kept.{hears_whole, talks, part}
use Rattle.world.proofs.Trace.{reads}
use Rattle.world.proofs.Headline.{reached_inv}

-- nothing was said behind a summary that ends the conversation
abbrev pub NoneBehind : List Said → Type 0
NoneBehind [] = Unit {0}
NoneBehind (x ∷ xs) = (is_defunct (last_phase xs) ≡ false) × NoneBehind xs

none_some : {A : Type 0} (o : Option A) → is_some o ≡ false → o ≡ None
none_some None h = refl
none_some (Some x) h = cc

module _ (S : Setting) (brought : List EntryView) where
  -- each deed at a connection of ours
  module _ (w : World) (c : ℕ) (k : Connection) (s : Sound k) (goes : k.ended ≡ None → is_defunct (last_phase k.says) ≡ false) (h : NoneBehind k.says) where
    abbrev N : Effect → Type 0
    N x = NoneBehind x.conn.says

    arrives : k.ended ≡ None → (o : Option Arrival) → NoneBehind (said_to o ++ k.says)
    arrives n (Some (Shook v)) = (goes n, h)
    arrives n _ = h

    fed : (piece : List ℕ) → N (feed piece k)
    fed piece = feed_case N piece k (λ what. h) (λ _ _ going. arrives (reads_on k s going).0 _)

    replies : k.ended ≡ None → (all : List EntryView) (st : State) (re : Open) (tx : Tx) (q : RequestView) (later : List Arrival) (r : Reply) → N (effect_of_step k (replied k all st re tx q later r))
    replies n all st re tx q later (OneRow row left) = (goes n, h)
    replies n all st re tx q later (Summary d a left t entry) = (goes n, h)
    replies n all st re tx q later Bye = h

    worked : (all : List EntryView) → N (work S c all k)
    worked all =
        step_case (λ d. N (effect_of_step k d)) S c all k (λ d e. subst (λ xs. NoneBehind (xs ++ k.says)) (sym e) h) (λ _ cause. h)
        (λ n st re tx q later _. replies n all st re tx q later _)

    deed_behind : {all : List EntryView} {e : Event} {x : Effect} → Deed S c all k e x → N x
    deed_behind (deed.hands i n wish p) = fed _
    deed_behind (deed.feeds i piece p) = fed piece
    deed_behind {all = all} (deed.works i) = worked all
    deed_behind (deed.noops i) = noop_case N k h (λ v n. (goes (none_some k.ended n), h))
    deed_behind _ = h

  pub reached_behind : {w : World} → Reached S brought w → (c : ℕ) (k : Connection) → slice_get w.conns c ≡ Some k → (wish : Wish) → k.peer ≡ Ours wish → NoneBehind k.says
  reached_behind r =
      along S brought (λ _ _ c k. (wish : Wish) → k.peer ≡ Ours wish → NoneBehind k.says) (λ w peer _ _ wish p. tt)
      (λ w e k x reached here h d _ _ wish p.
      let s = reached_sound S brought reached (place e) k here in
      let p0 : k.peer ≡ Ours wish = sym (does_peer k x (deed_does k s d)) ∙ p in
      deed_behind w (place e) k s (λ n. ((reached_inv S brought reached (place e) k here wish p0).now n).1) (h wish p0) d)
      (λ _ _ _ _ _ _ _ _ h. h) (λ _ _ _ _ _ h. h) r

-- what was given whole is all, where it ends the conversation
module _ (text : Heard → List ℕ) (n : ℕ) where
  still_ends : (xs : List Said) → NoneBehind xs → is_defunct (last_phase (said_within text n xs)) ≡ true → is_defunct (last_phase xs) ≡ true
  still_ends [] b h = h
  still_ends (x ∷ xs) b h =
      cond_both (nat_le (length (bytes_newest_first text (map heard_as (x ∷ xs)))) n) (x ∷ xs) (said_within text n xs)
      (λ zs. is_defunct (last_phase zs) ≡ true → is_defunct (last_phase (x ∷ xs)) ≡ true) (λ _ e. e) (λ _ e. absurd (true≢false (sym (still_ends xs b.1 e) ∙ b.0))) h

  whole_given : (xs : List Said) → NoneBehind xs → is_defunct (last_phase (said_within text n xs)) ≡ true → length (bytes_newest_first text (map heard_as xs)) ≤ n
  whole_given [] b h = cc
  whole_given (x ∷ xs) b h =
      cond_both (nat_le (length (bytes_newest_first text (map heard_as (x ∷ xs)))) n) (x ∷ xs) (said_within text n xs)
      (λ zs. is_defunct (last_phase zs) ≡ true → length (bytes_newest_first text (map heard_as (x ∷ xs))) ≤ n)
      (λ t _. leb-true _ _ t) (λ _ e. absurd (true≢false (sym (still_ends xs b.1 e) ∙ b.0))) h

-- all that the session said was taken out, once its client has ended
pub all_out : (S : Setting) (brought : List EntryView) {w : World} → Reached S brought w → (c : ℕ) (k : Connection) → slice_get w.conns c ≡ Some k → (wish : Wish) → k.peer ≡ Ours wish → (heard_by_bytes k).ended ≡ true
    → k.taken ≡ length (output k)
all_out S brought {w = w} r c k here wish ours ended =
    let s = reached_sound S brought r c k here in
    let inv = reached_inv S brought r c k here wish ours in
    let v = said_version k in let given = delivered_whole k in
    let heard : heard_by_bytes k ≡ reading wish k.sent (map heard_as given) =
    ap₂ (λ x xs. reading x k.sent xs) (ap wish_of ours) (hears_whole S w.brought w.since c wish k (talks S w.brought w.since c wish k inv.talk)) in
    let over : (reading wish k.sent (map heard_as given)).ended ≡ true = ap (λ r. r.ended) (sym heard) ∙ ended in
    let ends : is_defunct (last_phase given) ≡ true =
    ⊎_elim (λ none. absurd (true≢false (sym over ∙ ap (λ xs. (reading wish k.sent (map heard_as xs)).ended) none)))
    (λ d. sym (ap (λ r. r.ended) (reads S v (ledger w) k.sent wish d.1 given d.0)) ∙ over) (part S w.brought w.since c wish k inv.talk) in
    let long = whole_given (heard_bytes v) k.down k.says (reached_behind S brought r c k here wish ours) ends in
    let x = s.counts in let y = s.below in omega arith
