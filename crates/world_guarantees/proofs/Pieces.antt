-- Fronts of bytes, and what a session takes of the front of a piece.
use Rattle.std.proofs.Common.{◌≡◌, refl, sym, ◌∙◌, ap, ℕ, ◌≤◌, Bool, true, false, if◌then◌else◌, Option, Some, None, option_map, List, [], ◌∷◌, ◌++◌, length, take, drop, append_assoc, length-append, arith}
use Rattle.std.proofs.lemmas.List.{take_at, drop_at}
use Rattle.std.proofs.lemmas.Option.{some_pair_parts}
use Rattle.wire.specs.Prelude.{Reader, Took as TookOf, ends_at, takes, Opened, at_server}
use Rattle.server_session.specs.declared.What.{What}
use Rattle.server_session.specs.Prelude.{Kept, shut, full}
use Rattle.server.specs.declared.Took.{Took}
use Rattle.server.specs.Prelude.{Feeding, feeding, takes_none, takes_item, Live, Rest, find, fed_live, with_session, feed_at}
use Rattle.world_guarantees.specs.Prelude.{IsFront}

module _ (xs ys : List ℕ) (f : IsFront xs ys) where
  pub front_length : length xs ≤ length ys
  front_length = let long = ap length f.1 in omega (arith, length-append xs f.0)

pub front_trans : (xs ys zs : List ℕ) → IsFront xs ys → IsFront ys zs → IsFront xs zs
front_trans xs ys zs f g = (f.0 ++ g.0, sym (append_assoc xs f.0 g.0) ∙ ap (λ z. z ++ g.0) f.1 ∙ g.1)

pub front_none : (xs : List ℕ) → IsFront xs [] → xs ≡ []
front_none [] f = refl
front_none (x ∷ xs) f = let no : x ∷ (xs ++ f.0) ≡ [] = f.1 in cc

-- what comes next in the whole
pub front_next : (xs next whole : List ℕ) → IsFront (xs ++ next) whole → take (length next) (drop (length xs) whole) ≡ next
front_next xs next whole f =
    ap (λ z. take (length next) (drop (length xs) z)) (sym f.1 ∙ append_assoc xs next f.0)
    ∙ ap (take (length next)) (drop_at xs (next ++ f.0) (length xs) refl) ∙ take_at next f.0 (length next) refl

-- A reader takes of what it used of a piece what it took of the piece.
pub takes_front : {R X : Type 0} (p : Reader R X) (r : R) (piece : List ℕ) → takes p r (take (takes p r piece).used piece) ≡ takes p r piece
takes_front p r [] = refl
takes_front {R = R} {X = X} p r (b ∷ bs) = go (p.item r b) refl (takes_front p (p.byte r b) bs)
  where
    later : TookOf R X
    later = takes p (p.byte r b) bs

    go : (o : Option X) → p.item r b ≡ o → takes p (p.byte r b) (take later.used bs) ≡ later → takes p r (take (ends_at (p.byte r b) o later).used (b ∷ bs)) ≡ ends_at (p.byte r b) o later
    go (Some x) e h = ap (λ o. ends_at (p.byte r b) o (takes p (p.byte r b) [])) e
    go None e h = ap (λ o. ends_at (p.byte r b) o (takes p (p.byte r b) (take later.used bs))) e ∙ ap (ends_at (p.byte r b) None) h

feeding_front : (u : Opened) (piece : List ℕ) (s : Kept) → feeding u (take (feeding u piece s).took.used piece) s ≡ feeding u piece s
feeding_front u piece s = go (shut s) (full s)
  where
    fed : Bool → Bool → List ℕ → Feeding
    fed a b bytes = if a then takes_none What.Closed s u else (if b then takes_none What.Full s u else takes_item s (takes at_server u bytes))

    go : (a b : Bool) → fed a b (take (fed a b piece).took.used piece) ≡ fed a b piece
    go true b = refl
    go false true = refl
    go false false = ap (takes_item s) (takes_front at_server u piece)

-- and so does a session
pub feed_front : {G : Type 0} (conn : ℕ) (piece : List ℕ) (r r2 : Rest G) (took : Took) → feed_at conn piece r ≡ Some (took, r2) → feed_at conn (take took.used piece) r ≡ Some (took, r2)
feed_front {G = G} conn piece r r2 took = go (find conn r.sessions)
  where
    go : (o : Option Live) → option_map {U = Took × Rest G} (λ s. ((fed_live s piece).0, with_session (fed_live s piece).1 r)) o ≡ Some (took, r2)
        → option_map {U = Took × Rest G} (λ s. ((fed_live s (take took.used piece)).0, with_session (fed_live s (take took.used piece)).1 r)) o ≡ Some (took, r2)
    go None e = cc
    go (Some s) e =
        let is = some_pair_parts (fed_live s piece).0 took (with_session (fed_live s piece).1 r) r2 e in
        ap (λ (t : Took). Some ((fed_live s (take t.used piece)).0, with_session (fed_live s (take t.used piece)).1 r)) (sym is.0)
        ∙ ap (λ (f : Feeding). Some (f.took, with_session (record { conn = s.conn; kept = f.kept; unfinished = f.unfinished }) r)) (feeding_front s.unfinished piece s.kept) ∙ e
