-- What becomes of the bytes of a connection whose session was given up.
use Rattle.std.proofs.Common.{◌≡◌, ◌≢◌, refl, sym, ap, subst, ◌∙◌, ℕ, arith, List, [], ◌++◌, take, drop, append_assoc, take-append-drop, Option}
use Rattle.std.specs.Io.KnownBytes.{Appends}
use Rattle.std.proofs.KnownBytes.{Appends-nil}
use Rattle.server_event_loop.specs.declared.closing.Closing.{Closing}
use Rattle.server_event_loop.specs.ConnectionPrelude.{Wire, Tells, owed_of, Lingers}

-- nothing came and nothing went
pub lingers_none : (x y : Closing) (u : ℕ → Wire) → owed_of y ≡ owed_of x → y.drained ≡ x.drained → y.conn ≡ x.conn → Lingers x y u u
lingers_none x y u owed drained same = record {
  dropped = [];
  sent = [];
  heard = Appends-nil (u x.conn).heard;
  told = Appends-nil (u x.conn).told;
  asked = omega arith;
  counted = omega arith;
  given = sym owed;
  same = same;
  others = λ k d. refl;
}

-- a front of what is first was written
pub lingers_said : (x y : Closing) (u v : ℕ → Wire) (n : ℕ) (bytes : List ℕ) → bytes ≡ x.going → y.going ≡ drop n x.going → y.behind ≡ x.behind → y.drained ≡ x.drained → y.conn ≡ x.conn → Tells (u x.conn) (v x.conn) n bytes → ((k : ℕ) → k ≢ x.conn → v k ≡ u k) → Lingers x y u v
lingers_said x y u v n bytes e going behind drained same t others = record {
  dropped = [];
  sent = take n x.going;
  heard = subst (λ (o : Option (List ℕ)). Appends (u x.conn).heard o []) (sym t.heard) (Appends-nil (u x.conn).heard);
  told = subst (λ (b : List ℕ). Appends (u x.conn).told (v x.conn).told (take n b)) e t.told;
  asked = t.once;
  counted = omega arith;
  given = ap (λ (l : List ℕ). l ++ x.behind) (sym (take-append-drop n x.going)) ∙ append_assoc (take n x.going) (drop n x.going) x.behind ∙ ap (λ (l : List ℕ). take n x.going ++ (l ++ x.behind)) (sym going) ∙ ap (λ (l : List ℕ). take n x.going ++ (y.going ++ l)) (sym behind);
  same = same;
  others = others;
}
