-- What a read and a write carry.
use Rattle.std.proofs.Common.{◌≡◌, ◌≢◌, refl, sym, ap, subst, ◌∙◌, ℕ, ◌+◌, ◌-◌, ◌≤◌, min, arith, not, length, length-drop, length-take, ◌==◌, false, Bool, List, [], ◌++◌, take, drop, append-nil, take-append-drop, drop-drop, Option}
use Rattle.std.proofs.lemmas.Bool.Decides.{nat_tests}
use Rattle.std.proofs.lemmas.List.{drop_min, nil_from_length}
use Rattle.std.specs.Io.KnownBytes.{Appends}
use Rattle.std.proofs.KnownBytes.{Appends-nil}
use Rattle.server_event_loop.specs.ConnectionPrelude.{Wire, Held, Hears, Tells, Carries}

-- nothing came and nothing went
pub carries_none : (x : Held) (u : ℕ → Wire) → Carries 1 x x u u
carries_none x u = record {
  read = [];
  sent = [];
  heard = Appends-nil (u x.conn).heard;
  told = Appends-nil (u x.conn).told;
  asked = omega arith;
  fed = append-nil x.unfed;
  given = refl;
  same = refl;
  others = λ k d. refl;
}

module _ (x y : Held) (u v : ℕ → Wire) (n : ℕ) (same : y.conn ≡ x.conn) (others : (k : ℕ) → k ≢ x.conn → v k ≡ u k) where
  -- a piece was read where nothing was unfed
  pub carries_heard : (buffer : List ℕ) → x.unfed ≡ [] → y.going ≡ x.going → y.unfed ≡ take n buffer → Hears (u x.conn) (v x.conn) n buffer → Carries 1 x y u v
  carries_heard buffer none going left h = record {
    read = take n buffer;
    sent = [];
    heard = h.heard;
    told = subst (λ (o : Option (List ℕ)). Appends (u x.conn).told o []) (sym h.told) (Appends-nil (u x.conn).told);
    asked = h.once;
    fed = ap (λ l. l ++ take n buffer) none ∙ sym left;
    given = sym going;
    same = same;
    others = others;
  }

  -- a front of what is going was written
  pub carries_said : (bytes : List ℕ) → bytes ≡ x.going → y.unfed ≡ x.unfed → y.going ≡ drop n x.going → Tells (u x.conn) (v x.conn) n bytes → Carries 1 x y u v
  carries_said bytes e left going t = record {
    read = [];
    sent = take n x.going;
    heard = subst (λ (o : Option (List ℕ)). Appends (u x.conn).heard o []) (sym t.heard) (Appends-nil (u x.conn).heard);
    told = subst (λ (b : List ℕ). Appends (u x.conn).told (v x.conn).told (take n b)) e t.told;
    asked = t.once;
    fed = append-nil x.unfed ∙ sym left;
    given = sym (take-append-drop n x.going) ∙ ap (λ l. take n x.going ++ l) (sym going);
    same = same;
    others = others;
  }

-- what is left of a piece of which so many bytes were fed
pub left_of : (fed used read : ℕ) (piece : List ℕ) → fed ≤ read → read ≤ length piece → drop (fed + min used (read - fed)) (take read piece) ≡ drop used (drop fed (take read piece))
left_of fed used read piece l m =
    let xs = take read piece in
    let ys = drop fed xs in
    let whole : length xs ≡ read = omega (arith, length-take read piece) in
    let long : length ys ≡ read - fed = length-drop fed xs ∙ ap (λ n. n - fed) whole in
    sym (drop-drop (min used (read - fed)) fed xs) ∙ ap (λ n. drop (min used n) ys) (sym long) ∙ drop_min used ys

-- nothing is going
pub none_goes : (xs : List ℕ) (b : Bool) → b ≡ not (length xs == 0) → b ≡ false → xs ≡ []
none_goes xs b e f = nil_from_length xs (grind (arith, nat_tests))
