-- Texts of several things, one after the other.
use Rattle.std.proofs.Common.{◌≡◌, refl, sym, ap, ◌∙◌, List, [], ◌∷◌, ◌++◌, ℕ, ◌+◌, zero, suc, length, take, map, append_assoc, add-one, ◌≤◌, ◌-◌, arith, flat_map, Option, Some, None, slice_get}
use Rattle.std.proofs.lemmas.List.{append-nil, flat_map_more}
use Rattle.world.specs.Prelude.{Connection, ordinals, summaries_told, outcomes_at_loss, waits, standing, IsReport, standing_seen, read_of}
use Rattle.world.specs.declared.report.Connection.{Connection as ConnectionTold}
use Rattle.cli_output.specs.Prelude.{lost_line}
use Rattle.cli_replay.specs.Prelude.{conn_line, read_line, waits_line, standing_line, connection_text, connections_text}

-- one more ordinal
pub ordinals_more : (first count : ℕ) → ordinals first (suc count) ≡ ordinals first count ++ (first + count) ∷ []
ordinals_more first zero = ap (λ x. x ∷ []) (omega arith)
ordinals_more first (suc count) =
    let e : suc first + count ≡ first + suc count = omega arith in
    ap (λ z. first ∷ z) (ordinals_more (suc first) count ∙ ap (λ x. ordinals (suc first) count ++ x ∷ []) e)

-- one more connection
pub connections_more : (c : ℕ) (ks : List Connection) (i : ℕ) (k : Connection) → slice_get ks i ≡ Some k → connections_text c (take (suc i) ks) ≡ connections_text c (take i ks) ++ connection_text (c + i) k
unfolding connections_text
connections_more c [] i k h = absurd cc
connections_more c (x ∷ ks) zero k h =
    let e : x ≡ k = let s : ◌≡◌ {A = Option Connection} (Some x) (Some k) = h in cc in
    let z : c + 0 ≡ c = omega arith in
    append-nil (connection_text c x) ∙ ap (connection_text c) e ∙ ap (λ n. connection_text n k) (sym z)
connections_more c (x ∷ ks) (suc i) k h =
    let n : suc c + i ≡ c + suc i = omega arith in
    ap (λ z. connection_text c x ++ z) (connections_more (suc c) ks i k h ∙ ap (λ m. connections_text (suc c) (take i ks) ++ connection_text m k) n)
    ∙ sym (append_assoc (connection_text c x) (connections_text (suc c) (take i ks)) (connection_text (c + suc i) k))

-- there are no more
pub connections_all : (c : ℕ) (ks : List Connection) (i : ℕ) → slice_get ks i ≡ None → connections_text c (take i ks) ≡ connections_text c ks
unfolding connections_text
connections_all c [] i h = ap (connections_text c) (take_nil i)
  where
    take_nil : (i : ℕ) → ◌≡◌ {A = List Connection} (take i []) []
    take_nil zero = refl
    take_nil (suc i) = refl
connections_all c (x ∷ ks) zero h = absurd cc
connections_all c (x ∷ ks) (suc i) h = ap (λ z. connection_text c x ++ z) (connections_all (suc c) ks i h)

-- none yet
pub connections_none : (old : List ℕ) (ks : List Connection) → old ≡ old ++ connections_text 0 (take 0 ks)
unfolding connections_text
connections_none old [] = sym (append-nil old)
connections_none old (k ∷ ks) = sym (append-nil old)

-- one more that waits
pub waits_more : (old text new : List ℕ) (first i : ℕ) → first ≤ i → text ≡ old ++ flat_map waits_line (ordinals first (i - first)) → new ≡ text ++ waits_line i
    → new ≡ old ++ flat_map waits_line (ordinals first (i + 1 - first))
waits_more old text new first i le before e =
    let n = i - first in
    let here : first + n ≡ i = omega arith in
    let next : suc n ≡ i + 1 - first = omega arith in
    e ∙ ap (λ z. z ++ waits_line i) before ∙ flat_map_more waits_line old (ordinals first n) i
    ∙ ap (λ z. old ++ flat_map waits_line (ordinals first n ++ z ∷ [])) (sym here)
    ∙ sym (ap (λ z. old ++ flat_map waits_line z) (ordinals_more first n)) ∙ ap (λ z. old ++ flat_map waits_line (ordinals first z)) next

-- one more connection, after a text
pub connections_on : (old text new : List ℕ) (ks : List Connection) (i : ℕ) (k : Connection) → slice_get ks i ≡ Some k → text ≡ old ++ connections_text 0 (take i ks) → new ≡ text ++ connection_text i k
    → new ≡ old ++ connections_text 0 (take (i + 1) ks)
connections_on old text new ks i k at before e =
    let here : i ≡ 0 + i = omega arith in
    e ∙ ap (λ z. z ++ connection_text i k) before ∙ append_assoc old (connections_text 0 (take i ks)) (connection_text i k)
    ∙ ap (λ m. old ++ (connections_text 0 (take i ks) ++ connection_text m k)) here
    ∙ sym (ap (λ z. old ++ z) (connections_more 0 ks i k at)) ∙ ap (λ n. old ++ connections_text 0 (take n ks)) (sym (add-one i))

-- the parts of what is printed of a connection
pub connection_is : (conn : ℕ) (k : Connection) (c : ConnectionTold) (t0 t1 t2 t3 t4 t5 : List ℕ) → IsReport k c → t1 ≡ t0 ++ conn_line conn → t2 ≡ t1 ++ flat_map read_line (map read_of c.read.now)
    → t3 ≡ t2 ++ flat_map lost_line c.lost.now → t4 ≡ t3 ++ flat_map waits_line (ordinals (length c.read.now) c.waits) → t5 ≡ t4 ++ standing_line (standing_seen c.standing) → t5 ≡ t0 ++ connection_text conn k
connection_is conn k c t0 t1 t2 t3 t4 t5 is e1 e2 e3 e4 e5 =
    rw (e5, e4, e3, e2, e1, is.read, is.lost, is.waits, is.standing) (joined t0 (conn_line conn) (flat_map read_line (summaries_told k)) (flat_map lost_line (outcomes_at_loss k)) (flat_map waits_line (waits k)) (standing_line (standing k)))
  where
    joined : (t a b c d e : List ℕ) → t ++ a ++ b ++ c ++ d ++ e ≡ t ++ (a ++ b ++ c ++ d ++ e)
    joined t a b c d e =
        ap (λ z. z ++ e) (ap (λ z. z ++ d) (ap (λ z. z ++ c) (append_assoc t a b) ∙ append_assoc t (a ++ b) c) ∙ append_assoc t (a ++ b ++ c) d) ∙ append_assoc t (a ++ b ++ c ++ d) e
