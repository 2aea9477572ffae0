-- One connection after another, on a server that has no other.
use Rattle.std.proofs.Common.{◌≡◌, refl, sym, ap, subst, ℕ, ◌+◌, List, [], ◌++◌, Some, Err, IsSome}
use Rattle.std.proofs.lemmas.Bool.{eq-eqb}
use Rattle.server.specs.declared.kinds.Refused.{Refused}
use Rattle.server.specs.declared.kinds.Refused.TheVariants.{NoSuchConnection, SessionsFull, Memory}
use Rattle.server.specs.Prelude.{Live, Rest, find, without, fresh, opened, Opens}
use Rattle.server_blocking.specs.Prelude.{LeavesOthers}
use Rattle.cli_sessions.specs.ServePrelude.{HasOpened, HasServed}

-- nothing was opened
pub not_opened : {G : Type 0} (a b : Rest G) (e : Refused) → Opens (Err e) a b → b ≡ a
not_opened a b NoSuchConnection h = absurd h
not_opened a b SessionsFull h = h.1
not_opened a b Memory h = h.1

pub found_by : {G : Type 0} (r : Rest G) {conn : ℕ} → r.sessions ≡ [] → conn ≡ r.next → find conn (opened r).sessions ≡ Some (fresh conn)
found_by r {conn = conn} none e = rw (none, e, eq-eqb r.next r.next refl) refl

module _ {G : Type 0} {r : Rest G} {conn : ℕ} {Mid : Rest G → Type 0} (o : HasOpened r conn Mid) (none : r.sessions ≡ []) where
  -- it lives
  abbrev pub opened_lives : (x : Rest G) × Mid x × IsSome (find conn x.sessions)
  opened_lives = (opened r, o.now, subst IsSome (sym (found_by r none o.number)) refl)

  -- and is given up
  pub served : (Now : Rest G → Type 0) → ((x : Rest G) → Mid x → IsSome (find conn x.sessions) → LeavesOthers x conn Now) → HasServed r Now
  served Now leaves =
      let l : LeavesOthers (opened r) r.next Now = subst (λ (n : ℕ). LeavesOthers (opened r) n Now) o.number (leaves (opened r) o.now opened_lives.2) in
      let gone : without r.next (opened r).sessions ≡ [] = rw (none, eq-eqb r.next r.next refl) refl in
      (l.0, subst Now (ap (λ (ss : List Live). record { sessions = ss; next = r.next + 1; ledger = r.ledger ++ l.0; gate = r.gate }) gone) l.1)
