-- Connections, one after the other.
use Rattle.std.proofs.Common.{◌≡◌, sym, ap, subst, ◌∙◌, ℕ, ◌+◌, Bool, false, List, [], ◌∷◌, ◌++◌, append_assoc, append-nil, length, length-append, Option, arith}
use Rattle.std.specs.Io.KnownBytes.{Appends}
use Rattle.std.proofs.KnownBytes.{Appends-nil, Appends-trans}
use Rattle.engine.specs.Views.{EntryView}
use Rattle.server_session.specs.declared.kinds.Cause.{Cause}
use Rattle.server.specs.Serving.{Live, Rest}
use Rattle.server.specs.Views.{rest_of}
use Rattle.server.specs.declared.server.Server.{Server}
use Rattle.cli_output.specs.Prelude.{conn_line}
use Rattle.cli_sessions.specs.ServePrelude.{HasServed}
use Rattle.cli_sessions.specs.Serving.{IsVacant}
use Rattle.engine_sqlite.specs.Kept.{Kept, ledger_of}
use Rattle.engine_sqlite.specs.Ledger.{LeavesLedger}
use Rattle.sqlite.specs.Held.{state}
use Rattle.sqlite.specs.Store.{Ghosts}
use Rattle.keeping.specs.declared.reasons.Reason.{Reason}
use Rattle.keeping.specs.declared.reasons.Reason.TheVariants.{Unopened, Unread, Port, DiskFailed, OutputFailed, Memory, NoConnection}
use Rattle.keeping.specs.Serving.{EndsFor, Grows, ServesAll, Shows, lines_from}

-- the lines of connections, and then those of further ones
lines_append : (conn : ℕ) (cs ds : List Cause) → lines_from conn (cs ++ ds) ≡ lines_from conn cs ++ lines_from (conn + length cs) ds
lines_append conn [] ds =
    let same : conn ≡ conn + 0 = omega arith in
    ap (λ (n : ℕ). lines_from n ds) same
lines_append conn (c ∷ cs) ds =
    let same : conn + 1 + length cs ≡ conn + length (c ∷ cs) = omega arith in
    ap (λ (l : List ℕ). conn_line conn c ++ l) (lines_append (conn + 1) cs ds ∙ ap (λ (n : ℕ). lines_from (conn + 1) cs ++ lines_from n ds) same)
    ∙ sym (append_assoc (conn_line conn c) (lines_from (conn + 1) cs) (lines_from (conn + length (c ∷ cs)) ds))

-- no session lives
pub vacant : {E G : Type 0} (entries : E → List EntryView) (s : Server E G) → IsVacant entries s → (rest_of entries s).sessions ≡ []
vacant {G = G} entries s v = ap (λ (r : Rest G). r.sessions) v.1 ∙ v.2

-- an engine that was asked whether it has stopped
pub shows : {E S : Type 0} (entries : E → List EntryView) (g : Ghosts S) (ledger : List EntryView) (engine : Kept E S) (answer : Bool) → ledger_of entries engine ≡ ledger → answer ≡ engine.is_stopped
    → (answer ≡ false → LeavesLedger (state g engine.conn) (ledger_of entries engine)) → Shows entries g ledger answer
shows entries g ledger engine answer same told left =
    record { engine = engine; shows = same; stands = sym told; left = λ runs. subst (LeavesLedger (state g engine.conn)) same (left runs) }

module _ {G : Type 0} where
  rest_by : (r : Rest G) (n : ℕ) (es : List EntryView) → r.sessions ≡ [] → r.next ≡ n → r.ledger ≡ es → r ≡ record { sessions = []; next = n; ledger = es; gate = r.gate }
  rest_by r n es sessions next ledger =
      ap (λ (x : List Live). let s : Rest G = record { sessions = x; next = r.next; ledger = r.ledger; gate = r.gate } in s) sessions
      ∙ ap (λ (x : ℕ). let s : Rest G = record { sessions = []; next = x; ledger = r.ledger; gate = r.gate } in s) next
      ∙ ap (λ (x : List EntryView). let s : Rest G = record { sessions = []; next = n; ledger = x; gate = r.gate } in s) ledger

  grows_none : (r : Rest G) → r.sessions ≡ [] → Grows r r 0
  grows_none r none = record { more = []; stands = rest_by r (r.next + 0) (r.ledger ++ []) none (omega arith) (sym (append-nil r.ledger)) }

  pub served_none : (r : Rest G) (a : Option (List ℕ)) → r.sessions ≡ [] → ServesAll r r a a
  served_none r a none = record { causes = []; grows = grows_none r none; printed = Appends-nil a }

  pub served_first : (r t : Rest G) (a b : Option (List ℕ)) (cause : Cause) → HasServed r (λ x. t ≡ x) → Appends a b (conn_line r.next cause) → ServesAll r t a b
  served_first r t a b cause one line = record {
    causes = cause ∷ [];
    grows = record { more = one.0; stands = one.1 };
    printed = subst (Appends a b) (sym (append-nil (conn_line r.next cause))) line;
  }

  grows_more : (r s t : Rest G) (n m : ℕ) → Grows r s n → Grows s t m → Grows r t (n + m)
  grows_more r s t n m h k = record {
    more = h.more ++ k.more;
    stands = k.stands
        ∙ ap (λ (x : Rest G). let y : Rest G = record { sessions = []; next = x.next + m; ledger = x.ledger ++ k.more; gate = x.gate } in y) h.stands
        ∙ ap (λ (i : ℕ). let y : Rest G = record { sessions = []; next = i; ledger = (r.ledger ++ h.more) ++ k.more; gate = r.gate } in y) number
        ∙ ap (λ (es : List EntryView). let y : Rest G = record { sessions = []; next = r.next + (n + m); ledger = es; gate = r.gate } in y) (append_assoc r.ledger h.more k.more);
  }
    where
      number : r.next + n + m ≡ r.next + (n + m)
      number = omega arith

  pub served_more : (r s t : Rest G) (a b c : Option (List ℕ)) → ServesAll r s a b → ServesAll s t b c → ServesAll r t a c
  served_more r s t a b c h k =
      let number : s.next ≡ r.next + length h.causes = ap (λ (x : Rest G). x.next) h.grows.stands in
      let lines : lines_from r.next h.causes ++ lines_from s.next k.causes ≡ lines_from r.next (h.causes ++ k.causes) =
      ap (λ (n : ℕ). lines_from r.next h.causes ++ lines_from n k.causes) number ∙ sym (lines_append r.next h.causes k.causes) in
      record {
        causes = h.causes ++ k.causes;
        grows = subst (Grows r t) (sym (length-append h.causes k.causes)) (grows_more r s t (length h.causes) (length k.causes) h.grows k.grows);
        printed = subst (Appends a c) lines (Appends-trans a b c _ _ h.printed k.printed);
      }

  -- how a server ends behind connections that were served before
  pub ends_after : (r s t : Rest G) (a b c : Option (List ℕ)) (reason : Reason) (Stops : Bool → Type 0) (failed : Bool) → ServesAll r s a b → EndsFor s t reason Stops failed b c → EndsFor r t reason Stops failed a c
  ends_after r s t a b c DiskFailed Stops failed h k = (k.0, served_more r s t a b c h k.1)
  ends_after r s t a b c NoConnection Stops failed h k = (k.0, served_more r s t a b c h k.1)
  ends_after r s t a b c OutputFailed Stops failed h k = (k.0, _, grows_more r s t (length h.causes) k.1 h.grows k.2)
  ends_after r s t a b c Memory Stops failed h k = (_, grows_more r s t (length h.causes) k.0 h.grows k.1)
  ends_after r s t a b c (Unopened e) Stops failed h k = k
  ends_after r s t a b c (Unread f) Stops failed h k = k
  ends_after r s t a b c (Port e) Stops failed h k = k
