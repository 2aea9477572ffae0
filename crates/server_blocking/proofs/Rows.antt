-- Rows that a session writes one behind the other, as so many calls of `work`.
use Rattle.std.proofs.Common.{◌≡◌, ◌∙◌, refl, ap, sym, subst, ℕ, zero, suc, List, Option, Some, IsSome, MatchOption, Result, option_map}
use Rattle.wire.specs.Prelude.{Opened}
use Rattle.engine.specs.declared.answer.Mode.{Mode as QueryMode}
use Rattle.engine.specs.Prelude.{WriteView, ParameterView, EntryView, AnswerView, QueryFault, Welcome}
use Rattle.server_session.specs.declared.kinds.Worked.{Worked}
use Rattle.server_session.specs.declared.kinds.Worked.TheVariants as worked
use Rattle.server_session.specs.Prelude.{Kept, Snapshot, StepsRow, WritesRows, work_kept}
use Rattle.server.specs.Prelude.{Live, Rest, find, replace, with_kept, with_session, with_sessions, setting, after_step, work_at, WritesAt}
use Rattle.server.proofs.Runs.{find-conn, find_replaced}
use Rattle.server_blocking.specs.Prelude.{Talk, GoesOn, GrowsOn, SinkView}
use Rattle.server_blocking.specs.declared.due.Next.TheVariants as next
use Rattle.server_blocking.proofs.Called.{by_option, grows_same, grows_worked, replace-itself, replace-replace}
use Rattle.server_blocking.proofs.Stepping.{goes_by}

-- so many calls told a row each
abbrev pub TellsRows : {G : Type 0} → (Rest G → Option (Worked × Rest G)) → ℕ → Rest G → Rest G → Type 0
TellsRows work zero old new = new ≡ old
TellsRows {G = G} work (suc n) old new = (mid : Rest G) × TellsRows work n old mid × (work mid ≡ Some (worked.Row, new))

module _ {G : Type 0} (answer : List EntryView → List WriteView → List ℕ → List ParameterView → QueryMode → Result AnswerView QueryFault) (welcomes : G → Welcome) (r : Rest G) where
  module _ (s : Live) (is : find s.conn r.sessions ≡ Some s) where
    -- the server, where the session keeps this
    abbrev keeping : Kept → Rest G
    keeping k = with_session (with_kept s k) r

    there : (k : Kept) → find s.conn (keeping k).sessions ≡ Some (with_kept s k)
    there k = find_replaced s.conn (with_kept s k) r.sessions (subst IsSome (sym is) refl) refl

    step : (mid new : Kept) → StepsRow mid new → work_at answer welcomes s.conn (keeping mid) ≡ Some (worked.Row, keeping new)
    step mid new h =
        let R = keeping mid in
        let S = setting answer welcomes r in
        ap (λ (o : Option Live). option_map (λ t. after_step t (work_kept S t.conn R.ledger t.kept t.kept.ended) R) o) (there mid)
        ∙ ap (λ (p : Worked × Snapshot). Some (p.0, record { sessions = replace s.conn (with_kept s p.1.kept) R.sessions; next = r.next; ledger = p.1.ledger; gate = r.gate })) (h S s.conn r.ledger)
        ∙ ap (λ (ss : List Live). Some (worked.Row, record { sessions = ss; next = r.next; ledger = r.ledger; gate = r.gate })) (replace-replace s.conn (with_kept s mid) (with_kept s new) r.sessions refl)

    rows_told : (n : ℕ) (new : Kept) → WritesRows n s.kept new → TellsRows (work_at answer welcomes s.conn) n r (keeping new)
    rows_told zero new e = ap keeping e ∙ ap (λ (ss : List Live). with_sessions ss r) (replace-itself s.conn s r.sessions is)
    rows_told (suc n) new w = (keeping w.0, rows_told n w.0 w.1, step w.0 new w.2)

  -- those of the session with a number
  rows_at : (conn : ℕ) (s : Live) → find conn r.sessions ≡ Some s → (n : ℕ) (new : Kept) → WritesRows n s.kept new → TellsRows (work_at answer welcomes conn) n r (with_session (with_kept s new) r)
  rows_at conn s is n new w =
      let same = find-conn conn r.sessions s is in
      subst (λ (c : ℕ). TellsRows (work_at answer welcomes c) n r (with_session (with_kept s new) r)) same (rows_told s (subst (λ (c : ℕ). find c r.sessions ≡ Some s) (sym same) is) n new w)

  pub rows_tell : (conn n : ℕ) (new : Rest G) → WritesAt conn n r new → TellsRows (work_at answer welcomes conn) n r new
  rows_tell conn n new = by_option (λ o. find conn r.sessions ≡ o → MatchOption o ((n ≡ 0) × (new ≡ r)) (λ s. (k : Kept) × WritesRows n s.kept k × (new ≡ with_session (with_kept s k) r)) → TellsRows (work_at answer welcomes conn) n r new) (find conn r.sessions)
      (λ s e is w. subst (TellsRows (work_at answer welcomes conn) n r) (sym w.2) (rows_at conn s is n w.0 w.1))
      (λ e is w. subst (λ (m : ℕ). TellsRows (work_at answer welcomes conn) m r new) (sym w.0) w.1) refl

-- the session lives on
pub grows_rows : {G : Type 0} (conn : ℕ) (answer : List EntryView → List WriteView → List ℕ → List ParameterView → QueryMode → Result AnswerView QueryFault) (welcomes : G → Welcome) (n : ℕ) (old new : Rest G) → TellsRows (work_at answer welcomes conn) n old new → GrowsOn conn (λ r. old ≡ r) (λ r. new ≡ r)
grows_rows conn answer welcomes zero old new e = grows_same conn old new e
grows_rows conn answer welcomes (suc n) old new w = λ r i g. grows_worked conn answer welcomes w.0 new worked.Row w.2 r i (grows_rows conn answer welcomes n old w.0 w.1 r i g)

-- and goes on by so many steps
pub goes_rows : {G : Type 0} {r : Rest G} {conn : ℕ} (i : IsSome (find conn r.sessions)) {u : Opened} {t : Talk} {before taken : SinkView} (answer : List EntryView → List WriteView → List ℕ → List ParameterView → QueryMode → Result AnswerView QueryFault) (welcomes : G → Welcome) (n : ℕ) (old new : Rest G) → TellsRows (work_at answer welcomes conn) n old new
    → GoesOn r conn u t (setting answer welcomes r) (λ x. old ≡ x) before taken → GoesOn r conn u t (setting answer welcomes r) (λ x. new ≡ x) before taken
goes_rows {r = r} {conn = conn} i {u = u} {t = t} {before = before} {taken = taken} answer welcomes zero old new e o = subst (λ m. GoesOn r conn u t (setting answer welcomes r) (λ x. m ≡ x) before taken) (sym e) o
goes_rows i answer welcomes (suc n) old new w o = goes_by i answer welcomes (goes_rows i answer welcomes n old w.0 w.1 o) new next.Step (worked.Row, w.2, refl)
