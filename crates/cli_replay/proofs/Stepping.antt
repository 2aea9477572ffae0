-- What a world's answer means for an event, what is done for a line, and what is said of the lines that a server for one user runs.
use Rattle.std.proofs.Common.{◌≡◌, refl, sym, ◌∙◌, subst, Result, Ok, Err, List, inl, inr, ap, Bool, [], ◌++◌, ℕ, string_bytes, Option, ◌&&◌, codes, bytes_eq}
use Rattle.std.specs.declared.alloc.AllocError.{AllocError}
use Rattle.engine.specs.Prelude.{EntryView, ledger_of, user_welcome, principal_of, credentials_of, fixed_answer, under_own_name}
use Rattle.server_session.specs.Prelude.{Setting}
use Rattle.world.specs.declared.kinds.Refused.{Refused}
use Rattle.world.specs.declared.kinds.Refused.TheVariants.{NoSuchConnection, WrongPeer, SessionsFull, Memory}
use Rattle.world.specs.declared.kinds.Seen.{Seen as SeenTold}
use Rattle.world.specs.declared.world.World.{World as WorldHeld}
use Rattle.world.specs.Prelude.{World, Event, ToClient, V1, V2, V3, Reached, goes_on, takes_out, empty, Answers, Leaves, seen_of, FitsWorld, seen_in, setting_of}
use Rattle.cli_replay.specs.declared.steps.Step.{Step}
use Rattle.cli_replay.specs.Prelude.{Leads, LeadsBy, Settles, SettlesBy, Stepped, Does, Done, Runs, serving, repeats, event_at, Says, report_text}
use Rattle.cli_scripts.specs.Prelude.{LineView}
use Rattle.engine.specs.declared.fixed_table.FixedTable.{FixedTable}
use Rattle.engine.specs.declared.one_user.OneUser.{OneUser}
use Rattle.cli_replay.specs.declared.script.Replayed.{Replayed}

pub stepped : (S : Setting) (brought : List EntryView) (w : World) (e : Event) (P : World → Type 0) → Reached S brought w → (res : Result SeenTold Refused) (s : Step) → Settles res s → Answers S w e (seen_in res) P
    → (w2 : World) × Stepped S w e s w2 × Reached S brought w2 × P w2
stepped S brought w e P r (Ok seen) s h a =
    (a.after, (Ok (seen_of seen), a.steps, h), goes_on w a.after e (seen_of seen) r a.steps, a.now)
stepped S brought w e P r (Err NoSuchConnection) s h a = (w, (Err V1, (a.0, refl), h), r, a.1)
stepped S brought w e P r (Err WrongPeer) s h a = (w, (Err V2, (a.0, refl), h), r, a.1)
stepped S brought w e P r (Err SessionsFull) s h a = (w, (Err V3, (a.0, refl), h), r, a.1)
stepped S brought w e P r (Err Memory) s h a = absurd h

-- what want of memory leaves was reached
left_reached : (S : Setting) (brought : List EntryView) (w : World) (e : Event) (w2 : World) → Reached S brought w → Leaves w e w2 → Reached S brought w2
left_reached S brought w (ToClient c n) w2 r (inl h) = subst (Reached S brought) (sym h) r
left_reached S brought w (ToClient c n) w2 r (inr h) = subst (Reached S brought) (sym h) (takes_out w c n r)
left_reached S brought w _ w2 r h = subst (Reached S brought) (sym h) r

-- the way seen otherwise
pub leads_as : {E G : Type 0} {entries : E → List EntryView} {S : Setting} {gate : G} {brought : List EntryView} {P Q : World → Type 0} {t : WorldHeld E G} → ((w : World) → P w → Q w) → Leads entries S gate brought P t → Leads entries S gate brought Q t
leads_as f h = record { after = h.after; way = f h.after h.way; reached = h.reached; fits = h.fits }

module _ {E G : Type 0} (entries : E → List EntryView) (S : Setting) (gate : G) (brought : List EntryView) where
  pub step_leads : (w : World) (e : Event) → Reached S brought w → (res : Result SeenTold Refused) (t : WorldHeld E G) (r : Result Step AllocError) → SettlesBy res r
      → Answers S w e (seen_in res) (FitsWorld entries t gate) → LeadsBy entries S gate brought (λ s. Stepped S w e s) r t
  step_leads w e reached res t (Ok s) h a =
      let x = stepped S brought w e (FitsWorld entries t gate) reached res s h a in
      record { after = x.0; way = x.1; reached = x.2; fits = x.3 }
  step_leads w e reached res t (Err f) h a =
      let x : Answers S w e (Err Memory) (FitsWorld entries t gate) = subst (λ z. Answers S w e (seen_in z) (FitsWorld entries t gate)) h a in
      record {
        after = x.after;
        way = tt;
        reached = left_reached S brought w e x.after reached x.leaves;
        fits = x.now;
      }

-- whatever the line is, by the two ways that it is done
does : (S : Setting) (w : World) (l : LineView) (b : Bool) (e : Event) (code : Option (List ℕ)) (w2 : World) → repeats l ≡ b → e ≡ event_at w l
    → Done b S w e code w2 → Does S w l code w2
does S w l b e code w2 is same h =
    let P : Event → Type 0 = λ z. Done b S w z code w2 in
    let Q : Bool → Type 0 = λ z. Done z S w (event_at w l) code w2 in
    subst Q (sym is) (subst P same h)

pub line_done : {A E G : Type 0} (entries : E → List EntryView) (S : Setting) (gate : G) (brought : List EntryView) (t : WorldHeld E G) (view : A → Option (List ℕ)) (w : World) (l : LineView) (b : Bool) (e : Event) (r : Result A AllocError) → repeats l ≡ b → e ≡ event_at w l
    → LeadsBy entries S gate brought (λ code. Done b S w e (view code)) r t → LeadsBy entries S gate brought (λ code. Does S w l (view code)) r t
line_done entries S gate brought t view w l b e (Ok code) is same h = leads_as (λ w2 x. does S w l b e (view code) w2 is same x) h
line_done entries S gate brought t view w l b e (Err f) is same h = h

-- a server that lets in one user
abbrev setting_by : List ℕ → List ℕ → Setting
setting_by principal credentials = record { run = fixed_answer; welcome = under_own_name (λ p c. bytes_eq p principal && bytes_eq c credentials) }

pub serving_is : (gate : OneUser) → principal_of gate ≡ codes "user" → credentials_of gate ≡ codes "pass" → setting_of fixed_answer user_welcome gate ≡ serving
serving_is gate p c = ap (λ x. setting_by x (credentials_of gate)) p ∙ ap (λ x. setting_by (codes "user") x) c

pub lines_said : (gate : OneUser) → principal_of gate ≡ codes "user" → credentials_of gate ≡ codes "pass" → (ls : List (ℕ × LineView)) (text told : List ℕ) (t : WorldHeld FixedTable OneUser)
    → Leads ledger_of (setting_of fixed_answer user_welcome gate) gate [] (Runs (setting_of fixed_answer user_welcome gate) (empty []) ls text) t
    → ((w : World) → Reached (setting_of fixed_answer user_welcome gate) [] w → FitsWorld ledger_of t gate w → told ≡ report_text w)
    → (r : Replayed) → string_bytes r.out ≡ text ++ told → string_bytes r.err ≡ [] → r.status ≡ 0
    → (text : List ℕ) × (w : World) × Runs serving (empty []) ls text w × Says (text ++ report_text w) [] 0 r
lines_said gate p c ls text told t h reports r out err status = (
  text,
  h.after,
  subst (λ S. Runs S (empty []) ls text h.after) (serving_is gate p c) h.way,
  record { out = out ∙ ap (λ z. text ++ z) (reports h.after h.reached h.fits); err = err; status = status },
)
