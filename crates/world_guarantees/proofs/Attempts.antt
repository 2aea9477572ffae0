-- Attempts under one token.
use Rattle.std.proofs.Common.{◌≡◌, refl, sym, ◌∙◌, ap, ap₂, subst, ℕ, zero, suc, ◌<◌, Bool, true, false, if◌then◌else◌, Option, Some, None, List, [], ◌∷◌, ◌++◌, length, slice_get, ⊎_elim, ◌==◌, ◌&&◌, ◌||◌, append_assoc, take, drop, arith, length-append, take-append-drop, is_some}
use Rattle.std.specs.Option.{option_or}
use Rattle.std.specs.List.{list_all}
use Rattle.std.proofs.lemmas.Bool.{cond_both, cond-true, eq-eqb, and_parts, and_from}
use Rattle.wire.specs.declared.Version.{Version}
use Rattle.messages.specs.Prelude.{RequestView, ResponseView, heard_bytes}
use Rattle.machine.specs.Prelude.{kind_of, in_part, every_phase, phase_of}
use Rattle.machine.specs.declared.Phase.{Phase}
use Rattle.machine.specs.declared.Kind.{Kind}
use Rattle.machine.specs.declared.Verdict.{Verdict}
use Rattle.machine.proofs.Tables.{every_bool, every_kind, every_verdict, at_version, at_bool, at_phase, at_kind, at_verdict, implies, implies_at}
use Rattle.engine.specs.Prelude.{EntryView, under_token, TokensOnce, Other, found_in, commit_by}
use Rattle.engine.proofs.Once.{Has, only, under-append, answers_by_token}
use Rattle.client.specs.declared.Outcome.{Outcome}
use Rattle.client.specs.Prelude.{phase_accepted, outcome_of, has_more, verdict_of, resets}
use Rattle.server_session.specs.Prelude.{Setting, Change, Written, Tx}
use Rattle.world.specs.Prelude.{Connection, Said, answer_count, said_version, World, ledger, Reached, goes_on, Each, SaidAt, transaction, is_success, tx_after, change, change_for, change_in, entries, outcome, outcome_in, tellings_of, delivered_whole, last_phase, server_outcome, if_lost, often, Never, Stands, StandsOnce, Good}
use Rattle.world.proofs.Headline.{headline, reached_kept}
use Rattle.world.proofs.Kept.{Inv, talks}
use Rattle.world.proofs.Outcomes.{SaidIs, said_is, said_request, outcome_said, said_reached}
use Rattle.world.proofs.Serve.{has_left}
use Rattle.world.proofs.Trace.{Trace, Denies, along_run}
use Rattle.world.proofs.Limits.{commits_once, grows_by_work}
use Rattle.client_tracking.specs.Telling.{adds_nothing}
use Rattle.world_guarantees.specs.Attempts.{BeginsUnder, IsAttempt, OthersStand, CommittedStands, RefusedCommitClashes, RefusedAddsNone, StaysKnown}

-- no entry of a connection
none_of : (c : ℕ) (n : ℕ) (es : List EntryView) → Each (λ e. e.conn ≡ c → e.ordinal < n) es → ((i : ℕ) → i < n → entries c i es ≡ []) → Each (λ e. e.conn ≡ c → ⊥) es
none_of c n [] h none = tt
none_of c n (e ∷ es) h none = (here, none_of c n es h.1 (λ i l. later i (none i l)))
  where
    mine : ℕ → Bool
    mine i = e.conn == c && e.ordinal == i

    here : e.conn ≡ c → ⊥
    here p =
        let gone : (if mine e.ordinal then change_in e ∷ entries c e.ordinal es else entries c e.ordinal es) ≡ [] = none e.ordinal (h.0 p) in
        let bad : change_in e ∷ entries c e.ordinal es ≡ [] = sym (cond-true (mine e.ordinal) _ _ (and_from _ _ (eq-eqb e.conn c p) (eq-eqb e.ordinal e.ordinal refl))) ∙ gone in
        cc

    later : (i : ℕ) → entries c i (e ∷ es) ≡ [] → entries c i es ≡ []
    later i q = cond_both (mine i) (change_in e ∷ entries c i es) (entries c i es) (λ (zs : List Change). zs ≡ [] → entries c i es ≡ []) (λ _ k. cc) (λ _ k. k) q

never : (o : Option Outcome) → adds_nothing o ≡ true → often o ≡ Never
never (Some Outcome.Done) h = refl
never (Some Outcome.Refused) h = refl
never (Some Outcome.Ignored) h = refl
never (Some Outcome.Lost) h = refl
never (Some Outcome.Committed) h = cc
never (Some Outcome.Unknown) h = cc
never None h = cc

pub refused_adds_none : RefusedAddsNone
refused_adds_none S brought w r c k wish here ours nothing =
    let g : Good S w c k = headline.good S brought w r c k wish here ours in
    none_of c (length k.sent) w.since g.theirs
    (λ i l. subst (λ n. Stands n c i w (change S w k i)) (never (outcome k i) (nothing i l)) (g.stands i))

-- What a transaction's token is: where a transaction is open, that of its BEGIN.
abbrev in_tx : Phase → Bool
in_tx Phase.TxReady = true
in_tx Phase.TxStreaming = true
in_tx _ = false

abbrev in_tx_then : Option Phase → Bool
in_tx_then None = false
in_tx_then (Some p) = in_tx p

abbrev is_begin : Kind → Bool
is_begin Kind.Begin = true
is_begin _ = false

abbrev is_yes : Verdict → Bool
is_yes Verdict.Success = true
is_yes Verdict.More = true
is_yes _ = false

abbrev is_committed : Outcome → Bool
is_committed Outcome.Committed = true
is_committed _ = false

-- a summary that leaves a transaction open is a SUCCESS, of a BEGIN or of a request within one
abbrev opens : Version → Phase → Kind → Bool → Verdict → Bool
opens v p k b d = implies (in_tx_then (phase_accepted v p k b d)) (is_yes d && (is_begin k || in_tx p))

opens_tx : (v : Version) (p : Phase) (k : Kind) (b : Bool) (d : Verdict) → opens v p k b d ≡ true
opens_tx v p k b d =
    at_verdict (λ d. opens v p k b d)
    (at_bool (λ b. list_all (λ d. opens v p k b d) every_verdict)
    (at_kind (λ k. list_all (λ b. list_all (λ d. opens v p k b d) every_verdict) every_bool)
    (at_phase (λ p. list_all (λ k. list_all (λ b. list_all (λ d. opens v p k b d) every_verdict) every_bool) every_kind)
    (at_version (λ v. list_all (λ p. list_all (λ k. list_all (λ b. list_all (λ d. opens v p k b d) every_verdict) every_bool) every_kind) every_phase) refl v) p) k) b) d

-- a COMMIT commits in a transaction alone
abbrev ends : Phase → Verdict → Bool
ends p d = implies (is_committed (outcome_of p Kind.Commit d)) (in_tx p)

ends_tx : (p : Phase) (d : Verdict) → ends p d ≡ true
ends_tx p d = at_verdict (λ d. ends p d) (at_phase (λ p. list_all (λ d. ends p d) every_verdict) refl p) d

-- and is refused in a transaction alone, by a FAILURE
abbrev was_refused : Outcome → Bool
was_refused Outcome.Refused = true
was_refused _ = false

abbrev is_failure : Verdict → Bool
is_failure Verdict.Failure = true
is_failure _ = false

-- a verdict that a response tells
abbrev may_tell : Verdict → Bool
may_tell Verdict.Invalid = false
may_tell Verdict.Gone = false
may_tell _ = true

one_told : (more part : Bool) (d : Verdict) → (if more then (if part then Some Verdict.More else None) else Some Verdict.Success) ≡ Some d → may_tell d ≡ true
one_told true true d h = let same : Verdict.More ≡ d = cc in ap may_tell (sym same)
one_told true false d h = cc
one_told false part d h = let same : Verdict.Success ≡ d = cc in ap may_tell (sym same)

tells_one : (part : Bool) (a : ResponseView) (d : Verdict) → verdict_of part a ≡ Some d → may_tell d ≡ true
tells_one part (ResponseView.Success metadata) d h = one_told (has_more metadata) part d h
tells_one part (ResponseView.Record cells) d h = cc
tells_one part ResponseView.Ignored d h = let same : Verdict.Ignored ≡ d = cc in ap may_tell (sym same)
tells_one part (ResponseView.Failure code words) d h = let same : Verdict.Failure ≡ d = cc in ap may_tell (sym same)

abbrev clashes : Version → Phase → Bool → Verdict → Bool
clashes v p b d = implies (may_tell d && is_some (phase_accepted v p Kind.Commit b d)) (implies (was_refused (outcome_of p Kind.Commit d)) (is_failure d && in_tx p))

clashes_tx : (v : Version) (p : Phase) (b : Bool) (d : Verdict) → clashes v p b d ≡ true
clashes_tx v p b d =
    at_verdict (λ d. clashes v p b d)
    (at_bool (λ b. list_all (λ d. clashes v p b d) every_verdict)
    (at_phase (λ p. list_all (λ b. list_all (λ d. clashes v p b d) every_verdict) every_bool)
    (at_version (λ v. list_all (λ p. list_all (λ b. list_all (λ d. clashes v p b d) every_verdict) every_bool) every_phase) refl v) p) b) d

failure_is : (d : Verdict) → is_failure d ≡ true → d ≡ Verdict.Failure
failure_is Verdict.Failure h = refl
failure_is _ h = cc

success : (part : Bool) (a : ResponseView) (d : Verdict) → verdict_of part a ≡ Some d → is_yes d ≡ true → is_success a ≡ true
success part (ResponseView.Success metadata) d h y = refl
success part (ResponseView.Record cells) d h y = cc
success part ResponseView.Ignored Verdict.Success h y = cc
success part ResponseView.Ignored Verdict.More h y = cc
success part ResponseView.Ignored _ h y = cc
success part (ResponseView.Failure code words) Verdict.Success h y = cc
success part (ResponseView.Failure code words) Verdict.More h y = cc
success part (ResponseView.Failure code words) _ h y = cc

one_under : (t : List ℕ) (qs : List RequestView) (i : ℕ) (q : RequestView) → BeginsUnder t qs → slice_get qs i ≡ Some q → BeginsUnder t (q ∷ [])
one_under t [] i q b h = cc
one_under t (RequestView.Begin mode token ∷ qs) zero q b h = let same : RequestView.Begin mode token ≡ q = cc in subst (λ z. BeginsUnder t (z ∷ [])) same (b.0, tt)
one_under t (RequestView.Begin mode token ∷ qs) (suc i) q b h = one_under t qs i q b.1 h
one_under t (x ∷ qs) zero q b h = let same : x ≡ q = cc in subst (λ z. BeginsUnder t (z ∷ [])) same tt
one_under t (x ∷ qs) (suc i) q b h = one_under t qs i q b h

token_after : (S : Setting) (front : List EntryView) (t : List ℕ) (old : Tx) (q : RequestView) (p : Phase) → BeginsUnder t (q ∷ []) → (is_begin (kind_of q) || in_tx p) ≡ true → (in_tx p ≡ true → old.token ≡ Some t) → (tx_after S front old q).token ≡ Some t
token_after S front t old (RequestView.Begin mode token) p u b f = u.0
token_after S front t old (RequestView.Run text params mode token) p u b f = f b
token_after S front t old _ p u b f = f b

module _ (S : Setting) (v : Version) (all : List EntryView) (sent : List RequestView) (t : List ℕ) (under : BeginsUnder t sent) where
  token_is : (xs : List Said) → Trace S v all sent xs → in_tx (last_phase xs) ≡ true → (transaction S all xs).token ≡ Some t
  token_is =
      along_run S v all sent (λ xs. in_tx (last_phase xs) ≡ true → (transaction S all xs).token ≡ Some t) (λ h. cc) (λ _ p. p) (λ _ _ _ p. p)
      (λ x xs f _ p h.
      let r = and_parts (is_yes f.d) (is_begin (kind_of x.request) || in_tx (last_phase xs))
      (implies_at (in_tx_then (phase_accepted v (last_phase xs) (kind_of x.request) _ f.d)) _ (opens_tx v (last_phase xs) (kind_of x.request) _ f.d) (ap in_tx_then f.accepts ∙ h)) in
      let old = transaction S all xs in
      let next = tx_after S (take x.length_before all) old x.request in
      ap (λ (b : Bool). (if b then next else old).token) (success (in_part x.request) x.response f.d f.ever.told r.0)
      ∙ token_after S (take x.length_before all) t old x.request (last_phase xs) (one_under t sent (answer_count xs) x.request under f.request) r.1 p)

-- an outcome that a summary tells
abbrev is_told : Outcome → Bool
is_told Outcome.Lost = false
is_told Outcome.Unknown = false
is_told _ = true

not_lost : (o : Outcome) → is_told o ≡ true → (b m : Bool) → if_lost b (if m then Outcome.Unknown else Outcome.Lost) ≡ Some o → ⊥
not_lost o s true true h = let same : Outcome.Unknown ≡ o = cc in let no : true ≡ false = sym s ∙ ap is_told (sym same) in cc
not_lost o s true false h = let same : Outcome.Lost ≡ o = cc in let no : true ≡ false = sym s ∙ ap is_told (sym same) in cc
not_lost o s false m h = cc

heard : (o : Outcome) (a l : Option Outcome) → (l ≡ Some o → ⊥) → option_or a l ≡ Some o → a ≡ Some o
heard o None l n h = absurd (n h)
heard o (Some x) l n h = h

-- a part of a ledger has no token twice either
once_in_front : (n : ℕ) (es : List EntryView) → TokensOnce es → TokensOnce (take n es)
once_in_front n es once t =
    let parts = under-append t (take n es) (drop n es) in
    let all = ap (λ xs. length (under_token t xs)) (take-append-drop n es) in
    let whole = once t in
    omega (arith, whole, all, ap length parts, length-append (under_token t (take n es)) (under_token t (drop n es)))

module _ (S : Setting) (brought : List EntryView) (w : World) (r : Reached S brought w) (t : List ℕ) (c : ℕ) (k : Connection) (a : IsAttempt t w c k) (i : ℕ) (asks : slice_get k.sent i ≡ Some RequestView.Commit) where
  inv : Inv S w.brought w.since c a.wish k
  inv = (reached_kept S brought r c k a.here).0 a.wish a.ours

  abbrev T : List Said → Type 0
  T xs = Trace S (said_version k) (ledger w) k.sent xs

  -- what a summary told of the COMMIT
  module _ (o : Outcome) (sure : is_told o ≡ true) (done : outcome k i ≡ Some o) where
    found : (x : Written) × SaidAt i x (delivered_whole k) × (server_outcome x ≡ o)
    found = outcome_said S (said_version k) (ledger w) k.sent i o (delivered_whole k) (heard o (outcome_in i (tellings_of (delivered_whole k))) _ (not_lost o sure k.client_lost _) done)

    said : SaidAt i found.0 k.says
    said = said_reached S (said_version k) (ledger w) k.sent (heard_bytes (said_version k)) k.down i found.0 k.says found.1

    run : T k.says
    run = ⊎_elim (λ e. let none : SaidAt i found.0 [] = subst (SaidAt i found.0) e said in elim none [ ]) (λ d. d.0) (talks S w.brought w.since c a.wish k inv.talk)

    is : SaidIs S (said_version k) (ledger w) k.sent i found.0 k.says
    is = said_is S (said_version k) (ledger w) k.sent i found.0 k.says run said

    commit : RequestView.Commit ≡ found.0.request
    commit = same (sym asks ∙ said_request S (said_version k) (ledger w) k.sent i found.0 k.says is)
      where
        same : Some RequestView.Commit ≡ Some found.0.request → RequestView.Commit ≡ found.0.request
        same e = cc

    -- the outcome of a COMMIT by the phase before it
    told : outcome_of (last_phase is.older) Kind.Commit is.fair.d ≡ o
    told = ap (λ q. outcome_of (last_phase is.older) (kind_of q) is.fair.d) commit ∙ is.fair.ever.outcome ∙ found.2

    token : in_tx (last_phase is.older) ≡ true → (change S w k i).token ≡ Some t
    token open_then =
        ap₂ (λ q xs. (change_for S (ledger w) q xs).token) asks is.front
        ∙ token_is S (said_version k) (ledger w) k.sent t a.under is.older is.trace open_then

  module _ (done : outcome k i ≡ Some Outcome.Committed) where
    stands : under_token t (ledger w) ≡ (change S w k i).writes ∷ []
    stands =
        let g : Good S w c k = headline.good S brought w r c k a.wish a.here a.ours in
        let x = is Outcome.Committed refl done in
        let open_then = implies_at (is_committed (outcome_of (last_phase x.older) Kind.Commit x.fair.d)) _ (ends_tx (last_phase x.older) x.fair.d) (ap is_committed (told Outcome.Committed refl done)) in
        subst (λ o. StandsOnce c i w (change S w k i) o) (token Outcome.Committed refl done open_then) (subst (λ o. Stands (often o) c i w (change S w k i)) done (g.stands i))

  module _ (done : outcome k i ≡ Some Outcome.Refused) where
    abbrev x : SaidIs S (said_version k) (ledger w) k.sent i (found Outcome.Refused refl done).0 k.says
    x = is Outcome.Refused refl done

    abbrev y : Written
    y = (found Outcome.Refused refl done).0

    abbrev front : List EntryView
    front = take y.length_before (ledger w)

    commits : RequestView.Commit ≡ y.request
    commits = commit Outcome.Refused refl done

    -- it was accepted, so it was a FAILURE in a transaction
    parts : (is_failure x.fair.d ≡ true) × (in_tx (last_phase x.older) ≡ true)
    parts =
        let p = last_phase x.older in let b = resets_behind in
        and_parts (is_failure x.fair.d) (in_tx p)
        (implies_at (was_refused (outcome_of p Kind.Commit x.fair.d)) _
        (implies_at (may_tell x.fair.d && is_some (phase_accepted (said_version k) p Kind.Commit b x.fair.d)) _ (clashes_tx (said_version k) p b x.fair.d)
        (and_from _ _ (tells_one (in_part y.request) y.response x.fair.d x.fair.ever.told) (ap (λ (o : Option Phase). is_some o) accepted))) (ap was_refused (told Outcome.Refused refl done)))
      where
        resets_behind : Bool
        resets_behind = resets (drop (suc (answer_count x.older)) k.sent)

        accepted : phase_accepted (said_version k) (last_phase x.older) Kind.Commit resets_behind x.fair.d ≡ Some (phase_of y.state)
        accepted = ap (λ q. phase_accepted (said_version k) (last_phase x.older) (kind_of q) resets_behind x.fair.d) commits ∙ x.fair.accepts

    its_is : change_for S (ledger w) (Some y.request) x.older ≡ change S w k i
    its_is = sym (ap₂ (λ q xs. change_for S (ledger w) q xs) (asks ∙ ap (λ q. Some q) commits) x.front)

    other : found_in (Some t) (change S w k i).writes front ≡ Other
    other =
        subst (λ o. found_in o (change S w k i).writes front ≡ Other) (token Outcome.Refused refl done parts.1)
        (subst (λ its. found_in its.token its.writes front ≡ Other) its_is
        (subst (λ q. Denies front (change_for S (ledger w) (Some y.request) x.older) Verdict.Failure q) (sym commits)
        (subst (λ d. Denies front (change_for S (ledger w) (Some y.request) x.older) d y.request) (failure_is x.fair.d parts.0) x.fair.denied)))

    others_stand : OthersStand t w (change S w k i).writes
    others_stand =
        let once = commits_once S brought w r in
        let e : EntryView = record { conn = 0; ordinal = 0; token = Some t; writes = (change S w k i).writes } in
        let there = (answers_by_token front e t (once_in_front y.length_before (ledger w) once) refl).clash (ap (commit_by (length front)) other) in
        let held : Has (under_token t front) there.1.0 = subst (λ xs. Has xs there.1.0) (sym there.1.1) ([], [], refl) in
        let whole : Has (under_token t (ledger w)) there.1.0 = subst (λ es. Has (under_token t es) there.1.0) (take-append-drop y.length_before (ledger w)) (has_left t front (drop y.length_before (ledger w)) there.1.0 held) in
        (there.1.0, only _ _ whole (once t), there.1.2)

pub committed_stands : CommittedStands
committed_stands S brought w r t c k a i asks done = stands S brought w r t c k a i asks done

pub refused_commit_clashes : RefusedCommitClashes
refused_commit_clashes S brought w r t c k a i asks done = others_stand S brought w r t c k a i asks done

-- what stands under a token stands so in the next world
pub stays_known : StaysKnown
stays_known S brought w r e seen w2 s t writes h =
    let once = commits_once S brought w2 (goes_on w w2 e seen r s) t in
    let grown = grows_by_work S w e seen w2 s.steps in
    ⊎_elim (λ same. ap (under_token t) (ap₂ (λ x y. x ++ y) grown.0 same) ∙ h)
    (λ n. only _ _ (more _ (ap₂ (λ x y. x ++ y) grown.0 n.entry ∙ sym (append_assoc w.brought w.since _))) once) grown.1
  where
    more : (es : List EntryView) → ledger w2 ≡ ledger w ++ es → Has (under_token t (ledger w2)) writes
    more es p = ([], under_token t es, ap (under_token t) p ∙ under-append t (ledger w) es ∙ ap (λ z. z ++ under_token t es) h)
