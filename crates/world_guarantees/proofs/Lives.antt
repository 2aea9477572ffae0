-- What a client may rely on goes on to hold over later servers.
use Rattle.std.proofs.Common.{◌≡◌, refl, sym, ◌∙◌, ap, subst, ℕ, zero, suc, Some, None, Option, List, [], ◌∷◌, ◌++◌, slice_get, append-nil, append_assoc}
use Rattle.engine.specs.Prelude.{EntryView, Token, TokensOnce, under_token}
use Rattle.engine.proofs.Once.{under-append, only}
use Rattle.server_session.specs.Prelude.{Setting, Change}
use Rattle.world.specs.Connections.{Connection}
use Rattle.world.specs.World.{World, ledger, Reached, begins, goes_on, takes_out, taken_out}
use Rattle.world.specs.Good.{change, often, Stands, StandsOnce}
use Rattle.world.proofs.Headline.{headline}
use Rattle.world.proofs.Limits.{commits_once, grows_by_work}
use Rattle.world_guarantees.specs.Lives.{left, Lived, never, again, StandsIn, ReliesOn}

taken_brought : (w : World) (c n : ℕ) (o : Option Connection)
    → (taken_out w c n o).brought ≡ w.brought
taken_brought w c n None = refl
taken_brought w c n (Some k) = refl

-- a world keeps what its engine brought
brought_is : (S : Setting) (brought : List EntryView) {w : World} → Reached S brought w
    → w.brought ≡ brought
brought_is S brought (begins l) = refl
brought_is S brought (goes_on w w2 e seen r s) =
    (grows_by_work S w e seen w2 s.steps).0 ∙ brought_is S brought r
brought_is S brought (takes_out w c n r) =
    taken_brought w c n (slice_get w.conns c) ∙ brought_is S brought r

once_left : (S : Setting) (first : List EntryView) (ws : List World) → Lived S first ws
    → TokensOnce (left first ws)
once_left S first [] (never l) = l.once
once_left S first (w ∷ ws) (again _ _ l r) = commits_once S (left first ws) w r

-- the ledger that a world began with is the front of its own
begun : (S : Setting) (brought : List EntryView) (w : World) → Reached S brought w
    → ledger w ≡ brought ++ w.since
begun S brought w r = ap (λ b. b ++ w.since) (brought_is S brought r)

-- a world among them: it was reached, and what it left is the front of what the last left
abbrev Is : Setting → List EntryView → World → Type 0
Is S all w = (brought : List EntryView) × Reached S brought w
    × ((later : List EntryView) × (all ≡ ledger w ++ later))

among : (S : Setting) (first : List EntryView) (ws : List World) → Lived S first ws
    → (n : ℕ) (w : World) → slice_get ws n ≡ Some w → Is S (left first ws) w
among S first [] l n w here = cc
among S first (v ∷ ws) (again _ _ l r) zero w here =
    let same : v ≡ w = cc in
    subst (λ x. Is S (ledger v) x) same (left first ws, r, ([], sym (append-nil (ledger v))))
among S first (v ∷ ws) (again _ _ l r) (suc n) w here =
    let it = among S first ws l n w here in (
      it.0,
      it.1,
      (
        it.2.0 ++ v.since,
        begun S (left first ws) v r
            ∙ ap (λ b. b ++ v.since) it.2.1 ∙ append_assoc (ledger w) it.2.0 v.since,
      ),
    )

-- what stands under a token of the front is all that stands under it
goes_on_under : (t : List ℕ) (es later : List EntryView) (ws : _) → TokensOnce (es ++ later)
    → under_token t es ≡ ws ∷ [] → under_token t (es ++ later) ≡ ws ∷ []
goes_on_under t es later ws once is =
    only (under_token t (es ++ later)) ws
    ([], under_token t later, under-append t es later ∙ ap (λ u. u ++ under_token t later) is)
    (once t)

stands_in : (all : List EntryView) (w : World) (later : List EntryView) (c i : ℕ) (its : Change)
    (token : Token) → all ≡ ledger w ++ later → TokensOnce all → StandsOnce c i w its token
    → StandsIn all w c i its token
stands_in all w later c i its (Some t) is once h =
    ap (under_token t) is ∙ goes_on_under t (ledger w) later its.writes (subst TokensOnce is once) h
stands_in all w later c i its None is once h = h

pub relies_on : ReliesOn
relies_on S first ws l =
    let once = once_left S first ws l in (
      once,
      (λ n w here c k wish conn ours.
          let it = among S first ws l n w here in
          let good = headline.good S it.0 w it.1 c k wish conn ours in
          record {
            good = good;
            later = it.2.0;
            parts = it.2.1;
            committed = λ i told. stands_in (left first ws) w it.2.0 c i (change S w k i)
                (change S w k i).token it.2.1 once
                (subst (λ o. Stands (often o) c i w (change S w k i)) told (good.stands i));
          }),
    )
