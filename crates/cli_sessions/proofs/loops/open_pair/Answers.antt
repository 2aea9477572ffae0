use Rattle.cli_sessions.proofs.Looped.{Appends-nil, Fits, IsSome, List, Live, Passes, Talk, [], ap, first_place, found_by, lives_same, opened, passes_none, refl, replace-itself, rules, setting, subst, sym}
use Rattle.cli_sessions.proofs.Looped.{talk_by_items, ◌≡◌}
use Rattle.cli_sessions.proofs.loops.open_pair.Goals as goal

pub returns-clause-opens : goal.returns-clause-opens
returns-clause-opens g c = λ r f none.
    let o = c.in-Ok-open_session.ensures.opens r f in
    let silent : c.new-3.result.bytes.items ≡ [] = search rules in
    let place = found_by r none o.number in
    let found = subst IsSome (sym place) refl in
    let same = ap (λ (ss : List Live). record (opened r) { sessions = ss }) (replace-itself _ _ (opened r).sessions place) in
    record {
      number = o.number;
      found = found;
      now = o.now;
      comes = λ a. record {
        lives = lives_same _ _ (opened r) o.now found;
        client = record { item = first_place.rest.item; at = c.in-Ok.ensures.new; same = λ e. refl };
        session = ((subst (Fits g.E.Engine.entries c.open_session.new.server) (sym same) o.now, record { grows = silent; known = silent }), refl);
        up = passes_none;
        down = subst (Passes a.down a.down) (ap (λ (t : Talk). t.out) (sym (talk_by_items (setting g.E.Engine.answer g.G.Gate.welcomes r) c.in-Ok-open_session.conn r.ledger []))) passes_none;
        printed = Appends-nil a.out;
      };
    }
