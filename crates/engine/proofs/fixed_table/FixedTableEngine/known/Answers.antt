use Rattle.std.proofs.Common.{◌≡◌, ◌+◌, None, Some, if◌then◌else◌, sym, ap, ◌∙◌, arith, rules}
use Rattle.std.proofs.lemmas.List.{length-map}
use Rattle.engine.specs.Prelude.{place_in, same_writes, known_by, found_in, entry_view, entries_view, writes_view}
use Rattle.engine.specs.declared.ledger.Commit.TheVariants.{Repeat, Clash}
use Rattle.engine.proofs.PlaceOf.{none_found, place_within, known_at}
use Rattle.engine.proofs.fixed_table.FixedTableEngine.known.Goals as goal

pub returns-in_default : goal.returns-in_default
returns-in_default c =
    let t = c.args.token.now in
    let es = entries_view c.self.inside.ledger.items in
    let got : place_in c.self.inside.places es t ≡ None = search rules in
    let k : known_by (found_in (Some t) (writes_view c.args.writes.now) es) ≡ None = ap known_by (none_found t (writes_view c.args.writes.now) es (sym (c.self.invariant.places_are t) ∙ got)) in
    search rules

pub index-requires : goal.index-requires
index-requires c =
    let es = entries_view c.self.inside.ledger.items in
    let got : place_in c.self.inside.places es c.args.token.now ≡ Some c.in-Some.place = search rules in
    let within = place_within c.args.token.now es c.in-Some.place (sym (c.self.invariant.places_are c.args.token.now) ∙ got) in
    omega (arith, within, length-map c.self.inside.ledger.items entry_view, c.self.inside.ledger.ok.0)

pub known_at-requires : goal.known_at-requires
known_at-requires c =
    let es = entries_view c.self.inside.ledger.items in
    let got : place_in c.self.inside.places es c.args.token.now ≡ Some c.in-Some.place = search rules in
    let within = place_within c.args.token.now es c.in-Some.place (sym (c.self.invariant.places_are c.args.token.now) ∙ got) in
    omega (arith, within, length-map c.self.inside.ledger.items entry_view, c.self.inside.ledger.ok.0, c.self.inside.ledger.ok.1, c.self.inside.ledger.small)

pub returns : goal.returns
returns c =
    let t = c.args.token.now in
    let w = writes_view c.args.writes.now in
    let items = c.self.inside.ledger.items in
    let p = c.in-Some.place in
    let got : place_in c.self.inside.places (entries_view items) t ≡ Some p = search rules in
    let both = known_at t w items p c.index.result.now c.known_at.result (sym (c.self.invariant.places_are t) ∙ got) c.index.ensures
    (c.known_at.ensures ∙ ap (λ l. if same_writes (writes_view l) w then Repeat (p + 1) else Clash) c.deref-2.ensures.value) in
    search rules
