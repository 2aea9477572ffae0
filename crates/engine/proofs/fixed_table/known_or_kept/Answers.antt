use Rattle.std.proofs.Common.{◌≡◌, ◌+◌, None, Some, length, get_or, if◌then◌else◌, string_bytes, sym, ap, ◌∙◌, arith, rules}
use Rattle.std.proofs.lemmas.List.{length-map}
use Rattle.engine.specs.Prelude.{place_in, Free, same_writes, known_by, found_in, entry_view, entries_view, token_view, writes_view}
use Rattle.engine.specs.declared.ledger.Commit.TheVariants.{Repeat, Clash}
use Rattle.engine.proofs.PlaceOf.{none_found, place_within, known_at}
use Rattle.engine.proofs.fixed_table.known_or_kept.Goals as goal

pub returns-in_err-find_or_keep-clause-wanted : goal.returns-in_err-find_or_keep-clause-wanted
returns-in_err-find_or_keep-clause-wanted c =
    let t = string_bytes c.in-Some.token in
    let w = writes_view c.args.writes.now in
    let es = entries_view c.args.ledger.now.items in
    let free : found_in (token_view c.args.token.now) w es ≡ Free = ap (λ o. found_in (token_view o) w es) c.in-Some.is ∙ none_found t w es (sym (c.requires t) ∙ c.in_err-find_or_keep.ensures.wanted) in
    search rules

pub index-requires : goal.index-requires
index-requires c =
    let t = string_bytes c.in-Some.token in
    let es = entries_view c.args.ledger.now.items in
    let got : place_in c.args.places.now es t ≡ Some c.in-Some-2.place = search rules in
    omega (arith, place_within t es c.in-Some-2.place (sym (c.requires t) ∙ got), length-map c.args.ledger.now.items entry_view, ap length c.find_or_keep.ensures.entries, c.find_or_keep.new.ledger.ok.0)

pub known_at-requires : goal.known_at-requires
known_at-requires c =
    let t = string_bytes c.in-Some.token in
    let es = entries_view c.args.ledger.now.items in
    let got : place_in c.args.places.now es t ≡ Some c.in-Some-2.place = search rules in
    let new = c.find_or_keep.new.ledger in
    omega (arith, place_within t es c.in-Some-2.place (sym (c.requires t) ∙ got), length-map c.args.ledger.now.items entry_view, ap length c.find_or_keep.ensures.entries, new.ok.0, new.ok.1, new.small)

pub returns-in-None-clause-known : goal.returns-in-None-clause-known
returns-in-None-clause-known c =
    let t = string_bytes c.in-Some.token in
    let w = writes_view c.args.writes.now in
    let es = entries_view c.args.ledger.now.items in
    let got : place_in c.args.places.now es t ≡ None = search rules in
    sym (ap (λ o. known_by (found_in (token_view o) w es)) c.in-Some.is ∙ ap known_by (none_found t w es (sym (c.requires t) ∙ got)))

pub returns-in-Some-2-clause-known : goal.returns-in-Some-2-clause-known
returns-in-Some-2-clause-known c =
    let t = string_bytes c.in-Some.token in
    let w = writes_view c.args.writes.now in
    let items = c.args.ledger.now.items in
    let p = c.in-Some-2.place in
    let d = c.index.result.now in
    let got : place_in c.args.places.now (entries_view items) t ≡ Some p = search rules in
    sym (ap (λ o. known_by (found_in (token_view o) w (entries_view items))) c.in-Some.is ∙ known_at t w items p d c.known_at.result (sym (c.requires t) ∙ got)
    (c.index.ensures ∙ ap (λ l. get_or l p d) c.find_or_keep.ensures.entries)
    (c.known_at.ensures ∙ ap (λ l. if same_writes (writes_view l) w then Repeat (p + 1) else Clash) c.deref.ensures.value))
