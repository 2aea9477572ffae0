use Rattle.cli_output.proofs.Gets.{◌≡◌, subst, ◌+◌, [], ◌∷◌, ◌++◌, take, drop, arith, append-nil, Appends-trans}
use Rattle.cli_output.proofs.Gets.{map-append, take_more, common_steps, flat_map-append, entries_view, AppendsFront, front_after, front_in, entries_text}
use Rattle.cli_output.proofs.printed_lines.put_entries.Goals as goal

pub returns-in-Err-clause-front : goal.returns-in-Err-clause-front
returns-in-Err-clause-front g c =
    let xs = c.args.entries.now in
    let i = c.loop-entry.entry-index in
    let rest = drop (i + 1) xs in
    let around : take i xs ++ c.entry-item.result ∷ rest ≡ xs = grind (arith, common_steps, c.loop-entry-test.true, c.entry-item.is) in
    subst (λ ys. AppendsFront (g.O.Sink.taken c.args.out.now) (g.O.Sink.taken c.put_entry.new.out) (entries_text (entries_view ys))) around
    (rw (map-append, flat_map-append) (front_after _ _ _ _ _ c.loop-entry.invariant (front_in _ _ _ (entries_text (entries_view rest)) c.in-Err.ensures.front)))

pub loop-entry-preserved : goal.loop-entry-preserved
loop-entry-preserved g c =
    let xs = c.args.entries.now in
    let i = c.loop-entry.entry-index in
    let more : take (i + 1) xs ≡ take i xs ++ c.entry-item.result ∷ [] = grind (arith, common_steps, c.loop-entry-test.true, c.entry-item.is, take_more) in
    rw (more, map-append, flat_map-append, append-nil) (Appends-trans _ _ _ _ _ c.loop-entry.invariant c.in-Ok.ensures.told)
