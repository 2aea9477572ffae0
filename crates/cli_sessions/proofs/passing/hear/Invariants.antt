use Rattle.cli_sessions.proofs.Looped.{Appends, AppendsFront, List, Option, map, note, notes_text, versions_after, ℕ, ◌≡◌}
use Rattle.cli_sessions.proofs.passing.hear.Given as goal

-- what the rest of what was told adds to what is printed, at the version that is known by then, all of it adds to what was printed before
abbrev pub invariant-loop-one : goal.invariant-loop-one
invariant-loop-one g l =
    let all = map note l.initial.one-iterator.rest.items in
    let rest = map note l.one-iterator.rest.items in
    let before = g.O.Sink.taken l.fn.out in
    let now = g.O.Sink.taken l.out in record {
      client : l.caller.client ≡ l.initial.caller.client;
      prints : (z : Option (List ℕ)) → Appends now z (notes_text l.caller.version rest) → Appends before z (notes_text l.fn.caller.version all);
      begins : (z : Option (List ℕ)) → AppendsFront now z (notes_text l.caller.version rest) → AppendsFront before z (notes_text l.fn.caller.version all);
      version : versions_after l.fn.caller.version all ≡ versions_after l.caller.version rest;
    }
