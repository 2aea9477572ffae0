use Rattle.cli_sessions.proofs.Looped.{Appends-trans, Consumes-trans, ap, arith, bytes_are, bytes_eq, bytes_is, inr, length, length-append, not-false, not-true, rules, sym, take_at, true≢false, ◌++◌, ◌+◌, ◌∙◌, ◌≡◌, ◌≤◌}
use Rattle.cli_sessions.proofs.passing.pass.Goals as goal

pub returns-clause-passes : goal.returns-clause-passes
returns-clause-passes g c =
    let read : c.as_slice.result.now ≡ c.read_known.new.buffer = c.as_slice.ensures.value ∙ take_at c.read_known.new.buffer _ c.in-Ok.part.len (search rules) in
    let got = c.as_slice.result.now in
    let same = bytes_are got c.args.bytes.now (not-false (bytes_eq got c.args.bytes.now) (sym c.ne.ensures ∙ c.if-ne.false)) in
    rw (← c.way.view_is) (record { took = search rules; gave = rw (← same, read) c.in_ok-read_known.ensures.reads })

pub returns-clause-lets : goal.returns-clause-lets
returns-clause-lets g c = λ s taken count k.
    let h = returns-clause-passes g c in
    let bytes = c.args.bytes.now in
    let took = Appends-trans _ _ taken bytes k.written h.took k.took in
    let gave = Consumes-trans _ _ (g.S.PeerSource.left s) bytes k.read h.gave k.gave in
    let enough : length (bytes ++ k.read) + count ≤ length (bytes ++ k.written)
    = omega (arith, length-append bytes k.read, length-append bytes k.written, k.enough) in
    c.requires s taken count (record { written = _; read = _; took = took; gave = gave; enough = enough })

pub returns-then-ne-clause-read : goal.returns-then-ne-clause-read
returns-then-ne-clause-read g c = λ e.
    let got = c.as_slice.result.now in
    let read : got ≡ c.read_known.new.buffer = c.as_slice.ensures.value ∙ take_at c.read_known.new.buffer _ c.in-Ok.part.len (search rules) in
    let gave = rw (← read) at c.in_ok-read_known.ensures.reads in
    let differs = not-true (bytes_eq got c.args.bytes.now) (sym c.ne.ensures ∙ c.if-ne.true) in
    let other = λ (same : got ≡ c.args.bytes.now). true≢false (sym (bytes_is got) ∙ ap (bytes_eq got) same ∙ differs) in
    rw (← c.way.view_is) (inr (record { written = c.args.bytes.now; read = got; took = search rules; gave = gave; other = other }))
