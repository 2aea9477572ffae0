use Rattle.std.proofs.Common.{refl, rules, subst, List, []}
use Rattle.engine.specs.Prelude.{user_welcome, ledger_of, fixed_answer, EntryView}
use Rattle.cli_scripts.specs.Prelude.{said_lines}
use Rattle.world.specs.Prelude.{Reached, empty, FitsWorld, setting_of}
use Rattle.cli_replay.proofs.Stepping.{lines_said}
use Rattle.cli_replay.proofs.script.say_lines.Goals as goal

pub returns : goal.returns
returns c =
    let P : List EntryView → Type 0 = λ es. FitsWorld ledger_of c.new-world.result c.in_ok-gate.gate (empty es) in
    let R : List EntryView → Type 0 = λ es. Reached (setting_of fixed_answer user_welcome c.in_ok-gate.gate) es (empty es) in
    let fits = subst P c.new-2.ensures c.new-world.ensures.fits in
    lines_said c.in_ok-gate.gate c.in_ok-gate.ensures.principal c.in_ok-gate.ensures.credentials (said_lines c.args.lines.items) _ _ c.run.new.world
    (c.in_ok-out.ensures c.in_ok-gate.gate [] (empty []) (subst R c.new-2.ensures c.new-world.ensures.reached) fits) (c.in_ok-told.ensures c.in_ok-gate.gate []) _ (search rules) (search rules) refl
