use Rattle.std.proofs.Common.{refl, subst, List, []}
use Rattle.engine.specs.Prelude.{user_welcome, ledger_of, fixed_answer, EntryView}
use Rattle.world.specs.Prelude.{Reached, empty, FitsWorld, setting_of}
use Rattle.world.proofs.events.replay.Goals as goal

pub returns-clause-ok : goal.returns-clause-ok
returns-clause-ok c =
    let P : List EntryView → Type 0 = λ es. FitsWorld ledger_of c.new-world.result c.in-Ok.gate (empty es) in
    let R : List EntryView → Type 0 = λ es. Reached (setting_of fixed_answer user_welcome c.in-Ok.gate) es (empty es) in
    record {
      gate = c.in-Ok.gate;
      principal = c.in-Ok.ensures.principal;
      credentials = c.in-Ok.ensures.credentials;
      goes = c.in-Ok-follow_all.ensures c.in-Ok.gate [] (empty [])
          (record { after = empty []; replays = refl; reached = subst R c.new-2.ensures c.new-world.ensures.reached; fits = subst P c.new-2.ensures c.new-world.ensures.fits });
    }
