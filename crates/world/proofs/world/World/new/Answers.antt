use Rattle.std.proofs.lemmas.List.{length-map}
use Rattle.engine.specs.Prelude.{entry_view, EntryView}
use Rattle.std.proofs.Common.{sym, subst, ap, refl, length, List, [], arith}
use Rattle.world.specs.declared.link.Link.{Link as LinkHeld}
use Rattle.world.specs.Prelude.{Alongside, FitsWorld, Holds, begins}
use Rattle.world.proofs.Turning.{new_fits}
use Rattle.world.proofs.world.World.new.Goals as goal

pub returns-clause-fits : goal.returns-clause-fits
unfolding FitsWorld
returns-clause-fits g c =
    let P : List LinkHeld → Type 0 = λ ls. Alongside Holds ls [] in
    record {
      rest = record { links = []; server = _ };
      links = subst P (sym c.new.ensures.items) tt;
      server = c.new-2.ensures;
      gated = refl;
      fits = new_fits c.args.gate (g.E.Engine.entries c.args.engine);
    }

pub returns-clause-reached : goal.returns-clause-reached
returns-clause-reached g c =
    begins (record { once = c.ledger-count.ensures.once; counted = omega (arith, length-map (c.ledger-count.result.now) entry_view, ap (λ (es : List EntryView). length es) c.ledger-count.ensures.lends) })
