use Rattle.std.proofs.Common.{sym, ◌∙◌, ap, arith, ◌<◌, length, map, refl}
use Rattle.std.proofs.lemmas.List.{length-map}
use Rattle.world.specs.Prelude.{ordinals, wrote_of, read_of, FitsWorld, FitsLink}
use Rattle.world.proofs.Told.{held, there, stands_as, waits_as}
use Rattle.world.proofs.Turning.{along_none, held_past}
use Rattle.world.proofs.world.World.connection.Goals as goal

pub returns-then-conn-len : goal.returns-then-conn-len
unfolding FitsWorld
returns-then-conn-len g c = λ gate brought w reached f.
    along_none FitsLink f.rest.links w.conns c.args.conn f.fits.links (held_past c.args.self.now.links.items f.rest.links c.args.conn f.links (omega (arith, c.if-conn-len.true, c.len.ensures, c.args.self.now.links.ok.0)))

pub returns : goal.returns
unfolding FitsWorld
returns g c = λ gate brought w reached f.
    let few : c.args.conn < length c.args.self.now.links.items = omega (arith, c.if-conn-len.false, c.len.ensures, c.args.self.now.links.ok.0) in
    let l = c.index-link.result.now in let h = held g.E.Engine.answer g.G.Gate.welcomes f reached c.args.conn few l c.index-link.ensures in
    let t = there g.E.Engine.answer g.G.Gate.welcomes f reached c.args.conn few l c.index-link.ensures in
    let shown = ap (map read_of) c.as_slice-2.ensures.value ∙ t.2.report.1 in
    let count = length c.as_slice-2.result.now in (
      t.0,
      t.1,
      record {
        peer = c.peer.ensures ∙ t.2.peer;
        wrote = ap (map wrote_of) c.as_slice.ensures.value ∙ t.2.report.0;
        read = shown;
        lost = c.losses.ensures ∙ t.2.report.2;
        waits = ap (λ n. ordinals count n) (c.waiting.ensures h.2.client h.2.ends)
            ∙ sym (waits_as g.E.Engine.answer g.G.Gate.welcomes f reached c.args.conn few l c.index-link.ensures count (sym (ap length shown) ∙ length-map c.as_slice-2.result.now read_of));
        standing = stands_as g.E.Engine.answer g.G.Gate.welcomes f reached c.args.conn few l c.index-link.ensures l.gone refl c.standing_at.result (c.standing_at.ensures f.rest.server f.server);
      },
    )
