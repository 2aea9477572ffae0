use Rattle.std.proofs.Common.{sym, ◌∙◌, ap, refl, ◌++◌, ◌∷◌, []}
use Rattle.server.specs.Prelude.{is_full, opened}
use Rattle.world.specs.Prelude.{FitsWorld, setting_of, peer_of}
use Rattle.world.proofs.Turning.{open_refused, opens_lacks, opens_done, opens_not}
use Rattle.world.proofs.world.World.open.Goals as goal

pub returns-then-is_full : goal.returns-then-is_full
unfolding FitsWorld
returns-then-is_full g c = λ gate brought w reached f.
    (opens_not _ (setting_of g.E.Engine.answer g.G.Gate.welcomes gate) f.rest w f.fits (peer_of c.args.peer) (sym (c.is_full.ensures ∙ ap is_full f.server) ∙ c.if-is_full.true), f)

pub returns-in_default : goal.returns-in_default
unfolding FitsWorld
returns-in_default g c = λ gate brought w reached f.
    opens_lacks g.E.Engine.answer g.G.Gate.welcomes f reached (peer_of c.args.peer) (sym (c.is_full.ensures ∙ ap is_full f.server) ∙ c.if-is_full.false) c.args.self.now refl f.server

pub returns-then-is_err : goal.returns-then-is_err
unfolding FitsWorld
returns-then-is_err g c = λ gate brought w reached f.
    opens_lacks g.E.Engine.answer g.G.Gate.welcomes f reached (peer_of c.args.peer) (sym (c.is_full.ensures ∙ ap is_full f.server) ∙ c.if-is_full.false)
    (record c.args.self.now { links = c.reserve.new.self }) c.reserve.ensures.items f.server

pub returns-in_default-open : goal.returns-in_default-open
unfolding FitsWorld
returns-in_default-open g c = λ gate brought w reached f.
    opens_lacks g.E.Engine.answer g.G.Gate.welcomes f reached (peer_of c.args.peer) (sym (c.is_full.ensures ∙ ap is_full f.server) ∙ c.if-is_full.false)
    (record c.args.self.now { links = c.reserve.new.self; server = c.open.new.self }) c.reserve.ensures.items (open_refused c.in_default-open.field-0 _ _ c.in_default-open.ensures ∙ f.server)

pub returns : goal.returns
unfolding FitsWorld
returns g c = λ gate brought w reached f.
    let a = c.in-Ok-open.ensures in
    opens_done g.E.Engine.answer g.G.Gate.welcomes f reached c.args.peer (sym (c.is_full.ensures ∙ ap is_full f.server) ∙ c.if-is_full.false) c.in-Ok.link c.in-Ok.ensures c.in-Ok-open.conn (a.1 ∙ ap (λ x. x.next) f.server)
    (record c.args.self.now { links = c.push_reserved.new.self; server = c.open.new.self }) (c.push_reserved.ensures.items ∙ ap (λ ls. ls ++ c.in-Ok.link ∷ []) c.reserve.ensures.items) (a.2 ∙ ap opened f.server)
