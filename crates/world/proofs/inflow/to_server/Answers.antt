use Rattle.std.proofs.Common.{refl, sym, ◌∙◌, ap, subst, drop, Ok, Some, length, ◌-◌, take, List, ℕ}
use Rattle.server_session.specs.declared.What.{What}
use Rattle.server.specs.Serving as serving
use Rattle.world.proofs.Answered as answered
use Rattle.server.specs.Views as server
use Rattle.server.proofs.Known.{done}
use Rattle.client.specs.Rest as asking
use Rattle.world.specs.declared.link.End.TheVariants as end
use Rattle.world.specs.Prelude.{ToServer, Fed, IsWrong, end_peer, flow_of}
use Rattle.world.proofs.Holding.{held_client, up_changed}
use Rattle.world.proofs.Turning.{wrong, looked}
use Rattle.world.proofs.Turned.{server_over, server_cut, server_lacks, server_done}
use Rattle.world.proofs.inflow.to_server.Goals as goal

pub returns-in_default : goal.returns-in_default
returns-in_default g c = λ r w b. wrong b (λ h. h) (subst (λ z. IsWrong (ToServer c.args.conn c.args.max) (end_peer z)) (sym c.in_default.is) tt) c.args.link.now b.client refl b.ends

pub returns-in-Some : goal.returns-in-Some
returns-in-Some g c = λ r w b. looked b _ c.in-Ours.is (Ok (Fed 0 What.Closed)) (server_over b (ap end_peer c.in-Ours.is) c.in-Some.field-0 c.in-Some.is)

pub returns-then-link : goal.returns-then-link
returns-then-link g c = λ r w b. looked b _ c.in-Ours.is (Ok (Fed 0 What.Part)) (server_cut b (ap end_peer c.in-Ours.is) c.in_default-gone.is c.if-link.true)

pub returns-in_default-draw_up : goal.returns-in_default-draw_up
returns-in_default-draw_up g c = λ r w b.
    let o = c.in-Ours in let y = held_client c.args.link.now o.is b.client b.ends in
    let d = c.in_default-draw_up.ensures.err y.0 y.2 in
    server_lacks b (ap end_peer o.is) y.0 y.1 d.0 (record c.args.link.now { end = end.Ours o.wish c.draw_up.new.client o.lost; up = c.draw_up.new.up }) c.args.server.now
    (up_changed c.args.link.now o.is b.client (Some (asking.taken_out y.0 d.0)) c.draw_up.new.client c.draw_up.new.up _ d.2) d.1 b.server

pub returns-in_default-feed : goal.returns-in_default-feed
returns-in_default-feed g c = λ r w b.
    let o = c.in-Ours in let y = held_client c.args.link.now o.is b.client b.ends in
    let d = c.in-Ok.ensures.ok y.0 y.2 in let j = c.args.max - length (flow_of c.args.link.now.up) in
    server_lacks b (ap end_peer o.is) y.0 y.1 j (record c.args.link.now { end = end.Ours o.wish c.draw_up.new.client o.lost; up = c.draw_up.new.up }) c.feed.new.self
    (up_changed c.args.link.now o.is b.client (Some (asking.taken_out y.0 j)) c.draw_up.new.client c.draw_up.new.up _ d.1) d.0 (c.in_default-feed.ensures.refused ∙ b.server)

pub returns : goal.returns
returns g c = λ r w b.
    let o = c.in-Ours in let y = held_client c.args.link.now o.is b.client b.ends in
    let d = c.in-Ok.ensures.ok y.0 y.2 in let j = c.args.max - length (flow_of c.args.link.now.up) in
    let took = c.in-Ok-feed.took in
    let Fed_ : List ℕ → Type 0 = λ p. answered.Answers (Ok took) (serving.feed_at c.args.conn p r.server) r.server (server.Fits g.E.Engine.entries c.feed.new.self) in
    server_done b (ap end_peer o.is) y.0 y.1 (record c.args.link.now { end = end.Ours o.wish c.draw_up.new.client o.lost; up = c.advance.new.self }) c.feed.new.self took c.in_default-gone.is c.if-link.false
    (up_changed c.args.link.now o.is b.client (Some (asking.taken_out y.0 j)) c.draw_up.new.client c.advance.new.self _ (c.advance.ensures ∙ ap (drop took.used) d.1)) d.0
    (subst Fed_ (c.front.ensures ∙ ap (take c.args.max) d.1) (done (serving.feed_at c.args.conn _) _ _ _ c.in-Ok-feed.ensures.done r.server b.server))
