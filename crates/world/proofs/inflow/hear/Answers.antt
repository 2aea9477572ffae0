use Rattle.std.proofs.Common.{◌≡◌, sym, ◌∙◌, ap, subst, refl, map, ◌++◌, [], Ok, Err, Some, take, List, ℕ}
use Rattle.client.specs.declared.Heard.{Heard}
use Rattle.client.specs.Fits as client
use Rattle.client.specs.Prelude.{tellings, note}
use Rattle.client.specs.Rest as asking
use Rattle.world.specs.declared.link.End.TheVariants as end
use Rattle.world.specs.Prelude.{Gave, read_after, FitsEnd, flow_of, read_of}
use Rattle.world.proofs.Holding.{held_client, down_changed, unless}
use Rattle.world.proofs.Turning.{looked}
use Rattle.world.proofs.Given.{given_over, given_lacks, given_draws, given_done, given_fails}
use Rattle.world.proofs.inflow.hear.Goals as goal

pub returns-then-has_ended : goal.returns-then-has_ended
returns-then-has_ended g c = λ r w b.
    let y = held_client c.args.link.now c.in-Ours.is b.client b.ends in
    looked b _ c.in-Ours.is (Ok (Gave 0 (Ok asking.Nothing))) (given_over b y.1 (sym c.has_ended.ensures ∙ c.if-has_ended.true))

pub returns-then-is_err : goal.returns-then-is_err
returns-then-is_err g c = λ r w b.
    let o = c.in-Ours in let y = held_client c.args.link.now o.is b.client b.ends in
    given_lacks b y.1 (record c.args.link.now { end = end.Ours o.wish o.client o.lost; read = c.reserve.new.self }) c.args.server.now
    (down_changed c.args.link.now o.is b.client b.client o.client c.args.link.now.down c.reserve.new.self _ _ refl (ap (λ z. map read_of z) c.reserve.ensures.items))
    (subst (FitsEnd (end.Ours o.wish o.client o.lost)) (sym y.1) y.2) b.server

pub returns-in_default-draw_down : goal.returns-in_default-draw_down
returns-in_default-draw_down g c = λ r w b.
    let o = c.in-Ours in let y = held_client c.args.link.now o.is b.client b.ends in
    given_draws b y.1 (sym c.has_ended.ensures ∙ c.if-has_ended.false) c.requires.joined c.args.link.now.gone refl _ (flow_of c.draw_down.new.down)
    (record c.args.link.now { end = end.Ours o.wish o.client o.lost; down = c.draw_down.new.down; read = c.reserve.new.self }) c.draw_down.new.server (c.in_default-draw_down.ensures.draws r.server b.server)
    (down_changed c.args.link.now o.is b.client b.client o.client c.draw_down.new.down c.reserve.new.self _ _ refl (ap (λ z. map read_of z) c.reserve.ensures.items))
    (subst (FitsEnd (end.Ours o.wish o.client o.lost)) (sym y.1) y.2)

pub returns-in_default-feed : goal.returns-in_default-feed
returns-in_default-feed g c = λ r w b.
    let o = c.in-Ours in let y = held_client c.args.link.now o.is b.client b.ends in
    let e = c.in_default-feed in
    given_fails b y.1 (sym c.has_ended.ensures ∙ c.if-has_ended.false) c.requires.joined c.args.link.now.gone refl (flow_of c.draw_down.new.down) c.draw_down.new.server
    (c.in-Ok.ensures.draws r.server b.server) e.field-0 (record c.args.link.now { end = end.Ours o.wish c.feed.new.self o.lost; down = c.draw_down.new.down; read = c.reserve.new.self })
    (λ differs. ap (λ z. (asking.feed_of y.0 z).answer) (sym c.front.ensures) ∙ sym (unless (ℕ × Heard) e.field-0 _ e.ensures.told differs).0)
    (down_changed c.args.link.now o.is b.client b.client c.feed.new.self c.draw_down.new.down c.reserve.new.self _ _ refl (ap (λ z. map read_of z) c.reserve.ensures.items))
    (λ is. subst (FitsEnd (end.Ours o.wish c.feed.new.self o.lost)) (sym y.1) (e.ensures.memory (ap (λ z. Err z) is)).0)

pub returns : goal.returns
returns g c = λ r w b.
    let o = c.in-Ours in let y = held_client c.args.link.now o.is b.client b.ends in
    let e = c.in-Ok-feed in let bytes = flow_of c.draw_down.new.down in
    let Told : List ℕ → Type 0 = λ z. (Ok (e.used, note e.heard) ≡ (asking.feed_of y.0 z).answer) × client.Fits c.feed.new.self (asking.feed_of y.0 z).rest in
    let told = subst Told c.front.ensures e.ensures.told in
    given_done b y.1 (sym c.has_ended.ensures ∙ c.if-has_ended.false) c.requires.joined c.args.link.now.gone refl bytes c.draw_down.new.server (c.in-Ok.ensures.draws r.server b.server) e.used (note e.heard)
    (record c.args.link.now { end = end.Ours o.wish c.feed.new.self o.lost; down = c.advance.new.self; read = c.note_heard.new.read }) told.0
    (down_changed c.args.link.now o.is b.client (Some (asking.feed_of y.0 (take c.args.max bytes)).rest) c.feed.new.self c.advance.new.self c.note_heard.new.read _ _ c.advance.ensures
    (c.note_heard.ensures ∙ ap (λ z. map read_of z ++ read_after (tellings (note e.heard)) []) c.reserve.ensures.items)) told.1
