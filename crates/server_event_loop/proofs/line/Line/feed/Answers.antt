use Rattle.std.proofs.Common.{◌≡◌, ◌∙◌, ◌+◌, ◌≤◌, refl, sym, ap, subst, take, drop, length, List, ℕ, Some}
use Rattle.server.specs.Prelude.{rest_of, feed_at}
use Rattle.server_event_loop.specs.ConnectionPrelude.{held_of}
use Rattle.server_event_loop.proofs.Moved.{moves_kept, moves_fed}
use Rattle.server_event_loop.proofs.Carried.{left_of}
use Rattle.server_event_loop.proofs.line.Line.feed.Goals as goal

pub returns-then-self : goal.returns-then-self
returns-then-self g c = λ w. moves_kept g.E.Engine.answer g.G.Gate.welcomes 1 _ _ _ w refl

pub returns-in_default : goal.returns-in_default
returns-in_default g c = λ w. moves_kept g.E.Engine.answer g.G.Gate.welcomes 1 _ _ _ w c.in_default.ensures.refused

pub returns-then-took-eq0 : goal.returns-then-took-eq0
returns-then-took-eq0 g c =
    let a = c.args.self.now in
    let x = held_of a in
    let e : c.split_at-2.result.1.now ≡ x.unfed = c.split_at-2.ensures.back ∙ ap (drop a.fed) (c.split_at.ensures.front ∙ ap (take a.read) c.as_slice.ensures.value) in
    let f : a.read ≤ a.piece.len = a.filled in
    let m : a.read ≤ length a.piece.items = subst (λ n. a.read ≤ n) (sym c.as_slice.ensures.len ∙ ap length c.as_slice.ensures.value) f in
    let left : drop (a.fed + c.min.result) (take a.read a.piece.items) ≡ drop c.in-Ok.took.used x.unfed = ap (λ n. drop (a.fed + n) (take a.read a.piece.items)) c.min.ensures ∙ left_of a.fed c.in-Ok.took.used a.read a.piece.items a.used m in
    λ w. moves_fed g.E.Engine.answer g.G.Gate.welcomes _ _ x _ c.in-Ok.took w (subst (λ (p : List ℕ). feed_at a.conn p (rest_of g.E.Engine.entries c.args.server.now) ≡ Some (c.in-Ok.took, rest_of g.E.Engine.entries c.feed.new.self)) e c.in-Ok.ensures.done) refl left refl

pub returns : goal.returns
returns g c =
    let a = c.args.self.now in
    let x = held_of a in
    let e : c.split_at-2.result.1.now ≡ x.unfed = c.split_at-2.ensures.back ∙ ap (drop a.fed) (c.split_at.ensures.front ∙ ap (take a.read) c.as_slice.ensures.value) in
    let f : a.read ≤ a.piece.len = a.filled in
    let m : a.read ≤ length a.piece.items = subst (λ n. a.read ≤ n) (sym c.as_slice.ensures.len ∙ ap length c.as_slice.ensures.value) f in
    let left : drop (a.fed + c.min.result) (take a.read a.piece.items) ≡ drop c.in-Ok.took.used x.unfed = ap (λ n. drop (a.fed + n) (take a.read a.piece.items)) c.min.ensures ∙ left_of a.fed c.in-Ok.took.used a.read a.piece.items a.used m in
    λ w. moves_fed g.E.Engine.answer g.G.Gate.welcomes _ _ x _ c.in-Ok.took w (subst (λ (p : List ℕ). feed_at a.conn p (rest_of g.E.Engine.entries c.args.server.now) ≡ Some (c.in-Ok.took, rest_of g.E.Engine.entries c.feed.new.self)) e c.in-Ok.ensures.done) refl left refl
