use Rattle.std.proofs.Common.{◌≡◌, ◌∙◌, ◌++◌, [], ℕ, List, arith, refl, sym, ap, take, drop, length, length-drop, length-take}
use Rattle.std.proofs.lemmas.List.{nil_from_length}
use lib.Seq.{take-append_seam}
use Rattle.server_event_loop.specs.ConnectionPrelude.{held_of, got_count}
use Rattle.server_event_loop.proofs.Carried.{carries_none, carries_heard}
use Rattle.server_event_loop.proofs.line.Line.hear.Goals as goal

pub returns-then-self : goal.returns-then-self
returns-then-self g c = carries_none (held_of c.args.self.now) (g.P.Peers.wire c.args.peers.now)

pub returns : goal.returns
returns g c =
    let a = c.args.self.now in
    let x = held_of a in
    let none : x.unfed ≡ [] = nil_from_length x.unfed (omega (arith, c.if-self.false, length-drop a.fed (take a.read a.piece.items), length-take a.read a.piece.items)) in
    let buf : List ℕ = c.read-got.new.buffer in
    let n : ℕ = c.count_of-self.result in
    let rest : List ℕ = drop (length buf) a.piece.items in
    let long : length buf ≡ a.piece.len = omega (arith, c.read-got.auto.buffer, c.as_mut_slice.ensures.len) in
    let front : take a.piece.len (buf ++ rest) ≡ buf = ap (λ (k : ℕ). take k (buf ++ rest)) (sym long) ∙ take-append_seam buf rest in
    let left : drop 0 (take n (take a.piece.len (buf ++ rest))) ≡ take (got_count c.read-got.result) buf = ap (λ (l : List ℕ). take n l) front ∙ ap (λ (k : ℕ). take k buf) c.count_of-self.ensures in
    carries_heard x _ (g.P.Peers.wire c.args.peers.now) (g.P.Peers.wire c.read-got.new.self) _ refl c.read-got.ensures.others buf none refl left c.read-got.ensures.hears
