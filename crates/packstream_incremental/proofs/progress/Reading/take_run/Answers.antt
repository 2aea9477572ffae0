use Rattle.std.proofs.Common.{◌++◌, ℕ, List, [], ap, subst, ◌∙◌}
use Rattle.std.proofs.lemmas.List.{append-nil}
use Rattle.packstream_incremental.specs.declared.open.Open.{Open}
use Rattle.packstream_incremental.specs.Prelude.{Holds, holds, with_item, HasTaken}
use Rattle.packstream_incremental.proofs.Standing.{after, has_taken}
use Rattle.packstream_incremental.proofs.Taking.{stored, stored_is, tiny_stands}
use Rattle.packstream_incremental.proofs.progress.Reading.take_run.Goals as goal

pub returns-clause-taken : goal.returns-clause-taken
returns-clause-taken c =
    let h : Holds = holds c.args.self.now in
    let o : Open = c.pass.new.self in
    let run = c.args.run.now in
    let stands = tiny_stands h o run c.requires.goes c.requires.tiny c.requires.room.deep (c.pass.ensures.is_whole ∙ c.requires.room.unread) c.pass.ensures.frames in
    let same = c.end_here.ensures.item ∙ ap with_item (stored_is (after o h) c.extend.new.self.bytes run c.extend.new.self.names c.in_ok-extend.ensures.ok c.in_ok-extend.ensures.keys) in
    subst (λ (b : List ℕ). HasTaken b (holds c.end_here.new.self) []) (append-nil (h.store ++ run)) (has_taken (stored run h) _ o [] same c.requires.good stands)
