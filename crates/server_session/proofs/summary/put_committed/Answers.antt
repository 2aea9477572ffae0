use Rattle.std.proofs.Common.{◌∷◌, [], refl, sym}
use Rattle.std.proofs.lemmas.List.{append-nil}
use Rattle.std.proofs.lemmas.Result.{on_ok_weaker}
use Rattle.packstream.specs.Prelude.{head, entries_of}
use Rattle.messages.specs.Prelude.{bookmark}
use Rattle.server_session.proofs.Summed.{headed, bookmarked}
use Rattle.server_session.proofs.summary.put_committed.Goals as goal

pub returns-clause-spelled : goal.returns-clause-spelled
unfolding head
returns-clause-spelled c = on_ok_weaker c.put_bookmark.result (λ e. headed 0x70 0xA1 (entries_of (bookmark c.args.place)) (0 ∷ 0 ∷ 0xB1 ∷ 0x70 ∷ 0xA1 ∷ []) _ refl refl (bookmarked 0xA1 _ [] _ _ _ _ c.requires c.in_ok-extend_from_slice.ensures.ok e (sym (append-nil _)))) c.put_bookmark.ensures.ok
