use Rattle.std.proofs.Common.{◌∷◌, [], ◌++◌, refl, Some}
use Rattle.std.proofs.lemmas.Result.{on_ok_weaker}
use Rattle.packstream.specs.Prelude.{head, entries_of}
use Rattle.messages.specs.Prelude.{bookmark_of, ending}
use Rattle.server_session.proofs.Summed.{headed, bookmarked}
use Rattle.server_session.proofs.summary.put_last_at.Goals as goal

pub returns-clause-spelled : goal.returns-clause-spelled
unfolding head
returns-clause-spelled c = on_ok_weaker c.extend_from_slice-2.result (λ e. headed 0x70 0xA3 (entries_of (bookmark_of (Some c.args.place) ++ ending c.args.mode)) (0 ∷ 0 ∷ 0xB1 ∷ 0x70 ∷ 0xA3 ∷ []) _ refl refl (bookmarked 0xA3 _ _ _ _ _ _ c.requires c.in_ok-extend_from_slice.ensures.ok c.in_ok-put_bookmark.ensures.ok (rw c.ending_of.ensures at e))) c.extend_from_slice-2.ensures.ok
