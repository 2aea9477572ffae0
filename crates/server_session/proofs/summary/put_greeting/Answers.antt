use Rattle.std.proofs.Common.{◌++◌, codes, refl, decimal}
use Rattle.packstream.specs.Prelude.{text, entry_then, no_entries, head, entries_of}
use Rattle.messages.specs.Prelude.{greeting}
use Rattle.server_session.proofs.Summed.{headed, entry_first, entry_last}
use Rattle.server_session.proofs.summary.put_greeting.Goals as goal

pub returns-clause-spelled : goal.returns-clause-spelled
unfolding head
returns-clause-spelled c =
    let id = text (codes "bolt-" ++ decimal c.args.conn) in
    headed 0x70 0xA2 (entries_of (greeting c.args.agent.now c.args.conn)) _ _ refl (rw c.requires.empty at c.in_ok-extend_from_slice.ensures.ok)
    (entry_first (codes "server") c.args.agent.now (entry_then (codes "connection_id") id no_entries) _ _ _ c.in_ok-put_entry.ensures.ok (entry_last (codes "connection_id") id _ _ c.in_ok-put_numbered.ensures.ok))
