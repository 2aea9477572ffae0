use Rattle.messages.proofs.Words.{◌≡◌, take, entries}
use Rattle.messages.proofs.request.copy_cells.Given as goal

abbrev pub invariant-loop-name : goal.invariant-loop-name
invariant-loop-name l = entries l.copies.items ≡ entries (take l.name-index l.name-items)
