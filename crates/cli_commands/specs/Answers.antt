-- What the program's server puts out for the bytes that its first client sends, and how the session stands then: the whole of them,
-- however they came.
use Rattle.std.specs.Prelude.{◌≡◌, ℕ, List, []}
use Rattle.server_blocking.specs.declared.response.End.{End}
use Rattle.server_blocking.specs.Conversing.{Talk, conversation}
use Rattle.server_blocking.specs.Responding.{end_of}
use Rattle.cli_replay.specs.Running.{serving}

-- the conversation of the first connection over an empty ledger
abbrev pub talk_of : List ℕ → Talk
talk_of bytes = conversation serving 0 [] bytes

-- all that is put out, and the cause of the end, or the state where the bytes end first
abbrev pub Answers : List ℕ → List ℕ → End → Type 0
Answers bytes out last = (out ≡ (talk_of bytes).out) × (last ≡ end_of (talk_of bytes).kept)
