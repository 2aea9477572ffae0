-- What is printed of a world.
use Rattle.std.specs.Prelude.{ℕ, suc, List, [], ◌∷◌, ◌++◌, codes}
use Rattle.std.specs.List.{flat_map}
use Rattle.std.specs.Fmt.{decimal}
use Rattle.cli_output.specs.Names.{outcome_name, phase_name, state_name, cause_code}
use Rattle.cli_output.specs.Telling.{heard_line, lost_line, entry_line}
use Rattle.world.specs.Connections.{Connection}
use Rattle.world.specs.World.{World, ledger}
use Rattle.world.specs.Reports.{ReadSummary, summaries_told, outcomes_at_loss, waits, Standing, stands, has_ended, standing}

-- the line of a summary that a client read: ordinal, outcome and phase
abbrev pub read_line : ReadSummary → List ℕ
read_line x = heard_line x.ordinal (outcome_name x.outcome) (phase_name x.phase)

-- the line of a request that waits, by its ordinal
abbrev pub waits_line : ℕ → List ℕ
waits_line ordinal = codes "waits " ++ decimal ordinal ++ 10 ∷ []

-- the line of a session's state, or of the code of the cause by which it has ended
abbrev pub standing_line : Standing → List ℕ
standing_line (stands state) = codes "server " ++ state_name state ++ 10 ∷ []
standing_line (has_ended cause) = codes "server ended " ++ cause_code cause ++ 10 ∷ []

-- the line before all others of a connection: its number
abbrev pub conn_line : ℕ → List ℕ
conn_line c = codes "conn " ++ decimal c ++ 10 ∷ []

-- A connection: the summaries that its client read, the outcomes at its loss, the requests that wait, and where its session stands. Of
-- a foreign peer there are none of the first three.
abbrev pub connection_text : ℕ → Connection → List ℕ
connection_text c k = conn_line c ++ flat_map read_line (summaries_told k)
    ++ flat_map lost_line (outcomes_at_loss k) ++ flat_map waits_line (waits k)
    ++ standing_line (standing k)

-- connections, of which the first has this number
unfoldable pub connections_text : ℕ → List Connection → List ℕ
connections_text c [] = []
connections_text c (k ∷ ks) = connection_text c k ++ connections_text (suc c) ks

-- each connection in the order of opening, and then the ledger
abbrev pub report_text : World → List ℕ
report_text w = connections_text 0 w.conns ++ flat_map entry_line (ledger w)
