-- The lines that are printed: of what a client heard or lost, of a ledger, and of the end of a connection.
use Rattle.std.specs.Prelude.{◌≡◌, ℕ, Option, Some, None, Result, Ok, Err, List, [], ◌∷◌, ◌++◌, codes, length}
use Rattle.std.specs.Fmt.{decimal}
use Rattle.std.specs.List.{flat_map}
use Rattle.std.specs.Io.KnownBytes.{Appends}
use Rattle.hex.specs.Hex.{encode_lower}
use Rattle.packstream.specs.Canon.{canon}
use Rattle.packstream.specs.Tree.{Tree, list}
use Rattle.packstream.specs.View.{trees_of}
use Rattle.structures.specs.Form.{form}
use Rattle.wire.specs.declared.Version.{Version}
use Rattle.server_session.specs.declared.kinds.Cause.{Cause}
use Rattle.engine.specs.Views.{Token, EntryView}
use Rattle.messages.specs.View.{ResponseView, Success, Record, Ignored, Failure}
use Rattle.client.specs.declared.Outcome.{Outcome}
use Rattle.client.specs.Rest.{Note, Nothing, Chose, Row, Summary}
use Rattle.streams.specs.declared.fault.StreamFault.{StreamFault}
use Rattle.streams.specs.declared.fault.StreamFault.TheVariants.{ReadFailed, WriteFailed, Memory}
use Rattle.streams.specs.Fronts.{AppendsFront}
use Rattle.cli_output.specs.Escaping.{escaped}
use Rattle.cli_output.specs.Names.{cause_code, outcome_name, phase_name}

-- the shortest spelling, in hex, of what a cell is at a version
unfoldable pub spelled : Version → Tree → List ℕ
spelled v cell = encode_lower (canon (form v cell))

-- a row by the hex of the list of its cells
abbrev pub row_line : List ℕ → List ℕ
row_line hex = codes "row " ++ hex ++ 10 ∷ []

-- what is printed of a row at this version, by the shortest spelling of the list of its cells
abbrev pub row_text : Version → List Tree → List ℕ
row_text v cells = row_line (spelled v (list (trees_of cells)))

-- a summary: its request's ordinal, and the names of its outcome and of the phase that it leads to
abbrev pub heard_line : ℕ → List ℕ → List ℕ → List ℕ
heard_line ordinal outcome phase =
    codes "heard " ++ decimal ordinal ++ codes " " ++ outcome ++ codes " " ++ phase ++ 10 ∷ []

-- a failure by its code and its message, both escaped
abbrev pub fault_line : List ℕ → List ℕ → List ℕ
fault_line code message =
    codes "fault " ++ escaped code ++ codes " " ++ escaped message ++ 10 ∷ []

-- what is printed of a note
abbrev pub note_text : Version → Note → List ℕ
note_text v Nothing = []
note_text v (Chose o) = []
note_text v (Row cells) = row_text v cells
note_text v (Summary ordinal phase outcome said) =
    heard_line ordinal (outcome_name outcome) (phase_name phase)

-- what is printed of a failure beside it: its code and its message
abbrev pub failure_line : ResponseView → List ℕ
failure_line (Failure code message) = fault_line code message
failure_line (Success es) = []
failure_line (Record cells) = []
failure_line Ignored = []

-- a request that the client refuses: the number of its line, and the code
abbrev pub refused_line : ℕ → List ℕ → List ℕ
refused_line number code = codes "line " ++ decimal number ++ codes " " ++ code ++ 10 ∷ []

-- what became of a request that has no answer: its ordinal, and the outcome at the client's loss
abbrev pub lost_line : ℕ × Outcome → List ℕ
lost_line x = codes "lost " ++ decimal x.0 ++ codes " " ++ outcome_name x.1 ++ 10 ∷ []

-- what ends the line of an entry: its token in hex, if it has one
abbrev pub token_ending : Token → List ℕ
token_ending None = 10 ∷ []
token_ending (Some t) = codes " token " ++ encode_lower t ++ 10 ∷ []

-- the line of an entry of the ledger: its connection, its request's ordinal, how many writes it has, and its token
abbrev pub entry_line : EntryView → List ℕ
entry_line e = codes "entry " ++ decimal e.conn ++ codes " " ++ decimal e.ordinal ++ codes " "
    ++ decimal (length e.writes) ++ token_ending e.token

-- the lines of a ledger
abbrev pub entries_text : List EntryView → List ℕ
entries_text es = flat_map entry_line es

-- the line of a connection that has ended
abbrev pub conn_line : ℕ → Cause → List ℕ
conn_line conn cause = codes "conn " ++ decimal conn ++ codes " " ++ cause_code cause ++ 10 ∷ []

-- A line was put out whole; or there was no memory for it, or a beginning of it was taken.
abbrev pub PutsLine : List ℕ → Option (List ℕ) → Option (List ℕ) → Result (Unit {0}) StreamFault
    → Type 0
PutsLine line before after (Ok x) = Appends before after line
PutsLine line before after (Err Memory) = after ≡ before
PutsLine line before after (Err WriteFailed) = AppendsFront before after line
PutsLine line before after (Err ReadFailed) = ⊥
