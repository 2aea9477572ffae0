-- What is printed of notes, at a shell and at a loop.
use Rattle.std.specs.Prelude.{◌≡◌, ℕ, Option, Some, None, List, [], ◌∷◌, ◌++◌}
use Rattle.std.specs.List.{flat_map}
use Rattle.cli_sessions.specs.Words.{Tree, Version, Note, Nothing, Chose, Row, Summary, StreamFault, WriteFailed, Memory, outcome_name, phase_name, failure_line}
use Rattle.cli_sessions.specs.Words.{heard_line, note_text}

-- the version that rows are printed at: the one that was heard, once one was
abbrev pub version_after : Version → Note → Version
version_after v (Chose (Some w)) = w
version_after v _ = v

-- the version that rows are printed at after notes
abbrev pub versions_after : Version → List Note → Version
versions_after v [] = v
versions_after v (n ∷ ns) = versions_after (version_after v n) ns

-- texts of notes, one after the other, each at the version that was heard by then
abbrev pub texts_of : (Version → Note → List ℕ) → Version → List Note → List ℕ
texts_of text v [] = []
texts_of text v (n ∷ ns) =
    text (version_after v n) n ++ texts_of text (version_after v n) ns

-- what is printed of notes
abbrev pub notes_text : Version → List Note → List ℕ
notes_text = texts_of note_text

-- what is printed of a failure beside its summary; of another note nothing
abbrev pub failure_told : Note → List ℕ
failure_told Nothing = []
failure_told (Chose o) = []
failure_told (Row cells) = []
failure_told (Summary ordinal phase outcome said) = failure_line said

-- what is printed of a note at a shell: the line of a failure tells why
abbrev pub explained : Version → Note → List ℕ
explained v n = note_text v n ++ failure_told n

-- the line of a summary, and of nothing else
abbrev pub summary_line : Note → List ℕ
summary_line Nothing = []
summary_line (Chose o) = []
summary_line (Row cells) = []
summary_line (Summary ordinal phase outcome said) =
    heard_line ordinal (outcome_name outcome) (phase_name phase)

-- those of notes, in order
abbrev pub summaries_text : List Note → List ℕ
summaries_text notes = flat_map summary_line notes

-- a beginning of a text
abbrev pub IsFront : List ℕ → List ℕ → Type 0
IsFront front text = (rest : List ℕ) × (front ++ rest ≡ text)

-- What is printed of a note at a shell where a fault comes, and what is told of it on standard error then: no memory was left for a row; or its
-- line wasn't taken whole, and the line of a summary is told; or its line is printed, and a beginning of why it was refused.
pub data IsCut (v : Version) (n : Note) : StreamFault → List ℕ → List ℕ → Type 0 where
  unmade : (cells : List Tree) → n ≡ Row cells → IsCut v n Memory [] []
  in_line : (front : List ℕ) → IsFront front (note_text v n)
      → IsCut v n WriteFailed front (summary_line n)
  behind_line : (fault : StreamFault) (front : List ℕ) → IsFront front (failure_told n)
      → IsCut v n fault (note_text v n ++ front) []

-- Notes are printed, one after the other; or a fault comes at one: of it is printed what is cut so, and each summary behind it is told on
-- standard error.
pub data Prints : Version → Option StreamFault → List Note → List ℕ → List ℕ → Type 0 where
  prints_none : {v : Version} → Prints v None [] [] []
  prints_one : {v : Version} {fault : Option StreamFault} {n : Note} {rest : List Note}
      {printed told : List ℕ} → Prints (version_after v n) fault rest printed told
      → Prints v fault (n ∷ rest) (explained (version_after v n) n ++ printed) told
  cut_at : {v : Version} {fault : StreamFault} {n : Note} {rest : List Note} {part told : List ℕ}
      → IsCut (version_after v n) n fault part told
      → Prints v (Some fault) (n ∷ rest) part (told ++ summaries_text rest)
