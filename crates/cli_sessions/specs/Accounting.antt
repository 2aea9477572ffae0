-- The line of each request that a client at a shell sends.
use Rattle.std.specs.Prelude.{◌≡◌, ℕ, suc, true, List, [], ◌++◌, Option}
use Rattle.cli_sessions.specs.Words.{Appends, Version, Newest, offer_of, RequestView, Phase, kind_of, is_goodbye, Outcome, asking_bytes, AppendsFront, outcome_name}
use Rattle.cli_sessions.specs.Words.{phase_name, Gets, heard_line, lost_line}
use Rattle.cli_sessions.specs.ShellStreams.{Streams}

-- a text that has this line in it
abbrev pub Has : List ℕ → List ℕ → Type 0
Has line text = (before : List ℕ) × (after : List ℕ) × (text ≡ before ++ (line ++ after))

-- What became of a request with this ordinal: its summary is printed; or told on standard error, where standard output took no more; or it is
-- told as lost; or it is a GOODBYE, which has no answer.
pub data HasFate (n : ℕ) (q : RequestView) (printed told : List ℕ) : Type 0 where
  on_output : (phase : Phase) (outcome : Outcome)
      → Has (heard_line n (outcome_name outcome) (phase_name phase)) printed
      → HasFate n q printed told
  on_errors : (phase : Phase) (outcome : Outcome)
      → Has (heard_line n (outcome_name outcome) (phase_name phase)) told
      → HasFate n q printed told
  at_loss : (outcome : Outcome) → Has (lost_line (n, outcome)) told → HasFate n q printed told
  unanswered : is_goodbye (kind_of q) ≡ true → HasFate n q printed told

-- So many requests are among the bytes to be sent, behind the offer. Each has its line, `heard` or `lost`, with its ordinal from 0, on one of the
-- texts, each behind those before it; there is other text between.
pub data EachHasALine : ℕ → List ℕ → List ℕ → List ℕ → Type 0 where
  no_request : EachHasALine 0 (offer_of Newest) [] []
  a_request : {n : ℕ} {sent printed told : List ℕ} (v : Option Version) (q : RequestView)
      (out err : List ℕ) → EachHasALine n sent printed told → HasFate n q out err
      → EachHasALine (suc n) (sent ++ asking_bytes v q) (printed ++ out) (told ++ err)
  other_text : {n : ℕ} {sent printed told : List ℕ} (out err : List ℕ)
      → EachHasALine n sent printed told → EachHasALine n sent (printed ++ out) (told ++ err)

-- The server was sent these bytes or a beginning of them, and each request among them has its line in what was printed and told.
pub record Accounts (start now : Streams) : Type 0 where
  pub requests : ℕ
  pub sent : List ℕ
  pub printed : List ℕ
  pub told : List ℕ
  pub put : AppendsFront start.written now.written sent
  pub output : Appends start.printed now.printed printed
  pub errors : Gets start.deaf now.deaf start.told now.told told
  pub lines : EachHasALine requests sent printed told
