-- What is said of a script.
use Rattle.std.specs.Prelude.{◌≡◌, ◌⊎◌, ℕ, Bool, true, false, List, [], ◌∷◌, ◌++◌, codes, Option, Some, None, option_map, string_bytes}
use Rattle.std.specs.Fmt.{decimal}
use Rattle.std.specs.Io.KnownBytes.{Consumes, IsAtEnd}
use Rattle.cli_scripts.specs.Rows.{line_of}
use Rattle.cli_scripts.specs.Script.{filled_lines, lines_read, unreadable}
use Rattle.world.specs.World.{World, empty}
use Rattle.cli_replay.specs.declared.script.Replayed.{Replayed}
use Rattle.cli_replay.specs.Running.{serving, Runs}
use Rattle.cli_replay.specs.Texts.{report_text}

-- on standard output and standard error, with this status
pub record Says (put told : List ℕ) (ends : ℕ) (r : Replayed) : Type 0 where
  pub out : string_bytes r.out ≡ put
  pub err : string_bytes r.err ≡ told
  pub status : r.status ≡ ends

-- what is told of a line that can't be read: its number, from 1, and then what is expected there
abbrev pub unreadable_line : ℕ → List ℕ
unreadable_line n = codes "line " ++ decimal n
    ++ codes " unreadable\nexpected open newest, open 4.4, open 5.0, open 5.1, open foreign, submit K REQUEST, server K BYTES, client K BYTES, work K [all], noop K, cut K, clientlost K, serverlost K or foreign K HEX; BYTES is a number or all; REQUEST is hello, logon [bad], logoff, goodbye, reset, run TEXT HEX [r] [token T], begin [r] [token T], commit, rollback, discard N or pull N\n"

-- the first line that can't be read has this number
abbrev pub StopsAt : List ℕ → ℕ → Type 0
StopsAt b n = option_map (λ l. l.0) (unreadable line_of (filled_lines b)) ≡ Some n

-- all lines can be read, and this is said of what they do to a world without connections
pub record Reports (b : List ℕ) (r : Replayed) : Type 0 where
  pub readable : unreadable line_of (filled_lines b) ≡ None
  pub text : List ℕ
  pub after : World
  pub runs : Runs serving (empty []) (lines_read line_of (filled_lines b)) text after
  pub says : Says (text ++ report_text after) [] 0 r

-- The first line that can't be read is told, and nothing else; or else what is noted of the lines, and then the report.
abbrev pub SaysScript : List ℕ → Replayed → Type 0
SaysScript b r = ((n : ℕ) × StopsAt b n × Says [] (unreadable_line n) 2 r) ⊎ Reports b r

-- All the bytes of a source were read, and this is said of them.
pub record SaysAll (before after : Option (List ℕ)) (r : Replayed) : Type 0 where
  pub bytes : List ℕ
  pub input : Consumes before after bytes
  pub at_end : IsAtEnd after
  pub says : SaysScript bytes r

-- What is said of a source, which had these bytes before and has those now, by whether it has failed.
abbrev pub SaysSource : Bool → Option (List ℕ) → Option (List ℕ) → Replayed → Type 0
SaysSource true before after r = Says [] (codes "fault I1" ++ 10 ∷ []) 1 r
SaysSource false before after r = SaysAll before after r

-- Bytes have one output, one standard error and one status.
abbrev pub SaysOneThing : Type 0
SaysOneThing = (b : List ℕ) (r s : Replayed) → SaysScript b r → SaysScript b s
    → Says (string_bytes s.out) (string_bytes s.err) s.status r
