-- What the words of a line say, a row for each form.
use Rattle.std.specs.Prelude.{ℕ, if◌then◌else◌, ◌&&◌, List, [], ◌∷◌, Option, Some, None, codes}
use Rattle.std.specs.Option.{option_map, option_and_then}
use Rattle.std.specs.Str.{bytes_eq}
use Rattle.wire.specs.declared.Version.TheVariants.{V44, V50, V51}
use Rattle.wire.specs.declared.offers.Wish.TheVariants.{Newest, Only}
use Rattle.messages.specs.declared.request.Mode.{Mode}
use Rattle.messages.specs.declared.request.Mode.TheVariants.{Read, Write}
use Rattle.cli_scripts.specs.declared.line.Peer.{Peer}
use Rattle.cli_scripts.specs.declared.line.Peer.TheVariants as peer
use Rattle.cli_scripts.specs.declared.line.Amount.{Amount}
use Rattle.cli_scripts.specs.declared.line.Amount.TheVariants as amount
use Rattle.cli_scripts.specs.declared.line.Times.TheVariants as times
use Rattle.cli_scripts.specs.Views.{Text, ScriptRequestView, Hello, Logon, LogonBad, Logoff, Goodbye, Reset, Run, Begin, Commit, Rollback, Discard, Pull, LineView, Open, Submit, ToServer, ToClient, Work, Noop, Cut, ClientLost, ServerLost, Foreign}
use Rattle.cli_scripts.specs.Words.{words_of, number_of, whole_of, count_of, bytes_of}
use Rattle.cli_scripts.specs.Params.{params_of}

-- Requests of one word.
abbrev pub of_one : Text → Option ScriptRequestView
of_one name =
    if bytes_eq name (codes "hello") then Some Hello
    else (if bytes_eq name (codes "logon") then Some Logon
    else (if bytes_eq name (codes "logoff") then Some Logoff
    else (if bytes_eq name (codes "goodbye") then Some Goodbye
    else (if bytes_eq name (codes "reset") then Some Reset
    else (if bytes_eq name (codes "commit") then Some Commit
    else (if bytes_eq name (codes "rollback") then Some Rollback
    else None))))))

-- Requests of two words.
abbrev pub of_two : Text → Text → Option ScriptRequestView
of_two name word =
    if bytes_eq name (codes "logon") then
    (if bytes_eq word (codes "bad") then Some LogonBad else None)
    else (if bytes_eq name (codes "discard") then
    option_map (λ z. Discard (count_of z)) (whole_of word)
    else (if bytes_eq name (codes "pull") then option_map (λ z. Pull (count_of z)) (whole_of word)
    else None))

-- what ends a `begin` and a `run`: `r` or nothing, and then `token T` or nothing
abbrev pub ending_of : List Text → Option (Mode × Option Text)
ending_of [] = Some (Write, None)
ending_of (word ∷ []) = if bytes_eq word (codes "r") then Some (Read, None) else None
ending_of (word ∷ token ∷ []) =
    if bytes_eq word (codes "token") then Some (Write, Some token) else None
ending_of (mode ∷ word ∷ token ∷ []) =
    if bytes_eq mode (codes "r") && bytes_eq word (codes "token") then Some (Read, Some token)
    else None
ending_of (mode ∷ word ∷ token ∷ more ∷ rest) = None

-- a run of a text with the parameters in hex
abbrev pub run_of : List Text → Option ScriptRequestView
run_of (text ∷ hex ∷ rest) =
    option_and_then (λ e. option_map (λ ps. Run text ps e.0 e.1)
    (option_and_then params_of (bytes_of hex))) (ending_of rest)
run_of words = None

-- requests of one word or two
abbrev pub of_words : Text → List Text → Option ScriptRequestView
of_words name [] = of_one name
of_words name (word ∷ []) = of_two name word
of_words name (word ∷ more ∷ rest) = None

-- Requests.
abbrev pub request_of : List Text → Option ScriptRequestView
request_of [] = None
request_of (name ∷ words) =
    if bytes_eq name (codes "begin") then option_map (λ e. Begin e.0 e.1) (ending_of words)
    else (if bytes_eq name (codes "run") then run_of words else of_words name words)

-- the peer of a word: a client of ours for `newest`, `4.4`, `5.0` and `5.1`, or a foreign one
abbrev pub peer_of : Text → Option Peer
peer_of word =
    if bytes_eq word (codes "newest") then Some (peer.Ours Newest)
    else (if bytes_eq word (codes "4.4") then Some (peer.Ours (Only V44))
    else (if bytes_eq word (codes "5.0") then Some (peer.Ours (Only V50))
    else (if bytes_eq word (codes "5.1") then Some (peer.Ours (Only V51))
    else (if bytes_eq word (codes "foreign") then Some peer.Foreign
    else None))))

-- how many bytes move, by a word: `all`, or at most so many
abbrev pub amount_of : Text → Option Amount
amount_of word = if bytes_eq word (codes "all") then Some amount.All
    else option_map (λ n. amount.Bytes n) (number_of word)

-- Events that need a connection alone.
abbrev pub at_one : Text → ℕ → Option LineView
at_one name k =
    if bytes_eq name (codes "work") then Some (Work k times.Once)
    else (if bytes_eq name (codes "noop") then Some (Noop k)
    else (if bytes_eq name (codes "cut") then Some (Cut k)
    else (if bytes_eq name (codes "clientlost") then Some (ClientLost k)
    else (if bytes_eq name (codes "serverlost") then Some (ServerLost k)
    else None))))

-- Events of a connection and one word more.
abbrev pub at_two : Text → ℕ → Text → Option LineView
at_two name k word =
    if bytes_eq name (codes "server") then option_map (ToServer k) (amount_of word)
    else (if bytes_eq name (codes "client") then option_map (ToClient k) (amount_of word)
    else (if bytes_eq name (codes "work") then
    (if bytes_eq word (codes "all") then Some (Work k times.All) else None)
    else (if bytes_eq name (codes "foreign") then option_map (Foreign k) (bytes_of word)
    else None)))

-- Events of a connection and words after it.
abbrev pub at_more : Text → List Text → ℕ → Option LineView
at_more name [] k = at_one name k
at_more name (word ∷ []) k = at_two name k word
at_more name (word ∷ more ∷ rest) k = None

-- An opening.
abbrev pub opening_line : List Text → Text → Option LineView
opening_line [] word = option_map (λ p. Open p) (peer_of word)
opening_line (more ∷ rest) word = None

-- The events of a script.
abbrev pub event_of : List Text → Option LineView
event_of [] = None
event_of (name ∷ []) = None
event_of (name ∷ word ∷ rest) =
    if bytes_eq name (codes "open") then opening_line rest word
    else (if bytes_eq name (codes "submit") then
    option_and_then (λ k. option_map (Submit k) (request_of rest)) (number_of word)
    else option_and_then (at_more name rest) (number_of word))

-- a line as an event
abbrev pub line_of : Text → Option LineView
line_of b = option_and_then event_of (words_of b)

-- a line as a request
abbrev pub request_line_of : Text → Option ScriptRequestView
request_line_of b = option_and_then request_of (words_of b)
