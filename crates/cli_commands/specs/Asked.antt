-- Which command the words are, or which of them is wrong and what is wanted there.
use Rattle.std.specs.Prelude.{◌≡◌, ◌==◌, ◌||◌, nat_lt, ℕ, Bool, true, false, if◌then◌else◌, List, [], ◌∷◌, Option, Some, None, Result, Ok, Err, option_map, drop, codes}
use Rattle.std.specs.List.{list_any}
use Rattle.std.specs.Option.{option_and_then}
use Rattle.std.specs.Str.{bytes_eq}
use Rattle.cli_scripts.specs.Words.{number_of}
use Rattle.wire.specs.declared.Version.{Version}
use Rattle.wire.specs.declared.Version.TheVariants.{V44, V50, V51}
use Rattle.cli_commands.specs.declared.arguments.Wanted.{Wanted}
use Rattle.cli_commands.specs.declared.arguments.Wanted.TheVariants as want
use Rattle.cli_commands.specs.declared.arguments.Wrong.{Wrong}
use Rattle.cli_commands.specs.declared.words.CommandLine.{CommandLine}
use Rattle.cli_commands.specs.declared.words.CommandLine.TheVariants as line

-- the bytes of a text
abbrev pub Text : Type 0
Text = List ℕ

-- What words ask for: the answer to a text, a check of a text at a version, the replay of a file, the test vectors, a loop over a file's
-- lines, a server of so many connections at a port, or a shell with a host's port. A loop, a server and a shell are `main`'s own: they
-- speak to a socket.
pub data Ask : Type 0 where
  ToAnswer : Text → Ask
  ToCheck : Version → Text → Ask
  ToReplay : Text → Ask
  ToPass : Ask
  ToLoop : Text → Ask
  ToServe : ℕ → ℕ → Ask
  ToShell : Text → ℕ → Ask

-- the first word that makes words no command: its number, of which 1 is the command's name, the word, if it is there, and what is wanted
pub record WrongWord : Type 0 where
  pub number : ℕ
  pub word : Option Text
  pub wanted : Wanted

-- there is no word of this number, if this is wanted
abbrev pub missing_at : ℕ → Wanted → WrongWord
missing_at n x = record { number = n; word = None; wanted = x }

-- the word of this number isn't what is wanted
abbrev pub wrong_at : ℕ → Wanted → Text → WrongWord
wrong_at n x word = record { number = n; word = Some word; wanted = x }

-- the version of a word
abbrev pub version_at : Text → Option Version
version_at word = if bytes_eq word (codes "4.4") then Some V44
    else (if bytes_eq word (codes "5.0") then Some V50
    else (if bytes_eq word (codes "5.1") then Some V51 else None))

-- a number as a port: 1 to 65,535
abbrev pub port_in : ℕ → Option ℕ
port_in n = if n == 0 || nat_lt 65535 n then None else Some n

-- the port that a word says in decimal: 1 to 65,535
abbrev pub port_at : Text → Option ℕ
port_at word = option_and_then port_in (number_of word)

-- a number as a count of connections: 0 to 1,000,000
abbrev pub count_in : ℕ → Option ℕ
count_in n = if nat_lt 1000000 n then None else Some n

-- the count of connections that a word says in decimal: 0 to 1,000,000
abbrev pub count_at : Text → Option ℕ
count_at word = option_and_then count_in (number_of word)

-- a hyphen and more
abbrev pub is_flag : Text → Bool
is_flag (x ∷ y ∷ rest) = x == 45
is_flag _ = false

-- a word after the program's name is a flag
abbrev pub has_flag : List Text → Bool
has_flag words = list_any is_flag (drop 1 words)

-- a word that is no flag
abbrev pub plain_at : Text → Option Text
plain_at word = if is_flag word then None else Some word

-- words that were read: what the first says, and the words after it; or which is wrong
abbrev pub Reading : Type 0 → Type 0
Reading A = Result (A × List Text) WrongWord

-- a word of this number, by what it says, and the words after it; it is wrong where it says nothing
abbrev pub said_at : {A : Type 0} → ℕ → Wanted → Text → List Text → Option A → Reading A
said_at n x word rest (Some a) = Ok (a, rest)
said_at n x word rest None = Err (wrong_at n x word)

-- the first of the words, which has this number, by what a word says; it is wrong if it isn't there, or says nothing
abbrev pub word_at : {A : Type 0} → (Text → Option A) → ℕ → Wanted → List Text → Reading A
word_at says n x [] = Err (missing_at n x)
word_at says n x (word ∷ rest) = said_at n x word rest (says word)

-- a word that is no flag, first of these from a number on
unfoldable pub plain_word : ℕ → Wanted → List Text → Reading Text
plain_word n x words = word_at plain_at n x words

-- a version, first of these words from a number on
unfoldable pub version_word : ℕ → List Text → Reading Version
version_word n words = word_at version_at n want.Version words

-- a port, first of these words from a number on
unfoldable pub port_word : ℕ → List Text → Reading ℕ
port_word n words = word_at port_at n want.Port words

-- a count of connections, first of these words from a number on
unfoldable pub count_word : ℕ → List Text → Reading ℕ
count_word n words = word_at count_at n want.Count words

-- no more words from a number on
abbrev pub ends_at : ℕ → List Text → Result (Unit {0}) WrongWord
ends_at n [] = Ok tt
ends_at n (word ∷ rest) = Err (wrong_at n want.NoMore word)

infixl 10 ◌>>=◌
-- what a function makes of what was read; a wrong word is handed on
abbrev pub ◌>>=◌ : {A B : Type 0} → Result A WrongWord → (A → Result B WrongWord) → Result B WrongWord
(Ok x) >>= f = f x
(Err w) >>= f = Err w

-- the words after `answer`: bytes in hex
abbrev pub asked_answer : List Text → Result Ask WrongWord
asked_answer words = plain_word 2 want.Hex words >>= λ hex. ends_at 3 hex.1 >>= λ end.
    Ok (ToAnswer hex.0)

-- the words after `check`: a version, and bytes in hex
abbrev pub asked_check : List Text → Result Ask WrongWord
asked_check words = version_word 2 words >>= λ v. plain_word 3 want.Hex v.1 >>= λ hex.
    ends_at 4 hex.1 >>= λ end. Ok (ToCheck v.0 hex.0)

-- the words after `replay`: a file
abbrev pub asked_replay : List Text → Result Ask WrongWord
asked_replay words = plain_word 2 want.File words >>= λ file. ends_at 3 file.1 >>= λ end.
    Ok (ToReplay file.0)

-- the words after `loop`: a file
abbrev pub asked_loop : List Text → Result Ask WrongWord
asked_loop words = plain_word 2 want.File words >>= λ file. ends_at 3 file.1 >>= λ end.
    Ok (ToLoop file.0)

-- the words after `serve`: a port, and a count of connections
abbrev pub asked_serve : List Text → Result Ask WrongWord
asked_serve words = port_word 2 words >>= λ port. count_word 3 port.1 >>= λ count.
    ends_at 4 count.1 >>= λ end. Ok (ToServe port.0 count.0)

-- the words after `vectors`: none
abbrev pub asked_vectors : List Text → Result Ask WrongWord
asked_vectors words = ends_at 2 words >>= λ end. Ok ToPass

-- the words after `shell`: a host, and a port
abbrev pub asked_shell : List Text → Result Ask WrongWord
asked_shell words = plain_word 2 want.Host words >>= λ host. port_word 3 host.1 >>= λ port.
    ends_at 4 port.1 >>= λ end. Ok (ToShell host.0 port.0)

-- a command's name and the words after it
abbrev pub asked_by : Text → List Text → Result Ask WrongWord
asked_by name rest = if bytes_eq name (codes "answer") then asked_answer rest
    else (if bytes_eq name (codes "check") then asked_check rest
    else (if bytes_eq name (codes "replay") then asked_replay rest
    else (if bytes_eq name (codes "loop") then asked_loop rest
    else (if bytes_eq name (codes "serve") then asked_serve rest
    else (if bytes_eq name (codes "vectors") then asked_vectors rest
    else (if bytes_eq name (codes "shell") then asked_shell rest
    else Err (wrong_at 1 want.Command name)))))))

-- the program's name and the words after it
abbrev pub asked_words : List Text → Result Ask WrongWord
asked_words (program ∷ name ∷ rest) = asked_by name rest
asked_words _ = Err (missing_at 1 want.Command)

-- what the program found, by its content
abbrev pub ask_of : CommandLine → Ask
ask_of (line.Answer hex) = ToAnswer hex.now
ask_of (line.Check version hex) = ToCheck version hex.now
ask_of (line.Replay file) = ToReplay file.now
ask_of (line.Loop file) = ToLoop file.now
ask_of (line.Serve port count) = ToServe port count
ask_of line.Vectors = ToPass
ask_of (line.Shell host port) = ToShell host.now port

-- the wrong word, by its content
abbrev pub wrong_of : Wrong → WrongWord
wrong_of w = record { number = w.number; word = option_map (λ t. t.now) w.word; wanted = w.wanted }

-- what was returned is what words say: seen by view, or the wrong word
abbrev pub Gives : {X Y : Type 0} → (X → Y) → Result X Wrong → Result Y WrongWord → Type 0
Gives view (Ok x) said = said ≡ Ok (view x)
Gives view (Err w) said = said ≡ Err (wrong_of w)
