-- What is said to words that are no command.
use Rattle.std.specs.Prelude.{◌==◌, ◌&&◌, ◌||◌, nat_le, nat_eq, ℕ, Bool, if◌then◌else◌, List, [], ◌∷◌, ◌++◌, Option, Some, None, length, codes}
use Rattle.std.specs.Fmt.{decimal}
use Rattle.std.specs.List.{flat_map}
use Rattle.std.specs.Str.{bytes_eq, chars}
use Rattle.strsim.specs.Edits.{levenshtein_row}
use Rattle.cli_output.specs.Escaping.{escaped}
use Rattle.cli_commands.specs.declared.arguments.Wanted.{Wanted}
use Rattle.cli_commands.specs.declared.arguments.Wanted.TheVariants as want
use Rattle.cli_commands.specs.declared.help.TheConstants.{HELP}
use Rattle.cli_commands.specs.Asked.{Text, WrongWord}

-- the text of help
unfoldable pub help_text : List ℕ
help_text = HELP.now

-- what is wanted, as it is told
abbrev pub wanted_words : Wanted → List ℕ
wanted_words want.Command = codes "a command"
wanted_words want.Hex = codes "HEX, bytes as pairs of hex digits"
wanted_words want.Version = codes "VERSION, which is 4.4, 5.0 or 5.1"
wanted_words want.File = codes "FILE, a path that begins with no hyphen"
wanted_words want.Host = codes "HOST, a name or an address that begins with no hyphen"
wanted_words want.Port = codes "PORT, a number from 1 to 65535"
wanted_words want.Count = codes "COUNT, a number from 0 to 1000000"
wanted_words want.NoMore = codes "no further word"

-- the names of the commands
abbrev pub names : List Text
names = codes "answer" ∷ codes "check" ∷ codes "replay" ∷ codes "loop" ∷ codes "serve" ∷ codes "vectors" ∷ codes "shell" ∷ []

-- how many characters are put into a word, taken out of it or changed until it is a name
unfoldable pub edits : Text → Text → ℕ
edits word name = levenshtein_row nat_eq (chars word) (chars name) (length (chars name))

-- a name as a guess of what a word was meant to be: one that is at most two edits away
abbrev pub guess : Text → Text → List ℕ
guess word name = if nat_le (edits word name) 2 then codes ", perhaps " ++ name else []

-- each such name, if a command is wanted
abbrev pub guesses : Wanted → Text → List ℕ
guesses want.Command word = flat_map (guess word) names
guesses _ word = []

-- a word that asks for help: `--help` and `-h`, and `help` in a command's place
abbrev pub asks_help : ℕ → Text → Bool
asks_help n word = bytes_eq word (codes "--help") || bytes_eq word (codes "-h") || (n == 1 && bytes_eq word (codes "help"))

-- a line that says which word is missing, and what is wanted; nothing if there is no word at all, which asks for help
abbrev pub missing_line : ℕ → Wanted → List ℕ
missing_line n x = if n == 1 then []
    else codes "error: word " ++ decimal n ++ codes " is missing, wanted is " ++ wanted_words x ++ codes "\n"

-- the beginning of a line that says which word is wrong: its number and the word, escaped
abbrev pub shown_word : ℕ → Text → List ℕ
shown_word n word = codes "error: word " ++ decimal n ++ codes " is `" ++ escaped word

-- the rest of that line: what is wanted
abbrev pub wanted_rest : Wanted → Text → List ℕ
wanted_rest x word = codes "`, wanted is " ++ wanted_words x ++ guesses x word ++ codes "\n"

-- a line that says which word is wrong, and what is wanted; nothing where the word asks for help
abbrev pub wrong_line : ℕ → Wanted → Text → List ℕ
wrong_line n x word = if asks_help n word then [] else shown_word n word ++ wanted_rest x word

-- what is said of a word before the help
abbrev pub line_of : ℕ → Wanted → Option Text → List ℕ
line_of n x None = missing_line n x
line_of n x (Some word) = wrong_line n x word

-- what is said to words that are no command: which is wrong, and the help
abbrev pub refusal_text : WrongWord → List ℕ
refusal_text w = line_of w.number w.wanted w.word ++ help_text
