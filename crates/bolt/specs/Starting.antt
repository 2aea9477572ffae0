-- What is said if there are no words to tell a command by.
use Rattle.std.specs.Prelude.{ℕ, List, [], ◌∷◌, ◌++◌, codes}
use Rattle.cli_commands.specs.Refusals.{help_text}
use Rattle.bolt.specs.declared.command_line.Unread.{Unread}
use Rattle.bolt.specs.declared.command_line.Unread.TheVariants.{Memory, NotText}

-- the status where the program's words can't be read: 3 for want of memory, else 2
abbrev pub unread_status : Unread → ℕ
unread_status Memory = 3
unread_status NotText = 2

-- what standard error gets where the program's words can't be read: a line, and behind that of a word that is no text the help
abbrev pub unread_text : Unread → List ℕ
unread_text Memory = codes "fault I3" ++ 10 ∷ []
unread_text NotText = codes "error: a word is not UTF-8\n" ++ help_text
