-- What words are, by a relation that doesn't tell how they are found.
use Rattle.std.specs.Prelude.{◌≡◌, ◌<◌, ◌==◌, ◌&&◌, not, Bool, true, List, length}
use Rattle.std.specs.List.{list_any, list_all, join_with_byte}
use Rattle.std.specs.Str.{IsUtf8}
use Rattle.cli_scripts.specs.Views.{Text}
use Rattle.cli_scripts.specs.Words.{is_empty}

-- one byte or more, and no blank
abbrev pub is_word : Text → Bool
is_word w = not (is_empty w) && not (list_any (λ b. b == 32) w)

-- one word or more, which one blank between each two makes the line
pub record AreWords (line : Text) (ws : List Text) : Type 0 where
  pub utf8 : IsUtf8 line
  pub some : 0 < length ws
  pub words : list_all is_word ws ≡ true
  pub joined : join_with_byte 32 ws ≡ line
