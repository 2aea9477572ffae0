-- What the program's server puts out for bytes, both as texts in hex.
use Rattle.std.specs.Prelude.{◌≡◌, ℕ, List, Ok}
use Rattle.hex.specs.Hex.{decode_of, encode_lower}
use Rattle.server_blocking.specs.declared.response.End.{End}
use Rattle.cli_commands.specs.Answers.{Answers}

-- the text spells bytes, and out is the lower case text of what is put out for them
pub record AnswersHex (text out : List ℕ) (last : End) : Type 0 where
  pub bytes : List ℕ
  pub put : List ℕ
  pub decoded : decode_of text ≡ Ok bytes
  pub encoded : out ≡ encode_lower put
  pub answered : Answers bytes put last
