-- A line that is written in parts.
use Rattle.std.proofs.Common.{◌≡◌, sym, ◌∙◌, append_assoc, ℕ, Bool, List, [], ◌∷◌, ◌++◌, codes, Option}
use Rattle.std.specs.Fmt.{decimal}
use Rattle.server_session.specs.declared.kinds.Cause.{Cause}
use Rattle.cli_output.specs.Names.{cause_code}
use Rattle.cli_output.specs.Telling.{conn_line}
use Rattle.cli_output.specs.Stopping.{Gets}
use Rattle.cli_output.proofs.Gets.{gets_then}
use Rattle.cli_serve.specs.Reasons.{IsErrorOf}

-- the line of a connection that has ended, by its five parts
pub gets_line : (d1 d2 d3 d4 d5 d6 : Bool) (a b c d e f : Option (List ℕ)) (conn : ℕ) (cause : Cause)
    → Gets d1 d2 a b (codes "conn ") → Gets d2 d3 b c (decimal conn) → Gets d3 d4 c d (codes " ") → Gets d4 d5 d e (cause_code cause) → Gets d5 d6 e f (10 ∷ [])
    → Gets d1 d6 a f (conn_line conn cause)
gets_line d1 d2 d3 d4 d5 d6 a b c d e f conn cause h1 h2 h3 h4 h5 =
    gets_then _ _ _ _ _ _ (codes "conn " ++ decimal conn ++ codes " " ++ cause_code cause) (10 ∷ [])
    (gets_then _ _ _ _ _ _ (codes "conn " ++ decimal conn ++ codes " ") (cause_code cause)
    (gets_then _ _ _ _ _ _ (codes "conn " ++ decimal conn) (codes " ") (gets_then d1 d2 d3 a b c (codes "conn ") (decimal conn) h1 h2) h3) h4) h5

-- an error behind a name, as a format puts it
pub error_line : (text name own : List ℕ) → text ≡ name ++ (codes ": " ++ (own ++ 10 ∷ [])) → IsErrorOf name text
error_line text name own h = (own, h ∙ sym (append_assoc name (codes ": ") (own ++ 10 ∷ [])) ∙ sym (append_assoc (name ++ codes ": ") own (10 ∷ [])))
