-- The write of an open result.
use Rattle.std.proofs.Common.{◌≡◌, ◌≤◌, suc, refl, ap, List, [], ◌∷◌, length, arith, option_to_list}
use Rattle.engine.specs.declared.ledger.Write.{Write}
use Rattle.engine.specs.Prelude.{writes_view}
use Rattle.server_session.specs.Prelude.{first_of}

-- a list of one write, or of none
pub one_write : (ws : List Write) → length ws ≤ 1 → option_to_list (first_of (writes_view ws)) ≡ writes_view ws
one_write (w ∷ x ∷ ws) h = absurd (omega arith)
one_write _ h = refl

pub length_view : (ws : List Write) → length (writes_view ws) ≡ length ws
length_view [] = refl
length_view (w ∷ ws) = ap suc (length_view ws)
