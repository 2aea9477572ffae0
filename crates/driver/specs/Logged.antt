-- How the logic stores how connections ended.
use Rattle.std.specs.Prelude.{◌≡◌, refl, ℕ, ◌==◌, Bool, if◌then◌else◌, Option, Result, Ok, Err, List}
use Rattle.std.specs.Coded.{Coded, code_by, coded×, coded_ℕ, coded_bool, coded_list, coded_option}
use mathlib.Core.Path.{ap}
use Rattle.driver.specs.declared.breaks.Break.{Break}
use Rattle.driver.specs.declared.breaks.Break.TheVariants as break
use Rattle.driver.specs.Stands.{health}
use Rattle.driver.specs.Attempting.{streams}
use Rattle.driver.specs.Retrying.{Ending, ending}

abbrev broken_number : Result (Unit {0}) Break → ℕ
broken_number (Ok u) = 0
broken_number (Err break.ReadFailed) = 1
broken_number (Err break.WriteFailed) = 2
broken_number (Err break.Memory) = 3
broken_number (Err break.BadAnswer) = 4
broken_number (Err break.AtEnd) = 5
broken_number (Err break.Ended) = 6
broken_number (Err break.TooManyRows) = 7

abbrev broken_at : ℕ → Result (Unit {0}) Break
broken_at n =
    if n == 0 then Ok tt else (if n == 1 then Err break.ReadFailed else (if n == 2 then Err break.WriteFailed else (if n == 3 then Err break.Memory
    else (if n == 4 then Err break.BadAnswer else (if n == 5 then Err break.AtEnd else (if n == 6 then Err break.Ended else Err break.TooManyRows))))))

broken_back : (r : Result (Unit {0}) Break) → broken_at (broken_number r) ≡ r
broken_back (Ok u) = refl
broken_back (Err break.ReadFailed) = refl
broken_back (Err break.WriteFailed) = refl
broken_back (Err break.Memory) = refl
broken_back (Err break.BadAnswer) = refl
broken_back (Err break.AtEnd) = refl
broken_back (Err break.Ended) = refl
broken_back (Err break.TooManyRows) = refl

abbrev Parts : Type 0
Parts = List ℕ × (List ℕ × (Bool × (Bool × (Bool × ℕ))))

abbrev to_parts : Ending → Parts
to_parts e = (e.at.given, (e.at.written, (e.at.health.ended, (e.at.health.read_failed, (e.at.health.write_failed, broken_number e.broken)))))

abbrev from_parts : Parts → Ending
from_parts p = ending (streams p.0 p.1.0 (health p.1.1.0 p.1.1.1.0 p.1.1.1.1.0)) (broken_at p.1.1.1.1.1)

pub parts_back : (e : Ending) → from_parts (to_parts e) ≡ e
parts_back e = ap (ending e.at) (broken_back e.broken)

-- how each connection ended, in order, and how many are open
abbrev pub Past : Type 0
Past = List (Option Ending) × ℕ

abbrev pub past_code : Coded Past
past_code = coded× (coded_list (coded_option (code_by Parts (coded× (coded_list coded_ℕ) (coded× (coded_list coded_ℕ) (coded× coded_bool (coded× coded_bool (coded× coded_bool coded_ℕ))))) to_parts from_parts parts_back))) coded_ℕ
