-- The lines of a whole script.
use Rattle.std.specs.Prelude.{◌≡◌, ℕ, ◌==◌, not, List, map, filter, find, Option, Some, None, is_none, Result, Ok, Err}
use Rattle.std.specs.List.{slice_split, filter_map, enumerate_from}
use Rattle.std.specs.Option.{option_map}
use Rattle.cli_scripts.specs.declared.fault.ScriptFault.{ScriptFault}
use Rattle.cli_scripts.specs.declared.fault.ScriptFault.TheVariants.{Unreadable, Memory}
use Rattle.cli_scripts.specs.declared.fault.LineFault.{LineFault}
use Rattle.cli_scripts.specs.declared.fault.LineFault.TheVariants as line_fault
use Rattle.cli_scripts.specs.declared.line.Line.{Line}
use Rattle.cli_scripts.specs.declared.request.ScriptRequest.{ScriptRequest}
use Rattle.cli_scripts.specs.declared.script.Numbered.{Numbered}
use Rattle.cli_scripts.specs.Views.{Text, LineView, line_view, ScriptRequestView, script_request_view}
use Rattle.cli_scripts.specs.Words.{is_empty}

-- the lines of bytes, parted by newlines
abbrev pub lines : List ℕ → List Text
lines b = slice_split (λ x. x == 10) b

-- lines with their numbers, of which the first is n, without the empty ones
abbrev pub filled_from : ℕ → List Text → List (ℕ × Text)
filled_from n ls = filter (λ l. not (is_empty l.1)) (enumerate_from n ls)

-- the lines of bytes that aren't empty, each with its number from 1
abbrev pub filled_lines : List ℕ → List (ℕ × Text)
filled_lines b = filled_from 1 (lines b)

-- what each line says that can be read, with its number
abbrev pub lines_read : {V : Type 0} → (Text → Option V) → List (ℕ × Text) → List (ℕ × V)
lines_read read ls = filter_map (λ l. option_map (λ v. (l.0, v)) (read l.1)) ls

-- the first line that can't be read
abbrev pub unreadable : {V : Type 0} → (Text → Option V) → List (ℕ × Text) → Option (ℕ × Text)
unreadable read ls = find (λ l. is_none (read l.1)) ls

-- the fault of a script at a line with this one
abbrev pub fault_at : ℕ → LineFault → ScriptFault
fault_at n line_fault.Unreadable = Unreadable n
fault_at n line_fault.Memory = Memory

-- numbered lines by their content
abbrev pub said_lines : List (Numbered Line) → List (ℕ × LineView)
said_lines ls = map (λ l. (l.number, line_view l.said)) ls

-- numbered requests by their content
abbrev pub said_requests : List (Numbered ScriptRequest) → List (ℕ × ScriptRequestView)
said_requests ls = map (λ l. (l.number, script_request_view l.said)) ls

-- the number of the first line that can't be read; nothing is known if memory ran out
abbrev pub IsRefused : {V : Type 0} → (Text → Option V) → List ℕ → ScriptFault → Type 0
IsRefused read b (Unreadable n) = option_map (λ l. l.0) (unreadable read (filled_lines b)) ≡ Some n
IsRefused read b Memory = Unit {0}

-- What was returned is what every line says, all of them readable; or a fault is.
abbrev pub GivesAll : {X V : Type 0} → (Text → Option V) → (X → List (ℕ × V)) → List ℕ
    → Result X ScriptFault → Type 0
GivesAll read view b (Ok x) =
    (unreadable read (filled_lines b) ≡ None) × (view x ≡ lines_read read (filled_lines b))
GivesAll read view b (Err e) = IsRefused read b e
