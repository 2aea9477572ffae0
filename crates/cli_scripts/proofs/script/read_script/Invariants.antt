use Rattle.std.proofs.Common.{◌+◌, drop, map}
use Rattle.cli_scripts.specs.Prelude.{line_of, said_lines}
use Rattle.cli_scripts.proofs.Lines.{HasRead}
use Rattle.cli_scripts.proofs.script.read_script.Given as goal

-- the lines before it are read
abbrev pub invariant-loop-before : goal.invariant-loop-before
invariant-loop-before l = HasRead line_of l.bytes (said_lines l.said.items) (l.before + 1) (drop l.before (map (λ x. x.now) l.line-items))
