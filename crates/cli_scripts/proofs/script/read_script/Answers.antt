use Rattle.std.proofs.Common.{[], sym, ◌∙◌, ◌+◌, subst, drop}
use Rattle.cli_scripts.specs.Prelude.{line_of, line_view, said_lines}
use Rattle.cli_scripts.proofs.Lines.{HasRead, texts, skips_line, reads_line, stops_line, pushed}
use Rattle.cli_scripts.proofs.script.read_script.Goals as goal

pub loop-before-preserved-then-is_empty : goal.loop-before-preserved-then-is_empty
loop-before-preserved-then-is_empty c =
    skips_line line_of c.args.bytes.now (said_lines c.loop-before.said.items) c.deref-line-items.result.now c.loop-before.before (record { ref_ptr = (0, 0); now = [] }) c.loop-before-test.true c.loop-before.invariant (sym c.is_empty.ensures ∙ c.if-is_empty.true)

pub returns-in-Err : goal.returns-in-Err
returns-in-Err c =
    stops_line line_of c.args.bytes.now (said_lines c.loop-before.said.items) c.deref-line-items.result.now c.loop-before.before (record { ref_ptr = (0, 0); now = [] }) c.loop-before-test.true c.loop-before.invariant c.in-Err.fault c.at.result (sym c.is_empty.ensures ∙ c.if-is_empty.false) c.in-Err.ensures c.at.ensures

pub loop-before-preserved : goal.loop-before-preserved
loop-before-preserved c =
    subst (λ out. HasRead line_of c.args.bytes.now out (c.loop-before.before + 1 + 1) (drop (c.loop-before.before + 1) (texts c.deref-line-items.result.now))) (pushed (λ l. (l.number, line_view l.said)) c.loop-before.said.items c.push.new.self.items _ c.in-Ok-push.ensures.items)
    (reads_line line_of c.args.bytes.now (said_lines c.loop-before.said.items) c.deref-line-items.result.now c.loop-before.before (record { ref_ptr = (0, 0); now = [] }) c.loop-before-test.true c.loop-before.invariant (line_view c.in-Ok-read_line.here) (sym c.is_empty.ensures ∙ c.if-is_empty.false) c.in-Ok-read_line.ensures)
