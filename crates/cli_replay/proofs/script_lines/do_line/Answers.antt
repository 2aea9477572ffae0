use Rattle.std.proofs.Common.{sym, ap, ◌∙◌, true, false, option_map}
use Rattle.cli_scripts.specs.Prelude.{line_view}
use Rattle.world.specs.Prelude.{setting_of, event_of}
use Rattle.cli_replay.specs.Prelude.{event_by, version_at}
use Rattle.cli_replay.proofs.Stepping.{line_done}
use Rattle.cli_replay.proofs.script_lines.do_line.Goals as goal

pub returns-then-again : goal.returns-then-again
returns-then-again g c = λ gate brought w reached fits.
    let l = line_view c.args.line in
    let same = c.in_ok-event.ensures ∙ ap (λ v. event_by v l) (c.version_at-version.ensures gate brought w reached fits ∙ ap (version_at w) c.conn_of.ensures) in
    line_done g.E.Engine.entries (setting_of g.E.Engine.answer g.G.Gate.welcomes gate) gate brought c.repeat.new.world (option_map (λ t. t.now)) w l true (event_of c.in_ok-event.event) c.repeat.result (sym c.repeats-again.ensures ∙ c.if-again.true) same (c.repeat.ensures gate brought w reached fits)

pub returns : goal.returns
returns g c = λ gate brought w reached fits.
    let l = line_view c.args.line in
    let same = c.in_ok-event.ensures ∙ ap (λ v. event_by v l) (c.version_at-version.ensures gate brought w reached fits ∙ ap (version_at w) c.conn_of.ensures) in
    line_done g.E.Engine.entries (setting_of g.E.Engine.answer g.G.Gate.welcomes gate) gate brought c.once.new.world (option_map (λ t. t.now)) w l false (event_of c.in_ok-event.event) c.once.result (sym c.repeats-again.ensures ∙ c.if-again.false) same (c.once.ensures gate brought w reached fits)
