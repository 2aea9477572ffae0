use Rattle.std.proofs.Common.{◌≡◌, ℕ, string_bytes, sym, subst, [], ◌∷◌, ◌++◌, option_map}
use Rattle.std.proofs.lemmas.List.{map-append}
use Rattle.world.specs.Prelude.{setting_of}
use Rattle.cli_scripts.specs.Prelude.{LineView, said_lines, line_view}
use Rattle.cli_replay.specs.Prelude.{Runs, runs_on, starts}
use Rattle.cli_replay.proofs.Stepping.{leads_as}
use Rattle.cli_replay.proofs.script_lines.run.Goals as goal

pub loop-line-init : goal.loop-line-init
loop-line-init g c = λ gate brought w reached fits.
    record {
      after = w;
      way = subst (λ t. Runs (setting_of g.E.Engine.answer g.G.Gate.welcomes gate) w [] t w) (sym c.new-text.ensures.bytes) starts;
      reached = reached;
      fits = fits;
    }

pub loop-line-preserved : goal.loop-line-preserved
loop-line-preserved g c = λ gate brought w reached fits.
    let h = c.loop-line.invariant gate brought w reached fits in
    let one = c.in-Some.line in
    let S = setting_of g.E.Engine.answer g.G.Gate.welcomes gate in
    let lines : said_lines (c.loop-line.yielded ++ one ∷ []) ≡ said_lines c.loop-line.yielded ++ (one.number, line_view one.said) ∷ [] = map-append {B = ℕ × LineView} (λ l. (l.number, line_view l.said)) c.loop-line.yielded (one ∷ []) in
    leads_as (λ w3 x. subst (λ z. Runs S w z (string_bytes c.push_noted.new.text) w3) (sym lines)
    (subst (λ z. Runs S w (said_lines c.loop-line.yielded ++ (one.number, line_view one.said) ∷ []) z w3) (sym c.in_ok-push_noted.ensures)
    (runs_on (said_lines c.loop-line.yielded) (string_bytes c.loop-line.text) h.after w3 one.number (line_view one.said) (option_map (λ t. t.now) c.in_ok-code.code) h.way x))) (c.in_ok-code.ensures gate brought h.after h.reached h.fits)
