use Rattle.cli_sessions.proofs.Looped.{Bool, Broken, Gets, List, Numbers, Option, Some, StopReason, TellsLine, Unreadable, arith, stop_status, stop_text, sym, ℕ, ⊎_elim, ◌∙◌, ◌≡◌}
use Rattle.cli_sessions.proofs.loops.run_loop.Goals as goal

-- a status of 0 is that of no stop, and 2 that of a line that can't be read, whose number is told
stopped : (script : List ℕ) (stop : StopReason) (had has : Bool) (before after : Option (List ℕ)) → Gets had has before after (stop_text stop)
    → Numbers script stop → (stop_status stop ≡ 0 → ⊥) × (stop_status stop ≡ 2 → TellsLine script had has before after)
stopped script (Unreadable n) had has before after text h = (λ e. absurd cc, λ e. (n, h, text))
stopped script (Broken fault) had has before after text h = grind arith

pub returns-in-Err : goal.returns-in-Err
returns-in-Err g c =
    let p = c.put_stop.ensures in
    let v = c.requires.vacant in
    let k = c.in-Err.ensures in
    let s = stopped c.args.script.now c.in-Err.stop _ _ _ _ p.text k.number in
    record {
      ends = record { stop = Some c.in-Err.stop; ends = p.status; cause = (k.loops v.0 v.1 v.2).1.0; text = λ e. (p.text e).1 };
      readable = λ e. absurd (s.0 (sym p.status ∙ e));
      unreadable = λ e. k.unreadable (sym p.status ∙ e);
      grows = λ r f none. (k.loops r f none).0;
      loops = λ e. absurd (s.0 (sym p.status ∙ e));
      breaks = λ e r f none. (k.loops r f none).1.1 (λ two. ⊎_elim (λ z. absurd cc) (λ z. absurd cc) (rw p.status at e));
      number = λ e. s.1 (sym p.status ∙ e);
    }
