use Rattle.cli_sessions.proofs.Followed.{◌≡◌, [], ap, refl, ◌∙◌, Broken, ReadFailed, None, Some, Err, stop_text, fault_in, gets_none, accounts, so_far, stop_of, told_so}
use Rattle.cli_sessions.proofs.shells.shell.Goals as goal

pub returns-in-Ok : goal.returns-in-Ok
returns-in-Ok g c =
    let so = so_far c.in-Ok.ensures.runs.does.talked in
    let now = c.run.new.streams.at in
    record {
      shells = record { stop = None; ends = refl; cause = tt; told = now.told; deaf = now.deaf; runs = c.in-Ok.ensures.runs; said = gets_none _ _ };
      accounts = accounts now.told now.deaf [] so (gets_none _ _);
      sound = λ n. (c.in-Ok.ensures.input (λ e. cc), search (so.moves.source (λ e. cc), so.moves.sinks (λ e. cc)));
    }

pub returns-in-Err : goal.returns-in-Err
returns-in-Err g c =
    let runs = rw (← c.streams.view_is) at c.in-Err.ensures.runs in
    let so = so_far runs.does.talked in
    let told = g.E.Sink.taken c.put_stop.new.err in
    let deaf = g.E.Sink.has_failed c.put_stop.new.err in
    let put = c.put_stop.ensures in
    let cause = rw (← c.streams.view_is) at (stop_of c.in-Err.stop _ _ (λ e. c.in-Err.ensures.read (ap Err e)) (λ e. c.in-Err.ensures.written (ap Err e))) in
    record {
      shells = record { stop = Some c.in-Err.stop; ends = put.status; cause = cause; told = _; deaf = _; runs = runs; said = put.text };
      accounts = accounts told deaf (stop_text c.in-Err.stop) so c.put_stop.ensures.text;
      sound = λ n.
          let never = told_so c.in-Err.stop (λ e. n (put.status ∙ e)) in
          let input = c.in-Err.ensures.input (λ e. let is : c.in-Err.stop ≡ Broken ReadFailed = cc in never.0 (ap (λ s. fault_in (Some s)) is)) in
          (input, search (so.moves.source never.0, so.moves.sinks never.1));
    }
