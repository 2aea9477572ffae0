use Rattle.cli_sessions.proofs.Followed.{IsErrOf, ◌≡◌, ◌++◌, true, map, result_err, note, ReadFailed, WriteFailed, versions_after, PutsNotes, sinks_by}
use Rattle.cli_sessions.proofs.caller.Caller.put_all.Given as goal

-- those that were yielded are printed, or told from a fault on
abbrev pub invariant-loop-one : goal.invariant-loop-one
invariant-loop-one g l = record {
  client : l.self.client ≡ l.fn.self.client;
  version : l.self.version ≡ versions_after l.fn.self.version (map note l.yielded);
  puts : PutsNotes l.fn.self.version (map note l.yielded) (result_err l.done)
      (sinks_by g.O.Sink.taken g.O.Sink.has_failed g.E.Sink.taken g.E.Sink.has_failed l.fn.out l.fn.err)
      (sinks_by g.O.Sink.taken g.O.Sink.has_failed g.E.Sink.taken g.E.Sink.has_failed l.out l.err);
  parts : l.yielded ++ l.one-iterator.rest.items ≡ l.fn.heard.items;
  read : IsErrOf l.done ReadFailed → ⊥;
  written : IsErrOf l.done WriteFailed → g.O.Sink.has_failed l.out ≡ true;
}
