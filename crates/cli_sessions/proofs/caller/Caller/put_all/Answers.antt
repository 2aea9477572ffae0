use Rattle.cli_sessions.proofs.Followed.{all_done, ◌∙◌, ◌++◌, ◌∷◌, [], append_assoc, rules, refl, sym, ap, map, map-append, nil_from_length, note, notes_none, versions_more}
use Rattle.cli_sessions.proofs.caller.Caller.put_all.Goals as goal

pub loop-one-init : goal.loop-one-init
loop-one-init g c =
    let parts = c.into_iter-one-iterator.ensures.into_iter_gives.0 in
    record { client = refl; version = refl; puts = notes_none; parts = parts; read = λ e. absurd cc; written = λ e. absurd cc }

pub loop-one-preserved : goal.loop-one-preserved
loop-one-preserved g c =
    let so = c.loop-one.invariant in
    let k = c.put_next-done.ensures in
    record {
      client = k.client ∙ so.client;
      version = rw (map-append, versions_more, ← so.version) k.version;
      puts = rw map-append (k.puts c.args.self.now.version (map note c.loop-one.yielded) _ so.version so.puts);
      parts = append_assoc c.loop-one.yielded (c.in-Some.one ∷ []) c.next.new.self.rest.items
          ∙ ap (λ xs. c.loop-one.yielded ++ xs) (sym c.in-Some.ensures.steps.0) ∙ so.parts;
      read = k.read so.read;
      written = k.written so.written;
    }

pub returns : goal.returns
returns g c =
    let so = c.loop-one.invariant in
    let rest = c.loop-one.one-iterator.rest.items in
    let all = all_done c.loop-one.yielded rest c.args.heard.items (nil_from_length rest (search rules)) so.parts in
    record { puts = rw (← all) so.puts; version = rw (← all) so.version; client = so.client; read = so.read; written = so.written }
