use Rattle.std.proofs.Common.{◌≡◌, ◌++◌, map, take, All, IsUtf8}
use Rattle.packstream.specs.Prelude.{text, canon_all, trees_of}
use Rattle.engine.specs.Views.{names_view}
use Rattle.server_session.proofs.query_answer.put_names.Given as goal

abbrev pub invariant-loop-place : goal.invariant-loop-place
invariant-loop-place l = record {
  before : l.out.before ≡ l.fn.out.before;
  spelled : l.out.more ≡ l.fn.out.more ++ canon_all (trees_of (map text (take l.place (names_view l.names))));
  texts : All IsUtf8 (take l.place (names_view l.names));
}
