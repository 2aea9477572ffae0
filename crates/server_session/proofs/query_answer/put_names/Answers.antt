use Rattle.std.proofs.Common.{◌∙◌, arith, subst, All, IsUtf8}
use Rattle.std.proofs.lemmas.List.{take_all}
use Rattle.engine.specs.Views.{names_view}
use Rattle.server_session.proofs.Fielded.{one_named, texts_more}
use Rattle.server_session.proofs.query_answer.put_names.Goals as goal

pub loop-place-preserved : goal.loop-place-preserved
loop-place-preserved c = record {
  before = c.in_ok-put_text.ensures.before ∙ c.loop-place.invariant.before;
  spelled = one_named (names_view c.args.names.now) c.loop-place.place c.get.result.now c.args.out.now.more c.loop-place.out.more c.put_text.new.out.more (omega arith) c.get.ensures.name c.loop-place.invariant.spelled c.in_ok-put_text.ensures.ok;
  texts = texts_more (names_view c.args.names.now) c.loop-place.place c.get.result.now (omega arith) c.get.ensures.name c.get.ensures.text c.loop-place.invariant.texts;
}

pub returns-clause-texts : goal.returns-clause-texts
returns-clause-texts c =
    let names = names_view c.args.names.now in
    subst (All IsUtf8) (take_all c.loop-place.place names (omega (arith, c.count-place-end.ensures))) c.loop-place.invariant.texts
