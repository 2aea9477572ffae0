use Rattle.std.proofs.Common.{List, ℕ, ◌+◌, [], ◌∷◌, ◌++◌, length, codes, ap, ◌∙◌, append_assoc}
use Rattle.engine.specs.Views.{names_view}
use Rattle.server_session.proofs.Fielded.{joined}
use Rattle.server_session.proofs.query_answer.add_fields.Goals as goal

pub returns-clause-spelled : goal.returns-clause-spelled
returns-clause-spelled c =
    let ss = names_view c.args.fields.now in
    let f : List ℕ = 0 ∷ 0 ∷ 0xB1 ∷ 0x70 ∷ 0xA2 ∷ 0x86 ∷ codes "fields" in
    let h : List ℕ = (0x90 + length ss) ∷ [] in
    joined ss c.args.out.now.more c.push.new.self.more c.put_names.new.out.more c.extend_from_slice-2.new.self.more c.requires
    ((rw (c.head_of.ensures, c.count.ensures) at c.in_ok-push.ensures.ok) ∙ ap (λ x. x ++ h) c.in_ok-extend_from_slice.ensures.ok ∙ append_assoc c.args.out.now.more f h)
    c.in_ok-put_names.ensures.spelled c.in_ok-extend_from_slice-2.ensures.ok
