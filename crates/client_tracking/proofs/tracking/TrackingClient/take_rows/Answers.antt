use Rattle.std.proofs.Common.{rules, ◌≡◌, sym, ◌∙◌, ap, ap₂, true, false, ◌==◌, None, List, eq-eqb}
use Rattle.std.proofs.lemmas.Bool.{ne_eqb}
use Rattle.packstream.specs.Tree.{Tree}
use Rattle.client_tracking.specs.Account.{ReplyView, reply_in, taken_or}
use Rattle.client_tracking.specs.Holding.{rest_in, account_of}
use Rattle.client_tracking.proofs.Taking.{none_of, not_found, untaken}
use Rattle.client_tracking.proofs.tracking.TrackingClient.take_rows.Goals as goal

pub returns-then-first_waiting-ordinal-clause-account : goal.returns-then-first_waiting-ordinal-clause-account
returns-then-first_waiting-ordinal-clause-account c =
    let a = account_of c.args.self.now in
    let none : reply_in c.args.ordinal a.replies ≡ None = none_of (reply_in c.args.ordinal a.replies) (search rules) in
    let waits : ((rest_in c.args.self.now).knows.first == c.args.ordinal) ≡ true = eq-eqb (rest_in c.args.self.now).knows.first c.args.ordinal (search rules) in
    ap₂ (λ (rs : List ReplyView) (rows : List (List Tree)). record a { replies = rs; rows = rows }) (c.take_rows_in.ensures.replies ∙ not_found c.args.ordinal a.replies none) (search rules)
    ∙ ap (λ w. taken_or None w a a.replies) (sym waits) ∙ sym (untaken a c.args.ordinal ((rest_in c.args.self.now).knows.first == c.args.ordinal) none)

pub returns-clause-account : goal.returns-clause-account
returns-clause-account c =
    let a = account_of c.args.self.now in
    let none : reply_in c.args.ordinal a.replies ≡ None = none_of (reply_in c.args.ordinal a.replies) (search rules) in
    let apart : ((rest_in c.args.self.now).knows.first == c.args.ordinal) ≡ false = ne_eqb (rest_in c.args.self.now).knows.first c.args.ordinal (search rules) in
    ap (λ (rs : List ReplyView). record a { replies = rs }) (c.take_rows_in.ensures.replies ∙ not_found c.args.ordinal a.replies none)
    ∙ ap (λ w. taken_or None w a a.replies) (sym apart) ∙ sym (untaken a c.args.ordinal ((rest_in c.args.self.now).knows.first == c.args.ordinal) none)
