use Rattle.messages.proofs.Words.{◌≡◌, true, rules, auth_view, request_view, has_logon}
use Rattle.messages.proofs.Scanned.{hello_means, logon_means}
use Rattle.messages.proofs.read_requests.login_from.Goals as goal

pub returns-in_ok-hello_of-in-1 : goal.returns-in_ok-hello_of-in-1
returns-in_ok-hello_of-in-1 g c = rw c.in-1.is (hello_means c.args.version (request_view c.in_ok-hello_of-in-1.field-0) _ (g.S.Source.left c.args.source) c.in_ok-pairs-in-1.ensures (rw c.deref.ensures.value at c.in_ok-hello_of-in-1.ensures))

pub returns-in_ok-auth_of-in-106 : goal.returns-in_ok-auth_of-in-106
returns-in_ok-auth_of-in-106 g c =
    let has : has_logon c.args.version ≡ true = search rules in
    rw c.in-106.is (logon_means c.args.version (auth_view c.in_ok-auth_of-in-106.field-0) _ (g.S.Source.left c.args.source) has c.in_ok-pairs-in-106.ensures (rw c.deref-in-106.ensures.value at c.in_ok-auth_of-in-106.ensures))
