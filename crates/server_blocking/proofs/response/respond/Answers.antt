use Rattle.std.proofs.Common.{◌≡◌, false, ◌∙◌, ap, Some}
use Rattle.server.specs.Prelude.{Rest, empty, is_full, opened, rest_of}
use Rattle.server_blocking.proofs.Firsts.{one, one_found, one_lives, one_out, one_last}
use Rattle.server.proofs.Known.{holds}
use Rattle.server_blocking.proofs.response.respond.Goals as goal

pub converse-requires : goal.converse-requires
converse-requires g c =
    let ledger = g.E.Engine.entries c.args.engine in
    let o = holds (λ (r : Rest g.row.G.Denot). (is_full r ≡ false) × (c.in-Ok.conn ≡ r.next) × (rest_of g.E.Engine.entries c.open.new.self ≡ opened r)) _ c.in-Ok.ensures (empty ledger c.args.gate) c.new-server.ensures in
    record { live = (one ledger c.args.gate c.in-Ok.conn o.1, o.2, one_lives ledger c.args.gate c.in-Ok.conn o.1); turns = λ s taken n few turn. tt }

pub returns-clause-out : goal.returns-clause-out
returns-clause-out g c =
    let ledger = g.E.Engine.entries c.args.engine in
    let o = holds (λ (r : Rest g.row.G.Denot). (is_full r ≡ false) × (c.in-Ok.conn ≡ r.next) × (rest_of g.E.Engine.entries c.open.new.self ≡ opened r)) _ c.in-Ok.ensures (empty ledger c.args.gate) c.new-server.ensures in
    let h = c.in-Ok-converse.ensures.converses (one ledger c.args.gate c.in-Ok.conn o.1) o.2 (one_found ledger c.args.gate c.in-Ok.conn o.1) in
    one_out ledger c.args.gate c.in-Ok.conn o.1 (ap (λ z. Some z) c.new-source.ensures.rest) c.into_bytes.result.items (c.new-sink.ensures.0 ∙ c.new.ensures.items) c.into_bytes.ensures h

pub returns-clause-last : goal.returns-clause-last
returns-clause-last g c =
    let ledger = g.E.Engine.entries c.args.engine in
    let o = holds (λ (r : Rest g.row.G.Denot). (is_full r ≡ false) × (c.in-Ok.conn ≡ r.next) × (rest_of g.E.Engine.entries c.open.new.self ≡ opened r)) _ c.in-Ok.ensures (empty ledger c.args.gate) c.new-server.ensures in
    let h = c.in-Ok-converse.ensures.converses (one ledger c.args.gate c.in-Ok.conn o.1) o.2 (one_found ledger c.args.gate c.in-Ok.conn o.1) in
    one_last ledger c.args.gate c.in-Ok.conn o.1 (ap (λ z. Some z) c.new-source.ensures.rest) c.end_at.result c.end_at.ensures h
