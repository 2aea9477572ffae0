use Rattle.std.proofs.Common.{refl}
use Rattle.server.specs.Views.{rest_of}
use Rattle.keeping.proofs.Served.{vacant}
use Rattle.keeping.proofs.connections.serve_stream.Goals as goal

pub returns-clause-served : goal.returns-clause-served
returns-clause-served g c = c.serve_next-told.ensures.ok (rest_of g.E.Engine.entries c.args.server.now) refl (vacant g.E.Engine.entries c.args.server.now c.requires)

pub returns-clause-line : goal.returns-clause-line
returns-clause-line g c = c.serve_next-told.ensures.told (rest_of g.E.Engine.entries c.args.server.now) refl

pub returns-clause-broken : goal.returns-clause-broken
returns-clause-broken g c = c.serve_next-told.ensures.err (rest_of g.E.Engine.entries c.args.server.now) refl (vacant g.E.Engine.entries c.args.server.now c.requires)
