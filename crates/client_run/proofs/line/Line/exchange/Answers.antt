use Rattle.std.proofs.Common.{refl}
use Rattle.client_run.specs.Working.{wire_of}
use Rattle.client_run.proofs.LineLemmas.{heard_by}
use Rattle.client_run.proofs.line.Line.exchange.Goals as goal

pub returns-in-Ok : goal.returns-in-Ok
returns-in-Ok g c =
    heard_by (wire_of (g.L.Link.left c.args.self.now.link) (g.L.Link.given c.args.self.now.link) c.args.self.now.reader) (wire_of (g.L.Link.left c.write_post.new.link) (g.L.Link.given c.write_post.new.link) c.args.self.now.reader)
    (wire_of (g.L.Link.left c.hear.new.self.link) (g.L.Link.given c.hear.new.self.link) c.hear.new.self.reader) c.args.body.now (g.L.Link.faults c.hear.new.self.link) c.hear.result
    (record { given = c.in-Ok.ensures.given; left = c.write_post.ensures.left; kept = refl }) c.hear.ensures
