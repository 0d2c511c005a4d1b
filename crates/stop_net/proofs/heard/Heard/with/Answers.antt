use Rattle.stop_net.proofs.heard.Heard.with.Goals as goal
use Rattle.stop_net.proofs.HeardLemmas.{after_lf, after_cr, after_other}

pub returns-else-self : goal.returns-else-self
returns-else-self c = after_lf c.args.self c.args.byte c.if-self.false c.if-byte-eq10.true

pub returns-then-byte-eq13 : goal.returns-then-byte-eq13
returns-then-byte-eq13 c = after_cr c.args.self c.args.byte c.if-byte-eq10.false c.if-byte-eq13.true

pub returns : goal.returns
returns c = after_other c.args.self c.args.byte c.if-byte-eq10.false c.if-byte-eq13.false
