use Rattle.std.proofs.Common.{sym, ◌∙◌, arith}
use Rattle.bosh_ports.proofs.TakingLemmas.{copied}
use Rattle.bosh_ports.proofs.quiet.QuietSourceSource.take.Goals as goal

pub returns-clause-takes : goal.returns-clause-takes
returns-clause-takes c = (
  omega (arith, c.if-n-eq0.false),
  omega (arith, c.copy_front-n.ensures.count),
  sym c.self.view_is ∙ copied c.self.inside.bytes.items c.deref.result.now c.copy_front-n.new.into c.self.inside.taken c.copy_front-n.result c.deref.ensures.value c.copy_front-n.ensures.bytes,
)
