use Rattle.std.proofs.Common.{rules}
use Rattle.session_pump.proofs.PlaceLemmas.{changes_to}
use Rattle.session_pump.proofs.hosts.Hosts.replace.Goals as goal

pub returns-clause-old : goal.returns-clause-old
returns-clause-old g c given is = (c.in-Some-get_mut.stand.now, search rules, changes_to _ _ _ _ _ _ c.replace_end.ensures.new c.in-Some.ensures.first (search rules))
