use Rattle.std.proofs.Common.{rules}
use Rattle.session_pump.specs.Hosts.{hosts_of}
use Rattle.session_pump.specs.Leaving.{RestsAt}
use Rattle.session_pump.proofs.ListLemmas.{all_below, got_read, next_same, none_below}
use Rattle.session_pump.proofs.session.are_at_rest.Goals as goal

pub loop-side-init : goal.loop-side-init
loop-side-init g c = none_below (RestsAt (hosts_of g.E.Backend.told g.E.Backend.counts c.args.hosts.now)) _

pub loop-side-preserved : goal.loop-side-preserved
loop-side-preserved g c =
    next_same (RestsAt (hosts_of g.E.Backend.told g.E.Backend.counts c.args.hosts.now)) _ _ c.side-item.result
    (got_read _ _ _ c.side-item.result c.deref-side-items.ensures.value c.loop-side-test.true c.side-item.is) c.loop-side.invariant (c.rests.ensures (search rules))

pub returns : goal.returns
returns g c is = all_below (RestsAt (hosts_of g.E.Backend.told g.E.Backend.counts c.args.hosts.now)) _ _ (search rules) c.loop-side.invariant
