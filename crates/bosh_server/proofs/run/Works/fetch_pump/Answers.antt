use Rattle.std.proofs.Common.{refl}
use Rattle.std.proofs.Math.Logic.{∥∥₁_map}
use Rattle.parked_gate.specs.Passes.{known}
use Rattle.session_pump.specs.Pumping.{pumping_of}
use Rattle.bosh_server.proofs.PumpLemmas.{more_seen}
use Rattle.bosh_server.proofs.run.Works.fetch_pump.Goals as goal

pub returns-clause-runs : goal.returns-clause-runs
returns-clause-runs g c =
    let end = c.take-pump.result in
    ∥∥₁_map end.runs
    (λ is. record {
      before = pumping_of g.E.Backend.told g.E.Backend.counts end.pump;
      runs = is;
      grows = more_seen (known end.pump.purse.directory) (known c.share.new.with) _ c.share.ensures.longer c.share.ensures.begins_with_this;
      same = refl;
    })
