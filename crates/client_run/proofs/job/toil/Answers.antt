use Rattle.std.proofs.Common.{rules, ap, sym, ◌∙◌, None}
use Rattle.std.specs.Prelude.{Ok}
use Rattle.parked_gate.specs.Passes.{known}
use Rattle.client_run.specs.Working.{no_hand, no_row, setting_of, side_of}
use Rattle.client_run.proofs.AlarmLemmas.{heard_by}
use Rattle.client_run.proofs.RanLemmas.{no_true}
use Rattle.client_run.proofs.RunningLemmas.{all_kept, all_none, end_by, end_wanting}
use Rattle.client_run.proofs.job.toil.Goals as goal

pub loop-init : goal.loop-init
loop-init g c = record { next = tt; finite = tt; pass = search rules; mine = all_none (known c.args.pass.now) c.requires.fresh }

pub returns-in-Err-clause-tells : goal.returns-in-Err-clause-tells
returns-in-Err-clause-tells g c = end_wanting c.in-Err.field-0 (known c.work.new.pass) (g.N.Network.counts c.work.new.network) (known c.work.new.bell.ear.pass)

pub returns-then-not-is_silent-clause-tells : goal.returns-then-not-is_silent-clause-tells
returns-then-not-is_silent-clause-tells g c =
    end_by (setting_of (g.C.Clock.moment c.args.site.now.clock.now) c.args.site.now.port) (side_of (known c.loop.pass) (g.N.Network.events c.loop.share) (g.N.Network.counts c.loop.share) None no_hand no_row) (known c.work.new.pass) (g.N.Network.events c.work.new.network) (g.N.Network.counts c.work.new.network) (known c.work.new.bell.ear.pass)
    c.in-Ok.worked c.in-Ok.ensures.works c.in-Ok.ensures.fault c.in-Ok.ensures.dialled (λ status is. c.in-Ok.ensures.refused status (ap (λ w. Ok w) is)) (all_kept (known c.loop.pass) (known c.work.new.pass) c.loop.invariant.mine c.in-Ok.ensures.adds) (λ silent. no_true _ (sym c.is_silent.ensures ∙ c.if-not-is_silent.true) silent)

pub returns-then-hears-clause-tells : goal.returns-then-hears-clause-tells
returns-then-hears-clause-tells g c =
    end_by (setting_of (g.C.Clock.moment c.args.site.now.clock.now) c.args.site.now.port) (side_of (known c.loop.pass) (g.N.Network.events c.loop.share) (g.N.Network.counts c.loop.share) None no_hand no_row) (known c.work.new.pass) (g.N.Network.events c.work.new.network) (g.N.Network.counts c.work.new.network) (known c.hears.new.self.pass)
    c.in-Ok.worked c.in-Ok.ensures.works c.in-Ok.ensures.fault c.in-Ok.ensures.dialled (λ status is. c.in-Ok.ensures.refused status (ap (λ w. Ok w) is)) (all_kept (known c.loop.pass) (known c.work.new.pass) c.loop.invariant.mine c.in-Ok.ensures.adds) (λ silent. heard_by (known c.hears.new.self.pass) (sym c.hears.ensures.heard ∙ c.if-hears.true) (c.hears.ensures.mine ∙ c.work.new.bell.unraised))

pub loop-preserved : goal.loop-preserved
loop-preserved g c = record { next = tt; finite = tt; pass = search rules; mine = all_kept (known c.loop.pass) (known c.work.new.pass) c.loop.invariant.mine c.in-Ok.ensures.adds }
