use Rattle.std.proofs.Common.{rules, refl, Some, None}
use Rattle.bosh_ports.proofs.FaultLemmas.{HasRisen-after}
use Rattle.parked_gate.specs.Passes.{known}
use Rattle.client_run.specs.Working.{no_hand, no_row, none, row_of, setting_of, side_of, wire_of}
use Rattle.client_run.specs.Adding.{is_of_worker}
use Rattle.client_run.proofs.AddingLemmas.{adds_none}
use Rattle.client_run.proofs.CarriedLemmas.{moves_carry}
use Rattle.client_run.proofs.WorkAdds.{moves_add}
use Rattle.client_run.proofs.RiseLemmas.{dialled_risen, moves_count, row_risen}
use Rattle.client_run.proofs.EndLemmas.{ends_dialled, faults_rise, refused_by}
use Rattle.client_run.proofs.working.work.Goals as goal

pub returns-in-None-clause-works : goal.returns-in-None-clause-works
returns-in-None-clause-works g c =
    let start = side_of (known c.args.pass.now) (g.N.Network.events c.args.network.now) (g.N.Network.counts c.args.network.now) None no_hand no_row in
    record { hand = no_hand; row = row_of 3 0 0; moves = c.in-None.ensures.dials (g.C.Clock.moment c.args.site.now.clock.now) start (known c.args.pass.now) no_hand none; ends = refl }

pub returns-in-None-clause-fault : goal.returns-in-None-clause-fault
returns-in-None-clause-fault g c = λ is.
    let start = side_of (known c.args.pass.now) (g.N.Network.events c.args.network.now) (g.N.Network.counts c.args.network.now) None no_hand no_row in
    row_risen (setting_of (g.C.Clock.moment c.args.site.now.clock.now) c.args.site.now.port) start (side_of (known c.args.pass.now) (g.N.Network.events c.first_line.new.network) (g.N.Network.counts c.first_line.new.network) None no_hand (row_of 3 0 0)) (c.in-None.ensures.dials (g.C.Clock.moment c.args.site.now.clock.now) start (known c.args.pass.now) no_hand none) refl (search rules)

pub returns-clause-works : goal.returns-clause-works
returns-clause-works g c =
    let start = side_of (known c.args.pass.now) (g.N.Network.events c.args.network.now) (g.N.Network.counts c.args.network.now) None no_hand no_row in
    let first = c.in-Some.ensures.dials (g.C.Clock.moment c.args.site.now.clock.now) start (known c.args.pass.now) no_hand none in
    let served = c.serve-worked.ensures.works start first.0 first.1 in
    record { hand = served.hand; row = served.row; moves = c.close.ensures.closes (setting_of (g.C.Clock.moment c.args.site.now.clock.now) c.args.site.now.port) start (known c.serve-worked.new.pass) served.hand served.row served.moves; ends = served.ends }

pub returns-clause-fault : goal.returns-clause-fault
returns-clause-fault g c =
    let start = side_of (known c.args.pass.now) (g.N.Network.events c.args.network.now) (g.N.Network.counts c.args.network.now) None no_hand no_row in
    let first = c.in-Some.ensures.dials (g.C.Clock.moment c.args.site.now.clock.now) start (known c.args.pass.now) no_hand none in
    let served = c.serve-worked.ensures.works start first.0 first.1 in
    faults_rise (setting_of (g.C.Clock.moment c.args.site.now.clock.now) c.args.site.now.port) start (known c.serve-worked.new.pass) (g.N.Network.events c.close.new.network) (g.N.Network.counts c.close.new.network) c.serve-worked.result refl
    (record { hand = served.hand; row = served.row; moves = c.close.ensures.closes (setting_of (g.C.Clock.moment c.args.site.now.clock.now) c.args.site.now.port) start (known c.serve-worked.new.pass) served.hand served.row served.moves; ends = served.ends })

pub returns-clause-dialled : goal.returns-clause-dialled
returns-clause-dialled g c =
    let start = side_of (known c.args.pass.now) (g.N.Network.events c.args.network.now) (g.N.Network.counts c.args.network.now) None no_hand no_row in
    let first = c.in-Some.ensures.dials (g.C.Clock.moment c.args.site.now.clock.now) start (known c.args.pass.now) no_hand none in
    let mid = side_of (known c.args.pass.now) (g.N.Network.events c.first_line.new.network) (g.N.Network.counts c.first_line.new.network) (Some (wire_of (g.N.Link.Link.left c.in-Some.first.link) (g.N.Link.Link.given c.in-Some.first.link) c.in-Some.first.reader)) no_hand first.0 in
    let served = c.serve-worked.ensures.works mid first.0 none in
    let later = c.close.ensures.closes (setting_of (g.C.Clock.moment c.args.site.now.clock.now) c.args.site.now.port) mid (known c.serve-worked.new.pass) served.hand served.row served.moves in
    ends_dialled c.serve-worked.result _ _
    (HasRisen-after start.counts.dialled mid.counts.dialled (g.N.Network.counts c.close.new.network).dialled (dialled_risen (setting_of (g.C.Clock.moment c.args.site.now.clock.now) c.args.site.now.port) start mid first.1 refl (wire_of (g.N.Link.Link.left c.in-Some.first.link) (g.N.Link.Link.given c.in-Some.first.link) c.in-Some.first.reader) refl)
    (moves_count (setting_of (g.C.Clock.moment c.args.site.now.clock.now) c.args.site.now.port) mid (side_of (known c.serve-worked.new.pass) (g.N.Network.events c.close.new.network) (g.N.Network.counts c.close.new.network) None served.hand served.row) later).dialled)

pub returns-in-None-clause-adds : goal.returns-in-None-clause-adds
returns-in-None-clause-adds g c = adds_none is_of_worker (known c.args.pass.now) (known c.args.pass.now) refl

pub returns-clause-adds : goal.returns-clause-adds
returns-clause-adds g c =
    let start = side_of (known c.args.pass.now) (g.N.Network.events c.args.network.now) (g.N.Network.counts c.args.network.now) None no_hand no_row in
    let first = c.in-Some.ensures.dials (g.C.Clock.moment c.args.site.now.clock.now) start (known c.args.pass.now) no_hand none in
    let served = c.serve-worked.ensures.works start first.0 first.1 in
    moves_add (setting_of (g.C.Clock.moment c.args.site.now.clock.now) c.args.site.now.port) start (side_of (known c.serve-worked.new.pass) (g.N.Network.events c.close.new.network) (g.N.Network.counts c.close.new.network) None served.hand served.row)
    (c.close.ensures.closes (setting_of (g.C.Clock.moment c.args.site.now.clock.now) c.args.site.now.port) start (known c.serve-worked.new.pass) served.hand served.row served.moves)

pub returns-in-None-clause-carries : goal.returns-in-None-clause-carries
returns-in-None-clause-carries g c =
    let start = side_of (known c.args.pass.now) (g.N.Network.events c.args.network.now) (g.N.Network.counts c.args.network.now) None no_hand no_row in
    moves_carry (setting_of (g.C.Clock.moment c.args.site.now.clock.now) c.args.site.now.port) start (side_of (known c.args.pass.now) (g.N.Network.events c.first_line.new.network) (g.N.Network.counts c.first_line.new.network) None no_hand (row_of 3 0 0))
    (c.in-None.ensures.dials (g.C.Clock.moment c.args.site.now.clock.now) start (known c.args.pass.now) no_hand none) refl refl refl

pub returns-clause-carries : goal.returns-clause-carries
returns-clause-carries g c =
    let start = side_of (known c.args.pass.now) (g.N.Network.events c.args.network.now) (g.N.Network.counts c.args.network.now) None no_hand no_row in
    let first = c.in-Some.ensures.dials (g.C.Clock.moment c.args.site.now.clock.now) start (known c.args.pass.now) no_hand none in
    let served = c.serve-worked.ensures.works start first.0 first.1 in
    moves_carry (setting_of (g.C.Clock.moment c.args.site.now.clock.now) c.args.site.now.port) start (side_of (known c.serve-worked.new.pass) (g.N.Network.events c.close.new.network) (g.N.Network.counts c.close.new.network) None served.hand served.row)
    (c.close.ensures.closes (setting_of (g.C.Clock.moment c.args.site.now.clock.now) c.args.site.now.port) start (known c.serve-worked.new.pass) served.hand served.row served.moves) refl refl refl

pub returns-clause-refused : goal.returns-clause-refused
returns-clause-refused g c =
    let start = side_of (known c.args.pass.now) (g.N.Network.events c.args.network.now) (g.N.Network.counts c.args.network.now) None no_hand no_row in
    let first = c.in-Some.ensures.dials (g.C.Clock.moment c.args.site.now.clock.now) start (known c.args.pass.now) no_hand none in
    let served = c.serve-worked.ensures.works start first.0 first.1 in
    refused_by (setting_of (g.C.Clock.moment c.args.site.now.clock.now) c.args.site.now.port) start (known c.serve-worked.new.pass) (g.N.Network.events c.close.new.network) (g.N.Network.counts c.close.new.network) c.serve-worked.result refl
    (record { hand = served.hand; row = served.row; moves = c.close.ensures.closes (setting_of (g.C.Clock.moment c.args.site.now.clock.now) c.args.site.now.port) start (known c.serve-worked.new.pass) served.hand served.row served.moves; ends = served.ends })
