use Rattle.std.proofs.Common.{rules, ap}
use mathlib.Core.Option.{none}
use Rattle.atomic_table.specs.Table.{step}
use Rattle.parked_gate.specs.Steps.{met_of}
use Rattle.parked_gate.proofs.Numbering.{joins, compares, meets}
use Rattle.parked_gate.proofs.gate.Gate.meet.Goals as goal

pub join_seat-requires : goal.join_seat-requires
join_seat-requires g c =
    let rests = c.requires.other_rests in
    (c.requires.table, c.requires.other_table, rests.1, search rules, joins _ _ _ _ _ _ rests.0.1 rests.0.2)

pub load-requires : goal.load-requires
load-requires g c = (search rules, search rules, compares _ _ _ _ _ _ (met_of c.args.other.me.0) (ap (λ m. m.0.met) c.join_seat.ensures.2))

pub returns : goal.returns
returns g c =
    let me = c.args.seat.now.me in
    let known = meets g.O.Object.caller_of (step c.args.self.now.table.shared.table_id.slots 0 0 0 none) me.0 c.args.other.me.0 me.1 c.load.result
    c.join_seat.new.seat.me c.load.new.seat.me c.join_seat.ensures.2 c.load.ensures.2 in
    record {
      table = search rules;
      met = known.0;
      begins = known.1;
      begins_with_other = known.2;
      numbers = known.3;
      own = known.4;
    }
