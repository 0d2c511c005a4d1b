use Rattle.std.proofs.Common.{refl, ap}
use Rattle.script_text.specs.Resumed.{lost_tickets}
use Rattle.script_text.proofs.resumed.resumed.Goals as goal

pub returns : goal.returns
returns c =
    let given = c.tickets_given.ensures in (
      record { number = c.args.number; journal = given.journal; parked = lost_tickets c.tickets_given.result },
      record { numbered = refl; journal = given.is; parked = ap lost_tickets given.holds },
      record { number = refl; journal = given.is; parked = c.in_ok-parked.ensures },
    )
