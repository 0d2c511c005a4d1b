use Rattle.std.proofs.Common.{arith, length-append}
use Rattle.body_cutter.proofs.FedLemmas.{come_refused, refused_more}
use Rattle.body_cutter.proofs.feeding.FedText.feed.Goals as goal

pub returns-in-Refused-clause-fed : goal.returns-in-Refused-clause-fed
returns-in-Refused-clause-fed c = λ kind text f.
    let piece = c.args.piece.now in
    record {
      kind_is = f.kind_is;
      come = rw c.rest_with.ensures (refused_more kind text _ _ piece (come_refused kind text _ _ _ _ _ _ c.in-Refused.is f.come));
      len_is = omega (arith, c.saturating_add-self.ensures, f.len_is, length-append text piece);
    }
