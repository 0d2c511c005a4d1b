use Rattle.std.proofs.Common.{◌++◌, refl, arith, length-append}
use Rattle.body_cutter.proofs.FedLemmas.{alive_come, come_alive, piece_read, piece_refused}
use Rattle.body_cutter.proofs.feeding.FedText.read_on.Goals as goal

pub returns-in-Ok-Some-clause-fed : goal.returns-in-Ok-Some-clause-fed
returns-in-Ok-Some-clause-fed c = λ kind text f alive.
    let piece = c.args.piece.now in
    let r = come_alive kind text _ _ _ _ alive f.come in
    let reads = rw c.in-Ok-Some.field-0-is at c.in-Ok-Some.ensures in
    rw c.refuse.ensures (record {
      kind_is = f.kind_is;
      come = piece_refused kind text _ _ _ _ piece _ _ _ r refl reads;
      len_is = omega (arith, r.len_is, length-append text piece, c.if-saturating_add-gt-MOST_COUNTED.false, c.saturating_add.ensures);
    })

pub returns-in-Ok-None-clause-fed : goal.returns-in-Ok-None-clause-fed
returns-in-Ok-None-clause-fed c = λ kind text f alive.
    let piece = c.args.piece.now in
    let r = come_alive kind text _ _ _ _ alive f.come in
    let reads = rw c.in-Ok-None.field-0-is at c.in-Ok-None.ensures in
    record {
      kind_is = f.kind_is;
      come = rw c.grow.ensures (alive_come kind (text ++ piece) _ _ _ _ alive (piece_read kind text _ _ _ _ piece _ r refl reads));
      len_is = omega (arith, r.len_is, length-append text piece, c.if-saturating_add-gt-MOST_COUNTED.false, c.saturating_add.ensures);
    }
