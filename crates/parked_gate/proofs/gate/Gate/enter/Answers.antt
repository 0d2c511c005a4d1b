use Rattle.std.proofs.Common.{rules, arith}
use Rattle.parked_gate.proofs.Entries.{enters_made}
use Rattle.parked_gate.proofs.gate.Gate.enter.Goals as goal

pub fetch_add-requires : goal.fetch_add-requires
fetch_add-requires g c =
    let ran = c.requires.ran in (
      c.requires.table,
      search rules,
      enters_made _ _ _ _ _ _ ran.0 ran.1 ran.2 ran.3 ran.4 (λ same. omega (arith, same, ran.5, ran.6)) (omega (arith, ran.6)),
    )
