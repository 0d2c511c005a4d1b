use Rattle.std.proofs.Common.{List, Some}
use Rattle.std.proofs.Math.Logic.{∥∥₁_map}
use Rattle.serve_tests.proofs.ToldLemmas.{told_of_each}
use Rattle.serve_tests.proofs.servers.rows.served_with.Goals as goal

pub returns : goal.returns
returns g c = record {
  told = ∥∥₁_map c.in_ok-ran.ensures.service (λ is. record {
    moment = _;
    new = _;
    runs = c.in_ok-ran.ensures.runs;
    roll = c.run_workers-ran.new.outside.roll;
    all = is.rolled.all;
    told = told_of_each (λ l. Some l.link.link.taking.bytes) (λ l. l.link.link.giving.bytes) (λ l. Some l.link.link.is_closed) (λ l. l.link.faults) _
        c.run_workers-ran.new.outside.roll is.rolled.true_of;
  });
}
