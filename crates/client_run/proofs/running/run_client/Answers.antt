use Rattle.std.proofs.Common.{false, refl}
use Rattle.parked_gate.specs.Passes.{known}
use Rattle.client_run.proofs.HandedLemmas.{handed_none, still}
use Rattle.client_run.proofs.OrderLemmas.{ordered_wanting}
use Rattle.client_run.proofs.RanLemmas.{ran_wanting}
use Rattle.client_run.proofs.running.run_client.Goals as goal

pub returns-in-Err-clause-ran : goal.returns-in-Err-clause-ran
returns-in-Err-clause-ran g c = ran_wanting _ _ _ _

pub returns-in-Err-clause-ordered : goal.returns-in-Err-clause-ordered
returns-in-Err-clause-ordered g c = ordered_wanting _ _ _ _

pub returns-in-Err-clause-written : goal.returns-in-Err-clause-written
returns-in-Err-clause-written g c = handed_none false _ _ _ _ (still (known c.args.pass.now)) refl
