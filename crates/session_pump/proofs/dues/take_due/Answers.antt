use Rattle.std.proofs.Common.{refl}
use Rattle.session_pump.specs.Dues.{stays}
use Rattle.session_pump.proofs.DueLemmas.{still_within, taken_more}
use Rattle.session_pump.proofs.dues.take_due.Goals as goal

pub loop-init : goal.loop-init
loop-init g c = record { next = tt; finite = tt; taken = λ number. stays refl; kept = λ number within. within }

pub loop-preserved : goal.loop-preserved
loop-preserved g c = record {
  next = tt;
  finite = tt;
  taken = taken_more _ _ _ _ _ _ _ c.in_ok-push.ensures.items c.in-Some-next_due.ensures.different c.in-Some-next_due.ensures.next c.clear.ensures.found c.loop.invariant.taken;
  kept = still_within _ _ _ _ c.in_ok-push.ensures.items c.loop.invariant.kept;
}

pub returns-in_default-clause-taken : goal.returns-in_default-clause-taken
returns-in_default-clause-taken g c = c.loop.invariant.taken

pub returns-in_default-clause-kept : goal.returns-in_default-clause-kept
returns-in_default-clause-kept g c = c.loop.invariant.kept
