use Rattle.serve_loop.proofs.LookingLemmas.{saw_ending, saw_none}
use Rattle.serve_loop.proofs.answering.sees_ending.Goals as goal

pub returns-in-Ok-Load-default-Some-clause-looked : goal.returns-in-Ok-Load-default-Some-clause-looked
returns-in-Ok-Load-default-Some-clause-looked g c =
    let it = c.in-Ok-Load-default-Some in
    saw_ending c.args.number _ _ it.field-0 it.field-0-0 it.field-0-1 it.field-0-1-0 it.field-0-is it.field-0-1-is it.ensures.looked

pub returns-in-Ok-Load-default-None-clause-looked : goal.returns-in-Ok-Load-default-None-clause-looked
returns-in-Ok-Load-default-None-clause-looked g c = saw_none c.args.number _ _ _ c.in-Ok-Load-default-None.ensures.looked
