use Rattle.std.proofs.Common.{◌∙◌, refl, rules, true≢false}
use Rattle.session_pump.specs.Giving.{gave_much, never, ran_dry}
use Rattle.session_pump.proofs.GivingLemmas.{gave_again, gave_so_often, gives_then, over_after, polls_err, times_moves}
use Rattle.session_pump.proofs.polling.poll_host.Goals as goal

pub loop-init : goal.loop-init
loop-init g c = record { name = refl; directory = refl; silences = refl; times = never }

pub returns-in_err-give_and_poll-clause-gives : goal.returns-in_err-give_and_poll-clause-gives
returns-in_err-give_and_poll-clause-gives g c = gives_then (times_moves c.loop.invariant.times) c.give_and_poll.ensures.gives

pub returns-in_err-give_and_poll-clause-polls : goal.returns-in_err-give_and_poll-clause-polls
returns-in_err-give_and_poll-clause-polls g c = polls_err _ c.from_residual.ensures.0 (gives_then (times_moves c.loop.invariant.times) c.give_and_poll.ensures.gives)

pub returns-then-not-branch-clause-gives : goal.returns-then-not-branch-clause-gives
returns-then-not-branch-clause-gives g c = gives_then (times_moves c.loop.invariant.times) c.give_and_poll.ensures.gives

pub returns-then-not-branch-clause-polls : goal.returns-then-not-branch-clause-polls
returns-then-not-branch-clause-polls g c = ran_dry (over_after (times_moves c.loop.invariant.times) (c.give_and_poll.ensures.over (search rules)))

pub returns-then-not-branch-clause-dry : goal.returns-then-not-branch-clause-dry
returns-then-not-branch-clause-dry g c is = over_after (times_moves c.loop.invariant.times) (c.give_and_poll.ensures.over (search rules))

pub loop-preserved : goal.loop-preserved
loop-preserved g c = record {
  name = c.give_and_poll.ensures.name ∙ c.loop.invariant.name;
  directory = c.give_and_poll.ensures.directory ∙ c.loop.invariant.directory;
  silences = c.give_and_poll.ensures.silences ∙ c.loop.invariant.silences;
  times = gave_again c.loop.invariant.times (c.give_and_poll.ensures.on (search rules));
}

pub returns-in_err-giving-clause-gives : goal.returns-in_err-giving-clause-gives
returns-in_err-giving-clause-gives g c = gives_then (times_moves c.loop.invariant.times) c.in_err-giving.ensures.gives

pub returns-in_err-giving-clause-polls : goal.returns-in_err-giving-clause-polls
returns-in_err-giving-clause-polls g c = polls_err _ c.from_residual-in_err-giving.ensures.0 (gives_then (times_moves c.loop.invariant.times) c.in_err-giving.ensures.gives)

pub returns-in-Done-clause-gives : goal.returns-in-Done-clause-gives
returns-in-Done-clause-gives g c = gives_then (times_moves c.loop.invariant.times) c.in_ok-giving.ensures.gives

pub returns-in-Full-clause-gives : goal.returns-in-Full-clause-gives
returns-in-Full-clause-gives g c = gives_then (times_moves c.loop.invariant.times) c.in_ok-giving.ensures.gives

pub returns-in-Done-clause-polls : goal.returns-in-Done-clause-polls
returns-in-Done-clause-polls g c =
    gave_much (gave_so_often _ _ _ (search rules) c.loop.invariant.times) c.in_ok-giving.ensures.gives (c.in_ok-giving.ensures.done (search rules))

pub returns-in-Full-clause-polls : goal.returns-in-Full-clause-polls
returns-in-Full-clause-polls g c = ran_dry (over_after (times_moves c.loop.invariant.times) (c.in_ok-giving.ensures.full (search rules)))

pub returns-in-Full-clause-dry : goal.returns-in-Full-clause-dry
returns-in-Full-clause-dry g c is = over_after (times_moves c.loop.invariant.times) (c.in_ok-giving.ensures.full (search rules))

pub returns-in-Done-clause-dry : goal.returns-in-Done-clause-dry
returns-in-Done-clause-dry g c is = absurd (true≢false is)
