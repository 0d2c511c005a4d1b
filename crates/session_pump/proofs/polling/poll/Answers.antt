use Rattle.session_pump.proofs.GivingLemmas.{failed_so, failure_moves, has_polled, idle_moves, is_idle, poll_moves, polls_not}
use Rattle.std.proofs.Common.{refl}
use Rattle.session_pump.proofs.polling.poll.Goals as goal

pub returns-in-Out-clause-polls : goal.returns-in-Out-clause-polls
returns-in-Out-clause-polls g c moment place sessions lines = poll_moves (has_polled place _ _ _ c.in-Out.wire _ _ _ sessions lines c.requires refl c.owing.ensures.number c.owing.ensures.stream c.owing.ensures.on c.owing.ensures.given c.owing.ensures.fresh c.in-Out.ensures.ends)

pub returns-in-Out-clause-gave : goal.returns-in-Out-clause-gave
returns-in-Out-clause-gave g c is place sessions lines = has_polled place _ _ _ c.in-Out.wire _ _ _ sessions lines c.requires refl c.owing.ensures.number c.owing.ensures.stream c.owing.ensures.on c.owing.ensures.given c.owing.ensures.fresh c.in-Out.ensures.ends

pub returns-in-Closed-clause-polls : goal.returns-in-Closed-clause-polls
returns-in-Closed-clause-polls g c moment place sessions lines =
    poll_moves (has_polled place _ _ _ c.in-Closed.wire _ _ _ sessions lines c.requires refl c.owing-in-Closed.ensures.number c.owing-in-Closed.ensures.stream c.owing-in-Closed.ensures.on c.owing-in-Closed.ensures.given c.owing-in-Closed.ensures.fresh c.in-Closed.ensures.ends)

pub returns-in-Closed-clause-gave : goal.returns-in-Closed-clause-gave
returns-in-Closed-clause-gave g c is place sessions lines =
    has_polled place _ _ _ c.in-Closed.wire _ _ _ sessions lines c.requires refl c.owing-in-Closed.ensures.number c.owing-in-Closed.ensures.stream c.owing-in-Closed.ensures.on c.owing-in-Closed.ensures.given c.owing-in-Closed.ensures.fresh c.in-Closed.ensures.ends

pub returns-in-Nothing-clause-polls : goal.returns-in-Nothing-clause-polls
returns-in-Nothing-clause-polls g c moment place sessions lines = idle_moves _ _ _ _ sessions lines c.requires c.in-Nothing.ensures.kept c.in-Nothing.ensures.ends

pub returns-in-Nothing-clause-over : goal.returns-in-Nothing-clause-over
returns-in-Nothing-clause-over g c is moment place sessions lines = is_idle _ _ _ _ sessions lines c.requires c.in-Nothing.ensures.kept c.in-Nothing.ensures.ends

pub returns-in-Failed-clause-polls : goal.returns-in-Failed-clause-polls
returns-in-Failed-clause-polls g c moment place sessions lines = failure_moves _ _ _ _ sessions lines c.requires c.in-Failed.ensures.kept c.in-Failed.ensures.ends

pub returns-in-Failed-clause-over : goal.returns-in-Failed-clause-over
returns-in-Failed-clause-over g c is moment place sessions lines = failed_so _ _ _ _ sessions lines c.requires c.in-Failed.ensures.kept c.in-Failed.ensures.ends

pub returns-in-NoMemory-clause-polls : goal.returns-in-NoMemory-clause-polls
returns-in-NoMemory-clause-polls g c moment place sessions lines = polls_not _ _ _ _ sessions lines c.in-NoMemory.ensures.kept c.in-NoMemory.ensures.ends
