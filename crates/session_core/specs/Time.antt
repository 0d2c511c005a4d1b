-- What time alone does: it comes first in each call that has a moment, XEP-0124 sections 7.1 and 10.
use Rattle.std.specs.Prelude.{ℕ, ◌==◌, ◌&&◌, ◌||◌, Bool, not, max, length, if◌then◌else◌}
use Rattle.bosh_types.specs.declared.ending.Ending.TheVariants.{Silent}
use Rattle.pause_rules.specs.Due.{is_silent_due}
use Rattle.session_core.specs.Answers.{has_reason, settled}
use Rattle.session_core.specs.Endings.{ended}
use Rattle.session_core.specs.Gap.{owes_errors, struck}
use Rattle.session_core.specs.State.{PlainSession, held, beyond, last_answer, last_error, is_over}

-- a moment that is earlier than one before it counts as that one
abbrev pub at_moment : PlainSession → ℕ → PlainSession
at_moment s now = record s { now = max s.now now }

-- when the client was last told something: by the last answer, or by the last error
abbrev pub last_told : PlainSession → ℕ
last_told s = max (last_answer s).moment (last_error s)

-- since when it has been quiet: since the client was told something, and while copies stand beyond a gap, since the last arrival
abbrev pub quiet_of : PlainSession → ℕ
quiet_of s = if length (beyond s) == 0 then last_told s else max (last_told s) s.last_arrival

-- in a session that doesn't poll none stands beyond the gap: one that does has its error to come
abbrev pub owes_nothing_beyond : PlainSession → Bool
owes_nothing_beyond s = s.terms.polled || (length (beyond s) == 0)

-- no request is held, no copy beyond the gap has its error to come, and it has been quiet for longer than allowed
abbrev pub is_silent : PlainSession → Bool
is_silent s = ((length (held s) == 0) && owes_nothing_beyond s) && is_silent_due s.period (quiet_of s) s.now

abbrev pub silenced : PlainSession → PlainSession
silenced s = if not (is_over s) && is_silent s then ended (Silent (quiet_of s) s.now) s else s

-- first those are answered that have waited their time, then copies beyond the gap are struck that have, then silence may end the session
abbrev pub time_applied : PlainSession → ℕ → PlainSession
time_applied s now = silenced (struck (settled (at_moment s now)))

-- at this moment time has something to do
abbrev pub is_due : PlainSession → ℕ → Bool
is_due s now = not (is_over s) && ((has_reason (at_moment s now) || owes_errors (at_moment s now)) || is_silent (at_moment s now))
