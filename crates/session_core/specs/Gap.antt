-- Copies beyond a gap that have waited their time: they are struck, which the client is told by an error, and count as not received,
-- XEP-0124 section 17.3.
use Rattle.std.specs.Prelude.{ℕ, zero, suc, ◌+◌, ◌==◌, ◌&&◌, ◌||◌, Bool, false, not, nat_lt, List, [], ◌∷◌, ◌++◌, map, length, filter, Option, Some, None, if◌then◌else◌}
use Rattle.pause_rules.specs.Due.{is_gap_due}
use Rattle.session_core.specs.declared.copy.RequestCopy.{RequestCopy}
use Rattle.session_core.specs.State.{PlainSession, Issued, Strikes, TicketState, Waits, Replaced, Struck, UsedUp, last_of, standing_at, is_over}

-- the copy of this id stands beyond the gap, and arrived so many times `wait` seconds ago or earlier as the session allows
abbrev pub has_waited : PlainSession → Option RequestCopy → Bool
has_waited s None = false
has_waited s (Some copy) = is_gap_due s.terms s.gap_waits copy.arrived s.now

abbrev pub is_to_strike : PlainSession → ℕ → Bool
is_to_strike s rid = nat_lt (last_of s) rid && has_waited s (standing_at s rid)

-- so many ids from this one on
abbrev pub ids_from : ℕ → ℕ → List ℕ
ids_from rid zero = []
ids_from rid (suc count) = rid ∷ ids_from (rid + 1) count

-- the ids after the last one processed that the window reaches, for a pause or a terminate too
abbrev pub ids_ahead : PlainSession → List ℕ
ids_ahead s = ids_from (last_of s + 1) (s.terms.requests + 1)

-- the ids whose copies are struck, the lowest first: none after the ending, and none in a session that polls
abbrev pub ids_to_strike : PlainSession → List ℕ
ids_to_strike s = if is_over s || s.terms.polled then [] else filter (is_to_strike s) (ids_ahead s)

abbrev pub owes_errors : PlainSession → Bool
owes_errors s = not (length (ids_to_strike s) == 0)

-- a request that waited for a copy which was struck is told so; no other ticket is touched
abbrev pub struck_state : TicketState → TicketState
struck_state Waits = Struck
struck_state Replaced = Replaced
struck_state Struck = Struck
struck_state UsedUp = UsedUp

abbrev pub strike_ticket : ℕ → Issued → Issued
strike_ticket rid ticket = if ticket.rid == rid then record ticket { state = struck_state ticket.state } else ticket

-- the copy of this id is struck now
abbrev pub strike : PlainSession → ℕ → PlainSession
strike s rid = record s { placings = s.placings ++ Strikes rid s.now ∷ []; tickets = map (strike_ticket rid) s.tickets }

abbrev pub strike_each : List ℕ → PlainSession → PlainSession
strike_each [] s = s
strike_each (rid ∷ rids) s = strike_each rids (strike s rid)

-- all that are to be struck are, and no other
abbrev pub struck : PlainSession → PlainSession
struck s = strike_each (ids_to_strike s) s
