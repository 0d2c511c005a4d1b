-- What went inward, what the server gave, as a journal tells it, and what answers took of that.
use Rattle.std.specs.Prelude.{ℕ, ◌==◌, Bool, List, [], ◌∷◌, ◌++◌, map, take, sum_by, filter, Option, Some, None}
use Rattle.std.specs.List.{filter_map}
use Rattle.bosh_types.specs.declared.inward.Inward.{Inward}
use Rattle.bosh_types.specs.declared.inward.Inward.TheVariants as inwards
use Rattle.session_core.specs.declared.replies.Taken.{Taken}
use Rattle.session_core.specs.declared.replies.Taken.TheVariants as takings
use Rattle.session_core.specs.Copy.{unnamed}
use Rattle.session_core.specs.Journal.{Arrive, Collect, Back, BackClosed, Tick, TakeInward, Entered, Made, Limit, Journal, state_of}
use Rattle.session_core.specs.Machine.{back, back_closed}
use Rattle.session_core.specs.declared.outward.Outward.{Outward}
use Rattle.session_core.specs.declared.outward.Outward.TheVariants.{Stanza, Close}
use Rattle.session_core.specs.Outward.{items_in}
use Rattle.session_core.specs.Points.{points_of}
use Rattle.session_core.specs.State.{PlainSession, Answered, inward}

abbrev pub stream_of : Inward → ℕ
stream_of (inwards.Item stream stanza) = stream
stream_of (inwards.Restart stream) = stream
stream_of (inwards.Open stream to) = stream
stream_of (inwards.Close stream) = stream

-- what goes inward on a stream: the items of the run's copies, those of the creation first
abbrev pub inward_of : Journal → ℕ → List Inward
inward_of journal stream = filter (λ item. stream_of item == stream) (inward (state_of journal))

-- whether an inward item is passed on
abbrev pub passes : Entered → ℕ
passes (Made (Arrive request body now)) = 0
passes (Made (Collect ticket)) = 0
passes (Made (Back stream stanza now)) = 0
passes (Made (BackClosed stream closing now)) = 0
passes (Made (Tick now)) = 0
passes (Made TakeInward) = 1
passes (Limit kind cost now) = 0

-- what was passed on to the server: one inward item from the front with each entry that took one
abbrev pub passed_of : Journal → List Inward
passed_of journal = take (sum_by (λ entry. passes entry.entered) journal.entries) (inward (state_of journal))

abbrev pub if_done : Outward → Taken → Option Outward
if_done item takings.Done = Some item
if_done item takings.Full = None
if_done item takings.Over = None

-- what the server gave with an entry, where it was taken
abbrev pub given_by : PlainSession → Entered → Option Outward
given_by s (Made (Arrive request body now)) = None
given_by s (Made (Collect ticket)) = None
given_by s (Made (Back stream stanza now)) = if_done (Stanza stream stanza) (back s stream stanza now).1
given_by s (Made (BackClosed stream closing now)) = if_done (Close stream closing) (back_closed s stream closing now).1
given_by s (Made (Tick now)) = None
given_by s (Made TakeInward) = None
given_by s (Limit kind cost now) = None

abbrev pub is_on : ℕ → Outward → Bool
is_on stream (Stanza other bytes) = other == stream
is_on stream (Close other closing) = other == stream

-- what the server gave in all: the greeting, then each stanza and closing that was taken
abbrev pub given_in : Journal → List Outward
given_in journal =
    map (Stanza unnamed) journal.opening.greeting ++ filter_map (λ point. given_by point.before point.entered) (points_of journal)

abbrev pub given_of : Journal → ℕ → List Outward
given_of journal stream = filter (is_on stream) (given_in journal)

-- the items that answers took, in order
abbrev pub items_taken : List Answered → List Outward
items_taken [] = []
items_taken (answer ∷ answers) = items_in answer.front ++ items_taken answers
