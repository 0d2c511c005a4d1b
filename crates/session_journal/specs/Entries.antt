-- The journal that stored entries tell: the request of a body, and the terms of a creation, are those that the body gives.
use Rattle.std.specs.Prelude.{ℕ, List, [], ◌∷◌, Option, Some, None, Result, Ok, Err, option_and_then}
use Rattle.std.specs.Option.{option_map}
use Rattle.bosh_types.specs.declared.terms.Terms.{Terms}
use Rattle.body_cutter.specs.declared.parts.Cut.{Cut}
use Rattle.body_cutter.specs.Cutting.{body_cut_of}
use Rattle.session_attrs.specs.declared.request.Kind.{Kind}
use Rattle.session_attrs.specs.declared.request.Kind.TheVariants as kinds
use Rattle.session_attrs.specs.declared.request.Request.{Request}
use Rattle.session_attrs.specs.Reading.{request_of}
use Rattle.session_attrs.specs.Terms.{terms_of}
use Rattle.session_attrs.specs.Values.{values_of}
use Rattle.session_core.specs.Journal as plain
use Rattle.session_core.specs.declared.opening.Opening.{Opening}
use Rattle.session_journal.specs.declared.entry.Entered.{Entered}
use Rattle.session_journal.specs.declared.entry.Entered.TheVariants as stored
use Rattle.session_journal.specs.declared.entry.Entry.{Entry}
use Rattle.session_journal.specs.declared.entry.Limited.{Limited}
use Rattle.session_journal.specs.declared.entry.Limited.TheVariants as limits

-- what was read, unless it was refused
abbrev pub unrefused : {E X : Type 0} → Result X E → Option X
unrefused (Ok x) = Some x
unrefused (Err refusal) = None

-- the request that a body gives, where it gives one
abbrev pub request_in : List ℕ → Option Request
request_in body =
    option_and_then (λ (cut : Cut). unrefused (request_of (values_of body cut.attrs) cut.children)) (unrefused (body_cut_of body))

-- a creation has terms
abbrev pub terms_in : Kind → Option Terms
terms_in (kinds.Creation creation) = Some (terms_of creation)
terms_in (kinds.Later sid) = None

-- the opening with a request, its terms, and what the entry has
abbrev pub opening_by : List ℕ → List ℕ → List (List ℕ) → List ℕ → ℕ → ℕ → ℕ → Request → Terms → Opening
opening_by sid host greeting body now limit gap_waits request terms =
    record { request = request; body = body; terms = terms; sid = sid; host = host; greeting = greeting; at = now; limit = limit; gap_waits = gap_waits }

-- the opening with the request and the terms that its body gives
abbrev pub opening_with : List ℕ → List ℕ → List (List ℕ) → List ℕ → ℕ → ℕ → ℕ → Request → Option Opening
opening_with sid host greeting body now limit gap_waits request =
    option_map (opening_by sid host greeting body now limit gap_waits request) (terms_in request.kind)

abbrev pub opening_in : Entered → Option Opening
opening_in (stored.Open sid host greeting body now limit gap_waits) = option_and_then (opening_with sid host greeting body now limit gap_waits) (request_in body)
opening_in _ = None

abbrev pub limited_in : Limited → plain.Limited
limited_in limits.Arrival = plain.Arrival
limited_in limits.ServerStanza = plain.ServerStanza
limited_in limits.ServerClosing = plain.ServerClosing
limited_in limits.Time = plain.Time

-- what a later entry tells: an opening comes first alone
abbrev pub entered_in : Entered → Option plain.Entered
entered_in (stored.Open sid host greeting body now limit gap_waits) = None
entered_in (stored.Arrive body now) = option_map (λ request. plain.Made (plain.Arrive request body now)) (request_in body)
entered_in (stored.Collect ticket) = Some (plain.Made (plain.Collect ticket))
entered_in (stored.Back stream stanza now) = Some (plain.Made (plain.Back stream stanza now))
entered_in (stored.BackClosed stream closing now) = Some (plain.Made (plain.BackClosed stream closing now))
entered_in (stored.Tick now) = Some (plain.Made (plain.Tick now))
entered_in stored.TakeInward = Some (plain.Made plain.TakeInward)
entered_in (stored.Limit kind cost now) = Some (plain.Limit (limited_in kind) cost now)

abbrev pub entry_in : Entry → Option plain.Entry
entry_in e = option_map (λ entered. record { caller = e.caller; entered = entered }) (entered_in e.call)

-- the first and the others, where all are there
abbrev pub all_of : {X Y Z : Type 0} → (X → Y → Z) → Option X → Option Y → Option Z
all_of join None others = None
all_of join (Some first) None = None
all_of join (Some first) (Some others) = Some (join first others)

abbrev pub entries_in : List Entry → Option (List plain.Entry)
entries_in [] = Some []
entries_in (e ∷ es) = all_of (λ first others. first ∷ others) (entry_in e) (entries_in es)

-- the journal of these entries: none where the first is no creation, another is one, or a body gives no request
abbrev pub journal_in : List Entry → Option plain.Journal
journal_in [] = None
journal_in (e ∷ es) = all_of (λ opening later. record { opening = opening; entries = later }) (opening_in e.call) (entries_in es)

-- the host that the opening names
abbrev pub host_in : Entered → Option (List ℕ)
host_in (stored.Open sid host greeting body now limit gap_waits) = Some host
host_in _ = None

abbrev pub host_of : List Entry → Option (List ℕ)
host_of [] = None
host_of (e ∷ es) = host_in e.call
