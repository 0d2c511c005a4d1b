-- Which bodies a call lets arrive.
use Rattle.std.proofs.Common.{◌≡◌, ℕ, zero, suc, Bool, true, false, List, [], ◌∷◌, ◌++◌, map, length, Option, Some, None, refl, sym, subst, ◌∙◌, ap, append_assoc, if◌then◌else◌}
use Rattle.std.specs.Prelude.{is_some}
use Rattle.std.proofs.lemmas.List.{append-nil}
use Rattle.session_attrs.specs.declared.request.Request.{Request}
use Rattle.session_core.specs.declared.copy.RequestCopy.{RequestCopy}
use Rattle.session_core.specs.declared.replies.Arrived.{Arrived}
use Rattle.session_core.specs.declared.replies.Arrived.TheVariants as arrivals
use Rattle.session_core.specs.declared.replies.Collected.{Collected}
use Rattle.session_core.specs.declared.replies.Collected.TheVariants as collections
use Rattle.session_core.specs.declared.replies.Ticked.{Ticked}
use Rattle.session_core.specs.declared.replies.Ticked.TheVariants.{Changed, Quiet}
use Rattle.session_core.specs.Copy.{unnamed}
use Rattle.session_core.specs.Journal.{Call, Arrive, Back, BackClosed, Collect, Tick, TakeInward, Entered, Made, Limit, Arrival, Entry, Journal, IsAllowed, state_of, entered_by, collected_entry}
use Rattle.session_core.specs.Machine.{arrive, tick, collect, take_inward, is_full, body_cost, stanza_cost, plain_cost}
use Rattle.session_core.specs.Run.{moment_after, arrival_in, arrivals_from}
use Rattle.session_core.specs.State.{PlainSession, is_over}
use Rattle.session_core.specs.Time.{is_due}
use Rattle.session_laws.specs.Growing.{Begins}
use Rattle.session_laws.proofs.OneMore.{state_one_more}
use Rattle.session_laws.proofs.Tests.{true_false}
use Rattle.script_text.specs.declared.event.Event.{Event}
use Rattle.script_text.specs.declared.event.Event.TheVariants.{Arrives, Gives, Shuts, Passes}
use Rattle.script_text.specs.declared.live.Parked.{Parked}
use Rattle.script_text.specs.declared.report.ReportLine.{ReportLine}
use Rattle.session_calls.specs.After.{after_call, all_taken, untaken, with_entered, with_taken}
use Rattle.script_text.specs.Live.{PlainLive, state, Turn, all_collected, settled_after, told, refused_first, with_journal, with_parked, arrived, ticked, turn_at}
use Rattle.script_text.specs.Posted.{bodies_of}
use Rattle.script_text.specs.Stands.{IsEvent}
use Rattle.script_text.proofs.JournalSteps.{Comes}
use Rattle.script_text.proofs.ToldLemmas.{TellNone, none_of_none, none_out, settled_ending}
use Rattle.script_text.proofs.TurnLemmas.{IsUp, later_made, few}

-- the body that arrives with an entry
abbrev entered_bodies : Entered → List (List ℕ)
entered_bodies (Made (Arrive request body now)) = body ∷ []
entered_bodies (Made (Collect ticket)) = []
entered_bodies (Made (Back stream stanza now)) = []
entered_bodies (Made (BackClosed stream closing now)) = []
entered_bodies (Made (Tick now)) = []
entered_bodies (Made TakeInward) = []
entered_bodies (Limit kind cost now) = []

abbrev body_of : RequestCopy → List ℕ
body_of copy = copy.body

bodies_append : (copies others : List RequestCopy) → map body_of (copies ++ others) ≡ map body_of copies ++ map body_of others
bodies_append [] others = refl
bodies_append (copy ∷ copies) others = ap (λ l. copy.body ∷ l) (bodies_append copies others)

one_in : (moment : ℕ) (entered : Entered) → map body_of (arrival_in moment entered) ≡ entered_bodies entered
one_in moment (Made (Arrive request body now)) = refl
one_in moment (Made (Collect ticket)) = refl
one_in moment (Made (Back stream stanza now)) = refl
one_in moment (Made (BackClosed stream closing now)) = refl
one_in moment (Made (Tick now)) = refl
one_in moment (Made TakeInward) = refl
one_in moment (Limit kind cost now) = refl

bodies_push : (moment : ℕ) (entries : List Entry) (entry : Entry)
    → map body_of (arrivals_from moment (entries ++ entry ∷ [])) ≡ map body_of (arrivals_from moment entries) ++ entered_bodies entry.entered
bodies_push moment [] entry = ap (map body_of) (append-nil (arrival_in moment entry.entered)) ∙ one_in moment entry.entered
bodies_push moment (first ∷ entries) entry =
    bodies_append (arrival_in moment first.entered) (arrivals_from (moment_after moment first.entered) (entries ++ entry ∷ []))
    ∙ ap (λ l. map body_of (arrival_in moment first.entered) ++ l) (bodies_push (moment_after moment first.entered) entries entry)
    ∙ sym (append_assoc (map body_of (arrival_in moment first.entered)) (map body_of (arrivals_from (moment_after moment first.entered) entries)) (entered_bodies entry.entered))
    ∙ ap (λ l. l ++ entered_bodies entry.entered) (sym (bodies_append (arrival_in moment first.entered) (arrivals_from (moment_after moment first.entered) entries)))

-- the bodies of an entry, if there is one
abbrev made_bodies : Option Entered → List (List ℕ)
made_bodies None = []
made_bodies (Some entered) = entered_bodies entered

with_bodies : (journal : Journal) (o : Option Entered) → bodies_of (with_entered journal o) ≡ bodies_of journal ++ made_bodies o
with_bodies journal None = sym (append-nil (bodies_of journal))
with_bodies journal (Some entered) = ap (λ l. journal.opening.body ∷ l) (bodies_push journal.opening.at journal.entries (record { caller = 0; entered = entered }))

pub with_opening : (journal : Journal) (o : Option Entered) → (with_entered journal o).opening ≡ journal.opening
with_opening journal None = refl
with_opening journal (Some entered) = refl

-- the opening and the bodies stay
abbrev pub SameBodies : Journal → Journal → Type 0
SameBodies journal later = (later.opening ≡ journal.opening) × (bodies_of later ≡ bodies_of journal)

same_after : (journal : Journal) (call : Call) → made_bodies (entered_by (state_of journal) call) ≡ [] → SameBodies journal (after_call journal call)
same_after journal call none = (
  with_opening journal (entered_by (state_of journal) call),
  with_bodies journal (entered_by (state_of journal) call) ∙ ap (λ l. bodies_of journal ++ l) none ∙ append-nil (bodies_of journal),
)

-- Calls with which no body comes.

limited_bodies : (over full : Bool) (made limit : Entered) → entered_bodies made ≡ [] → entered_bodies limit ≡ []
    → made_bodies (if over then None else Some (if full then limit else made)) ≡ []
limited_bodies true full made limit m l = refl
limited_bodies false true made limit m l = l
limited_bodies false false made limit m l = m

due_bodies : (due full : Bool) (made limit : Entered) → entered_bodies made ≡ [] → entered_bodies limit ≡ []
    → made_bodies (if due then Some (if full then limit else made) else None) ≡ []
due_bodies false full made limit m l = refl
due_bodies true true made limit m l = l
due_bodies true false made limit m l = m

collected_bodies : (s : PlainSession) (ticket : ℕ) (reply : Collected) → made_bodies (collected_entry s (Collect ticket) reply) ≡ []
collected_bodies s ticket (collections.Answer body) = refl
collected_bodies s ticket collections.NotYet = refl
collected_bodies s ticket collections.Superseded = refl
collected_bodies s ticket collections.UnknownTicket = refl

taken_bodies : (b : Bool) → made_bodies (if b then Some (Made TakeInward) else None) ≡ []
taken_bodies true = refl
taken_bodies false = refl

taken_same : (count : ℕ) (journal : Journal) → SameBodies journal (with_taken count journal)
taken_same zero journal = (refl, refl)
taken_same (suc count) journal =
    let one = same_after journal TakeInward (taken_bodies (is_some (take_inward (state_of journal)).1)) in
    let rest = taken_same count (after_call journal TakeInward) in
    (rest.0 ∙ one.0, rest.1 ∙ one.1)

collected_same : (parked : List Parked) (journal : Journal) → SameBodies journal (all_collected journal parked)
collected_same [] journal = (refl, refl)
collected_same (first ∷ parked) journal =
    let one = same_after journal (Collect first.ticket) (collected_bodies (state_of journal) first.ticket (collect (state_of journal) first.ticket).1) in
    let rest = collected_same parked (after_call journal (Collect first.ticket)) in
    (rest.0 ∙ one.0, rest.1 ∙ one.1)

settled_same : (s : PlainLive) → SameBodies s.journal (settled_after s).journal
settled_same s =
    let taken = taken_same (length (untaken s.journal)) s.journal in
    let rest = collected_same s.parked (all_taken s.journal) in
    (rest.0 ∙ taken.0, rest.1 ∙ taken.1)

-- Turns.

-- after a turn these bodies are there too; all of them, while the session is live
pub record Brings (s : PlainLive) (more : List (List ℕ)) (turn : Turn) : Type 0 where
  pub number : turn.after.number ≡ s.number
  pub opening : turn.after.journal.opening ≡ s.journal.opening
  pub all : is_over (state turn.after) ≡ false → bodies_of turn.after.journal ≡ bodies_of s.journal ++ more
  pub first : Begins (bodies_of turn.after.journal) (bodies_of s.journal ++ more)

-- nothing more comes by telling
pub told_brings : (s : PlainLive) (answer : List ReportLine) → Brings s [] (told s answer)
told_brings s answer =
    let same = settled_same s in
    record {
      number = refl;
      opening = same.0;
      all = λ on. same.1 ∙ sym (append-nil (bodies_of s.journal));
      first = ([], ap (λ l. l ++ []) (sym same.1));
    }

begins_on : (xs ys zs : List (List ℕ)) → Begins xs ys → Begins ys zs → Begins xs zs
begins_on xs ys zs one other = (one.0 ++ other.0, other.1 ∙ ap (λ l. l ++ other.0) one.1 ∙ append_assoc xs one.0 other.0)

module _ (s : PlainLive) (journal : Journal) (parked : List Parked) (more : List (List ℕ)) (turn : Turn) (opening : journal.opening ≡ s.journal.opening)
    (all : is_over (state turn.after) ≡ false → bodies_of journal ≡ bodies_of s.journal ++ more)
    (first : Begins (bodies_of journal) (bodies_of s.journal ++ more)) where
  -- what the session brings with another journal
  moved_brings : Brings (record s { journal = journal; parked = parked }) [] turn → Brings s more turn
  moved_brings brings = record {
    number = brings.number;
    opening = brings.opening ∙ opening;
    all = λ on. brings.all on ∙ append-nil (bodies_of journal) ∙ all on;
    first = begins_on (bodies_of turn.after.journal) (bodies_of journal) (bodies_of s.journal ++ more)
        (subst (Begins (bodies_of turn.after.journal)) (append-nil (bodies_of journal)) brings.first) first;
  }

-- what comes with an event
abbrev pub brought : Event → List (List ℕ)
brought (Arrives conn request body) = body ∷ []
brought (Gives stream stanza) = []
brought (Shuts stream closing) = []
brought Passes = []

module _ (s : PlainLive) (up : IsUp s) (call : Call) (allowed : IsAllowed call) (comes : Comes call) where
  same_brings : made_bodies (entered_by (state s) call) ≡ [] → (parked : List Parked) (answer : List ReportLine)
      → Brings s [] (told (record s { journal = after_call s.journal call; parked = parked }) answer)
  same_brings none parked answer =
      let same = same_after s.journal call none in
      moved_brings s (after_call s.journal call) parked [] _ same.0 (λ on. same.1 ∙ sym (append-nil (bodies_of s.journal)))
      ([], ap (λ l. l ++ []) (sym same.1)) (told_brings (record s { journal = after_call s.journal call; parked = parked }) answer)

  pub ending_after : (parked : List Parked) (answer : List ReportLine) → TellNone answer
      → (state (told (record s { journal = after_call s.journal call; parked = parked }) answer).after).ending ≡ (state_of (after_call s.journal call)).ending
  ending_after parked answer none =
      settled_ending (record s { journal = after_call s.journal call; parked = parked }) answer (later_made s up call allowed comes) (few s up call allowed comes) none

-- a copy enters its body, or ends a session whose journal is full
data Enters (s : PlainSession) (body : List ℕ) (o : Option Entered) : Type 0 where
  WithBody : made_bodies o ≡ body ∷ [] → Enters s body o
  AtLimit : (cost now : ℕ) → o ≡ Some (Limit Arrival cost now) → Enters s body o

enters_by : (s : PlainSession) (request : Request) (body : List ℕ) (now : ℕ) (over full : Bool) → over ≡ false
    → Enters s body (if over then None else Some (if full then Limit Arrival (body_cost request body) now else Made (Arrive request body now)))
enters_by s request body now true full on = absurd (cc)
enters_by s request body now false true on = AtLimit (body_cost request body) now refl
enters_by s request body now false false on = WithBody refl

module _ (s : PlainLive) (up : IsUp s) (request : Request) (body : List ℕ) (now : ℕ) (allowed : IsAllowed (Arrive request body now)) where
  abbrev arriving : Call
  arriving = Arrive request body now

  over_at_limit : (cost at : ℕ) → entered_by (state s) arriving ≡ Some (Limit Arrival cost at) → is_over (state_of (after_call s.journal arriving)) ≡ true
  over_at_limit cost at is =
      ap (λ o. is_over (state_of (with_entered s.journal o))) is
      ∙ ap is_over (state_one_more s.journal (record { caller = 0; entered = Limit Arrival cost at }))

  arrival_brings : Enters (state s) body (entered_by (state s) arriving) → (parked : List Parked) (answer : List ReportLine) → TellNone answer
      → Brings s (body ∷ []) (told (record s { journal = after_call s.journal arriving; parked = parked }) answer)
  arrival_brings (WithBody it) parked answer none =
      let are = with_bodies s.journal (entered_by (state s) arriving) ∙ ap (λ l. bodies_of s.journal ++ l) it in
      moved_brings s (after_call s.journal arriving) parked (body ∷ []) _ (with_opening s.journal (entered_by (state s) arriving)) (λ on. are)
      ([], sym are ∙ sym (append-nil (bodies_of (after_call s.journal arriving)))) (told_brings (record s { journal = after_call s.journal arriving; parked = parked }) answer)
  arrival_brings (AtLimit cost at it) parked answer none =
      let are = with_bodies s.journal (entered_by (state s) arriving) ∙ ap (λ o. bodies_of s.journal ++ made_bodies o) it ∙ append-nil (bodies_of s.journal) in
      let over = ap is_some (ending_after s up arriving allowed tt parked answer none) ∙ over_at_limit cost at it in
      moved_brings s (after_call s.journal arriving) parked (body ∷ []) _ (with_opening s.journal (entered_by (state s) arriving))
      (λ on.
      let never : true ≡ false = sym over ∙ on in
      absurd (true_false never))
      (body ∷ [], ap (λ l. l ++ body ∷ []) (sym are)) (told_brings (record s { journal = after_call s.journal arriving; parked = parked }) answer)

  entered_now : Enters (state s) body (entered_by (state s) arriving)
  entered_now = enters_by (state s) request body now (is_over (state s)) (is_full (state s) (body_cost request body)) up.goes_on

  arrived_brings : (conn : ℕ) (reply : Arrived) → Brings s (body ∷ []) (arrived (with_journal s (after_call s.journal arriving)) conn reply)
  arrived_brings conn (arrivals.Answer answer) = arrival_brings entered_now s.parked _ (none_out conn answer)
  arrived_brings conn (arrivals.Parked ticket) = arrival_brings entered_now (with_parked s ticket conn).parked [] none_of_none
  arrived_brings conn arrivals.Over = arrival_brings entered_now s.parked _ (none_out conn _)

refused_brings : (s : PlainLive) (more : List (List ℕ)) (lines : List ReportLine) (turn : Turn) → Brings s more turn → Brings s more (refused_first lines turn)
refused_brings s more lines turn b = record { number = b.number; opening = b.opening; all = b.all; first = b.first }

ticked_brings : (s : PlainLive) (up : IsUp s) (now : ℕ) (reply : Ticked) → Brings s [] (ticked s (with_journal s (after_call s.journal (Tick now))) reply)
ticked_brings s up now Quiet = record { number = refl; opening = refl; all = λ on. sym (append-nil (bodies_of s.journal)); first = ([], refl) }
ticked_brings s up now Changed = same_brings s up (Tick now) tt tt (due_bodies (is_due (state s) now) (is_full (state s) plain_cost) _ _ refl refl) s.parked []

-- whatever comes to a session brings its body
pub turn_brings : (s : PlainLive) (now : ℕ) (event : Event) → IsUp s → IsEvent event → Brings s (brought event) (turn_at now event s)
turn_brings s now (Arrives conn request body) up allowed = arrived_brings s up request body now allowed conn (arrive (state s) request body now).1
turn_brings s now (Gives stream stanza) up allowed = refused_brings s [] _ _
    (same_brings s up (Back stream stanza now) allowed tt (limited_bodies (is_over (state s)) (is_full (state s) (stanza_cost stanza)) _ _ refl refl) s.parked [])
turn_brings s now (Shuts stream closing) up allowed = refused_brings s [] _ _
    (same_brings s up (BackClosed stream closing now) tt tt (limited_bodies (is_over (state s)) (is_full (state s) plain_cost) _ _ refl refl) s.parked [])
turn_brings s now Passes up allowed = ticked_brings s up now (tick (state s) now).1
