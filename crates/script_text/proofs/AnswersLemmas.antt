-- What the answers of one turn are, and what the requests that wait on are for.
use Rattle.std.proofs.Common.{◌≡◌, ℕ, zero, suc, ◌==◌, Bool, true, false, List, [], ◌∷◌, ◌++◌, All, map, length, Option, Some, None, refl, sym, subst, ◌∙◌, ap, append_assoc, cond, inl, inr, if◌then◌else◌}
use Rattle.std.specs.Prelude.{⊤, ◌⊎◌}
use Rattle.std.specs.Option.{option_map, option_or}
use Rattle.std.proofs.lemmas.List.Elements.{All-nil, All-cons, All-head, All-tail, All-append, All-weaker}
use Rattle.bosh_types.specs.declared.condition.Condition.{Condition}
use Rattle.bosh_types.specs.declared.ending.Ending.{Ending}
use Rattle.bosh_types.specs.declared.inward.Inward.{Inward}
use Rattle.bosh_types.specs.declared.kept.KeptAnswer.{KeptAnswer}
use Rattle.body_writer.specs.Answer.{answer_text}
use Rattle.session_attrs.specs.declared.request.Request.{Request}
use Rattle.session_core.specs.declared.replies.Arrived.{Arrived}
use Rattle.session_core.specs.declared.replies.Arrived.TheVariants as arrivals
use Rattle.session_core.specs.declared.replies.Collected.{Collected}
use Rattle.session_core.specs.declared.replies.Collected.TheVariants as collections
use Rattle.session_core.specs.declared.replies.Taken.{Taken}
use Rattle.session_core.specs.declared.replies.Taken.TheVariants as takings
use Rattle.session_core.specs.declared.replies.Ticked.{Ticked}
use Rattle.session_core.specs.declared.replies.Ticked.TheVariants.{Changed, Quiet}
use Rattle.session_core.specs.Copy.{unnamed}
use Rattle.session_core.specs.Journal.{Call, Arrive, Back, BackClosed, Collect, Tick, TakeInward, Entered, Entry, Journal, ToArrive, IsJournal, IsAllowed, state_of, step, entered_by}
use Rattle.session_core.specs.Machine.{opened, created_parts, bytes_for, arrive, back, back_closed, tick}
use Rattle.session_core.specs.declared.opening.Opening.{Opening}
use Rattle.session_core.specs.State.{PlainSession, Issued}
use Rattle.session_core.specs.TicketsOut.{issued_at}
use Rattle.session_laws.specs.Tickets.{Tells}
use Rattle.session_laws.specs.Growing.{with_later}
use Rattle.session_laws.proofs.Grows.{every_grows}
use Rattle.session_laws.proofs.LawsOf.{every_over, every_same_bytes}
use Rattle.session_laws.proofs.Tests.{some_is, true_false}
use Rattle.session_laws.proofs.TicketLemmas.{collect_tells}
use Rattle.script_text.specs.declared.event.Event.{Event}
use Rattle.script_text.specs.declared.event.Event.TheVariants.{Arrives, Gives, Shuts, Passes}
use Rattle.script_text.specs.declared.live.Parked.{Parked}
use Rattle.script_text.specs.declared.report.ReportLine.{ReportLine}
use Rattle.script_text.specs.declared.report.ReportLine.TheVariants.{In, Out, Lost, Gone, Refused, Over, Done, Bad}
use Rattle.script_text.specs.Answered.{Posting, Stage, GivesId, IsRefusal, Asks, IsFor, WasStruck}
use Rattle.script_text.specs.Refusing.{FindsNoPlace, IsAmong, refusal_text}
use Rattle.session_calls.specs.After.{after_call, all_taken, untaken, with_entered, with_taken}
use Rattle.script_text.specs.Live.{PlainLive, state, Turn, fate, answer_line, fate_lines, is_not_yet, still, still_parked, collected_lines, all_collected, over_lines, settled_after, told, refused_first, with_journal, with_parked, not_found, arrived, refusal_of_back, refusal_of_shut, ticked, turn_at}
use Rattle.script_text.specs.Manager.{opened_live}
use Rattle.script_text.specs.Stands.{IsEvent}
use Rattle.script_text.proofs.JournalSteps.{after_is, after_made, called_state}
use Rattle.script_text.proofs.BodiesLemmas.{ending_after, with_opening}
use Rattle.script_text.proofs.PlaceLemmas.{FoundNone, every_how}
use Rattle.script_text.proofs.StruckTickets.{TicketTold, after_told, parked_told, still_struck, told_struck}
use Rattle.script_text.proofs.TicketIds.{KeepsIds, id_at, called_reply, after_keeps_ids, issued_id, parked_id}
use Rattle.script_text.proofs.ToldLemmas.{none_out, same_number}
use Rattle.script_text.proofs.TurnLemmas.{IsUp}

-- what an id was given in this state it is given in that one
abbrev pub KeepsBytes : PlainSession → PlainSession → Type 0
KeepsBytes s t = (rid : ℕ) (bytes : List ℕ) → GivesId s rid bytes → GivesId t rid bytes

keeps_by : (journal : Journal) (o : Option Entered) → IsJournal (with_entered journal o) → KeepsBytes (state_of journal) (state_of (with_entered journal o))
keeps_by journal None made = λ rid bytes is. is
keeps_by journal (Some entered) made = λ rid bytes is.
    let later : List Entry = record { caller = 0; entered = entered } ∷ [] in
    elim is [
      | inl given ↦ inl (every_same_bytes journal later made rid bytes given)
      | inr error ↦ inr (error.0, still_struck (state_of journal) (state_of (with_later journal later)) (every_grows journal later made).placings rid error.1)
    ]

after_keeps : (journal : Journal) (call : Call) → IsJournal journal → IsAllowed call → KeepsBytes (state_of journal) (state_of (after_call journal call))
after_keeps journal call made allowed = keeps_by journal (entered_by (state_of journal) call) (after_made journal call made allowed)

-- a journal that goes on: it is one, opened by the same request, gives what it gave, and its tickets are for what they were and told of as they were
record GoesTo (journal later : Journal) : Type 0 where
  pub made : IsJournal later
  pub opening : later.opening ≡ journal.opening
  pub keeps : KeepsBytes (state_of journal) (state_of later)
  pub ids : KeepsIds (state_of journal).tickets (state_of later).tickets
  pub struck : (number : ℕ) → TicketTold (state_of journal) number → TicketTold (state_of later) number

goes_same : (journal : Journal) → IsJournal journal → GoesTo journal journal
goes_same journal made = record { made = made; opening = refl; keeps = λ rid bytes is. is; ids = λ number rid is. is; struck = λ number told. told }

goes_on : (one two three : Journal) → GoesTo one two → GoesTo two three → GoesTo one three
goes_on one two three first next = record {
  made = next.made;
  opening = next.opening ∙ first.opening;
  keeps = λ rid bytes is. next.keeps rid bytes (first.keeps rid bytes is);
  ids = λ number rid is. next.ids number rid (first.ids number rid is);
  struck = λ number told. next.struck number (first.struck number told);
}

call_goes : (journal : Journal) (call : Call) → IsJournal journal → IsAllowed call → GoesTo journal (after_call journal call)
call_goes journal call made allowed = record {
  made = after_made journal call made allowed;
  opening = with_opening journal (entered_by (state_of journal) call);
  keeps = after_keeps journal call made allowed;
  ids = after_keeps_ids journal made call allowed;
  struck = after_told journal made call allowed;
}

taken_goes : (count : ℕ) (journal : Journal) → IsJournal journal → GoesTo journal (with_taken count journal)
taken_goes zero journal made = goes_same journal made
taken_goes (suc count) journal made =
    let one = call_goes journal TakeInward made tt in
    goes_on journal (after_call journal TakeInward) (with_taken count (after_call journal TakeInward)) one (taken_goes count (after_call journal TakeInward) one.made)

collected_goes : (parked : List Parked) (journal : Journal) → IsJournal journal → GoesTo journal (all_collected journal parked)
collected_goes [] journal made = goes_same journal made
collected_goes (first ∷ parked) journal made =
    let one = call_goes journal (Collect first.ticket) made tt in
    goes_on journal (after_call journal (Collect first.ticket)) (all_collected (after_call journal (Collect first.ticket)) parked) one
    (collected_goes parked (after_call journal (Collect first.ticket)) one.made)

settled_goes : (s : PlainLive) → IsJournal s.journal → GoesTo s.journal (settled_after s).journal
settled_goes s made =
    let one = taken_goes (length (untaken s.journal)) s.journal made in
    goes_on s.journal (all_taken s.journal) (settled_after s).journal one (collected_goes s.parked (all_taken s.journal) one.made)

-- a request is for this session later too
pub for_later : (request : Request) (number : ℕ) (journal later : Journal) → later.opening ≡ journal.opening → IsFor request number journal → IsFor request number later
for_later request number journal later same is = elim is [
  | inl names ↦ inl names
  | inr created ↦ inr (ap (λ (o : Opening). o.request) same ∙ created)
]

-- an answer is what this session gives the id of the latest request on its connection, or a refusal
abbrev pub IsOf : Stage → ℕ → Journal → ReportLine → Type 0
IsOf stage number journal (In session item) = ⊤
IsOf stage number journal (Out conn body) =
    IsRefusal stage conn body ⊎ ((request : Request) × Asks stage.posted conn request × IsFor request number journal × GivesId (state_of journal) request.rid body)
IsOf stage number journal (Lost conn) = ⊤
IsOf stage number journal (Gone conn) = ⊤
IsOf stage number journal (Refused session refusal) = ⊤
IsOf stage number journal (Over session ending) = ⊤
IsOf stage number journal (Done line) = ⊤
IsOf stage number journal (Bad line kind) = ⊤

-- a request that waits on an open connection is the latest there, and its ticket is for its id; where that has the error of a struck copy, one was
abbrev pub WaitsFor : List Posting → ℕ → Journal → Parked → Type 0
WaitsFor posted number journal parked =
    parked.is_open ≡ true
    → (request : Request) × Asks posted parked.conn request × IsFor request number journal × (id_at (state_of journal).tickets parked.ticket ≡ Some request.rid)
    × TicketTold (state_of journal) parked.ticket

abbrev pub Waiting : List Posting → PlainLive → Type 0
Waiting posted s = All (WaitsFor posted s.number s.journal) s.parked

module _ (stage : Stage) (number : ℕ) where
  of_later : (journal later : Journal) → GoesTo journal later → (line : ReportLine) → IsOf stage number journal line → IsOf stage number later line
  of_later journal later goes (In session item) is = tt
  of_later journal later goes (Out conn body) is = elim is [
    | inl refusal ↦ inl refusal
    | inr given ↦ inr (given.0, given.1, for_later given.0 number journal later goes.opening given.2, goes.keeps given.0.rid body given.3)
  ]
  of_later journal later goes (Lost conn) is = tt
  of_later journal later goes (Gone conn) is = tt
  of_later journal later goes (Refused session refusal) is = tt
  of_later journal later goes (Over session ending) is = tt
  of_later journal later goes (Done line) is = tt
  of_later journal later goes (Bad line kind) is = tt

  one_of : (journal : Journal) (line : ReportLine) → IsOf stage number journal line → All (IsOf stage number journal) (line ∷ [])
  one_of journal line is = All-cons (IsOf stage number journal) line [] is (All-nil (IsOf stage number journal))

  none_of : (journal : Journal) → All (IsOf stage number journal) []
  none_of journal = All-nil (IsOf stage number journal)

  all_later : (journal later : Journal) → GoesTo journal later → (lines : List ReportLine) → All (IsOf stage number journal) lines → All (IsOf stage number later) lines
  all_later journal later goes lines all = All-weaker (IsOf stage number journal) (IsOf stage number later) (of_later journal later goes) lines all

  waits_later : (journal later : Journal) → GoesTo journal later → (parked : Parked) → WaitsFor stage.posted number journal parked → WaitsFor stage.posted number later parked
  waits_later journal later goes parked waits is_open =
      let w = waits is_open in
      (w.0, w.1, for_later w.0 number journal later goes.opening w.2, goes.ids parked.ticket w.0.rid w.3, goes.struck parked.ticket w.4)

  all_waits_later : (journal later : Journal) → GoesTo journal later → (parked : List Parked) → All (WaitsFor stage.posted number journal) parked
      → All (WaitsFor stage.posted number later) parked
  all_waits_later journal later goes parked all = All-weaker (WaitsFor stage.posted number journal) (WaitsFor stage.posted number later) (waits_later journal later goes) parked all

  -- Collected tickets.

  -- what the ticket's id was given
  same_id : (journal : Journal) (ticket : ℕ) (body : List ℕ) (request : Request) (t : Issued) → id_at (state_of journal).tickets ticket ≡ Some request.rid
      → issued_at (state_of journal).tickets ticket ≡ Some t → bytes_for (state_of journal) t.rid ≡ Some body → bytes_for (state_of journal) request.rid ≡ Some body
  same_id journal ticket body request t asked issued gives =
      let same : t.rid ≡ request.rid = some_is t.rid request.rid (sym (issued_id (state_of journal).tickets ticket t issued) ∙ asked) in
      subst (λ rid. bytes_for (state_of journal) rid ≡ Some body) same gives

  same_struck : (journal : Journal) (ticket : ℕ) (request : Request) (t : Issued) → id_at (state_of journal).tickets ticket ≡ Some request.rid
      → issued_at (state_of journal).tickets ticket ≡ Some t → WasStruck (state_of journal) t.rid → WasStruck (state_of journal) request.rid
  same_struck journal ticket request t asked issued was =
      let same : t.rid ≡ request.rid = some_is t.rid request.rid (sym (issued_id (state_of journal).tickets ticket t issued) ∙ asked) in
      subst (WasStruck (state_of journal)) same was

  answer_of : (journal : Journal) (parked : Parked) (body : List ℕ) → WaitsFor stage.posted number journal parked → Tells (state_of journal) parked.ticket (collections.Answer body)
      → All (IsOf stage number journal) (answer_line parked body ∷ [])
  answer_of journal parked body waits tells = by parked.is_open refl
    where
      by : (b : Bool) → parked.is_open ≡ b → All (IsOf stage number journal) ((if b then Out parked.conn body else Lost parked.conn) ∷ [])
      by true is =
          let w = waits is in
          one_of journal (Out parked.conn body) (inr (w.0, w.1, w.2, given w.0 w.3 w.4))
        where
          given : (request : Request) → id_at (state_of journal).tickets parked.ticket ≡ Some request.rid → TicketTold (state_of journal) parked.ticket → GivesId (state_of journal) request.rid body
          given request asked told = elim tells.2 [
            | inl waits ↦ inl (same_id journal parked.ticket body request tells.0 asked tells.1 waits.1)
            | inr struck ↦ inr (struck.1, same_struck journal parked.ticket request tells.0 asked tells.1 (told_struck (state_of journal) parked.ticket tells.0 tells.1 told struck.0))
          ]
      by false is = one_of journal (Lost parked.conn) tt

  gone_of : (journal : Journal) (is_open : Bool) (conn : ℕ) → All (IsOf stage number journal) (if is_open then Gone conn ∷ [] else [])
  gone_of journal true conn = one_of journal (Gone conn) tt
  gone_of journal false conn = none_of journal

  fate_of : (journal : Journal) (parked : Parked) (reply : Collected) → WaitsFor stage.posted number journal parked → Tells (state_of journal) parked.ticket reply
      → All (IsOf stage number journal) (fate_lines parked reply)
  fate_of journal parked (collections.Answer body) waits tells = answer_of journal parked body waits tells
  fate_of journal parked collections.NotYet waits tells = none_of journal
  fate_of journal parked collections.Superseded waits tells = gone_of journal parked.is_open parked.conn
  fate_of journal parked collections.UnknownTicket waits tells = none_of journal

  collected_of : (parked : List Parked) (journal : Journal) → IsJournal journal → All (WaitsFor stage.posted number journal) parked
      → All (IsOf stage number (all_collected journal parked)) (collected_lines journal parked)
  collected_of [] journal made waits = none_of journal
  collected_of (first ∷ parked) journal made waits =
      let next : Journal = after_call journal (Collect first.ticket) in
      let end : Journal = all_collected next parked in
      let one = call_goes journal (Collect first.ticket) made tt in
      let all = goes_on journal next end one (collected_goes parked next one.made) in
      All-append (IsOf stage number end) (fate_lines first (fate journal first)) (collected_lines next parked)
      (all_later journal end all (fate_lines first (fate journal first))
      (fate_of journal first (fate journal first) (All-head (WaitsFor stage.posted number journal) first parked waits) (collect_tells (state_of journal) first.ticket)))
      (collected_of parked next one.made (all_waits_later journal next one parked (All-tail (WaitsFor stage.posted number journal) first parked waits)))

  still_waits : (journal : Journal) (parked : Parked) (reply : Collected) → WaitsFor stage.posted number journal parked → All (WaitsFor stage.posted number journal) (still parked reply)
  still_waits journal parked reply waits = by (is_not_yet reply)
    where
      by : (b : Bool) → All (WaitsFor stage.posted number journal) (if b then parked ∷ [] else [])
      by true = All-cons (WaitsFor stage.posted number journal) parked [] waits (All-nil (WaitsFor stage.posted number journal))
      by false = All-nil (WaitsFor stage.posted number journal)

  collected_waits : (parked : List Parked) (journal : Journal) → IsJournal journal → All (WaitsFor stage.posted number journal) parked
      → All (WaitsFor stage.posted number (all_collected journal parked)) (still_parked journal parked)
  collected_waits [] journal made waits = All-nil (WaitsFor stage.posted number journal)
  collected_waits (first ∷ parked) journal made waits =
      let next : Journal = after_call journal (Collect first.ticket) in
      let end : Journal = all_collected next parked in
      let one = call_goes journal (Collect first.ticket) made tt in
      let all = goes_on journal next end one (collected_goes parked next one.made) in
      All-append (WaitsFor stage.posted number end) (still first (fate journal first)) (still_parked next parked)
      (all_waits_later journal end all (still first (fate journal first)) (still_waits journal first (fate journal first) (All-head (WaitsFor stage.posted number journal) first parked waits)))
      (collected_waits parked next one.made (all_waits_later journal next one parked (All-tail (WaitsFor stage.posted number journal) first parked waits)))

  items_of : (journal : Journal) (items : List Inward) → All (IsOf stage number journal) (map (In number) items)
  items_of journal [] = none_of journal
  items_of journal (item ∷ items) = All-cons (IsOf stage number journal) (In number item) (map (In number) items) tt (items_of journal items)

  over_of : (journal : Journal) (ending : Option Ending) → All (IsOf stage number journal) (over_lines number ending)
  over_of journal None = none_of journal
  over_of journal (Some ending) = one_of journal (Over number ending) tt

-- the answers of a turn are what its session gives, after it, the ids of the latest requests; and it gives what it gave
pub record Answers (stage : Stage) (s : PlainLive) (turn : Turn) : Type 0 where
  pub opening : turn.after.journal.opening ≡ s.journal.opening
  pub keeps : KeepsBytes (state s) (state turn.after)
  pub are : All (IsOf stage s.number turn.after.journal) turn.lines
  pub waiting : All (WaitsFor stage.posted s.number turn.after.journal) turn.after.parked

-- the ending of a session is told
over_among : (s : PlainLive) (answer : List ReportLine) (ending : Ending) → (state (settled_after s)).ending ≡ Some ending → IsAmong (Over s.number ending) (told s answer).lines
over_among s answer ending is =
    let items : List ReportLine = map (In s.number) (untaken s.journal) in
    let lines : List ReportLine = collected_lines (all_taken s.journal) s.parked in
    let last : List ReportLine = Over s.number ending ∷ [] in (
      items ++ (answer ++ lines),
      [],
      ap (λ e. items ++ (answer ++ (lines ++ over_lines s.number e))) is
          ∙ ap (λ l. items ++ l) (sym (append_assoc answer lines last))
          ∙ sym (append_assoc items (answer ++ lines) last),
    )

module _ (stage : Stage) where
  told_answers : (s : PlainLive) (answer : List ReportLine) → IsJournal s.journal → Waiting stage.posted s → All (IsOf stage s.number s.journal) answer → Answers stage s (told s answer)
  told_answers s answer made waiting are =
      let goes = settled_goes s made in
      let taken = taken_goes (length (untaken s.journal)) s.journal made in
      let waits = all_waits_later stage s.number s.journal (all_taken s.journal) taken s.parked waiting in
      let end : Journal = (settled_after s).journal in
      let lines : List ReportLine = collected_lines (all_taken s.journal) s.parked in
      let last : List ReportLine = over_lines s.number (state_of end).ending in
      record {
        opening = goes.opening;
        keeps = goes.keeps;
        are = All-append (IsOf stage s.number end) (map (In s.number) (untaken s.journal)) (answer ++ (lines ++ last)) (items_of stage s.number end (untaken s.journal))
            (All-append (IsOf stage s.number end) answer (lines ++ last) (all_later stage s.number s.journal end goes answer are)
            (All-append (IsOf stage s.number end) lines last (collected_of stage s.number s.parked (all_taken s.journal) taken.made waits) (over_of stage s.number end (state_of end).ending)));
        waiting = collected_waits stage s.number s.parked (all_taken s.journal) taken.made waits;
      }

  module _ (s : PlainLive) (up : IsUp s) (call : Call) (allowed : IsAllowed call) where
    abbrev called_journal : Journal
    called_journal = after_call s.journal call

    called_answers : (parked : List Parked) (answer : List ReportLine) → All (WaitsFor stage.posted s.number called_journal) parked → All (IsOf stage s.number called_journal) answer
        → Answers stage s (told (record s { journal = called_journal; parked = parked }) answer)
    called_answers parked answer waiting are =
        let one = call_goes s.journal call up.made allowed in
        let after = told_answers (record s { journal = called_journal; parked = parked }) answer one.made waiting are in
        record { opening = after.opening ∙ one.opening; keeps = λ rid bytes is. after.keeps rid bytes (one.keeps rid bytes is); are = after.are; waiting = after.waiting }

    same_waiting : Waiting stage.posted s → All (WaitsFor stage.posted s.number called_journal) s.parked
    same_waiting waiting = all_waits_later stage s.number s.journal called_journal (call_goes s.journal call up.made allowed) s.parked waiting

  refused_answers : (s : PlainLive) (lines : List ReportLine) (turn : Turn) → ((journal : Journal) → All (IsOf stage s.number journal) lines) → Answers stage s turn
      → Answers stage s (refused_first lines turn)
  refused_answers s lines turn these a = record {
    opening = a.opening;
    keeps = a.keeps;
    are = All-append (IsOf stage s.number turn.after.journal) lines turn.lines (these turn.after.journal) a.are;
    waiting = a.waiting;
  }

  back_of : (n : ℕ) (reply : Taken) (journal : Journal) → All (IsOf stage n journal) (refusal_of_back n reply)
  back_of n takings.Done journal = none_of stage n journal
  back_of n takings.Full journal = one_of stage n journal (Refused n _) tt
  back_of n takings.Over journal = one_of stage n journal (Refused n _) tt

  shut_of : (n : ℕ) (reply : Taken) (journal : Journal) → All (IsOf stage n journal) (refusal_of_shut n reply)
  shut_of n takings.Done journal = none_of stage n journal
  shut_of n takings.Full journal = none_of stage n journal
  shut_of n takings.Over journal = one_of stage n journal (Refused n _) tt

  -- where these lines say that the session ended so that a copy with the request's id found no place there, its answer is a refusal
  abbrev pub Refuses : ℕ → ℕ → Request → List ReportLine → Type 0
  Refuses number conn request lines =
      (ending : Ending) (condition : Condition) → IsAmong (Over number ending) lines → FindsNoPlace request.rid ending condition
      → IsRefusal stage conn (refusal_text condition)

  module _ (s : PlainLive) (up : IsUp s) (request : Request) (body : List ℕ) (now : ℕ) (allowed : IsAllowed (Arrive request body now)) (waiting : Waiting stage.posted s)
      (conn : ℕ) (asks : Asks stage.posted conn request) (is_for : IsFor request s.number s.journal)
      (refuses : Refuses s.number conn request (turn_at now (Arrives conn request body) s).lines) where
    abbrev arriving : Call
    arriving = Arrive request body now

    abbrev then_journal : Journal
    then_journal = after_call s.journal arriving

    abbrev replied_with : PlainSession × Arrived
    replied_with = arrive (state s) request body now

    for_then : IsFor request s.number then_journal
    for_then = for_later request s.number s.journal then_journal (call_goes s.journal arriving up.made allowed).opening is_for

    state_then : state_of then_journal ≡ replied_with.0
    state_then = after_is s.journal arriving ∙ called_state ToArrive replied_with

    -- the session ended with the copy, which the turn's last line says
    refused_so : (bytes : List ℕ) → replied_with.1 ≡ arrivals.Answer bytes → FoundNone replied_with.0 request.rid bytes → IsRefusal stage conn bytes
    refused_so bytes is found =
        let ends : (state_of then_journal).ending ≡ Some found.0 = ap (λ (t : PlainSession). t.ending) state_then ∙ found.2 in
        let over = ending_after s up arriving allowed tt s.parked (Out conn bytes ∷ []) (none_out conn bytes) ∙ ends in
        let last = over_among (with_journal s then_journal) (Out conn bytes ∷ []) found.0 over in
        subst (IsRefusal stage conn) (sym found.4)
        (refuses found.0 found.1 (subst (λ reply. IsAmong (Over s.number found.0) (arrived (with_journal s then_journal) conn reply).lines) (sym is) last) found.3)

    told_to : (bytes : List ℕ) → replied_with.1 ≡ arrivals.Answer bytes → IsOf stage s.number then_journal (Out conn bytes)
    told_to bytes is = elim (every_how s.journal up.made request body now allowed up.goes_on bytes is) [
      | inl given ↦ inr (request, asks, for_then, inl (ap (λ (t : PlainSession). bytes_for t request.rid) state_then ∙ given))
      | inr found ↦ inl (refused_so bytes is found)
    ]

    then_waiting : All (WaitsFor stage.posted s.number then_journal) s.parked
    then_waiting = same_waiting s up arriving allowed waiting

    not_over : replied_with.1 ≡ arrivals.Over → ⊥
    not_over is =
        let over = (every_over s.journal up.made request body now allowed).0 (called_reply replied_with ∙ ap ToArrive is) in
        true_false (sym over ∙ up.goes_on)

    arrived_answers : (reply : Arrived) → replied_with.1 ≡ reply → Answers stage s (arrived (with_journal s then_journal) conn reply)
    arrived_answers (arrivals.Answer answer) is =
        called_answers s up arriving allowed s.parked (Out conn answer ∷ []) then_waiting (one_of stage s.number then_journal (Out conn answer) (told_to answer is))
    arrived_answers (arrivals.Parked ticket) is =
        let P = WaitsFor stage.posted s.number then_journal in
        let new : Parked = record { ticket = ticket; conn = conn; is_open = true } in
        called_answers s up arriving allowed (with_parked s ticket conn).parked []
        (All-append P s.parked (new ∷ []) then_waiting
        (All-cons P new [] (λ is_open. (request, asks, for_then, parked_id s.journal up.made request body now allowed up.goes_on ticket is, parked_told s.journal up.made request body now allowed up.goes_on ticket is)) (All-nil P)))
        (none_of stage s.number then_journal)
    arrived_answers arrivals.Over is = absurd (not_over is)

  ticked_answers : (s : PlainLive) (up : IsUp s) (now : ℕ) → Waiting stage.posted s → (reply : Ticked) → Answers stage s (ticked s (with_journal s (after_call s.journal (Tick now))) reply)
  ticked_answers s up now waiting Quiet = record { opening = refl; keeps = λ rid bytes is. is; are = none_of stage s.number s.journal; waiting = waiting }
  ticked_answers s up now waiting Changed =
      called_answers s up (Tick now) tt s.parked [] (same_waiting s up (Tick now) tt waiting) (none_of stage s.number (after_call s.journal (Tick now)))

  -- a request that comes was the latest on its connection, and is for the session
  abbrev pub AsksHere : PlainLive → ℕ → Event → Type 0
  AsksHere s now (Arrives conn request body) =
      Asks stage.posted conn request × IsFor request s.number s.journal × Refuses s.number conn request (turn_at now (Arrives conn request body) s).lines
  AsksHere s now (Gives stream stanza) = ⊤
  AsksHere s now (Shuts stream closing) = ⊤
  AsksHere s now Passes = ⊤

  -- whatever comes to a session
  pub turn_answers : (s : PlainLive) (now : ℕ) (event : Event) → IsUp s → IsEvent event → Waiting stage.posted s → AsksHere s now event → Answers stage s (turn_at now event s)
  turn_answers s now (Arrives conn request body) up allowed waiting asks =
      arrived_answers s up request body now allowed waiting conn asks.0 asks.1 asks.2 (arrive (state s) request body now).1 refl
  turn_answers s now (Gives stream stanza) up allowed waiting asks = refused_answers s _ _ (back_of s.number (back (state s) stream stanza now).1)
      (called_answers s up (Back stream stanza now) allowed s.parked [] (same_waiting s up (Back stream stanza now) allowed waiting)
      (none_of stage s.number (after_call s.journal (Back stream stanza now))))
  turn_answers s now (Shuts stream closing) up allowed waiting asks = refused_answers s _ _ (shut_of s.number (back_closed (state s) stream closing now).1)
      (called_answers s up (BackClosed stream closing now) tt s.parked [] (same_waiting s up (BackClosed stream closing now) tt waiting)
      (none_of stage s.number (after_call s.journal (BackClosed stream closing now))))
  turn_answers s now Passes up allowed waiting asks = ticked_answers s up now waiting (tick (state s) now).1

-- the answer to a creation
first_is : (b : Bool) (bytes : List ℕ) (a : KeptAnswer) (rest : Option KeptAnswer) (other : Option (List ℕ)) → b ≡ true → a.bytes ≡ bytes
    → option_or (option_map (λ (answer : KeptAnswer). answer.bytes) (cond b (Some a) rest)) other ≡ Some bytes
first_is true bytes a rest other is same = ap Some same
first_is false bytes a rest other is same = absurd (cc)

created_bytes : (o : Opening) → bytes_for (opened o) o.request.rid ≡ Some (answer_text (created_parts o))
created_bytes o = first_is (o.request.rid == o.request.rid) (answer_text (created_parts o)) _ _ _ (same_number o.request.rid) refl

pub opened_answers : (stage : Stage) (number conn : ℕ) (o : Opening) → Asks stage.posted conn o.request → IsJournal (opened_live number o).journal
    → Answers stage (opened_live number o) (told (opened_live number o) (Out conn (answer_text (created_parts o)) ∷ []))
opened_answers stage number conn o asks made = told_answers stage (opened_live number o) (Out conn (answer_text (created_parts o)) ∷ []) made
    (All-nil (WaitsFor stage.posted number (opened_live number o).journal))
    (one_of stage number (opened_live number o).journal (Out conn (answer_text (created_parts o))) (inr (o.request, asks, inr refl, inl (created_bytes o))))
