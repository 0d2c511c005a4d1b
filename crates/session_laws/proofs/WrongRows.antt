-- The laws are strong: of a machine with one line turned, the law that it breaks.
use Rattle.std.proofs.Common.{◌≡◌, ◌≢◌, ℕ, ◌≤◌, ◌<◌, ◌↔◌, true, List, [], ◌∷◌, ◌++◌, Option, Some, None, length, slice_get, refl, sym, ◌∙◌, ap, arith, inl, inr}
use Rattle.std.specs.Prelude.{codes}
use Rattle.std.proofs.lemmas.List.Elements.{All-nil}
use Rattle.bosh_types.specs.declared.ending.Ending.TheVariants as endings
use Rattle.bosh_types.specs.declared.kept.KeptAnswer.{KeptAnswer}
use Rattle.session_core.specs.declared.copy.RequestCopy.{RequestCopy}
use Rattle.session_core.specs.declared.outward.Front.{Front}
use Rattle.session_core.specs.declared.outward.Front.TheVariants.{OfStanzas}
use Rattle.session_core.specs.declared.outward.Outward.{Outward}
use Rattle.session_core.specs.declared.outward.Outward.TheVariants.{Stanza}
use Rattle.session_core.specs.declared.replies.Arrived.{Arrived}
use Rattle.session_core.specs.declared.replies.Arrived.TheVariants as arrivals
use Rattle.session_core.specs.declared.replies.Collected.TheVariants as collections
use Rattle.bosh_types.specs.Limits.{most_streams}
use Rattle.stream_names.specs.Streams.{name_of}
use Rattle.session_core.specs.Copy.{is_add}
use Rattle.session_core.specs.Answers.{with_answer, front_of, settled}
use Rattle.session_core.specs.Endings.{ended}
use Rattle.session_core.specs.Facts.{Fact}
use Rattle.session_core.specs.Journal.{Call, Back, Tick, Made, step}
use Rattle.session_core.specs.Kept.{kept_of}
use Rattle.session_core.specs.Machine.{opened, placed, copy_now, bytes_for}
use Rattle.session_core.specs.Processed.{Processed}
use Rattle.session_core.specs.Run.{IsRun, Lacks, id_in}
use Rattle.session_core.specs.State.{PlainSession, Placing, Stands, Answered, Issued, TicketState, Waits, Replaced, Struck, UsedUp, answers, waiting}
use Rattle.session_core.specs.Time.{at_moment}
use Rattle.session_core.proofs.RowTools.{opening, empty, adding, naming, carrying, plain, empty_body, bodies_compute}
use Rattle.session_core.specs.Outward.{items_in, stream_in}
use Rattle.session_core.specs.Passed.{items_taken}
use Rattle.session_laws.specs.Streams.{opened_before, IsOpenAt, NamesStream}
use Rattle.session_laws.specs.Tickets.{Tells}
use Rattle.session_laws.proofs.Tests.{true_false}

abbrev after : PlainSession → List Call → PlainSession
after s [] = s
after s (call ∷ calls) = after (step s call).0 calls

-- a request that was answered with a stanza
abbrev answered_once : PlainSession
answered_once = after (opened opening) (carrying (empty 1001) (codes "<message/>") 0 ∷ Back 0 (codes "<iq/>") 0 ∷ [])

-- a kept repeat that is answered afresh: the law `repeats`
abbrev fresh_repeated : PlainSession → Option KeptAnswer → PlainSession × Arrived
fresh_repeated s (Some answer) = (s, arrivals.Answer empty_body)
fresh_repeated s None = (s, arrivals.Over)

bytes_are : (one other : List ℕ) → arrivals.Answer one ≡ arrivals.Answer other → one ≡ other
bytes_are one other is = cc

abbrev kept_length : Option KeptAnswer → ℕ
kept_length None = 0
kept_length (Some answer) = length answer.bytes

abbrev words_length : Option (List ℕ) → ℕ
words_length None = 0
words_length (Some words) = length words

a_fresh_answer_to_a_repeat : (answer : KeptAnswer) → kept_of answered_once 1001 ≡ Some answer → (fresh_repeated answered_once (kept_of answered_once 1001)).1 ≡ arrivals.Answer answer.bytes → ⊥
unfolding bodies_compute
a_fresh_answer_to_a_repeat answer kept told =
    let same : length answer.bytes ≡ 110 = sym (ap kept_length kept) in
    let bytes : length empty_body ≡ length answer.bytes = ap length (bytes_are empty_body answer.bytes told) in
    absurd (omega (arith, same, bytes))

-- a request, as it is processed where the first stream alone is open
abbrev asked_once : RequestCopy
asked_once = copy_now (opened opening) (empty 1001) (codes "<body/>")

abbrev alone : RequestCopy → Processed
alone copy = record { copy = copy; running = 0 ∷ []; opened = None }

-- two stanzas wait, and a request is held that takes only the second of them: the law `given`
abbrev two_wait : PlainSession
two_wait = record (opened opening) { given = (opened opening).given ++ Stanza 0 (codes "<iq/>") ∷ Stanza 0 (codes "<presence/>") ∷ [] }

abbrev lost_one : PlainSession
lost_one = with_answer two_wait (alone asked_once) (OfStanzas (Stanza 0 (codes "<presence/>") ∷ []))

second_is : (a b c d : Outward) (more later : List Outward) → a ∷ b ∷ more ≡ c ∷ d ∷ later → b ≡ d
second_is a b c d more later is = cc

other_stanza : (one two : List ℕ) → length one ≢ length two → Stanza 0 one ≡ Stanza 0 two → ⊥
other_stanza one two apart same =
    let is : one ≡ two = cc in
    apart (ap length is)

an_answer_that_loses_an_item : items_taken (answers lost_one) ++ waiting lost_one ≡ lost_one.given → ⊥
unfolding bodies_compute
an_answer_that_loses_an_item is = other_stanza (codes "<presence/>") (codes "<iq/>") (λ same. absurd (omega (arith, same))) (second_is _ _ _ _ _ _ is)

-- a pause that takes what waits: the law `prompt`
abbrev paused : RequestCopy
paused = copy_now two_wait (record (empty 1001) { pause = Some 5 }) (codes "<body/>")

abbrev pause_held : PlainSession
pause_held = record (placed two_wait paused) { processed = alone paused ∷ [] }

abbrev front_in : List Answered → Front
front_in [] = OfStanzas []
front_in (answer ∷ given) = answer.front

abbrev items_of_front : Front → ℕ
items_of_front front = length (items_in front)

a_pause_that_takes_items : front_in (with_answer pause_held (alone paused) (front_of (waiting pause_held))).answered ≡ OfStanzas [] → ⊥
unfolding bodies_compute
a_pause_that_takes_items takes = absurd (omega (arith, ap items_of_front takes))

-- an add whose answer names no stream: the law `names`
abbrev added_once : Processed
added_once = record { copy = copy_now (opened opening) (adding 1001) (codes "<body/>"); running = 0 ∷ []; opened = Some 1 }

no_name : (stream : ℕ) → None ≡ Some stream → ⊥
no_name stream is = cc

abbrev unnamed_one : Option ℕ
unnamed_one = None

abbrev named_one : ℕ → Option ℕ
named_one stream = Some stream

an_add_that_names_no_stream : ((unnamed_one ≡ named_one 1) ↔ NamesStream (opened opening) added_once (OfStanzas []) 1) → ⊥
an_add_that_names_no_stream both = no_name 1 (both.1 (inl refl))

-- the only stream, named: the law `names`
an_only_stream_that_is_named : ((named_one 0 ≡ named_one 0) ↔ NamesStream (opened opening) (alone asked_once) (OfStanzas (Stanza 0 (codes "<iq/>") ∷ [])) 0) → ⊥
an_only_stream_that_is_named both = elim (both.0 refl) [
  | inl added ↦ no_name 0 added
  | inr taken ↦ absurd (omega (arith, taken.1))
]

-- an answer that takes items of two streams: the law `on_one`
abbrev of_two : List Outward
of_two = Stanza 0 (codes "<iq/>") ∷ Stanza 1 (codes "<iq/>") ∷ []

items_of_two_streams : ((i j : ℕ) (item other : Outward) → slice_get of_two i ≡ Some item → slice_get of_two j ≡ Some other → stream_in item ≡ stream_in other) → ⊥
items_of_two_streams one = absurd (omega (arith, one 0 1 (Stanza 0 (codes "<iq/>")) (Stanza 1 (codes "<iq/>")) refl refl))

-- a stream that is opened by a copy that is no add: the law `opens_next`
a_stream_that_nobody_added : ((stream : ℕ) → (named_one 1 ≡ named_one stream) ↔ ((is_add asked_once ≡ true) × (stream ≡ opened_before []) × (stream < most_streams))) → ⊥
unfolding bodies_compute
a_stream_that_nobody_added next = true_false (sym ((next 1).0 refl).0)

-- a stream that is open for a copy after a terminate of it: the law `open_for`
abbrev shut_once : RequestCopy
shut_once = copy_now (opened opening) (record (naming (name_of 1) 1002) { terminate = true }) (codes "<body/>")

a_stream_open_after_its_terminate : (tested : PlainSession) → IsOpenAt tested (added_once.copy ∷ shut_once ∷ []) 1 → ⊥
a_stream_open_after_its_terminate tested open_there = open_there.unshut (1, shut_once, refl, refl, refl)

-- a run that skips the id of a gap: the law `run_each`
abbrev pub after_gap : RequestCopy
after_gap = copy_now (opened opening) (empty 1002) (codes "<body/>")

pub a_run_that_skips_a_gap : (placings : List Placing) → IsRun 1000 placings ((opened opening).creation ∷ after_gap ∷ []) → ⊥
a_run_that_skips_a_gap placings is = absurd (omega (arith, (is 1 after_gap refl).0))

-- a copy beyond a gap that stands for nothing, so that the run ends too early: the law `run`
a_run_that_ends_too_early : Lacks (Stands (opened opening).creation ∷ Stands (copy_now (opened opening) (empty 1001) (codes "<body/>")) ∷ []) 1001 → ⊥
a_run_that_ends_too_early none =
    none (copy_now (opened opening) (empty 1001) (codes "<body/>")) (refl, Stands (opened opening).creation ∷ [], [], refl, All-nil (λ placing. id_in placing ≢ 1001))

-- a key that is tested where its copy arrives, and not where it is processed: the law `ends`
abbrev beyond : PlainSession
beyond = placed (opened opening) after_gap

a_key_tested_at_arrival : Fact (opened opening) (Made (plain (empty 1002) 0)) (ended (endings.WrongKey 1002) beyond) (endings.WrongKey 1002) → ⊥
a_key_tested_at_arrival fact = absurd (omega (arith, fact.1))

-- an ending with another's numbers: the law `ends`
another_number : (seconds : ℕ) → Fact (opened opening) (Made (plain (empty 1001) 0)) (ended (endings.PauseTooLong 1001 seconds 60) (opened opening)) (endings.PauseTooLong 1001 seconds 60) → ⊥
unfolding bodies_compute
another_number seconds fact = absurd (omega (arith, fact.1))

-- silence that never comes: the fact holds, and the law `ends` asks for the ending
abbrev quiet_long : PlainSession
quiet_long = settled (at_moment (opened opening) 30001)

silence_that_never_comes : (Fact quiet_long (Made (Tick 30001)) quiet_long (endings.Silent 0 30001) → quiet_long.ending ≡ Some (endings.Silent 0 30001)) → ⊥
unfolding bodies_compute
silence_that_never_comes ends = no_ending (ends (refl, (λ holds. refl), refl, refl, omega arith))
  where
    no_ending : (None ≡ Some (endings.Silent 0 30001)) → ⊥
    no_ending is = cc

-- an id that is answered again where its answer is kept no longer: the law `ends`
abbrev acknowledged_once : PlainSession
acknowledged_once = record (opened opening) {
  processed = alone asked_once ∷ [];
  answered = record { rid = 1001; bytes = []; moment = 0; front = OfStanzas [] } ∷ [];
  acknowledged = 1001;
}

within_answered : 1001 ≤ 1001
within_answered = omega arith

a_stale_id_that_is_answered : (Fact acknowledged_once (Made (plain (empty 1001) 0)) acknowledged_once (endings.Stale 1001 1002) → acknowledged_once.ending ≡ Some (endings.Stale 1001 1002)) → ⊥
a_stale_id_that_is_answered ends = no_ending (ends ((refl, refl, (within_answered, refl)), refl))
  where
    no_ending : (None ≡ Some (endings.Stale 1001 1002)) → ⊥
    no_ending is = cc

-- a ticket that is told another id's bytes: the law `collects`
abbrev rid_of_issued : Option Issued → ℕ
rid_of_issued None = 0
rid_of_issued (Some ticket) = ticket.rid

abbrev struck_mark : TicketState → ℕ
struck_mark Waits = 0
struck_mark Replaced = 0
struck_mark Struck = 1
struck_mark UsedUp = 0

abbrev struck_mark_of : Option Issued → ℕ
struck_mark_of None = 0
struck_mark_of (Some ticket) = struck_mark ticket.state

another_ids_bytes : Tells answered_once 1 (collections.Answer empty_body) → ⊥
unfolding bodies_compute
another_ids_bytes told =
    let rid : 1001 ≡ (told.0).rid = ap rid_of_issued told.1 in
    let mark : 0 ≡ struck_mark (told.0).state = ap struck_mark_of told.1 in
    elim told.2 [
      | inl waits ↦ (
          let count : 110 ≡ 51 = ap (λ r. words_length (bytes_for answered_once r)) rid ∙ ap words_length waits.1 in
          absurd (omega (arith, count)))
      | inr struck ↦ absurd (omega (arith, mark, ap struck_mark struck.0))
    ]
