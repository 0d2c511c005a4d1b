-- A world in which no copy came late is on its course, event by event: a session that has ended ended well, and an empty request of
-- a client that polls was made the agreed seconds after the one before it had come.
use Rattle.std.proofs.Common.{◌≡◌, ℕ, zero, suc, ◌+◌, ◌-◌, ◌*◌, ◌≤◌, ◌==◌, ◌||◌, Bool, true, false, cond, List, [], ◌∷◌, ◌++◌, length, slice_get, inl, inr, refl, sym, ◌∙◌, ap, ap₂, subst, arith}
use Rattle.std.specs.Prelude.{Option, None, Some, Result, Ok, Err, All, IfSome, is_none, is_some, nat_le, nat_lt, not, ⊤}
use Rattle.std.proofs.lemmas.Bool.{and_parts, leb-true}
use Rattle.std.specs.List.{find}
use Rattle.std.proofs.lemmas.List.Elements.{All-append, All-cons, All-nil}
use Rattle.bosh_types.specs.ById.{at_id}
use Rattle.bosh_types.specs.Rid.{greatest_rid}
use Rattle.bosh_types.specs.declared.ending.Ending.{Ending}
use Rattle.bosh_types.specs.declared.ending.Ending.TheVariants as endings
use Rattle.bosh_types.specs.declared.terms.Terms.{Terms}
use Rattle.session_core.specs.declared.opening.Opening.{Opening}
use Rattle.session_core.specs.declared.copy.RequestCopy.{RequestCopy}
use Rattle.session_core.specs.Journal.{Call, Collect, Entered, Entry, IsAllowed, IsJournal, Journal, TakeInward, Made as MadeCall, Arrive, Back, BackClosed, Tick, Limit, state_of}
use Rattle.session_core.specs.Machine.{bytes_for, collect, collected_by, collected_bytes, collected_from, creation_of, passed_on, take_inward}
use Rattle.session_core.specs.Run.{arrival_in, arrivals_from, arrivals_of, moment_after}
use Rattle.session_core.specs.Processed.{copies_of}
use Rattle.session_core.specs.State.{Issued, PlainSession, Replaced, Struck, TicketState, UsedUp, Waits, inward, is_over}
use Rattle.session_laws.proofs.Arrivals.{moment_of}
use Rattle.session_laws.specs.Growing.{Begins}
use Rattle.session_laws.proofs.Grows.{begins_same}
use Rattle.session_laws.proofs.Lists.{copies_length, get_push, get_some}
use Rattle.session_laws.proofs.Tests.{is_or_not, neither, not_false, some_is, split, true_false}
use Rattle.session_calls.specs.After.{after_call, all_taken, untaken, with_taken}
use Rattle.bosh_client.specs.declared.agreed.Agreed.{Agreed}
use Rattle.bosh_client.specs.declared.outgoing.Outgoing.{Outgoing}
use Rattle.bosh_client.specs.declared.replies.Answered.{Answered}
use Rattle.bosh_client.specs.declared.replies.Answered.TheVariants as answerings
use Rattle.bosh_client.specs.declared.replies.Next.{Next}
use Rattle.bosh_client.specs.declared.replies.Next.TheVariants as nexts
use Rattle.bosh_client.specs.declared.replies.Why.{Why}
use Rattle.bosh_client.specs.declared.setup.ClientSetup.{ClientSetup}
use Rattle.bosh_client.specs.declared.told.Told.{Told}
use Rattle.bosh_client.specs.AnswerReading.{answer_of}
use Rattle.bosh_client.specs.Machine.{answer, has_rested, is_due, is_due_by, is_due_of, lacks_sid, misnames, next_made, next_request, take_answer, with_answer, with_request}
use Rattle.bosh_client.specs.PlainClient.{Made, PlainClient, Taken, has_ended, id_of, last_moment, last_taken, lowest, next_id, queued, request_at, taken}
use Rattle.bosh_client.specs.Requests.{agreed}
use Rattle.bosh_client.specs.Setup.{polls}
use Rattle.bosh_client.proofs.RequestLemmas.{none_left}
use Rattle.world_laws.specs.declared.told.Parked.{Parked}
use Rattle.world_laws.specs.declared.told.Told.{Told as ToldThing}
use Rattle.world_laws.specs.Complete.{EndsWell, IsLeft}
use Rattle.world_laws.specs.Manager.{PlainManager, all_collected, session, settled, turned}
use Rattle.world_laws.specs.Sound.{IsSound, IsSoundManager}
use Rattle.world_laws.specs.World.{PlainWorld}
use Rattle.world_laws.proofs.Below.{Below}
use Rattle.world_laws.proofs.CallLemmas.{Brings}
use Rattle.world_laws.proofs.EventLemmas.{manager_of}
use Rattle.world_laws.proofs.FactLemmas.{ComesNow, HasRested, IsTimelyCall, begins_get, copies_begin, ends_well}
use Rattle.world_laws.proofs.GrownLemmas.{Grown, all_passed_grows, call_grows, collected_grows, grown_then, state_after}
use Rattle.world_laws.proofs.LowestLemmas.{below_lowest, lowest_next}
use Rattle.world_laws.proofs.MadeLemmas.{IsQueued, all_queued, alone_of, empty_of, is_poll}
use Rattle.world_laws.proofs.OnTimeLemmas.{agreed_is, every_terms, start, taken_answered}
use Rattle.world_laws.proofs.PlaceLemmas.{all_at, id_at}
use Rattle.world_laws.proofs.StateLemmas.{every_moment, every_sound}
use Rattle.world_laws.proofs.StoodLemmas.{ids, keeping}
use Rattle.world_laws.proofs.TurnLemmas.{still_over}

-- a copy whose answer was taken came before that; and an empty request of a client that polls came late enough
pub record IsRested (c : PlainClient) (moment : ℕ) (s : PlainSession) : Type 0 where
  pub came : (k : ℕ) (copy : RequestCopy) → slice_get (copies_of s.processed) k ≡ Some copy → is_some (taken c (c.setup.first + suc k)) ≡ true → copy.arrived ≤ last_taken c
  pub rested : HasRested c moment s

abbrev pub RestedAt : PlainClient → ℕ → Option PlainManager → Type 0
RestedAt c moment None = ⊤
RestedAt c moment (Some m) = is_over (session m) ≡ false → IsRested c moment (session m)

pub record IsOnCourse (c : PlainClient) (moment : ℕ) (o : Option PlainManager) : Type 0 where
  pub past : last_taken c ≤ moment
  pub rested : RestedAt c moment o
  pub ends : EndsWell c o

-- An ending that is left goes on to be so.

found_more : (p : Made → Bool) (xs ys : List Made) (x : Made) → find p xs ≡ Some x → find p (xs ++ ys) ≡ Some x
found_more p [] ys x is = absurd (cc)
found_more p (first ∷ xs) ys x is = by (p first) is (found_more p xs ys x)
  where
    by : (b : Bool) → cond b (Some first) (find p xs) ≡ Some x → (find p xs ≡ Some x → find p (xs ++ ys) ≡ Some x) → cond b (Some first) (find p (xs ++ ys)) ≡ Some x
    by true is later = is
    by false is later = later is

abbrev Keeps : PlainClient → PlainClient → Type 0
Keeps c d = (rid : ℕ) (request : Made) → request_at c rid ≡ Some request → request_at d rid ≡ Some request

still_left : (c d : PlainClient) (s t : PlainSession) (e : Ending) → Keeps c d → Begins s.answered t.answered → IsLeft c s e → IsLeft d t e
still_left c d s t (endings.Terminated rid) keeps begins is = tt
still_left c d s t (endings.Stale rid lowest_kept) keeps begins is = is
still_left c d s t (endings.Above rid last requests) keeps begins is = is
still_left c d s t (endings.WrongKey rid) keeps begins is = is
still_left c d s t (endings.UnknownStream rid) keeps begins is = record {
  request = is.request;
  stream = is.stream;
  made = keeps rid is.request is.made;
  names = is.names;
  closed = ((is.closed).0, (is.closed).1, begins_get s.answered t.answered (is.closed).0 (is.closed).1 begins (is.closed).2, (is.closed).3);
}
still_left c d s t (endings.PauseTooLong rid pause maxpause) keeps begins is = is
still_left c d s t (endings.Overactive rid distance) keeps begins is = is
still_left c d s t (endings.Silent since now) keeps begins is = tt
still_left c d s t (endings.Closed closing rid) keeps begins is = tt
still_left c d s t (endings.JournalFull counted cost) keeps begins is = tt

left_ending : (c d : PlainClient) (s t : PlainSession) (o : Option Ending) → Keeps c d → Begins s.answered t.answered → IfSome o (IsLeft c s) → IfSome o (IsLeft d t)
left_ending c d s t None keeps begins is = tt
left_ending c d s t (Some e) keeps begins is = still_left c d s t e keeps begins is

ends_still : (c d : PlainClient) (o : Option PlainManager) → Keeps c d → EndsWell c o → EndsWell d o
ends_still c d None keeps ends = tt
ends_still c d (Some m) keeps ends = left_ending c d (session m) (session m) (session m).ending keeps (begins_same (session m).answered) ends

-- The client.

pub record IsSame (c d : PlainClient) : Type 0 where
  pub requests_are : d.requests ≡ c.requests
  pub answers_are : d.answers ≡ c.answers
  pub setup_is : d.setup ≡ c.setup

-- what a course depends on
pub same_course : (c d : PlainClient) (moment : ℕ) (o : Option PlainManager) → IsSame c d → IsOnCourse c moment o → IsOnCourse d moment o
same_course c d moment o same course = record {
  past = past;
  rested = by o course.rested;
  ends = ends_still c d o (λ rid request is. ap (λ (l : List Made). find (λ (r : Made). id_of r == rid) l) same.requests_are ∙ is) course.ends;
}
  where
    past : last_moment 0 d.answers ≤ moment
    past = subst (λ (l : List (ℕ × Taken)). last_moment 0 l ≤ moment) (sym same.answers_are) course.past

    by : (o : Option PlainManager) → RestedAt c moment o → RestedAt d moment o
    by None rested = tt
    by (Some m) rested = λ on. record {
      came = λ k copy at has.
          subst (λ (l : List (ℕ × Taken)). copy.arrived ≤ last_moment 0 l) (sym same.answers_are)
          ((rested on).came k copy at (ap₂ (λ (l : List (ℕ × Taken)) (x : ClientSetup). is_some (at_id l (x.first + suc k))) (sym same.answers_are) (sym same.setup_is) ∙ has));
      rested = λ k copy request at here empty polling.
          (rested on).rested k copy request at (ap (λ (l : List Made). slice_get l (suc (suc k))) (sym same.requests_are) ∙ here) empty (ap polls (sym same.setup_is) ∙ polling);
    }

pub later_course : (c : PlainClient) (moment later : ℕ) (o : Option PlainManager) → moment ≤ later → IsOnCourse c moment o → IsOnCourse c later o
later_course c moment later o before course = record { past = omega (arith, course.past, before); rested = by o course.rested; ends = course.ends }
  where
    by : (o : Option PlainManager) → RestedAt c moment o → RestedAt c later o
    by None rested = tt
    by (Some m) rested = λ on. record {
      came = (rested on).came;
      rested = λ k copy request at here empty polling. omega (arith, (rested on).rested k copy request at here empty polling, before);
    }

-- a request is made where it is due, or none
pub next_due : (c : PlainClient) (now : ℕ) (P : PlainClient × Next → Type 0) → P (c, nexts.Nothing) → P (c, nexts.RidsSpent) → (is_due c now ≡ true → P (with_request c (next_made c (agreed c)))) → P (next_request c now)
next_due c now P nothing spent made =
    split P (has_ended c || not (is_due c now)) (c, nexts.Nothing) _ (λ _. nothing)
    (λ due. split P (nat_lt greatest_rid (next_id c)) (c, nexts.RidsSpent) (with_request c (next_made c (agreed c))) (λ _. spent)
    (λ _. made (not_false (is_due c now) (neither (has_ended c) (not (is_due c now)) due).1)))

-- an answer is taken at this moment, or not
module _ (c : PlainClient) (rid : ℕ) (body : List ℕ) (now : ℕ) (P : PlainClient × Answered → Type 0) where
  taken_at : P (c, answerings.Again (lowest c) rid) → ((why : Why) → P (c, answerings.Broken why)) → ((t : Taken) → t.moment ≡ now → P (with_answer c rid t, answerings.Done)) → (told : Result Told Why)
      → P (take_answer c rid body now told)
  taken_at again broken done (Err why) = broken why
  taken_at again broken done (Ok tells) =
      split P (misnames c rid tells) (c, answerings.Broken _) _ (λ _. broken _)
      (λ _. split P tells.error (c, answerings.Again (lowest c) rid) _ (λ _. again)
      (λ _. split P (lacks_sid c rid tells) (c, answerings.Broken _) _ (λ _. broken _) (λ _. done (record { body = body; tells = tells; moment = now }) refl)))

  pub answer_at : P (c, answerings.Unmade) → P (c, answerings.Stale) → P (c, answerings.Again (lowest c) rid) → ((why : Why) → P (c, answerings.Broken why))
      → ((t : Taken) → t.moment ≡ now → P (with_answer c rid t, answerings.Done)) → P (answer c rid body now)
  answer_at unmade stale again broken done =
      split P (is_none (request_at c rid)) (c, answerings.Unmade) _ (λ _. unmade)
      (λ _. split P (is_some (taken c rid)) (c, answerings.Stale) _ (λ _. stale) (λ _. taken_at again broken done (answer_of body)))

last_moment-push : (moment : ℕ) (answers : List (ℕ × Taken)) (answer : ℕ × Taken) → last_moment moment (answers ++ answer ∷ []) ≡ answer.1.moment
last_moment-push moment [] answer = refl
last_moment-push moment (first ∷ answers) answer = last_moment-push first.1.moment answers answer

-- Moments.

moment_grows : (moment : ℕ) (entered : Entered) → moment ≤ moment_after moment entered
moment_grows moment (MadeCall (Arrive request body now)) = omega arith
moment_grows moment (MadeCall (Collect ticket)) = omega arith
moment_grows moment (MadeCall (Back stream stanza now)) = omega arith
moment_grows moment (MadeCall (BackClosed stream closing now)) = omega arith
moment_grows moment (MadeCall (Tick now)) = omega arith
moment_grows moment (MadeCall TakeInward) = omega arith
moment_grows moment (Limit kind cost now) = omega arith

moments_grow : (moment : ℕ) (entries : List Entry) → moment ≤ moment_of moment entries
moments_grow moment [] = omega arith
moments_grow moment (entry ∷ entries) = omega (arith, moment_grows moment entry.entered, moments_grow (moment_after moment entry.entered) entries)

abbrev By : ℕ → RequestCopy → Type 0
By latest copy = copy.arrived ≤ latest

came_by : (moment latest : ℕ) (entered : Entered) → moment_after moment entered ≤ latest → All (By latest) (arrival_in moment entered)
came_by moment latest (MadeCall (Arrive request body now)) early = All-cons (By latest) _ [] early (All-nil (By latest))
came_by moment latest (MadeCall (Collect ticket)) early = All-nil (By latest)
came_by moment latest (MadeCall (Back stream stanza now)) early = All-nil (By latest)
came_by moment latest (MadeCall (BackClosed stream closing now)) early = All-nil (By latest)
came_by moment latest (MadeCall (Tick now)) early = All-nil (By latest)
came_by moment latest (MadeCall TakeInward) early = All-nil (By latest)
came_by moment latest (Limit kind cost now) early = All-nil (By latest)

all_came_by : (moment latest : ℕ) (entries : List Entry) → moment_of moment entries ≤ latest → All (By latest) (arrivals_from moment entries)
all_came_by moment latest [] early = All-nil (By latest)
all_came_by moment latest (entry ∷ entries) early =
    All-append (By latest) (arrival_in moment entry.entered) (arrivals_from (moment_after moment entry.entered) entries)
    (came_by moment latest entry.entered (omega (arith, moments_grow (moment_after moment entry.entered) entries, early)))
    (all_came_by (moment_after moment entry.entered) latest entries early)

-- no copy of a session came later than its moment
pub processed_by : Below → (j : Journal) → IsJournal j → (latest k : ℕ) (copy : RequestCopy) → (state_of j).now ≤ latest → slice_get (copies_of (state_of j).processed) k ≡ Some copy → copy.arrived ≤ latest
processed_by below j made latest k copy early at =
    let laws = below.journals j made in
    let before : moment_of j.opening.at j.entries ≤ latest = subst (λ (n : ℕ). n ≤ latest) (every_moment j made) early in
    let all : All (By latest) (arrivals_of j) =
    All-cons (By latest) (creation_of j.opening) (arrivals_from j.opening.at j.entries) (omega (arith, moments_grow j.opening.at j.entries, before)) (all_came_by j.opening.at latest j.entries before) in
    let came = laws.arrived (j.opening.request.rid + suc k) copy (laws.run_each (suc k) copy at) in
    all_at (By latest) (arrivals_of j) came.0 copy all came.1

-- What the manager does after a call changes no ending.

take_ending : (s : PlainSession) → (take_inward s).0.ending ≡ s.ending
take_ending s = by (slice_get (inward s) s.passed)
  where
    by : (o : Option _) → (passed_on s o).0.ending ≡ s.ending
    by None = refl
    by (Some item) = refl

collect_ending : (s : PlainSession) (number : ℕ) → (collect s number).0.ending ≡ s.ending
collect_ending s zero = refl
collect_ending s (suc index) = by (slice_get s.tickets index)
  where
    bytes : (ticket : Issued) (o : Option (List ℕ)) → (collected_bytes s index ticket o).0.ending ≡ s.ending
    bytes ticket None = refl
    bytes ticket (Some body) = refl

    state : (ticket : Issued) (t : TicketState) → (collected_by s index ticket t).0.ending ≡ s.ending
    state ticket Waits = bytes ticket (bytes_for s ticket.rid)
    state ticket Replaced = refl
    state ticket Struck = refl
    state ticket UsedUp = refl

    by : (o : Option Issued) → (collected_from s index o).0.ending ≡ s.ending
    by None = refl
    by (Some ticket) = state ticket ticket.state

module _ (below : Below) (sent : List (ℕ × List ℕ)) (moment : ℕ) where
  taken_ending : (count : ℕ) (j : Journal) → IsJournal j → (state_of (with_taken count j)).ending ≡ (state_of j).ending
  taken_ending zero j made = refl
  taken_ending (suc count) j made =
      taken_ending count (after_call j TakeInward) (call_grows below sent moment j TakeInward tt tt made).made
      ∙ ap (λ (s : PlainSession). s.ending) (state_after below j TakeInward made) ∙ take_ending (state_of j)

  collected_ending : (j : Journal) (parked : List Parked) → IsJournal j → (state_of (all_collected j parked)).ending ≡ (state_of j).ending
  collected_ending j [] made = refl
  collected_ending j (p ∷ parked) made =
      collected_ending (after_call j (Collect p.ticket)) parked (call_grows below sent moment j (Collect p.ticket) tt tt made).made
      ∙ ap (λ (s : PlainSession). s.ending) (state_after below j (Collect p.ticket) made) ∙ collect_ending (state_of j) p.ticket

  pub settled_ending : (m : PlainManager) → IsJournal m.journal → (session (settled m)).ending ≡ (session m).ending
  settled_ending m made =
      collected_ending (all_taken m.journal) m.parked (all_passed_grows below sent moment m.journal made).made
      ∙ taken_ending (length (untaken m.journal)) m.journal made

  pub settled_grown : (m : PlainManager) → IsJournal m.journal → Grown sent moment m.journal (settled m).journal
  settled_grown m made =
      let passed = all_passed_grows below sent moment m.journal made in
      grown_then sent moment m.journal (all_taken m.journal) (settled m).journal passed (collected_grows below sent moment (all_taken m.journal) m.parked passed.made)

module _ (below : Below) (setup : ClientSetup) (w : PlainWorld) (h : IsSound setup w) where
  abbrev c : PlainClient
  c = w.client

  -- The manager.

  module _ (m : PlainManager) (is : w.manager ≡ Some m) (course : IsOnCourse c w.moment (Some m)) where
    abbrev s : PlainSession
    s = session m

    sound : IsSoundManager setup w.sent w.written w.client.answers w.moment m
    sound = manager_of below setup w h (Some m) is

    -- a copy whose answer was taken was processed before
    was_there : is_over s ≡ false → (t : PlainSession) → ((k : ℕ) (x : RequestCopy) → slice_get (copies_of s.processed) k ≡ Some x → slice_get (copies_of t.processed) k ≡ Some x) → (k : ℕ) (copy : RequestCopy)
        → slice_get (copies_of t.processed) k ≡ Some copy → is_some (taken c (c.setup.first + suc k)) ≡ true → slice_get (copies_of s.processed) k ≡ Some copy
    was_there on t begins k copy at has =
        let few = (every_sound m.journal sound.made).few in
        let within = taken_answered below setup w h m is on (c.setup.first + suc k) has in
        let y = get_some (copies_of s.processed) k (omega (arith, copies_length s.processed, few, within, start below setup w h m is on)) in
        let same : y.0 ≡ copy = some_is y.0 copy (sym (begins k y.0 y.1) ∙ at) in
        y.1 ∙ ap Some same

    grown_rested : (k : Journal) → Grown w.sent w.moment m.journal k → is_over (state_of k) ≡ false → IsRested c w.moment (state_of k)
    grown_rested j g on_later =
        let on = was_on g on_later in
        let old = course.rested on in
        let begins : (k : ℕ) (x : RequestCopy) → slice_get (copies_of s.processed) k ≡ Some x → slice_get (copies_of (state_of j).processed) k ≡ Some x =
        λ k x at. begins_get (copies_of s.processed) (copies_of (state_of j).processed) k x (copies_begin s.processed (state_of j).processed g.processed) at in
        let terms : (state_of j).terms.polling ≡ s.terms.polling = ap (λ (t : Terms). t.polling) (every_terms j g.made ∙ ap (λ (o : Opening). o.terms) g.opening_is ∙ sym (every_terms m.journal sound.made)) in
        record {
          came = λ k copy at has. old.came k copy (was_there on (state_of j) begins k copy at has) has;
          rested = λ k copy request at here empty polling.
              let kept = (keeping below setup w h).each (suc k) request here in
              let id = id_at c.setup.first c.requests (suc (suc k)) request (ids below setup w h) here in
              let has = (kept.2).alone empty (c.setup.first + suc k) (omega arith) (omega (arith, id)) in
              omega (arith, old.rested k copy request (was_there on (state_of j) begins k copy at has) here empty polling, terms);
        }
      where
        was_on : {j : Journal} → Grown w.sent w.moment m.journal j → is_over (state_of j) ≡ false → is_over s ≡ false
        was_on {j} g on_later = elim (is_or_not (is_over s)) [
          | inl over ↦ absurd (true_false (sym (still_over w.sent w.moment m.journal j g over) ∙ on_later))
          | inr on ↦ on
        ]

    -- a call, and what the manager does after it
    module _ (call : Call) (allowed : IsAllowed call) (brings : Brings w.sent w.moment call) (timely : IsTimelyCall c call) (now_is : ComesNow w.moment call) where
      grown : Grown w.sent w.moment m.journal (after_call m.journal call)
      grown = call_grows below w.sent w.moment m.journal call allowed brings sound.made

      abbrev v : PlainSession
      v = state_of (after_call m.journal call)

      called_ends : IfSome v.ending (IsLeft c v)
      called_ends = elim (is_or_not (is_over s)) [
        | inl over ↦ by s.ending refl over course.ends
        | inr on ↦ ends_well below setup w h m is on call allowed brings timely now_is (course.rested on).rested
      ]
        where
          by : (o : Option Ending) → s.ending ≡ o → is_some o ≡ true → IfSome o (IsLeft c s) → IfSome v.ending (IsLeft c v)
          by None ends over left = absurd (cc)
          by (Some e) ends over left = subst (λ (o : Option Ending). IfSome o (IsLeft c v)) (sym (grown.ending e ends)) (still_left c c s v e (λ rid request made. made) grown.answered left)

      pub turned_course : (was_over : Bool) (n : PlainManager) (answer : List ToldThing) → n.journal ≡ after_call m.journal call → IsOnCourse c w.moment (Some (turned was_over n answer).after)
      turned_course was_over n answer journal =
          let made : IsJournal n.journal = subst IsJournal (sym journal) grown.made in
          let one : Grown w.sent w.moment m.journal n.journal = subst (Grown w.sent w.moment m.journal) (sym journal) grown in
          let all = grown_then w.sent w.moment m.journal n.journal (settled n).journal one (settled_grown below w.sent w.moment n made) in
          record {
            past = course.past;
            rested = grown_rested (settled n).journal all;
            ends = subst (λ (o : Option Ending). IfSome o (IsLeft c (session (settled n)))) (sym (settled_ending below w.sent w.moment n made ∙ ap (λ (j : Journal). (state_of j).ending) journal))
                (left_ending c c v (session (settled n)) v.ending (λ rid request made. made)
                (subst (λ (j : Journal). Begins (state_of j).answered (session (settled n)).answered) journal (settled_grown below w.sent w.moment n made).answered) called_ends);
          }

  -- A request is made.

  module _ (o : Option PlainManager) (is : w.manager ≡ o) (course : IsOnCourse c w.moment o) where
    pub made_course : is_due c w.moment ≡ true → IsOnCourse (with_request c (next_made c (agreed c))).0 w.moment o
    made_course due = record {
      past = course.past;
      rested = by o is course.rested;
      ends = ends_still c (with_request c (next_made c (agreed c))).0 o (λ rid request made. found_more (λ (r : Made). id_of r == rid) c.requests (next_made c (agreed c) ∷ []) request made) course.ends;
    }
      where
        -- the request that is made now is empty where nothing is queued
        now : (m : PlainManager) → w.manager ≡ Some m → (on : is_over (session m) ≡ false) → IsRested c w.moment (session m) → (p : Option Agreed) → agreed c ≡ p → is_due_by c p w.moment ≡ true
            → (k : ℕ) (copy : RequestCopy) → slice_get (copies_of (session m).processed) k ≡ Some copy → suc (suc k) ≡ length c.requests → is_poll (next_made c p).parts ≡ true → polls c.setup ≡ true
            → copy.arrived + (session m).terms.polling * 1000 ≤ w.moment
        now m there on old None agrees due k copy at place empty polling = absurd (omega (arith, ap length (none_left c.requests due), place))
        now m there on old (Some a) agrees due k copy at place empty polling =
            let few = lowest_next c (ids below setup w h) in
            let queue = subst (λ (p : Option Agreed). All (IsQueued p) (queued c)) agrees (all_queued c (keeping below setup w h).queue) in
            let none : queued c ≡ [] = empty_of (Some a) (queued c) queue (next_made c (Some a)).parts.payloads refl empty in
            let low = alone_of c a w.moment (queued c) few none due in
            let has = below_lowest c (ids below setup w h) (c.setup.first + suc k) (omega arith) (omega (arith, low, place)) in
            let came = old.came k copy at has in
            let rest : has_rested c a w.moment ≡ true = (and_parts _ (has_rested c a w.moment) (ap (λ (q : List Outgoing). is_due_of c a q w.moment) (sym none) ∙ due)).1 in
            let wait : a.polling * 1000 ≤ w.moment - last_taken c = waited (polls c.setup) (a.polling * 1000) (w.moment - last_taken c) polling rest in
            let terms = (agreed_is below setup w h m there on a agrees).1 in
            omega (arith, came, wait, terms, course.past)
          where
            waited : (b : Bool) (far long : ℕ) → b ≡ true → (not b || nat_le far long) ≡ true → far ≤ long
            waited true far long is test = leb-true far long test
            waited false far long is test = absurd (cc)

        by : (o : Option PlainManager) → w.manager ≡ o → RestedAt c w.moment o → RestedAt (with_request c (next_made c (agreed c))).0 w.moment o
        by None there rested = tt
        by (Some m) there rested = λ on. record {
          came = (rested on).came;
          rested = λ k copy request at here empty polling. elim (get_push c.requests (next_made c (agreed c)) (suc (suc k)) request here) [
            | inl was ↦ (rested on).rested k copy request at was empty polling
            | inr last ↦ now m there on (rested on) (agreed c) refl due k copy at last.0 (ap (λ (r : Made). is_poll r.parts) last.1 ∙ empty) polling
          ];
        }

    -- An answer is taken.

    pub answered_course : (rid : ℕ) (t : Taken) → t.moment ≡ w.moment → IsOnCourse (with_answer c rid t) w.moment o
    answered_course rid t moment = record {
      past = omega (arith, last);
      rested = by o is course.rested;
      ends = ends_still c (with_answer c rid t) o (λ id request made. made) course.ends;
    }
      where
        last : last_taken (with_answer c rid t) ≡ w.moment
        last = last_moment-push 0 c.answers (rid, t) ∙ moment

        by : (o : Option PlainManager) → w.manager ≡ o → RestedAt c w.moment o → RestedAt (with_answer c rid t) w.moment o
        by None there rested = tt
        by (Some m) there rested = λ on.
            let sound = manager_of below setup w h (Some m) there in
            record {
              came = λ k copy at has. omega (arith, last, processed_by below m.journal sound.made w.moment k copy sound.early at);
              rested = (rested on).rested;
            }
