-- What a session holds once a copy arrived.
use Rattle.std.proofs.Common.{◌≡◌, ℕ, suc, ◌+◌, ◌-◌, ◌<◌, ◌≤◌, ◌&&◌, ◌||◌, inl, inr, nat_lt, nat_le, Bool, true, false, List, [], ◌∷◌, ◌++◌, map, length, Option, Some, None, All, refl, sym, ◌∙◌, ap, subst, arith, add-one}
use Rattle.std.specs.Prelude.{is_some, not, if◌then◌else◌}
use Rattle.std.specs.Option.{option_map}
use Rattle.std.proofs.lemmas.Bool.{cases_eq, cases_lt}
use Rattle.std.proofs.lemmas.Bool.Decides.{nat_tests}
use Rattle.std.proofs.lemmas.List.Elements.{All-push}
use Rattle.bosh_types.specs.ById.{at_id}
use Rattle.bosh_types.specs.Rid.{greatest_rid}
use Rattle.bosh_types.specs.declared.condition.Condition.TheVariants.{UndefinedCondition}
use Rattle.bosh_types.specs.declared.ending.Ending.TheVariants.{JournalFull}
use Rattle.bosh_types.specs.declared.kept.KeptAnswer.{KeptAnswer}
use Rattle.rid_window.specs.PlainWindow.{PlainWindow, IsAbove, IsWithin, id_after, reach}
use Rattle.rid_window.specs.StandsFor as windows
use Rattle.rid_window.specs.declared.window.Window.{Window}
use Rattle.session_attrs.specs.declared.request.Request.{Request}
use Rattle.session_core.specs.declared.copy.RequestCopy.{RequestCopy}
use Rattle.session_core.specs.declared.place.Place.TheVariants as places
use Rattle.session_core.specs.declared.replies.Arrived.{Arrived}
use Rattle.session_core.specs.declared.replies.Arrived.TheVariants as arrivals
use Rattle.session_core.specs.declared.replies.Ticked.{Ticked}
use Rattle.session_core.specs.declared.replies.Ticked.TheVariants.{Changed}
use Rattle.session_core.specs.declared.session.Session.{Session}
use Rattle.session_core.specs.Answers.{settled}
use Rattle.session_core.specs.Arriving.{with_ticket}
use Rattle.session_core.specs.Copy.{id_of, is_extra, with_id}
use Rattle.session_core.specs.Kept.{kept_answer}
use Rattle.session_core.specs.Machine.{advanced, arrive, arrived_at, arrived_in_time, body_cost, bytes_for, full_with, is_full, placed, plain_cost, refused, replied, reopened, replace as machine_replace, tick, with_cost}
use Rattle.session_core.specs.StandsFor.{Alike, Holds, IsLater, alike_in}
use Rattle.session_core.specs.State.{PlainSession, Issued, Waits, answers, answered_of, first_of, is_over, last_of, standing, standing_at}
use Rattle.session_core.specs.Tickets.{Book, answer_of, given, replace, taken_back, ticket_at, without}
use Rattle.session_core.specs.TicketsOut.{AreOut, out_of}
use Rattle.session_core.specs.Time.{is_due, time_applied}
use Rattle.session_core.specs.Window.{place_of}
use Rattle.session_core.proofs.AnsweredLemmas.{none_answered, some_same}
use Rattle.session_core.proofs.AreOut.{at_without_other, at_without_same, given_out, issued_past, issued_push_last, issued_push_other, replaced_out}
use Rattle.session_core.proofs.EndedLemmas.{live_none, words_live}
use Rattle.session_core.proofs.RunningLemmas.{length-push, map-push}
use Rattle.session_core.proofs.StruckLemmas.{error_placed, standing_placed}
use Rattle.session_core.proofs.TicketsApart.{with_tickets, advanced_apart, settled_apart}
use Rattle.session_core.proofs.WindowLemmas.{after_none, after_some, later_at}

length-map : {X Y : Type 0} (f : X → Y) (xs : List X) → length (map f xs) ≡ length xs
length-map f [] = refl
length-map f (x ∷ xs) = ap suc (length-map f xs)

-- an id after those that were answered has nothing in a session that goes on
pub open_words : {s : Session} {plain : PlainSession} (rid : ℕ) → Holds s plain → is_over plain ≡ false → answered_of plain < rid → bytes_for plain rid ≡ None
open_words {plain = plain} rid h live later =
    let none : at_id (map kept_answer (answers plain)) rid ≡ None =
    none_answered (first_of plain) rid (answers plain) h.kept.ids (omega (arith, add-one (length plain.answered))) in
    words_live plain rid (live_none plain live) ∙ ap (λ (o : Option KeptAnswer). option_map (λ answer. answer.bytes) o) none

-- a later copy of an open id
pub reopened_holds : {s : Session} {plain : PlainSession} (rid : ℕ) (book : Book) → Holds s plain → is_over plain ≡ false → answered_of plain < rid
    → book ≡ given (record s.tickets { out = map (replace rid) s.tickets.out }) rid
    → Holds (record s { last_arrival = s.moment; tickets = book }) (reopened plain rid).0
reopened_holds {s = s} {plain = plain} rid book h live later is = record {
  alike = ap (λ (a : Alike). record a { last_arrival = a.now }) h.alike;
  run = h.run;
  latest = h.latest;
  kept = h.kept;
  inward = h.inward;
  items = h.items;
  streams = h.streams;
  tickets =
      rw is
      (given_out (bytes_for plain) (record s.tickets { out = map (replace rid) s.tickets.out }) (map (machine_replace rid) plain.tickets) rid (open_words rid h live later)
      (replaced_out (bytes_for plain) s.tickets plain.tickets rid h.tickets));
  window = h.window;
}

pub reopened_number : {s : Session} {plain : PlainSession} (rid number : ℕ) → Holds s plain → number ≡ s.tickets.handed_out + 1
    → arrivals.Parked number ≡ (reopened plain rid).1
reopened_number {s = s} {plain = plain} rid number h is =
    let same : number ≡ suc (length (map (machine_replace rid) plain.tickets)) =
    omega (arith, is, h.tickets.handed_out_is, length-map (machine_replace rid) plain.tickets) in
    ap arrivals.Parked same

-- The ticket that was handed out last.

module _ (words : ℕ → Option (List ℕ)) (book : Book) (issued : List Issued) (rid : ℕ) (out : AreOut book (issued ++ record { rid = rid; state = Waits } ∷ []) words) where
  last_number : book.handed_out ≡ length issued + 1
  last_number = out.handed_out_is ∙ length-push issued (record { rid = rid; state = Waits })

  -- it has what its request was given
  pub last_words_is : answer_of (ticket_at book.out book.handed_out) ≡ words rid
  last_words_is =
      ap answer_of (out.each book.handed_out ∙ ap (out_of words book.handed_out) (issued_push_last issued (record { rid = rid; state = Waits }) book.handed_out last_number))

  without_last : AreOut (record { handed_out = book.handed_out - 1; out = without book.handed_out book.out }) issued words
  without_last = record {
    handed_out_is = omega (arith, last_number);
    each = λ number. elim (cases_eq number book.handed_out) [
      | inl same ↦
          ap (λ (n : ℕ). ticket_at (without book.handed_out book.out) n) same ∙ at_without_same book.handed_out book.out
          ∙ sym (ap (out_of words number) (issued_past issued number (same ∙ last_number)))
      | inr other ↦
          at_without_other book.handed_out number book.out other ∙ out.each number
          ∙ ap (out_of words number) (issued_push_other issued (record { rid = rid; state = Waits }) number (λ same. other (same ∙ sym last_number)))
    ];
  }

  back_if : (b : Bool) → b ≡ true → AreOut (if b then record { handed_out = book.handed_out - 1; out = without book.handed_out book.out } else book) issued words
  back_if true is = without_last
  back_if false is = absurd (cc)

  pub taken_back_out : (text : List ℕ) → answer_of (ticket_at book.out book.handed_out) ≡ Some text → AreOut (taken_back book) issued words
  taken_back_out text some = back_if (is_some (answer_of (ticket_at book.out book.handed_out))) (ap is_some some)

  left_if : (b : Bool) → b ≡ false → (if b then record { handed_out = book.handed_out - 1; out = without book.handed_out book.out } else book) ≡ book
  left_if true is = absurd (cc)
  left_if false is = refl

  pub left_out : answer_of (ticket_at book.out book.handed_out) ≡ None → taken_back book ≡ book
  left_out none = left_if (is_some (answer_of (ticket_at book.out book.handed_out))) (ap is_some none)

-- the session is told what it gave to the request that arrived
pub replied_some : (plain : PlainSession) (rid : ℕ) (text : List ℕ) → bytes_for plain rid ≡ Some text → replied plain rid ≡ (plain, arrivals.Answer text)
replied_some plain rid text some = by (bytes_for plain rid) some
  where
    by : (o : Option (List ℕ)) → o ≡ Some text → (elim o as (λ x. PlainSession × Arrived) [ Some bytes ↦ (plain, arrivals.Answer bytes) | None ↦ (with_ticket plain rid, arrivals.Parked (suc (length plain.tickets))) ]) ≡ (plain, arrivals.Answer text)
    by None some = absurd (cc)
    by (Some bytes) some = ap (λ (b : List ℕ). (plain, arrivals.Answer b)) (some_same some)

pub replied_none : (plain : PlainSession) (rid : ℕ) → bytes_for plain rid ≡ None → replied plain rid ≡ (with_ticket plain rid, arrivals.Parked (suc (length plain.tickets)))
replied_none plain rid none =
    ap (λ (o : Option (List ℕ)). elim o as (λ x. PlainSession × Arrived) [ Some bytes ↦ (plain, arrivals.Answer bytes) | None ↦ (with_ticket plain rid, arrivals.Parked (suc (length plain.tickets))) ]) none

-- the session with other tickets
pub retickets : {s : Session} {plain : PlainSession} (tickets : List Issued) (book : Book) → Holds s plain → AreOut book tickets (bytes_for plain)
    → Holds (record s { tickets = book }) (with_tickets tickets plain)
retickets tickets book h out = record {
  alike = h.alike;
  run = h.run;
  latest = h.latest;
  kept = h.kept;
  inward = h.inward;
  items = h.items;
  streams = h.streams;
  tickets = out;
  window = h.window;
}

-- What is processed and answered has no part in tickets.

pub apart : (plain : PlainSession) (rid : ℕ) → settled (advanced (with_ticket plain rid)) ≡ with_ticket (settled (advanced plain)) rid
apart plain rid =
    let tickets : List Issued = plain.tickets ++ record { rid = rid; state = Waits } ∷ [] in
    let same : (settled (advanced plain)).tickets ≡ plain.tickets =
    ap (λ (p : PlainSession). p.tickets) (ap settled (advanced_apart plain.tickets plain) ∙ settled_apart plain.tickets (advanced plain)) in
    ap settled (advanced_apart tickets plain) ∙ settled_apart tickets (advanced plain)
    ∙ ap (λ (ts : List Issued). with_tickets (ts ++ record { rid = rid; state = Waits } ∷ []) (settled (advanced plain))) (sym same)

pub tickets_stay : (plain : PlainSession) → (settled (advanced plain)).tickets ≡ plain.tickets
tickets_stay plain = ap (λ (p : PlainSession). p.tickets) (ap settled (advanced_apart plain.tickets plain) ∙ settled_apart plain.tickets (advanced plain))

-- the copy stands for its id
pub placed_holds : {s : Session} {plain : PlainSession} (copy : RequestCopy) (window : Window RequestCopy) → Holds s plain → IsLater (first_of plain) copy
    → ((w : PlainWindow RequestCopy) → windows.StandsFor s.window w → windows.StandsFor window (record w { placed = w.placed ++ with_id copy ∷ [] }))
    → Holds (record s { window = window; last_arrival = s.moment }) (placed plain copy)
placed_holds {s = s} {plain = plain} copy window h later places = record {
  alike =
      ap (λ (a : Alike). record a { last_arrival = a.now }) h.alike
      ∙ (λ i. record (alike_in plain) { last_arrival = plain.now; last_error = sym (error_placed plain copy) i });
  run = h.run;
  latest = h.latest;
  kept = h.kept;
  inward = h.inward;
  items = h.items;
  streams = h.streams;
  tickets = h.tickets;
  window = record {
    stands = subst (λ (pairs : List (ℕ × RequestCopy)). windows.StandsFor window (record { placed = pairs; next = id_after s.last; width = plain.terms.requests }))
        (sym (map-push with_id (plain.creation ∷ standing plain) copy) ∙ ap (λ (copies : List RequestCopy). map with_id (plain.creation ∷ copies)) (sym (standing_placed plain copy)))
        (places _ h.window.stands);
    ids = subst (All (IsLater (first_of plain))) (sym (standing_placed plain copy)) (All-push (IsLater (first_of plain)) (standing plain) copy h.window.ids later);
  };
}

-- where it was placed, nothing stood, and the window reached it
pub within_reach : (creation : RequestCopy) (standing : List RequestCopy) (last requests rid : ℕ) (extra : Bool) → id_of creation ≤ last → last < rid
    → IsWithin (id_after last) (reach requests extra) rid × (at_id (map with_id (creation ∷ standing)) rid ≡ None)
    → (rid ≤ last + reach requests extra) × (at_id (map with_id standing) rid ≡ None)
within_reach creation standing last requests rid extra first later told =
    let free : at_id (map with_id standing) rid ≡ None = sym (later_at creation standing rid (omega arith)) ∙ told.1 in
    elim (cases_lt last greatest_rid) [
      | inl more ↦ (
          let within : IsWithin (Some (last + 1)) (reach requests extra) rid = subst (λ (o : Option ℕ). IsWithin o (reach requests extra) rid) (after_some last more) told.0 in
          (omega (arith, within.1), free))
      | inr most ↦ absurd (subst (λ (o : Option ℕ). IsWithin o (reach requests extra) rid) (after_none last most) told.0)
    ]

-- where the window didn't reach it, nothing stood either
pub beyond_reach : (creation : RequestCopy) (standing : List RequestCopy) (last requests rid : ℕ) (extra : Bool) → id_of creation ≤ last → last < rid → rid ≤ greatest_rid
    → IsAbove (id_after last) (reach requests extra) rid × (at_id (map with_id (creation ∷ standing)) rid ≡ None)
    → (last + reach requests extra < rid) × (at_id (map with_id standing) rid ≡ None)
beyond_reach creation standing last requests rid extra first later small told =
    let free : at_id (map with_id standing) rid ≡ None = sym (later_at creation standing rid (omega arith)) ∙ told.1 in
    let above : IsAbove (Some (last + 1)) (reach requests extra) rid =
    subst (λ (o : Option ℕ). IsAbove o (reach requests extra) rid) (after_some last (omega arith)) told.0 in
    (omega (arith, above), free)

-- a copy that it didn't reach is above
pub place_above : (plain : PlainSession) (copy : RequestCopy) → answered_of plain ≤ last_of plain → last_of plain < id_of copy → standing_at plain (id_of copy) ≡ None
    → last_of plain + reach plain.terms.requests (is_extra copy) < id_of copy → place_of plain copy ≡ places.Above
place_above plain copy within later free beyond =
    let answered : nat_le (id_of copy) (answered_of plain) ≡ false = grind (arith, nat_tests) in
    let processed : nat_le (id_of copy) (last_of plain) ≡ false = grind (arith, nat_tests) in
    let stands : is_some (standing_at plain (id_of copy)) ≡ false = ap is_some free in
    let above : nat_lt (last_of plain + reach plain.terms.requests (is_extra copy)) (id_of copy) ≡ true = grind (arith, nat_tests) in
    (λ i. if answered i then places.Answered else if processed i || stands i then places.Open else if above i then places.Above else places.New)

-- a window that stands for the same
pub same_place : {s : Session} {plain : PlainSession} (window : Window RequestCopy) → Holds s plain
    → ((w : PlainWindow RequestCopy) → windows.StandsFor s.window w → windows.StandsFor window w) → Holds (record s { window = window }) plain
same_place window h same = record {
  alike = h.alike;
  run = h.run;
  latest = h.latest;
  kept = h.kept;
  inward = h.inward;
  items = h.items;
  streams = h.streams;
  tickets = h.tickets;
  window = record { stands = same _ h.window.stands; ids = h.window.ids };
}

-- a copy that the window took is new
pub place_new : (plain : PlainSession) (copy : RequestCopy) → answered_of plain ≤ last_of plain → last_of plain < id_of copy → standing_at plain (id_of copy) ≡ None
    → id_of copy ≤ last_of plain + reach plain.terms.requests (is_extra copy) → place_of plain copy ≡ places.New
place_new plain copy within later free reached =
    let answered : nat_le (id_of copy) (answered_of plain) ≡ false = grind (arith, nat_tests) in
    let processed : nat_le (id_of copy) (last_of plain) ≡ false = grind (arith, nat_tests) in
    let stands : is_some (standing_at plain (id_of copy)) ≡ false = ap is_some free in
    let above : nat_lt (last_of plain + reach plain.terms.requests (is_extra copy)) (id_of copy) ≡ false = grind (arith, nat_tests) in
    (λ i. if answered i then places.Answered else if processed i || stands i then places.Open else if above i then places.Above else places.New)

-- a copy that the window took is processed with those that it completes
pub arrived_new : (plain : PlainSession) (copy : RequestCopy) → place_of plain copy ≡ places.New
    → arrived_at plain copy (place_of plain copy) ≡ replied (settled (advanced (placed plain copy))) (id_of copy)
arrived_new plain copy is = ap (arrived_at plain copy) is

-- the steps of an arrival in a session that goes on
full_if : (b : Bool) (x y : PlainSession × Arrived) → b ≡ true → (if b then x else y) ≡ x
full_if true x y is = refl
full_if false x y is = absurd (cc)

room_if : (b : Bool) (x y : PlainSession × Arrived) → b ≡ false → (if b then x else y) ≡ y
room_if true x y is = absurd (cc)
room_if false x y is = refl

pub arrive_full : (plain : PlainSession) (request : Request) (body : List ℕ) (now : ℕ) → is_over plain ≡ false → is_full plain (body_cost request body) ≡ true
    → arrive plain request body now ≡ refused UndefinedCondition (JournalFull plain.counted (body_cost request body)) plain
arrive_full plain request body now live full = room_if (is_over plain) _ _ live ∙ full_if (is_full plain (body_cost request body)) _ _ full

pub arrive_room : (plain : PlainSession) (request : Request) (body : List ℕ) (now : ℕ) → is_over plain ≡ false → is_full plain (body_cost request body) ≡ false
    → arrive plain request body now ≡ arrived_in_time (with_cost (body_cost request body) (time_applied plain now)) request body
arrive_room plain request body now live room = room_if (is_over plain) _ _ live ∙ room_if (is_full plain (body_cost request body)) _ _ room

abbrev pub changed : PlainSession → PlainSession × Ticked
changed s = (s, Changed)

both_changed : (b : Bool) (full timed : PlainSession) → (if b then changed full else changed timed) ≡ changed (if b then full else timed)
both_changed true full timed = refl
both_changed false full timed = refl

not_due : (b : Bool) (x y : PlainSession × Ticked) → b ≡ true → (if not b then x else y) ≡ y
not_due true x y is = refl
not_due false x y is = absurd (cc)

-- time does what is due, or the journal has no room for it
pub tick_due : (plain : PlainSession) (now : ℕ) → is_due plain now ≡ true
    → tick plain now ≡ changed (if is_full plain plain_cost then full_with plain_cost plain else with_cost plain_cost (time_applied plain now))
tick_due plain now due =
    not_due (is_due plain now) _ _ due ∙ both_changed (is_full plain plain_cost) (full_with plain_cost plain) (with_cost plain_cost (time_applied plain now))

live_if : (over b : Bool) → (not over && b) ≡ true → over ≡ false
live_if true b is = absurd (cc)
live_if false b is = refl

pub due_live : (plain : PlainSession) (now : ℕ) → is_due plain now ≡ true → is_over plain ≡ false
due_live plain now due = live_if (is_over plain) _ due
