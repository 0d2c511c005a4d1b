-- A session to which its server gave something stands for the plain one that was given it.
use Rattle.std.proofs.Common.{◌≡◌, ℕ, ◌<◌, inl, inr, ◌&&◌, ◌||◌, Bool, true, false, not, List, [], ◌∷◌, ◌++◌, length, refl, sym, ◌∙◌, ap, subst, arith, length-append}
use Rattle.std.specs.Prelude.{IfOk, Result, is_some, if◌then◌else◌}
use Rattle.std.specs.List.{list_any}
use Rattle.bosh_types.specs.declared.ending.Closing.{Closing}
use Rattle.session_core.specs.declared.outward.Outward.{Outward}
use Rattle.session_core.specs.declared.outward.Outward.TheVariants.{Stanza, Close}
use Rattle.session_core.specs.declared.replies.Taken.{Taken}
use Rattle.session_core.specs.declared.replies.Taken.TheVariants as takings
use Rattle.session_core.specs.declared.session.Session.{Session}
use Rattle.std.proofs.lemmas.Bool.{cases_lt}
use Rattle.bosh_types.specs.Limits.{most_streams}
use Rattle.stream_names.specs.Streams.{is_among, those, with_stream}
use Rattle.stream_names.proofs.Numbers.{among, those_same, with_is}
use Rattle.session_core.specs.Machine.{back, back_closed, back_in_time, closed_in_time, full_with, has_room, is_full, plain_cost, stanza_cost, takes_items, with_cost, with_item}
use Rattle.session_core.specs.Outward.{is_close_of}
use Rattle.session_core.specs.Queue.{Queue, has_room_for}
use Rattle.session_core.specs.StandsFor.{Holds, HoldsStreams}
use Rattle.session_core.specs.State.{PlainSession, answers, is_over, opened_in, running, taken_by_answers}
use Rattle.session_core.specs.Steps.{Does}
use Rattle.session_core.specs.Time.{time_applied}
use Rattle.session_core.proofs.RunningLemmas.{drop-append_within}
use Rattle.session_core.proofs.StandingLemmas.{over_is}
use Rattle.session_core.proofs.StreamLemmas.{any_push, any_same, closing_streams, not_running, stanza_streams, turned}

-- Which way a call goes.

module _ (plain : PlainSession) (stream : ℕ) (stanza : List ℕ) where
  pub back_over : takes_items plain stream ≡ false → back_in_time plain stream stanza ≡ (plain, takings.Over)
  back_over refused =
      ap (λ (b : Bool). if not b then (plain, takings.Over) else if has_room plain stanza then with_item plain (Stanza stream stanza) else (plain, takings.Full)) refused

  pub back_full : takes_items plain stream ≡ true → has_room plain stanza ≡ false → back_in_time plain stream stanza ≡ (plain, takings.Full)
  back_full taken full =
      ap (λ (b : Bool). if not b then (plain, takings.Over) else if has_room plain stanza then with_item plain (Stanza stream stanza) else (plain, takings.Full)) taken
      ∙ ap (λ (b : Bool). if b then with_item plain (Stanza stream stanza) else (plain, takings.Full)) full

  pub back_done : takes_items plain stream ≡ true → has_room plain stanza ≡ true → back_in_time plain stream stanza ≡ with_item plain (Stanza stream stanza)
  back_done taken roomy =
      ap (λ (b : Bool). if not b then (plain, takings.Over) else if has_room plain stanza then with_item plain (Stanza stream stanza) else (plain, takings.Full)) taken
      ∙ ap (λ (b : Bool). if b then with_item plain (Stanza stream stanza) else (plain, takings.Full)) roomy

  -- in a session that goes on, by the cost of its entry
  abbrev live_back : ℕ → ℕ → PlainSession × Taken
  live_back now cost =
      if is_full plain cost then (full_with cost plain, takings.Over) else back_in_time (with_cost cost (time_applied plain now)) stream stanza

  pub late_back : (now : ℕ) → is_over plain ≡ true → back plain stream stanza now ≡ (plain, takings.Over)
  late_back now over = ap (λ (b : Bool). if b then (plain, takings.Over) else live_back now (stanza_cost stanza)) over

  pub full_back : (now cost : ℕ) → cost ≡ stanza_cost stanza → is_over plain ≡ false → is_full plain cost ≡ true
      → back plain stream stanza now ≡ (full_with cost plain, takings.Over)
  full_back now cost is live full =
      ap (λ (b : Bool). if b then (plain, takings.Over) else live_back now (stanza_cost stanza)) live
      ∙ ap (live_back now) (sym is)
      ∙ ap (λ (b : Bool). if b then (full_with cost plain, takings.Over) else back_in_time (with_cost cost (time_applied plain now)) stream stanza) full

  pub back_on : (now cost : ℕ) → cost ≡ stanza_cost stanza → is_over plain ≡ false → is_full plain cost ≡ false
      → back plain stream stanza now ≡ back_in_time (with_cost cost (time_applied plain now)) stream stanza
  back_on now cost is live room =
      ap (λ (b : Bool). if b then (plain, takings.Over) else live_back now (stanza_cost stanza)) live
      ∙ ap (live_back now) (sym is)
      ∙ ap (λ (b : Bool). if b then (full_with cost plain, takings.Over) else back_in_time (with_cost cost (time_applied plain now)) stream stanza) room

module _ (plain : PlainSession) (stream : ℕ) (closing : Closing) where
  pub closed_over : takes_items plain stream ≡ false → closed_in_time plain stream closing ≡ (plain, takings.Over)
  closed_over refused = ap (λ (b : Bool). if b then with_item plain (Close stream closing) else (plain, takings.Over)) refused

  pub closed_done : takes_items plain stream ≡ true → closed_in_time plain stream closing ≡ with_item plain (Close stream closing)
  closed_done taken = ap (λ (b : Bool). if b then with_item plain (Close stream closing) else (plain, takings.Over)) taken

  abbrev live_closed : ℕ → PlainSession × Taken
  live_closed now =
      if is_full plain plain_cost then (full_with plain_cost plain, takings.Over) else closed_in_time (with_cost plain_cost (time_applied plain now)) stream closing

  pub late_closed : (now : ℕ) → is_over plain ≡ true → back_closed plain stream closing now ≡ (plain, takings.Over)
  late_closed now over = ap (λ (b : Bool). if b then (plain, takings.Over) else live_closed now) over

  pub full_closed : (now : ℕ) → is_over plain ≡ false → is_full plain plain_cost ≡ true → back_closed plain stream closing now ≡ (full_with plain_cost plain, takings.Over)
  full_closed now live full =
      ap (λ (b : Bool). if b then (plain, takings.Over) else live_closed now) live
      ∙ ap (λ (b : Bool). if b then (full_with plain_cost plain, takings.Over) else closed_in_time (with_cost plain_cost (time_applied plain now)) stream closing) full

  pub closed_on : (now : ℕ) → is_over plain ≡ false → is_full plain plain_cost ≡ false
      → back_closed plain stream closing now ≡ closed_in_time (with_cost plain_cost (time_applied plain now)) stream closing
  closed_on now live room =
      ap (λ (b : Bool). if b then (plain, takings.Over) else live_closed now) live
      ∙ ap (λ (b : Bool). if b then (full_with plain_cost plain, takings.Over) else closed_in_time (with_cost plain_cost (time_applied plain now)) stream closing) room

-- what a call did is what an equal step does
pub does_same : {X : Type 0} {s : Session} {reply : X} {step same : PlainSession × X} → step ≡ same → Does s reply same → Does s reply step
does_same {s = s} {reply = reply} is does = subst (λ t. Does s reply t) (sym is) does

pub did_same : {X E : Type 0} (s : Session) (result : Result X E) {step same : PlainSession × X} → step ≡ same
    → IfOk result (λ reply. Does s reply same) → IfOk result (λ reply. Does s reply step)
did_same s result is did = subst (λ t. IfOk result (λ reply. Does s reply t)) (sym is) did

middle : (a b c : Bool) → ((a && b) && c) ≡ true → b ≡ true
middle true true c is = refl
middle true false c is = absurd (cc)
middle false b c is = absurd (cc)

-- a stream on which items are taken was opened
pub taken_open : (plain : PlainSession) (stream : ℕ) → takes_items plain stream ≡ true → stream < opened_in plain.processed
taken_open plain stream takes = elim (cases_lt stream (opened_in plain.processed)) [
  | inl less ↦ less
  | inr above ↦
      absurd (let open_now : is_among (running plain) stream ≡ true = middle (not (is_over plain)) (is_among (running plain) stream) (not (list_any (is_close_of stream) plain.given)) takes in
      let none = not_running plain.processed plain.answered stream above in cc)
]

module _ {s : Session} {plain : PlainSession} where
  pub takes_is : Holds s plain → (stream : ℕ) → stream < most_streams
      → ((not (is_some s.ending) && is_among s.streams.running stream) && not (is_among s.outbox.closed stream)) ≡ takes_items plain stream
  takes_is h stream small =
      let closed : is_among s.outbox.closed stream ≡ list_any (is_close_of stream) plain.given =
      ap (λ (xs : List ℕ). is_among xs stream) h.items.closed_is ∙ among (λ m. list_any (is_close_of m) plain.given) stream small in
      (λ i. (not (over_is h i) && is_among (h.streams.running_is i) stream) && not (closed i))

  pub room_is : Holds s plain → (stanza : List ℕ) → has_room_for s.outbox.items (length stanza) ≡ has_room plain stanza
  room_is h stanza = ap (λ (items : List Outward). has_room_for items (length stanza)) h.items.outbox_is

  -- one more item waits
  given_holds : (item : Outward) (closed : List ℕ) → Holds s plain → closed ≡ those (λ stream. list_any (is_close_of stream) (plain.given ++ item ∷ []))
      → HoldsStreams s.streams plain.processed plain.answered (plain.given ++ item ∷ [])
      → Holds (record s { outbox = record { items = s.outbox.items ++ item ∷ []; closed = closed } }) (record plain { given = plain.given ++ item ∷ [] })
  given_holds item closed h is streams = record {
    alike = h.alike;
    run = h.run;
    latest = h.latest;
    kept = h.kept;
    inward = h.inward;
    items = record {
      outbox_is =
          ap (λ (items : List Outward). items ++ item ∷ []) h.items.outbox_is
          ∙ sym (drop-append_within (taken_by_answers (answers plain)) plain.given (item ∷ []) h.items.within);
      within = omega (arith, h.items.within, length-append plain.given (item ∷ []));
      closed_is = is;
    };
    streams = streams;
    tickets = h.tickets;
    window = h.window;
  }

  pub stanza_given : {outbox : Queue} {bytes : List ℕ} (stream : ℕ) (stanza : List ℕ) → Holds s plain → bytes ≡ stanza
      → outbox ≡ record s.outbox { items = s.outbox.items ++ Stanza stream bytes ∷ [] }
      → Holds (record s { outbox = outbox }) (record plain { given = plain.given ++ Stanza stream stanza ∷ [] })
  stanza_given stream stanza h same is =
      rw (is, same)
      (given_holds (Stanza stream stanza) s.outbox.closed h
      (h.items.closed_is ∙ those_same _ _ (λ m small. sym (any_same (is_close_of m) plain.given (Stanza stream stanza) refl)))
      (stanza_streams h.streams stream stanza))

  pub closing_given : {outbox : Queue} (stream : ℕ) (closing : Closing) → Holds s plain → takes_items plain stream ≡ true
      → outbox ≡ record { items = s.outbox.items ++ Close stream closing ∷ []; closed = with_stream s.outbox.closed stream }
      → Holds (record s { outbox = outbox }) (record plain { given = plain.given ++ Close stream closing ∷ [] })
  closing_given stream closing h takes is =
      rw is
      (given_holds (Close stream closing) (with_stream s.outbox.closed stream) h
      (ap (λ (xs : List ℕ). with_stream xs stream) h.items.closed_is ∙ with_is (λ m. list_any (is_close_of m) plain.given) stream
      ∙ those_same _ _ (λ m small. ap (λ (b : Bool). list_any (is_close_of m) plain.given || b) (turned m stream) ∙ sym (any_push (is_close_of m) plain.given (Close stream closing))))
      (closing_streams h.streams stream closing (taken_open plain stream takes)))
