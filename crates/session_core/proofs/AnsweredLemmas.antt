-- A session that answers its oldest held request stands for the plain one that has answered it.
use Rattle.std.proofs.Common.{◌≡◌, ◌≢◌, ℕ, zero, suc, ◌+◌, ◌<◌, ◌≤◌, ◌==◌, ◌||◌, inl, inr, Bool, true, false, cond, List, [], ◌∷◌, ◌++◌, map, length, drop, Option, Some, None, refl, sym, ◌∙◌, ap, subst, arith, add-one, length-drop}
use Rattle.std.specs.Prelude.{◌&&◌, not, slice_get, if◌then◌else◌}
use Rattle.std.specs.List.{list_any}
use Rattle.std.specs.Option.{option_map, option_or}
use Rattle.std.proofs.lemmas.Bool.{cases_lt}
use Rattle.stream_names.specs.PlainStreams.{PlainStreams}
use Rattle.std.proofs.lemmas.Bool.Decides.{nat_tests}
use Rattle.std.proofs.lemmas.List.Sums.{sum_by_push}
use Rattle.bosh_types.specs.ById.{at_id}
use Rattle.bosh_types.specs.declared.ending.Closing.{Closing}
use Rattle.bosh_types.specs.declared.ending.Ending.TheVariants.{Closed}
use Rattle.bosh_types.specs.declared.kept.KeptAnswer.{KeptAnswer}
use Rattle.bosh_types.proofs.ById.{at_id-push_same, at_id-push_other}
use Rattle.body_writer.specs.Answer.{answer_text}
use Rattle.ack_report.specs.Reporting.{Reporting}
use Rattle.reply_keep.specs.declared.keep.Keep.{Keep}
use Rattle.reply_keep.specs.PlainKeep.{PlainKeep, IsNextId, after_put, last_after, last_id}
use Rattle.reply_keep.specs.StandsFor as keeps
use Rattle.session_core.specs.declared.held.HeldRequest.{HeldRequest}
use Rattle.session_core.specs.declared.outward.Outward.{Outward}
use Rattle.session_core.specs.declared.session.Session.{Session}
use Rattle.session_core.specs.Answers.{answer_parts, closed_by, front_for, front_of, has_reason, has_reason_for, with_answer}
use Rattle.session_core.specs.Copy.{id_of, is_prompt}
use Rattle.session_core.specs.Endings.{ended}
use Rattle.session_core.specs.Kept.{kept_answer, keep_of}
use Rattle.session_core.specs.Machine.{bytes_for}
use Rattle.session_core.specs.declared.outward.Outward.TheVariants.{Stanza, Close}
use Rattle.session_core.specs.Outward.{Front, OfStanzas, OfClosing, is_close_of, items_in, stanzas_in}
use Rattle.session_core.specs.Queue.{Queue}
use Rattle.session_core.specs.Rules.{is_bare}
use Rattle.session_core.specs.StandsFor.{Alike, AreFrom, Holds, HoldsRun, HoldsLast, HoldsItems, HoldsStreams, held_of}
use Rattle.session_core.specs.State.{PlainSession, Answered, answers, answered_of, first_of, held, is_over, last_from, last_of, opened_in, running, taken_by_answers, waiting}
use Rattle.session_core.specs.Processed.{Processed}
use Rattle.session_core.specs.Steps.{Telling, after_front, answer_by, ending_closing}
use Rattle.session_core.specs.Tickets.{Book, give_answer}
use Rattle.session_core.proofs.AreOut.{answered_out}
use Rattle.session_core.proofs.EndedLemmas.{live_none, words_live}
use Rattle.session_core.proofs.Fronts.{front_within}
use Rattle.session_core.proofs.StreamLemmas.{shut_streams, taken_streams}
use Rattle.session_core.proofs.RunningLemmas.{last_from-push, AreFrom-push, length-push, map-push}

module _ {X : Type 0} where
  -- what stands at a place of ids that follow one another
  pub id_after_drop : (id : X → ℕ) (rid n : ℕ) (xs : List X) (x : X) (rest : List X) → AreFrom id rid xs → drop n xs ≡ x ∷ rest → id x ≡ rid + n
  id_after_drop id rid zero [] x rest are is = absurd (cc)
  id_after_drop id rid zero (y ∷ ys) x rest are is =
      let same : y ≡ x = cc in
      ap id (sym same) ∙ are.0 ∙ omega arith
  id_after_drop id rid (suc n) [] x rest are is = absurd (cc)
  id_after_drop id rid (suc n) (y ∷ ys) x rest are is = omega (arith, id_after_drop id (rid + 1) n ys x rest are.1 is, add-one n)

  pub drop_more : (n : ℕ) (xs : List X) (x : X) (rest : List X) → drop n xs ≡ x ∷ rest → drop (n + 1) xs ≡ rest
  drop_more zero [] x rest is = absurd (cc)
  drop_more zero (y ∷ ys) x rest is = cc
  drop_more (suc n) [] x rest is = absurd (cc)
  drop_more (suc n) (y ∷ ys) x rest is =
      let more : suc n + 1 ≡ suc (n + 1) = omega arith in
      ap (λ (m : ℕ). drop m (y ∷ ys)) more ∙ drop_more n ys x rest is

  pub drop_some : (n : ℕ) (xs : List X) (x : X) (rest : List X) → drop n xs ≡ x ∷ rest → n < length xs
  drop_some zero [] x rest is = absurd (cc)
  drop_some zero (y ∷ ys) x rest is = omega arith
  drop_some (suc n) [] x rest is = absurd (cc)
  drop_some (suc n) (y ∷ ys) x rest is = omega (arith, drop_some n ys x rest is)

  drop_none : (n : ℕ) → drop {A = X} n [] ≡ []
  drop_none zero = refl
  drop_none (suc n) = refl

  pub drop_drop : (n m : ℕ) (xs : List X) → drop m (drop n xs) ≡ drop (n + m) xs
  drop_drop zero m xs =
      let same : m ≡ 0 + m = omega arith in
      ap (λ (k : ℕ). drop k xs) same
  drop_drop (suc n) m [] = drop_none m ∙ sym (drop_none (suc n + m))
  drop_drop (suc n) m (x ∷ xs) =
      let more : suc (n + m) ≡ suc n + m = omega arith in
      drop_drop n m xs ∙ ap (λ (k : ℕ). drop k (x ∷ xs)) more

-- the answers so far are for the ids up to this one
last_pair : (rid : ℕ) (answers : List Answered) (first : ℕ) → AreFrom (λ answer. answer.rid) (rid + 1) answers → last_after rid (map kept_answer answers) ≡ rid + length answers
last_pair rid [] first are = omega arith
last_pair rid (answer ∷ answers) first are =
    let here : answer.rid ≡ rid + 1 = are.0 in
    let rest : AreFrom (λ answer. answer.rid) (answer.rid + 1) answers = subst (λ (n : ℕ). AreFrom (λ (a : Answered). a.rid) (n + 1) answers) (sym here) are.1 in
    omega (arith, last_pair answer.rid answers first rest, here, add-one (length answers))

pub answers_end : (first : ℕ) (created : Answered) (answers : List Answered) → AreFrom (λ answer. answer.rid) first (created ∷ answers) → last_id (map kept_answer (created ∷ answers)) ≡ first + length answers
answers_end first created answers are =
    let rest : AreFrom (λ answer. answer.rid) (created.rid + 1) answers = subst (λ (n : ℕ). AreFrom (λ (a : Answered). a.rid) (n + 1) answers) (sym are.0) are.1 in
    omega (arith, last_pair created.rid answers first rest, are.0)

-- nothing was answered beyond
pub none_answered : (first rid : ℕ) (answers : List Answered) → AreFrom (λ answer. answer.rid) first answers → first + length answers ≤ rid → at_id (map kept_answer answers) rid ≡ None
none_answered first rid [] are beyond = refl
none_answered first rid (answer ∷ answers) are beyond =
    let apart : answer.rid ≢ rid = λ same. absurd (omega (arith, are.0, same)) in
    passed_by answer.rid rid (kept_answer answer).1 (at_id (map kept_answer answers) rid) apart
    ∙ none_answered (first + 1) rid answers are.1 (omega (arith, add-one (length answers)))
  where
    passed_by : (a b : ℕ) (x : KeptAnswer) (rest : Option KeptAnswer) → a ≢ b → cond (a == b) (Some x) rest ≡ rest
    passed_by a b x rest apart = grind (arith, nat_tests)

-- what an answer that takes this is made of
abbrev pub telling_in : PlainSession → Front → Telling
telling_in plain front = record {
  streams = after_front (record { opened = opened_in plain.processed; running = running plain }) front;
  last = last_of plain;
  due = plain.reporting.due;
  now = plain.now;
}

-- the parts of an answer, by what the session keeps
pub parts_by : (plain : PlainSession) (one : Processed) (front : Front) → answer_parts plain one front ≡ answer_by (telling_in plain front) (held_of one) front
parts_by plain one (OfStanzas items) = refl
parts_by plain one (OfClosing stream closing) = refl

-- a closing that an answer takes is one that waits
front_closing : (prompt : Bool) (items : List Outward) (stream : ℕ) (closing : Closing) → (if prompt then OfStanzas [] else front_of items) ≡ OfClosing stream closing → list_any (is_close_of stream) items ≡ true
front_closing true items stream closing is = absurd (cc)
front_closing false [] stream closing is = absurd (cc)
front_closing false (Stanza other bytes ∷ items) stream closing is = absurd (cc)
front_closing false (Close other c ∷ items) stream closing is =
    let same : other ≡ stream = cc in
    let yes : (other == stream) ≡ true = grind (arith, nat_tests, same) in
    ap (λ (b : Bool). b || list_any (is_close_of stream) items) yes

any_drop : {X : Type 0} (p : X → Bool) (n : ℕ) (xs : List X) → list_any p (drop n xs) ≡ true → list_any p xs ≡ true
any_drop p zero xs is = is
any_drop p (suc n) [] is = is
any_drop p (suc n) (x ∷ xs) is = ap (λ (b : Bool). p x || b) (any_drop p n xs is) ∙ or_true (p x)
  where
    or_true : (b : Bool) → (b || true) ≡ true
    or_true true = refl
    or_true false = refl

-- the answer as the plain session has it
abbrev pub answer_of : PlainSession → Processed → Answered
answer_of plain one = record {
  rid = id_of one.copy;
  bytes = answer_text (answer_parts plain one (front_for plain one));
  moment = plain.now;
  front = front_for plain one;
}

answered_bytes : (o : Option KeptAnswer) (bytes : List ℕ) (given payloads : ℕ) (e : Option (List ℕ))
    → o ≡ Some (record { bytes = bytes; given = given; payloads = payloads }) → option_or (option_map (λ answer. answer.bytes) o) e ≡ Some bytes
answered_bytes o bytes given payloads e is = ap (λ (p : Option KeptAnswer). option_or (option_map (λ answer. answer.bytes) p) e) is

module _ {s : Session} {plain : PlainSession} (one : Processed) (later : List Processed) (h : Holds s plain) (oldest : held plain ≡ one ∷ later) where
  -- its id is the one after those that were answered
  pub oldest_id : id_of one.copy ≡ answered_of plain + 1
  oldest_id =
      let at = id_after_drop (λ p. id_of p.copy) (first_of plain + 1) (length plain.answered) plain.processed one later h.run.ids oldest in
      omega (arith, at)

  pub answered_run : HoldsRun s.last (id_of one.copy) (drop 1 s.held) plain.creation plain.processed (plain.answered ++ answer_of plain one ∷ [])
  answered_run =
      let more : length (plain.answered ++ answer_of plain one ∷ []) ≡ length plain.answered + 1 = length-push plain.answered (answer_of plain one) in
      let left : drop (length plain.answered + 1) plain.processed ≡ later = drop_more (length plain.answered) plain.processed one later oldest in
      record {
        last_is = h.run.last_is;
        answered_is = omega (arith, oldest_id, more);
        within = omega (arith, drop_some (length plain.answered) plain.processed one later oldest, more);
        held_is =
            ap (drop 1) (h.run.held_is ∙ ap (map held_of) oldest)
            ∙ ap (map held_of) (sym left ∙ ap (λ (n : ℕ). drop n plain.processed) (sym more));
        ids = h.run.ids;
      }

  pub answered_latest : (bare : Bool) → bare ≡ is_bare (answer_of plain one)
      → HoldsLast s.latest s.moment bare plain.creation plain.processed plain.created (plain.answered ++ answer_of plain one ∷ [])
  answered_latest bare is =
      let last : last_from plain.created (plain.answered ++ answer_of plain one ∷ []) ≡ answer_of plain one =
      last_from-push plain.created plain.answered (answer_of plain one) in
      record {
        latest_is = h.latest.latest_is;
        given_is = ap (λ (a : Alike). a.now) h.alike ∙ ap (λ (answer : Answered). answer.moment) (sym last);
        bare_is = is ∙ ap is_bare (sym last);
      }

  pub answered_items : HoldsItems (record s.outbox { items = drop (length (items_in (front_for plain one))) s.outbox.items }) plain.given (plain.created ∷ plain.answered ++ answer_of plain one ∷ [])
  answered_items =
      let taken : taken_by_answers (plain.created ∷ plain.answered ++ answer_of plain one ∷ []) ≡ taken_by_answers (plain.created ∷ plain.answered) + length (items_in (front_for plain one)) =
      sum_by_push (λ answer. length (items_in answer.front)) (plain.created ∷ plain.answered) (answer_of plain one) in
      let within : length (items_in (front_for plain one)) ≤ length (waiting plain) = front_fits (is_prompt one.copy) (waiting plain) in
      record {
        outbox_is =
            ap (drop (length (items_in (front_for plain one)))) h.items.outbox_is
            ∙ drop_drop (taken_by_answers (plain.created ∷ plain.answered)) (length (items_in (front_for plain one))) plain.given
            ∙ ap (λ (n : ℕ). drop n plain.given) (sym taken);
        within = omega (arith, taken, within, h.items.within, length-drop (taken_by_answers (plain.created ∷ plain.answered)) plain.given);
        closed_is = h.items.closed_is;
      }
    where
      front_fits : (pause : Bool) (items : List Outward) → length (items_in (if pause then OfStanzas [] else front_of items)) ≤ length items
      front_fits true items = omega arith
      front_fits false items = front_within items

  -- a closing that it takes is of a stream that was opened
  closing_opened : (stream : ℕ) (closing : Closing) → front_for plain one ≡ OfClosing stream closing → stream < opened_in plain.processed
  closing_opened stream closing is = elim (cases_lt stream (opened_in plain.processed)) [
    | inl less ↦ less
    | inr above ↦
        absurd (let waits : list_any (is_close_of stream) plain.given ≡ true =
        any_drop (is_close_of stream) (taken_by_answers (answers plain)) plain.given (front_closing (is_prompt one.copy) (waiting plain) stream closing is) in
        let none : list_any (is_close_of stream) plain.given ≡ false = (h.streams.later stream above).2 in cc)
  ]

  pub answered_streams : HoldsStreams (after_front s.streams (front_for plain one)) plain.processed (plain.answered ++ answer_of plain one ∷ []) plain.given
  answered_streams = by (front_for plain one) refl
    where
      by : (front : Front) → front_for plain one ≡ front → HoldsStreams (after_front s.streams front) plain.processed (plain.answered ++ answer_of plain one ∷ []) plain.given
      by (OfStanzas items) is = taken_streams h.streams (answer_of plain one) items is
      by (OfClosing stream closing) is = shut_streams h.streams (answer_of plain one) stream closing is (closing_opened stream closing is)

  next_pair : IsNextId (map kept_answer (answers plain)) (id_of one.copy)
  next_pair = oldest_id ∙ ap (λ (n : ℕ). n + 1) (sym (answers_end (first_of plain) plain.created plain.answered h.kept.ids))

  -- what ids are given, once this one was answered
  words_here : plain.ending ≡ None → bytes_for (with_answer plain one (front_for plain one)) (id_of one.copy) ≡ Some (answer_of plain one).bytes
  words_here live =
      let none : at_id (map kept_answer (answers plain)) (id_of one.copy) ≡ None =
      none_answered (first_of plain) (id_of one.copy) (answers plain) h.kept.ids (omega (arith, oldest_id, add-one (length plain.answered))) in
      let pushed : map kept_answer (answers plain ++ answer_of plain one ∷ []) ≡ map kept_answer (answers plain) ++ kept_answer (answer_of plain one) ∷ [] =
      map-push kept_answer (answers plain) (answer_of plain one) in
      answered_bytes (at_id (map kept_answer (answers plain ++ answer_of plain one ∷ [])) (id_of one.copy)) (answer_of plain one).bytes plain.now _ _
      (ap (λ (pairs : List (ℕ × KeptAnswer)). at_id pairs (id_of one.copy)) pushed ∙ at_id-push_same (map kept_answer (answers plain)) (id_of one.copy) (kept_answer (answer_of plain one)).1 none)

  words_elsewhere : plain.ending ≡ None → (other : ℕ) → other ≢ id_of one.copy → bytes_for (with_answer plain one (front_for plain one)) other ≡ bytes_for plain other
  words_elsewhere live other apart =
      let pushed : map kept_answer (answers plain ++ answer_of plain one ∷ []) ≡ map kept_answer (answers plain) ++ kept_answer (answer_of plain one) ∷ [] =
      map-push kept_answer (answers plain) (answer_of plain one) in
      words_live (with_answer plain one (front_for plain one)) other live
      ∙ ap (λ (pairs : List (ℕ × KeptAnswer)). option_map (λ answer. answer.bytes) (at_id pairs other)) pushed
      ∙ ap (λ (o : Option KeptAnswer). option_map (λ answer. answer.bytes) o) (at_id-push_other (map kept_answer (answers plain)) (id_of one.copy) other (kept_answer (answer_of plain one)).1 apart)
      ∙ sym (words_live plain other live)

  pub answered_holds : (bare : Bool) (book : Book) (keep : Keep) (bytes : List ℕ) → is_over plain ≡ false
      → bytes ≡ answer_text (answer_by (record { streams = after_front s.streams (front_for plain one); last = s.last; due = s.acks.due; now = s.moment }) (held_of one) (front_for plain one))
      → bare ≡ is_bare (answer_of plain one)
      → book ≡ record s.tickets { out = map (give_answer (id_of one.copy) bytes) s.tickets.out }
      → ((k : PlainKeep) → keeps.StandsFor s.keep k → IsNextId k.put (id_of one.copy)
      → keeps.StandsFor keep (after_put k (id_of one.copy) (record { bytes = bytes; given = s.moment; payloads = length (stanzas_in (items_in (front_for plain one))) })))
      → Holds (record s {
        acks = record s.acks { due = None };
        keep = keep;
        answered = id_of one.copy;
        held = drop 1 s.held;
        last_given = s.moment;
        last_bare = bare;
        outbox = record s.outbox { items = drop (length (items_in (front_for plain one))) s.outbox.items };
        streams = after_front s.streams (front_for plain one);
        tickets = book;
      }) (with_answer plain one (front_for plain one))
  answered_holds bare book keep bytes live written bare_is is puts =
      let due : s.acks.due ≡ plain.reporting.due = ap (λ (a : Alike). a.reporting.due) h.alike in
      let now : s.moment ≡ plain.now = ap (λ (a : Alike). a.now) h.alike in
      let own : bytes ≡ (answer_of plain one).bytes =
      written
      ∙ (λ i. answer_text (answer_by (record { streams = after_front (record { opened = h.streams.opened_is i; running = h.streams.running_is i }) (front_for plain one); last = h.run.last_is i; due = due i; now = now i }) (held_of one) (front_for plain one)))
      ∙ ap answer_text (sym (parts_by plain one (front_for plain one))) in
      record {
        alike = ap (λ (a : Alike). record a { reporting = record a.reporting { due = None } }) h.alike;
        run = answered_run;
        latest = answered_latest bare bare_is;
        kept = record {
          keeps = subst (λ (k : PlainKeep). keeps.StandsFor keep k)
              (λ i. record (keep_of plain) {
                put = (ap (λ (b : List ℕ × ℕ). map kept_answer (answers plain) ++ (id_of one.copy, record { bytes = b.0; given = b.1; payloads = length (stanzas_in (items_in (front_for plain one))) }) ∷ []) (λ j. (own j, now j))
                    ∙ sym (map-push kept_answer (answers plain) (answer_of plain one))) i;
              })
              (puts (keep_of plain) h.kept.keeps next_pair);
          acked = h.kept.acked;
          ids = AreFrom-push (λ answer. answer.rid) (first_of plain) (answers plain) (answer_of plain one) h.kept.ids (omega (arith, oldest_id, add-one (length plain.answered)));
        };
        inward = h.inward;
        items = answered_items;
        streams = answered_streams;
        tickets = rw (is, own) (answered_out (bytes_for plain) (bytes_for (with_answer plain one (front_for plain one))) s.tickets plain.tickets (id_of one.copy) (answer_of plain one).bytes
            (words_here (live_none plain live)) (words_elsewhere (live_none plain live)) h.tickets);
        window = h.window;
      }

-- the same, by what the code's calls say
pub answered_by : {s : Session} {plain : PlainSession} {text : List ℕ} {request : HeldRequest} {payloads : ℕ} {taken : Front} {streams : PlainStreams} {outbox : Queue} {acks : Reporting} {held : List HeldRequest} {book : Book} {keep : Keep}
    (one : Processed) (later : List Processed) → Holds s plain → drop (length plain.answered) plain.processed ≡ one ∷ later → is_over plain ≡ false → request ≡ held_of one
    → taken ≡ front_for plain one
    → streams ≡ after_front s.streams taken
    → text ≡ answer_text (answer_by (record { streams = streams; last = s.last; due = s.acks.due; now = s.moment }) request taken)
    → payloads ≡ length (stanzas_in (items_in taken))
    → outbox ≡ record s.outbox { items = drop (length (items_in taken)) s.outbox.items }
    → acks ≡ record s.acks { due = None }
    → held ≡ drop 1 s.held
    → book ≡ record s.tickets { out = map (give_answer request.rid text) s.tickets.out }
    → ((k : PlainKeep) → keeps.StandsFor s.keep k → IsNextId k.put request.rid → keeps.StandsFor keep (after_put k request.rid (record { bytes = text; given = s.moment; payloads = payloads })))
    → Holds (record s {
      acks = acks;
      keep = keep;
      answered = request.rid;
      held = held;
      last_given = s.moment;
      last_bare = payloads == 0;
      streams = streams;
      outbox = outbox;
      tickets = book;
    }) (with_answer plain one (front_for plain one))
answered_by {s = s} {plain = plain} {text = text} {request = request} {payloads = payloads} {taken = taken} {book = book} {keep = keep} one later h oldest live id front shut written count out ak hd bk puts =
    let count_here : payloads ≡ length (stanzas_in (items_in (front_for plain one))) = count ∙ ap (λ (f : Front). length (stanzas_in (items_in f))) front in
    rw (shut, out, ak, hd, id, front)
    (answered_holds one later h oldest (payloads == 0) book keep text live
    (written ∙ (λ i. answer_text (answer_by (record { streams = (shut ∙ ap (after_front s.streams) front) i; last = s.last; due = s.acks.due; now = s.moment }) (id i) (front i))))
    (ap (λ (n : ℕ). n == 0) count_here)
    (bk ∙ (λ i. record s.tickets { out = map (give_answer (id i).rid text) s.tickets.out }))
    (λ k stands next. subst (λ (n : ℕ). keeps.StandsFor keep (after_put k (id_of one.copy) (record { bytes = text; given = s.moment; payloads = n }))) count_here
    (subst (λ (r : HeldRequest). keeps.StandsFor keep (after_put k r.rid (record { bytes = text; given = s.moment; payloads = payloads }))) id
    (puts k stands (subst (λ (r : HeldRequest). IsNextId k.put r.rid) (sym id) next)))))

not_over : (over b : Bool) → (not over && b) ≡ true → over ≡ false
not_over true b is = absurd (cc)
not_over false b is = refl

reason_some : (plain : PlainSession) (copies : List Processed) → has_reason_for plain copies ≡ true → (one : Processed) × (later : List Processed) × (copies ≡ one ∷ later) × (is_over plain ≡ false)
reason_some plain [] reason = absurd (cc)
reason_some plain (one ∷ later) reason = (one, later, refl, not_over (is_over plain) _ reason)

-- where a request has a reason to be answered, one is held, and the session goes on
pub held_some : {s : Session} {plain : PlainSession} → Holds s plain → has_reason plain ≡ true
    → (one : Processed) × (later : List Processed) × (held plain ≡ one ∷ later) × (is_over plain ≡ false) × (slice_get s.held 0 ≡ Some (held_of one))
held_some {s = s} {plain = plain} h reason =
    let some = reason_some plain (held plain) reason in
    (some.0, some.1, some.2, some.3, ap (λ (requests : List HeldRequest). slice_get requests 0) (h.run.held_is ∙ ap (map held_of) some.2))

stays : (b : Bool) (x y : PlainSession) (closing : Closing) → None ≡ (if b then Some closing else None) → (if b then x else y) ≡ y
stays true x y closing none = absurd (cc)
stays false x y closing none = refl

goes : (b : Bool) (x : Closing → PlainSession) (y : PlainSession) (closing other : Closing) → Some closing ≡ (if b then Some other else None) → (if b then x other else y) ≡ x closing
goes true x y closing other some =
    let same : other ≡ closing = cc in
    ap x same
goes false x y closing other some = absurd (cc)

pub closed_none : (rid : ℕ) (front : Front) (s : PlainSession) → None ≡ ending_closing (running s) front → closed_by rid front s ≡ s
closed_none rid (OfStanzas items) s none = refl
closed_none rid (OfClosing stream closing) s none = stays (length (running s) == 0) (ended (Closed closing rid) s) s closing none

pub closed_some : (rid : ℕ) (front : Front) (s : PlainSession) (closing : Closing) → Some closing ≡ ending_closing (running s) front → closed_by rid front s ≡ ended (Closed closing rid) s
closed_some rid (OfStanzas items) s closing some = absurd (cc)
closed_some rid (OfClosing stream other) s closing some = goes (length (running s) == 0) (λ (c : Closing). ended (Closed c rid) s) s closing other some

pub some_same : {T : Type 0} {x y : T} → Some x ≡ Some y → x ≡ y
some_same same = cc
