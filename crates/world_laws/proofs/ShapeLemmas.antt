-- Of what each answer after the creation's was written: it has the type `terminate` where it took a closing, and otherwise carries what it took,
-- all of it from the stream that it says.
use Rattle.std.proofs.Common.{◌∙◌, ◌≡◌, ℕ, ◌+◌, ◌-◌, ◌<◌, ◌≤◌, ◌==◌, Bool, true, false, not, ◌&&◌, ◌||◌, List, [], ◌∷◌, ◌++◌, length, map, refl, sym, ap, subst, arith, length-append}
use Rattle.std.specs.List.{list_all, list_any}
use Rattle.std.specs.Prelude.{None, Some, Option, IfSome, All, nat_le, nat_lt, if◌then◌else◌}
use Rattle.std.specs.Option.{option_map, option_or, unwrap_or}
use Rattle.std.proofs.lemmas.Bool.{eqb-true, ltb-false, ltb-true}
use Rattle.std.proofs.lemmas.Bool.Decides.{nat_tests}
use Rattle.std.proofs.lemmas.List.{length-take}
use Rattle.std.proofs.lemmas.List.Elements.{All-append, All-cons, All-drop, All-head, All-nil, All-pop, All-tail, All-take}
use Rattle.bosh_types.specs.Limits.{longest_stanza, most_streams, most_waiting}
use Rattle.bosh_types.specs.declared.condition.Condition.{Condition}
use Rattle.bosh_types.specs.declared.ending.Closing.{Closing}
use Rattle.bosh_types.specs.declared.kept.KeptAnswer.{KeptAnswer}
use Rattle.body_writer.specs.declared.answer.AnswerKind.{AnswerKind}
use Rattle.body_writer.specs.declared.answer.AnswerKind.TheVariants.{Terminate, Usual}
use Rattle.body_writer.specs.declared.answer.AnswerParts.{AnswerParts}
use Rattle.body_writer.specs.Answer.{answer_text}
use Rattle.body_writer.specs.ReadBack.{IsStream}
use Rattle.stream_names.specs.Streams.{is_among}
use Rattle.ack_report.specs.Report.{due_on, later_of, report_given, report_of}
use Rattle.reply_keep.specs.PlainKeep.{PlainKeep, kept_at}
use Rattle.session_core.specs.declared.copy.RequestCopy.{RequestCopy}
use Rattle.session_core.specs.declared.outward.Front.{Front}
use Rattle.session_core.specs.declared.outward.Front.TheVariants.{OfClosing, OfStanzas}
use Rattle.session_core.specs.declared.outward.Outward.{Outward}
use Rattle.session_core.specs.declared.outward.Outward.TheVariants.{Close, Stanza}
use Rattle.session_core.specs.declared.replies.Taken.{Taken}
use Rattle.session_core.specs.declared.replies.Taken.TheVariants as takings
use Rattle.session_core.specs.Answers.{ack_for, answer_parts, closing_parts, fit_one_answer, front_for, front_of, is_last, report_for, stream_for}
use Rattle.session_core.specs.Copy.{id_of, is_add, is_pause, is_prompt, unnamed}
use Rattle.session_core.specs.Endings.{closing_condition, terminal}
use Rattle.session_core.specs.Journal.{Entered, IsJournal, Journal, MayEnter, after_entry, state_of}
use Rattle.session_core.specs.Kept.{keep_of}
use Rattle.session_core.specs.Machine.{as_processed, back, back_closed, opened, takes_items, with_copy}
use Rattle.session_core.specs.Outward.{first_stream, is_close, is_close_of, lie_on_one, size_of_all, stanzas_in, stream_in}
use Rattle.session_core.specs.Passed.{given_by, if_done}
use Rattle.session_core.specs.Processed.{Processed}
use Rattle.session_core.specs.State.{Answered, PlainSession, answered_of, answers, first_of, last_of, held, is_over, opened_in, running, taken_by_answers, waiting}
use Rattle.session_core.specs.Time.{time_applied}
use Rattle.session_laws.proofs.AnswersGiven.{front_longest}
use Rattle.session_laws.proofs.Frames.{time_leaves}
use Rattle.session_laws.proofs.GivenIn.{entry_gives, one as given_one}
use Rattle.session_laws.proofs.GivenStreams.{IsOn, opened_grows}
use Rattle.session_laws.proofs.Moves.{Steady}
use Rattle.session_laws.proofs.OpenStreams.{open_is, open_parts}
use Rattle.session_laws.proofs.ReplyLemmas.{back_done, closed_done}
use Rattle.session_laws.proofs.Steadily.{steady-entry}
use Rattle.session_laws.proofs.Steps.{along, entry-by}
use Rattle.session_laws.proofs.Tests.{both_true, split, true_false}
use Rattle.session_laws.proofs.UnnamedLemmas.{front_closing}
use Rattle.world_laws.proofs.TurnLemmas.{all_follow}

-- the text is of this kind with these payloads, names a stream or none, acknowledges what was processed, and reports an answer that was
-- given, by that moment
pub record Carrying (first last answered moment : ℕ) (kind : AnswerKind) (condition : Option Condition) (payloads : List (List ℕ)) (bytes : List ℕ) : Type 0 where
  pub stream : Option ℕ
  pub ack : Option ℕ
  pub report : Option (ℕ × ℕ)
  pub bytes_are : bytes ≡ answer_text (record { created = None; kind = kind; condition = condition; stream = stream; ack = ack; report = report; payloads = payloads })
  pub streams : IfSome stream IsStream
  pub acks : IfSome ack (λ rid. (first ≤ rid) × (rid ≤ last))
  pub reports : IfSome report (λ r. (r.0 ≤ answered) × (r.1 ≤ moment))

-- the stream that it says: the first one, where it names none
abbrev pub IsSaid : Option ℕ → Outward → Type 0
IsSaid stream item = stream_in item ≡ unwrap_or stream 0

-- it carries these, which lie on the stream that it says
pub record CarryingItems (first last answered moment : ℕ) (items : List Outward) (bytes : List ℕ) : Type 0 where
  pub carries : Carrying first last answered moment Usual None (stanzas_in items) bytes
  pub fits : fit_one_answer items ≡ true
  pub few : length items ≤ most_waiting
  pub said : All (IsSaid carries.stream) items

abbrev pub ShapedBy : ℕ → ℕ → ℕ → ℕ → List ℕ → Front → Type 0
ShapedBy first last answered moment bytes (OfStanzas items) = CarryingItems first last answered moment items bytes
ShapedBy first last answered moment bytes (OfClosing stream closing) =
    Carrying first last answered moment Terminate (closing_condition closing) [] bytes

abbrev pub IsShaped : ℕ → ℕ → ℕ → Answered → Type 0
IsShaped first last answered answer = ShapedBy first last answered answer.moment answer.bytes answer.front

-- it opened one of the eight streams, if any, and takes nothing then
abbrev pub Opens : Processed → Type 0
Opens one = IfSome one.opened (λ stream. IsStream stream × (is_prompt one.copy ≡ true))

-- so it is with all answers where what was given lies on so many streams, which are open; and the report that is due is of one of them
pub record AreShaped (count first last answered : ℕ) (due : Option (ℕ × ℕ)) (processed : List Processed) (given : List Outward) (answers : List Answered) : Type 0 where
  pub due_is : IfSome due (λ d. d.0 ≤ answered)
  pub within : count ≤ opened_in processed
  pub opened : All Opens processed
  pub shaped : All (IsOn count) given → All (IsShaped first last answered) answers

abbrev pub HasShapes : ℕ → PlainSession → Type 0
HasShapes count s = AreShaped count (first_of s) (last_of s) (answered_of s) s.reporting.due s.processed s.given s.answered

-- With more processed, or more answered.

carries_wider : (first last answered more others moment : ℕ) (kind : AnswerKind) (condition : Option Condition) (payloads : List (List ℕ)) (bytes : List ℕ) → last ≤ more → answered ≤ others
    → Carrying first last answered moment kind condition payloads bytes → Carrying first more others moment kind condition payloads bytes
carries_wider first last answered more others moment kind condition payloads bytes one two is = record {
  stream = is.stream;
  ack = is.ack;
  report = is.report;
  bytes_are = is.bytes_are;
  streams = is.streams;
  acks = of_ack is.ack is.acks;
  reports = of_report is.report is.reports;
}
  where
    of_ack : (ack : Option ℕ) → IfSome ack (λ rid. (first ≤ rid) × (rid ≤ last)) → IfSome ack (λ rid. (first ≤ rid) × (rid ≤ more))
    of_ack None is = tt
    of_ack (Some rid) is = (is.0, omega (arith, is.1, one))

    of_report : (report : Option (ℕ × ℕ)) → IfSome report (λ r. (r.0 ≤ answered) × (r.1 ≤ moment)) → IfSome report (λ r. (r.0 ≤ others) × (r.1 ≤ moment))
    of_report None is = tt
    of_report (Some r) is = (omega (arith, is.0, two), is.1)

wider : (first last answered more others moment : ℕ) (bytes : List ℕ) (front : Front) → last ≤ more → answered ≤ others → ShapedBy first last answered moment bytes front → ShapedBy first more others moment bytes front
unfolding carries_wider
wider first last answered more others moment bytes (OfClosing stream closing) one two is =
    carries_wider first last answered more others moment Terminate (closing_condition closing) [] bytes one two is
wider first last answered more others moment bytes (OfStanzas items) one two is = record {
  carries = carries_wider first last answered more others moment Usual None (stanzas_in items) bytes one two is.carries;
  fits = is.fits;
  few = is.few;
  said = is.said;
}

all_wider : (first last answered more others : ℕ) (answers : List Answered) → last ≤ more → answered ≤ others → All (IsShaped first last answered) answers → All (IsShaped first more others) answers
all_wider first last answered more others answers one two all =
    all_follow (IsShaped first last answered) (IsShaped first more others) answers (λ a. wider first last answered more others a.moment a.bytes a.front one two) all

-- What is due.

due_given : (now rid answered : ℕ) (kept : Option KeptAnswer) → rid ≤ answered → IfSome (report_given now rid kept) (λ d. d.0 ≤ answered)
due_given now rid answered None few = tt
due_given now rid answered (Some answer) few = split (λ (o : Option (ℕ × ℕ)). IfSome o (λ d. d.0 ≤ answered)) (nat_le (answer.given + 1000) now) (Some (rid, answer.given)) None (λ _. few) (λ _. tt)

due_of : (plain : PlainKeep) (ack answered now : ℕ) → IfSome (report_of plain ack answered now) (λ d. d.0 ≤ answered)
due_of plain ack answered now = split (λ (o : Option (ℕ × ℕ)). IfSome o (λ d. d.0 ≤ answered)) (nat_lt ack answered) (report_given now (ack + 1) (kept_at plain (ack + 1))) None
    (λ lower.
    let few : ack + 1 ≤ answered = grind (arith, nat_tests, lower) in
    due_given now (ack + 1) answered (kept_at plain (ack + 1)) few)
    (λ _. tt)

later_due : (answered : ℕ) (due report : Option (ℕ × ℕ)) → IfSome due (λ d. d.0 ≤ answered) → IfSome report (λ d. d.0 ≤ answered) → IfSome (later_of due report) (λ d. d.0 ≤ answered)
later_due answered due None one two = one
later_due answered due (Some report) one two = two

due_after : (on : Bool) (due : Option (ℕ × ℕ)) (plain : PlainKeep) (ack : Option ℕ) (answered now : ℕ) → IfSome due (λ d. d.0 ≤ answered)
    → IfSome (due_on on due plain ack answered now) (λ d. d.0 ≤ answered)
due_after false due plain ack answered now is = is
due_after true due plain None answered now is = is
due_after true due plain (Some ack) answered now is = later_due answered due (report_of plain ack answered now) is (due_of plain ack answered now)

-- What one answer takes.

-- what waits was given
waits_on : (count : ℕ) (t : PlainSession) → All (IsOn count) t.given → All (IsOn count) (waiting t)
waits_on count t on = All-drop (IsOn count) (taken_by_answers (answers t)) t.given on

-- some of what waits, which fits one answer; nothing, where the request takes nothing
record Took (count : ℕ) (oldest : Processed) (items : List Outward) : Type 0 where
  fits : fit_one_answer items ≡ true
  few : length items ≤ most_waiting
  on : All (IsOn count) items
  none : is_prompt oldest.copy ≡ true → items ≡ []

same_items : (xs ys : List Outward) → OfStanzas xs ≡ OfStanzas ys → xs ≡ ys
same_items xs ys is = cc

took : (count : ℕ) (t : PlainSession) (oldest : Processed) (items : List Outward) → All (IsOn count) t.given → front_for t oldest ≡ OfStanzas items → Took count oldest items
took count t oldest items on = by (is_prompt oldest.copy) refl
  where
    by : (b : Bool) → is_prompt oldest.copy ≡ b → (if b then OfStanzas [] else front_of (waiting t)) ≡ OfStanzas items → Took count oldest items
    by true prompt is =
        let nothing : [] ≡ items = same_items [] items is in
        subst (Took count oldest) nothing (record { fits = refl; few = omega arith; on = All-nil (IsOn count); none = λ so. refl })
    by false prompt is =
        let longest = front_longest (waiting t) items is in
        record {
          fits = longest.fits;
          few = omega (arith, ap length longest.first, length-take longest.count (waiting t), longest.few);
          on = subst (All (IsOn count)) (sym longest.first) (All-take (IsOn count) longest.count (waiting t) (waits_on count t on));
          none = λ so. absurd (true_false (sym so ∙ prompt));
        }

first_few : (count : ℕ) (items : List Outward) → All (IsOn count) items → IfSome (first_stream items) IsStream
first_few count [] on = tt
first_few count (item ∷ items) on = (All-head (IsOn count) item items on).few

-- the stream that an answer names
named_few : (count : ℕ) (t : PlainSession) (oldest : Processed) (items : List Outward) → Opens oldest → All (IsOn count) items → IfSome (stream_for t oldest items) IsStream
named_few count t oldest items opens on = by oldest.opened opens
  where
    by : (o : Option ℕ) → IfSome o (λ stream. IsStream stream × (is_prompt oldest.copy ≡ true))
        → IfSome (option_or o (if nat_lt 1 (opened_in t.processed) then first_stream items else None)) IsStream
    by (Some stream) is = is.0
    by None is = split (λ (o : Option ℕ). IfSome o IsStream) (nat_lt 1 (opened_in t.processed)) (first_stream items) None (λ _. first_few count items on) (λ _. tt)

-- what it takes lies there
said_all : (stream : ℕ) (items : List Outward) → list_all (λ other. stream_in other == stream) items ≡ true → All (IsSaid (Some stream)) items
said_all stream [] lie = All-nil (IsSaid (Some stream))
said_all stream (item ∷ items) lie =
    let parts = both_true (stream_in item == stream) (list_all (λ other. stream_in other == stream) items) lie in
    All-cons (IsSaid (Some stream)) item items (eqb-true (stream_in item) stream parts.0) (said_all stream items parts.1)

said_first : (items : List Outward) → lie_on_one items ≡ true → All (IsSaid (first_stream items)) items
said_first [] lie = All-nil (IsSaid None)
said_first (item ∷ items) lie = All-cons (IsSaid (Some (stream_in item))) item items refl (said_all (stream_in item) items lie)

-- the first stream is the only one
said_none : (count : ℕ) (items : List Outward) → count ≤ 1 → All (IsOn count) items → All (IsSaid None) items
said_none count [] one on = All-nil (IsSaid None)
said_none count (item ∷ items) one on =
    let here = (All-head (IsOn count) item items on).below in
    All-cons (IsSaid None) item items (omega (arith, here, one)) (said_none count items one (All-tail (IsOn count) item items on))

said_items : (count : ℕ) (t : PlainSession) (oldest : Processed) (items : List Outward) → count ≤ opened_in t.processed → Opens oldest → Took count oldest items
    → All (IsSaid (stream_for t oldest items)) items
said_items count t oldest items within opens one = by oldest.opened opens
  where
    several : Bool
    several = nat_lt 1 (opened_in t.processed)

    lie : lie_on_one items ≡ true
    lie = (both_true (not (list_any is_close items)) (lie_on_one items) (both_true (not (list_any is_close items) && lie_on_one items) (nat_le (size_of_all items) longest_stanza) one.fits).0).1

    by : (o : Option ℕ) → IfSome o (λ stream. IsStream stream × (is_prompt oldest.copy ≡ true)) → All (IsSaid (option_or o (if several then first_stream items else None))) items
    by (Some stream) is = subst (All (IsSaid (Some stream))) (sym (one.none is.1)) (All-nil (IsSaid (Some stream)))
    by None is = split (λ (o : Option ℕ). All (IsSaid o) items) several (first_stream items) None
        (λ many. said_first items lie)
        (λ single.
        let few : opened_in t.processed ≤ 1 = ltb-false 1 (opened_in t.processed) single in
        said_none count items (omega (arith, within, few)) one.on)

closing_few : (count : ℕ) (t : PlainSession) (oldest : Processed) (stream : ℕ) (closing : Closing) → All (IsOn count) t.given → front_for t oldest ≡ OfClosing stream closing → IsStream stream
closing_few count t oldest stream closing on taken =
    let waits = front_closing t oldest stream closing taken in
    (All-head (IsOn count) (Close stream closing) waits.0 (subst (All (IsOn count)) waits.1 (waits_on count t on))).few

ack_within : (t : PlainSession) (rid : ℕ) → IfSome (ack_for t rid) (λ n. (first_of t ≤ n) × (n ≤ last_of t))
ack_within t rid = split (λ (o : Option ℕ). IfSome o (λ n. (first_of t ≤ n) × (n ≤ last_of t))) (rid == last_of t) None (Some (last_of t)) (λ _. tt) (λ _. (omega arith, omega arith))

report_within : (answered now : ℕ) (due : Option (ℕ × ℕ)) → IfSome due (λ d. d.0 ≤ answered) → IfSome {T = ℕ × ℕ} (option_map (λ (d : ℕ × ℕ). (d.0, now - d.1)) due) (λ r. (r.0 ≤ answered) × (r.1 ≤ now))
report_within answered now None is = tt
report_within answered now (Some d) is = (is, omega arith)

new_shape : (count : ℕ) (t : PlainSession) (oldest : Processed) (front : Front) → front_for t oldest ≡ front → HasShapes count t → Opens oldest → All (IsOn count) t.given
    → ShapedBy (first_of t) (last_of t) (answered_of t) t.now (answer_text (answer_parts t oldest front)) front
new_shape count t oldest (OfClosing stream closing) taken h opens on =
    split (λ (parts : AnswerParts). Carrying (first_of t) (last_of t) (answered_of t) t.now Terminate (closing_condition closing) [] (answer_text parts))
    (is_last t stream) (terminal (closing_condition closing)) (closing_parts t oldest stream closing)
    (λ last. record { stream = None; ack = None; report = None; bytes_are = refl; streams = tt; acks = tt; reports = tt })
    (λ other. record {
      stream = Some stream;
      ack = ack_for t (id_of oldest.copy);
      report = report_for t;
      bytes_are = refl;
      streams = closing_few count t oldest stream closing on taken;
      acks = ack_within t (id_of oldest.copy);
      reports = report_within (answered_of t) t.now t.reporting.due h.due_is;
    })
new_shape count t oldest (OfStanzas items) taken h opens on =
    let one = took count t oldest items on taken in
    record {
      carries = record {
        stream = stream_for t oldest items;
        ack = ack_for t (id_of oldest.copy);
        report = report_for t;
        bytes_are = refl;
        streams = named_few count t oldest items opens one.on;
        acks = ack_within t (id_of oldest.copy);
        reports = report_within (answered_of t) t.now t.reporting.due h.due_is;
      };
      fits = one.fits;
      few = one.few;
      said = said_items count t oldest items h.within opens one;
    }

-- a copy opens one of the eight, if any, and is an add then
opens_few : (t : PlainSession) (copy : RequestCopy) → Opens (as_processed t copy)
opens_few t copy = split (λ (o : Option ℕ). IfSome o (λ stream. IsStream stream × (is_prompt copy ≡ true))) (is_add copy && nat_lt (opened_in t.processed) most_streams) (Some (opened_in t.processed)) None
    (λ adds.
    let parts = both_true (is_add copy) (nat_lt (opened_in t.processed) most_streams) adds in
    (ltb-true (opened_in t.processed) most_streams parts.1, or_add (is_pause copy) (is_add copy) parts.0))
    (λ _. tt)
  where
    or_add : (pause add : Bool) → add ≡ true → (pause || add) ≡ true
    or_add true add is = refl
    or_add false add is = is

-- the oldest held request is one of those that were processed
oldest_few : (t : PlainSession) (oldest : Processed) (later : List Processed) → held t ≡ oldest ∷ later → All Opens t.processed → Opens oldest
oldest_few t oldest later is all = All-head Opens oldest later (subst (All Opens) is (All-drop Opens (length t.answered) t.processed all))

shapes_steady : (count : ℕ) → Steady (HasShapes count)
shapes_steady count = record {
  ends = λ t ending on p. p;
  aside = λ t tickets now last_arrival passed counted p. p;
  answers = λ t oldest later front is on reason taken p.
      let new : Answered = record { rid = id_of oldest.copy; bytes = answer_text (answer_parts t oldest front); moment = t.now; front = front } in
      let more = length-append t.answered (new ∷ []) in
      let others : ℕ = answered_of t + 1 in
      let sum : others ≡ (t.creation).request.rid + length (t.answered ++ new ∷ []) = omega (arith, more) in
      let P = IsShaped (first_of t) (last_of t) others in
      record {
        due_is = tt;
        within = p.within;
        opened = p.opened;
        shaped = λ given.
            let old = all_wider (first_of t) (last_of t) (answered_of t) (last_of t) others t.answered (omega arith) (omega arith) (p.shaped given) in
            let this = wider (first_of t) (last_of t) (answered_of t) (last_of t) others t.now new.bytes front (omega arith) (omega arith)
            (new_shape count t oldest front taken p (oldest_few t oldest later is p.opened) given) in
            subst (λ (n : ℕ). All (IsShaped (first_of t) (last_of t) n) (t.answered ++ new ∷ [])) sum (All-append P t.answered (new ∷ []) old (All-cons P new [] this (All-nil P)));
      };
  processes = λ t copy on stands broken p.
      let one : Processed = as_processed t copy in
      let more = length-append t.processed (one ∷ []) in
      let last : last_of t ≤ last_of (with_copy t copy) = omega (arith, more) in
      record {
        due_is = due_after t.reporting.on t.reporting.due (keep_of t) copy.request.ack (answered_of t) t.now p.due_is;
        within = omega (arith, p.within, opened_grows t.processed (t.processed ++ one ∷ []) (one ∷ [], refl));
        opened = All-append Opens t.processed (one ∷ []) p.opened (All-cons Opens one [] (opens_few t copy) (All-nil Opens));
        shaped = λ given. all_wider (first_of t) (last_of t) (answered_of t) (last_of (with_copy t copy)) (answered_of t) t.answered last (omega arith) (p.shaped given);
      };
  stands = λ t copy above none small p. p;
  strikes = λ t rid on is p. p;
  gives = λ t item p. record {
    due_is = p.due_is;
    within = p.within;
    opened = p.opened;
    shaped = λ given. p.shaped (All-pop (IsOn count) (t.given ++ item ∷ []) t.given (Some item) refl given).0;
  };
}

-- What the server gave with an entry lies on streams that were open before it.

takes_on : (s : PlainSession) (now stream : ℕ) → takes_items (time_applied s now) stream ≡ true → (stream < opened_in s.processed) × (stream < most_streams)
takes_on s now stream takes =
    let t : PlainSession = time_applied s now in
    let a = both_true (not (is_over t) && is_among (running t) stream) (not (list_any (is_close_of stream) t.given)) takes in
    let b = both_true (not (is_over t)) (is_among (running t) stream) a.0 in
    let open_now = open_is t.processed t.answered stream b.1 in
    let less = ltb-true stream (opened_in t.processed) (open_parts t.processed t.answered stream open_now.1).0 in
    let same : opened_in t.processed ≡ opened_in s.processed = ap (λ (u : PlainSession). opened_in u.processed) (time_leaves s now) in
    (omega (arith, less, same), open_now.0)

done_on : (count : ℕ) (item : Outward) (r : Taken) → (r ≡ takings.Done → (stream_in item < count) × (stream_in item < most_streams)) → All (IsOn count) (given_one (if_done item r))
done_on count item takings.Done on =
    let is = on refl in
    All-cons (IsOn count) item [] (record { below = is.0; few = is.1 }) (All-nil (IsOn count))
done_on count item takings.Full on = All-nil (IsOn count)
done_on count item takings.Over on = All-nil (IsOn count)

entry_on : (s : PlainSession) (entered : Entered) → MayEnter s entered → All (IsOn (opened_in s.processed)) (given_one (given_by s entered))
entry_on s entered may =
    let count : ℕ = opened_in s.processed in
    entry-by s (λ e u. All (IsOn count) (given_one (given_by s e))) (record {
      arrives = λ request body now allowed on room. All-nil (IsOn count);
      backs = λ stream stanza now allowed on room.
          done_on count (Stanza stream stanza) (back s stream stanza now).1 (λ done. takes_on s now stream ((back_done s stream stanza now).0 done).0.2);
      closes = λ stream closing now on room.
          done_on count (Close stream closing) (back_closed s stream closing now).1 (λ done. takes_on s now stream ((closed_done s stream closing now).0 done).2);
      ticks = λ now on due room. All-nil (IsOn count);
      collects = λ index ticket is. All-nil (IsOn count);
      takes = λ item is. All-nil (IsOn count);
      limits = λ kind cost now on full. All-nil (IsOn count);
    }) entered may

-- what was given lies on the streams that are open, and all answers have their shapes
record AllShaped (s : PlainSession) : Type 0 where
  on : All (IsOn (opened_in s.processed)) s.given
  shapes : HasShapes (opened_in s.processed) s

entry_shaped : (s : PlainSession) (entered : Entered) → MayEnter s entered → AllShaped s → AllShaped (after_entry s entered)
entry_shaped s entered may h =
    let t : PlainSession = after_entry s entered in
    let count : ℕ = opened_in s.processed in
    let more : ℕ = opened_in t.processed in
    let shapes : HasShapes count t = steady-entry (HasShapes count) (shapes_steady count) s entered may h.shapes in
    let given : All (IsOn count) t.given = subst (All (IsOn count)) (sym (entry_gives s entered may)) (All-append (IsOn count) s.given (given_one (given_by s entered)) h.on (entry_on s entered may)) in
    let all = shapes.shaped given in
    record {
      on = all_follow (IsOn count) (IsOn more) t.given (λ item is. record { below = omega (arith, is.below, shapes.within); few = is.few }) given;
      shapes = record { due_is = shapes.due_is; within = omega arith; opened = shapes.opened; shaped = λ _. all };
    }

greeting_on : (greeting : List (List ℕ)) → All (IsOn 1) (map (Stanza unnamed) greeting)
greeting_on [] = All-nil (IsOn 1)
greeting_on (stanza ∷ greeting) =
    All-cons (IsOn 1) (Stanza unnamed stanza) (map (Stanza unnamed) greeting) (record { below = omega arith; few = omega arith }) (greeting_on greeting)

pub every_shape : (journal : Journal) → IsJournal journal → All (IsShaped (first_of (state_of journal)) (last_of (state_of journal)) (answered_of (state_of journal))) (state_of journal).answered
every_shape journal made =
    let start : AllShaped (opened journal.opening) = record {
      on = greeting_on journal.opening.greeting;
      shapes = record { due_is = tt; within = omega arith; opened = All-nil Opens; shaped = λ _. All-nil (IsShaped _ _ _) };
    } in
    let end = along (opened journal.opening) (λ past s. AllShaped s) (λ past s entry may same h. entry_shaped s entry.entered may h) journal.entries made.1 start in
    end.shapes.shaped end.on
