-- No answer was given later than the greatest moment of its session.
use Rattle.std.proofs.Common.{◌≡◌, ℕ, ◌≤◌, not, List, [], ◌∷◌, ◌++◌, Option, Some, None, arith}
use Rattle.std.specs.Prelude.{All}
use Rattle.std.proofs.lemmas.List.Elements.{All-append, All-cons, All-nil}
use Rattle.body_writer.specs.Answer.{answer_text}
use Rattle.session_attrs.specs.declared.request.Request.{Request}
use Rattle.session_core.specs.declared.copy.RequestCopy.{RequestCopy}
use Rattle.session_core.specs.declared.outward.Front.{Front}
use Rattle.session_core.specs.declared.outward.Front.TheVariants.{OfClosing}
use Rattle.session_core.specs.declared.outward.Outward.{Outward}
use Rattle.session_core.specs.declared.outward.Outward.TheVariants.{Close, Stanza}
use Rattle.session_core.specs.declared.replies.Arrived.{Arrived}
use Rattle.session_core.specs.declared.replies.Arrived.TheVariants as arrivals
use Rattle.session_core.specs.declared.replies.Taken.{Taken}
use Rattle.session_core.specs.Answers.{answer_parts, settled, with_answer}
use Rattle.session_core.specs.Copy.{id_of}
use Rattle.session_core.specs.Journal.{Entered, IsJournal, Journal, MayEnter, after_entry, state_of}
use Rattle.session_core.specs.Machine.{advanced, arrived_in_time, body_cost, bytes_for, copy_now, has_room, opened, placed, plain_cost, stanza_cost, takes_items, wait_at, with_cost, with_item}
use Rattle.session_core.specs.Processed.{Processed}
use Rattle.session_core.specs.State.{Answered, PlainSession}
use Rattle.session_core.specs.Time.{time_applied}
use Rattle.session_laws.proofs.Moves.{Answering, Processing, Waiting, advanced-by, settled-by, time_applied-by}
use Rattle.session_laws.proofs.Steps.{arrival-by, along, entry-by}
use Rattle.session_laws.proofs.Tests.{split}

module _ (latest : ℕ) where
  -- while the session's moment is early, so are those of its answers
  record Early (now : ℕ) (answers : List Answered) : Type 0 where
    early : now ≤ latest → All (λ (answer : Answered). answer.moment ≤ latest) answers

  abbrev IsEarly : PlainSession → Type 0
  IsEarly s = Early s.now s.answered

  one_more : (s : PlainSession) (one : Processed) (front : Front) → IsEarly s → IsEarly (with_answer s one front)
  one_more s one front p =
      let P : Answered → Type 0 = λ answer. answer.moment ≤ latest in
      let new : Answered = record { rid = id_of one.copy; bytes = answer_text (answer_parts s one front); moment = s.now; front = front } in
      record { early = λ low. All-append P s.answered (new ∷ []) (p.early low) (All-cons P new [] low (All-nil P)) }

  answering : Answering IsEarly
  answering = record {
    gives = λ s oldest later front is on reason due others p. one_more s oldest front p;
    closes = λ s oldest later stream closing is on reason due last p. record { early = (one_more s oldest (OfClosing stream closing) p).early };
  }

  processing : Processing IsEarly
  processing = record {
    processes = λ s copy on stands broken further p. record { early = p.early };
    terminates = λ s copy on stands broken last p. record { early = p.early };
    breaks = λ s copy ending on stands broken p. record { early = p.early };
  }

  waits : Waiting IsEarly
  waits = record {
    moves = λ s now p. record { early = λ low. p.early (omega (arith, low)) };
    strikes = λ s rid on polled is p. record { early = p.early };
    silences = λ s on silent p. record { early = p.early };
  }

  in_time : (s : PlainSession) (now : ℕ) → IsEarly s → IsEarly (time_applied s now)
  in_time s now p = time_applied-by IsEarly waits answering s now p

  with_reply : (s : PlainSession) (rid : ℕ) → IsEarly s → (o : Option (List ℕ)) → IsEarly (elim o as (λ x. PlainSession × Arrived) [ Some bytes ↦ (s, arrivals.Answer bytes) | None ↦ wait_at s rid ]).0
  with_reply s rid p (Some bytes) = p
  with_reply s rid p None = record { early = p.early }

  arrived : (t : PlainSession) (request : Request) (body : List ℕ) → IsEarly t → IsEarly (arrived_in_time t request body).0
  arrived t request body p =
      let copy : RequestCopy = copy_now t request body in
      arrival-by t request body (λ r. IsEarly r.0) (record {
        over = λ over. p;
        again = λ answer on within is. p;
        stale = λ on within is. record { early = p.early };
        repeats = λ on later open_now. record { early = p.early };
        above = λ on later new beyond. record { early = p.early };
        fresh = λ on later new within.
            let u : PlainSession = settled (advanced (placed t copy)) in
            with_reply u (id_of copy) (settled-by IsEarly answering (advanced (placed t copy)) (advanced-by IsEarly processing (placed t copy) (record { early = p.early }))) (bytes_for u (id_of copy));
      })

  given : (s : PlainSession) (item : Outward) → IsEarly s → IsEarly (with_item s item).0
  given s item p = settled-by IsEarly answering (record s { given = s.given ++ item ∷ [] }) (record { early = p.early })

  entered_early : (s : PlainSession) (entered : Entered) → MayEnter s entered → IsEarly s → IsEarly (after_entry s entered)
  entered_early s entered may p = entry-by s (λ e u. IsEarly u) (record {
    arrives = λ request body now allowed on room. arrived (with_cost (body_cost request body) (time_applied s now)) request body (record { early = (in_time s now p).early });
    backs = λ stream stanza now allowed on room.
        let t : PlainSession = with_cost (stanza_cost stanza) (time_applied s now) in
        let q : IsEarly t = record { early = (in_time s now p).early } in
        split (λ (r : PlainSession × Taken). IsEarly r.0) (not (takes_items t stream)) _ _ (λ none. q)
        (λ takes. split (λ (r : PlainSession × Taken). IsEarly r.0) (has_room t stanza) _ _ (λ room. given t (Stanza stream stanza) q) (λ none. q));
    closes = λ stream closing now on room.
        let t : PlainSession = with_cost plain_cost (time_applied s now) in
        let q : IsEarly t = record { early = (in_time s now p).early } in
        split (λ (r : PlainSession × Taken). IsEarly r.0) (takes_items t stream) _ _ (λ takes. given t (Close stream closing) q) (λ none. q);
    ticks = λ now on due room. record { early = (in_time s now p).early };
    collects = λ index ticket is. record { early = p.early };
    takes = λ item is. record { early = p.early };
    limits = λ kind cost now on full. record { early = p.early };
  }) entered may

  -- of a journal whose moment is early each answer was given early
  pub every_moment : (journal : Journal) → IsJournal journal → (state_of journal).now ≤ latest → All (λ (answer : Answered). answer.moment ≤ latest) (state_of journal).answered
  every_moment journal made low =
      (along (opened journal.opening) (λ past s. IsEarly s) (λ past s entry may at p. entered_early s entry.entered may p) journal.entries made.1
      (record { early = λ low. All-nil (λ (answer : Answered). answer.moment ≤ latest) })).early low
