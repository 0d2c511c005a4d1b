-- From what a reader gives to what a poll gives.
use Rattle.std.proofs.Common.{◌≡◌, ℕ, List, [], ◌++◌, Option, Some, None, Result, Ok, Err, IfOk, OnOk, inl, inr, sym, ◌∙◌, ap, subst, append-nil}
use Rattle.std.specs.Bool.{⊤}
use Rattle.std.proofs.KnownBytes.{Consumes-nil}
use Rattle.std.specs.Io.KnownBytes.{Consumes, IsAtEnd, Keeps, prepend_known}
use Rattle.bosh_http.specs.Reading.{Answers, AnswersBy, FrontGives, IsAllOf}
use Rattle.bosh_http.specs.declared.reading.HttpIn.{HttpIn}
use Rattle.bosh_http.specs.declared.reading.HttpIn.TheVariants.{Request, Refused, End, ReadFault}
use Rattle.bosh_http.proofs.ReadingLemmas.{keeps_by, reads_by}
use Rattle.polled_http.specs.declared.polling.HttpPolled.{HttpPolled}
use Rattle.polled_http.specs.declared.polling.HttpPolled.TheVariants.{Came, More, NotYet}
use Rattle.polled_http.specs.Polling.{PollAnswers, PollReads}

-- an answer by what is known of the bytes is one by what follows from that
answers_from : (answer : HttpIn) (seen kept : List ℕ) (P Q : Type 0) → (P → Q) → AnswersBy seen kept P answer → AnswersBy seen kept Q answer
answers_from (Request body closing) seen kept P Q f by = by
answers_from (Refused refusal) seen kept P Q f (refused, inl settled, same) = (refused, inl settled, same)
answers_from (Refused refusal) seen kept P Q f (refused, inr all, same) = (refused, inr (f all), same)
answers_from End seen kept P Q f (none, all, same) = (none, f all, same)
answers_from ReadFault seen kept P Q f by = by

-- nothing was taken
answers_now : (left left' : Option (List ℕ)) (kept kept' : List ℕ) (answer : HttpIn) → Consumes left left' [] → AnswersBy kept kept' (IsAllOf left []) answer → Answers left left' kept kept' answer
answers_now left left' kept kept' answer none by = ([], none, subst (λ seen. AnswersBy seen kept' (IsAllOf left []) answer) (sym (append-nil kept)) by)

none_taken : (left left' : Option (List ℕ)) → Keeps left left' → Consumes left left' []
none_taken None left' keeps = tt
none_taken (Some xs) None keeps = keeps
none_taken (Some xs) (Some ys) keeps = sym keeps

none_left : (left : Option (List ℕ)) → IsAtEnd left → IsAllOf left []
none_left None end = tt
none_left (Some xs) end = sym end

-- the stream has ended
pub answers_at_end : (left left' : Option (List ℕ)) (kept kept' : List ℕ) (answer : HttpIn) → IsAtEnd left → Keeps left left' → AnswersBy kept kept' ⊤ answer → Answers left left' kept kept' answer
answers_at_end left left' kept kept' answer end keeps by =
    answers_now left left' kept kept' answer (none_taken left left' keeps) (answers_from answer kept kept' ⊤ (IsAllOf left []) (λ _. none_left left end) by)

-- the bytes that have come give it
pub answers_at_front : (left : Option (List ℕ)) (kept kept' : List ℕ) (answer : HttpIn) → FrontGives kept kept' (Some answer) → Answers left left kept kept' answer
answers_at_front left kept kept' answer gives =
    answers_now left left kept kept' answer (Consumes-nil left) (answers_from answer kept kept' ⊥ (IsAllOf left []) (λ none. elim none [ ]) gives.0)

-- what is answered, as an answer by the whole rest of the stream
pub poll_reads : (left left' : Option (List ℕ)) (kept kept' : List ℕ) (polled : HttpPolled) → PollAnswers left left' kept kept' polled → PollReads (prepend_known kept left) (prepend_known kept' left') polled
poll_reads left left' kept kept' (Came answer) by = reads_by left left' kept kept' answer by
poll_reads left left' kept kept' More (nothing, takes) = keeps_by left left' kept kept' (takes.piece, takes.consumes, takes.is)
poll_reads left left' kept kept' NotYet (nothing, keeps, same) = keeps_by left left' kept kept' ([], none_taken left left' keeps, same ∙ sym (append-nil kept))

pub result_reads : {E : Type 0} (r : Result HttpPolled E) (left left' : Option (List ℕ)) (kept kept' : List ℕ) → IfOk r (PollAnswers left left' kept kept') → IfOk r (PollReads (prepend_known kept left) (prepend_known kept' left'))
result_reads (Ok polled) left left' kept kept' by = poll_reads left left' kept kept' polled by
result_reads (Err error) left left' kept kept' by = by

-- where nothing is left unread, what the reader keeps is all that is kept
pub result_keeps : {E : Type 0} (r : Result HttpPolled E) (left left' : Option (List ℕ)) (kept first kept' unread : List ℕ) → first ≡ kept → IfOk r (PollAnswers left left' first kept') → OnOk r (unread ≡ [])
    → IfOk r (PollAnswers left left' kept (kept' ++ unread))
result_keeps (Ok polled) left left' kept first kept' unread same by none =
    subst (λ k. PollAnswers left left' k (kept' ++ unread) polled) same
    (subst (λ k. PollAnswers left left' first k polled) (sym (append-nil kept') ∙ ap (λ u. kept' ++ u) (sym none)) by)
result_keeps (Err error) left left' kept first kept' unread same by none = by
