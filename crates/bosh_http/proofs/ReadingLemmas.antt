-- Reading the next request.
use Rattle.std.proofs.Common.{◌≡◌, ℕ, ◌+◌, ◌-◌, ◌<◌, ◌≤◌, ◌⊎◌, ◌==◌, true, false, if◌then◌else◌, List, [], ◌++◌, Bool, Option, None, Some, length, take, drop, inl, inr, refl, sym, ◌∙◌, ap, ap₂, subst, arith, append_assoc, append-nil, length-append}
use Rattle.std.proofs.Math.Seq.{drop-append_seam, drop-append-le}
use Rattle.std.proofs.lemmas.List.{take-append-le, nil_from_length}
use Rattle.std.proofs.lemmas.Bool.{eqb-true}
use Rattle.std.proofs.lemmas.Bool.Decides.{nat_tests}
use Rattle.std.specs.Io.KnownBytes.{Keeps, prepend_known}
use Rattle.httparse.specs.Grammar.{RequestHead, print_request, print_section, print_end, HasNoRequest}
use Rattle.bosh_http.specs.Heads.{IsHeadless}
use Rattle.bosh_http.specs.Judging.{IsServed, IsRefusedBy}
use Rattle.bosh_http.specs.Message.{content_length, EndsInContent, IsHeadBegun, IsRequestMessage, IsRefused}
use Rattle.bosh_http.specs.Reader.{HasMessage, WantsContent, CameBy, CameOver}
use Rattle.bosh_http.specs.Reading.{IsAllOf, GivesNothing, AnswersBy, Answers, answer_of, ended_answer, Reads}
use Rattle.bosh_http.specs.Taking.{TakesMore}
use Rattle.bosh_http.specs.declared.reader.Came.{Came}
use Rattle.bosh_http.specs.declared.reader.Came.TheVariants as came
use Rattle.bosh_http.specs.declared.reading.HttpIn.{HttpIn}
use Rattle.bosh_http.specs.declared.reading.HttpIn.TheVariants.{Request, Refused, End, ReadFault}
use Rattle.bosh_http.specs.declared.refusal.HttpRefusal.{HttpRefusal}
use Rattle.bosh_http.specs.declared.refusal.HttpRefusal.TheVariants.{Cut}
use Rattle.bosh_http.proofs.JudgingLemmas.{IsRefusedBy-append, BeginsWith-append, end_size}

-- ---- a head that is served, and its content

-- the rest of the bytes after the head
rest_of : (bytes : List ℕ) (start content : ℕ) (closing : Bool) → (served : IsServed bytes start content closing) → (drop start bytes ≡ served.rest) × (length bytes ≡ start + length served.rest)
rest_of bytes start content closing served =
    let text = print_request served.head in
    let parts : bytes ≡ text ++ served.rest = served.begins.0.1 in (
      ap₂ (λ n b. drop n b) served.start_is parts ∙ drop-append_seam text served.rest,
      ap length parts ∙ length-append text served.rest ∙ ap (λ n. n + length served.rest) (sym served.start_is),
    )

-- the head is there
pub served_is_there : (bytes : List ℕ) (start content : ℕ) (closing : Bool) → IsServed bytes start content closing → start ≤ length bytes
served_is_there bytes start content closing served = omega (arith, (rest_of bytes start content closing served).1)

pub message_is : (bytes body : List ℕ) (start content : ℕ) (closing : Bool) → IsServed bytes start content closing → start + content ≤ length bytes → body ≡ take (start + content - start) (drop start bytes) → IsRequestMessage bytes (start + content) body closing
message_is bytes body start content closing served whole body_is =
    let rest = rest_of bytes start content closing served in
    let size : start + content - start ≡ content_length served.head = omega (arith, served.content_is) in
    record {
      head = served.head;
      rest = served.rest;
      begins = served.begins;
      served = served.served;
      whole = omega (arith, whole, rest.1, served.content_is);
      content_is = body_is ∙ ap₂ (λ n b. take n b) size rest.0;
      count_is = ap₂ (λ n m. n + m) served.start_is served.content_is;
      closing_is = served.closing_is;
    }

pub some_left : (n : ℕ) → (n == 0) ≡ false → 0 < n
some_left n is = grind (arith, nat_tests)

some_size : (n : ℕ) → 0 < n → (n == 0) ≡ false
some_size n is = grind (arith, nat_tests)

-- a head has some bytes
some_head : (h : RequestHead) → 0 < length (print_request h)
unfolding print_request
some_head h = longer _ (print_section h.fields h.last) (longer _ (print_end h.last) (end_size h.last))
  where
    longer : (front rest : List ℕ) → 1 ≤ length rest → 0 < length (front ++ rest)
    longer front rest some = omega (arith, some, length-append front rest)

-- some of the content is to come
pub content_to_come : (bytes : List ℕ) → WantsContent IsServed bytes → EndsInContent bytes
content_to_come bytes w =
    let rest = rest_of bytes w.start w.content w.said w.reads in
    (w.reads.head, w.reads.rest, w.reads.begins, w.reads.served, omega (arith, w.short, rest.1, w.reads.content_is))

-- and some bytes have come
pub some_came : (bytes : List ℕ) → WantsContent IsServed bytes → 0 < length bytes
some_came bytes w =
    let rest = rest_of bytes w.start w.content w.said w.reads in
    let some : 0 < length (print_request w.reads.head) = some_head w.reads.head in
    omega (arith, rest.1, w.reads.start_is, some)

-- ---- answers

all_before : (answer : HttpIn) (seen kept' : List ℕ) (P Q : Type 0) → (P → Q) → AnswersBy seen kept' P answer → AnswersBy seen kept' Q answer
all_before (Request body closing) seen kept' P Q f by = by
all_before (Refused refusal) seen kept' P Q f (refused, inl settled, kept) = (refused, inl settled, kept)
all_before (Refused refusal) seen kept' P Q f (refused, inr all, kept) = (refused, inr (f all), kept)
all_before End seen kept' P Q f (none, all, kept) = (none, f all, kept)
all_before ReadFault seen kept' P Q f by = by

-- ---- what the reader of all kinds gives, as an answer

request_at : (bytes body : List ℕ) (closing : Bool) (kept : List ℕ) → HasMessage IsServed bytes body closing kept → (count : ℕ) × IsRequestMessage bytes count body closing × (kept ≡ drop count bytes)
request_at bytes body closing kept m = (m.start + m.content, message_is bytes body m.start m.content closing m.reads m.whole m.body_is, m.kept_is)

pub gives_nothing : (is_all : Bool) (bytes : List ℕ) → IsHeadless HasNoRequest IsHeadBegun is_all bytes ⊎ WantsContent IsServed bytes → GivesNothing bytes
gives_nothing is_all bytes (inl headless) = inl (headless.short, headless.lacks)
gives_nothing is_all bytes (inr wants) = inr (content_to_come bytes wants)

-- what is answered where the stream ended and no request is whole
pub ended_by : (bytes : List ℕ) (all : Type 0) → IsHeadless HasNoRequest IsHeadBegun true bytes ⊎ WantsContent IsServed bytes → all → AnswersBy bytes bytes all (ended_answer (length bytes))
unfolding ended_answer
ended_by bytes all (inl headless) a = by_size (length bytes == 0) refl
  where
    by_size : (none : Bool) → (length bytes == 0) ≡ none → AnswersBy bytes bytes all (if none then End else Refused (Cut (length bytes)))
    by_size true is = let nothing : bytes ≡ [] = nil_from_length bytes (eqb-true (length bytes) 0 is) in (nothing, a, nothing)
    by_size false is = ((refl, some_left (length bytes) is, inl (headless.short, headless.begins refl)), inr a, refl)
ended_by bytes all (inr wants) a =
    rw (some_size (length bytes) (some_came bytes wants)) ((refl, some_came bytes wants, inr (content_to_come bytes wants)), inr a, refl)

pub answers_by : (seen kept : List ℕ) (all : Type 0) (what : Came Bool HttpRefusal) → CameBy IsServed IsRefusedBy HasNoRequest IsHeadBegun seen kept all what → AnswersBy seen kept all (answer_of (length kept) what)
answers_by seen kept all (came.Message body closing) by = request_at seen body closing kept by
answers_by seen kept all (came.Wrong refusal) (denied, same) = (denied.1, inl denied.0, same)
answers_by seen kept all came.Ended (ended, is, same) = subst (λ k. AnswersBy seen k all (ended_answer (length k))) (sym same) (ended_by seen all ended is)
answers_by seen kept all came.Failed (failed, same) = (gives_nothing false seen failed, same)

pub answers_of : (left left' : Option (List ℕ)) (kept kept' : List ℕ) (what : Came Bool HttpRefusal) → CameOver IsServed IsRefusedBy HasNoRequest IsHeadBegun left left' kept kept' what → Answers left left' kept kept' (answer_of (length kept') what)
answers_of left left' kept kept' what (taken, is, by) = (taken, is, answers_by (kept ++ taken) kept' (IsAllOf left taken) what by)

-- only a failed link gives the answer that says so
pub fault_of : (count : ℕ) (what : Came Bool HttpRefusal) → answer_of count what ≡ ReadFault → what ≡ came.Failed
unfolding ended_answer
fault_of count (came.Message body closing) is = cc is
fault_of count (came.Wrong refusal) is = cc is
fault_of count came.Ended is = absurd (by_size (count == 0) is)
  where
    by_size : (none : Bool) → ¬ ((if none then End else Refused (Cut count)) ≡ ReadFault)
    by_size true is = cc is
    by_size false is = cc is
fault_of count came.Failed is = refl

-- ---- the answer by the whole rest of the stream

pub message_more : (bytes content more : List ℕ) (count : ℕ) (closing : Bool) → IsRequestMessage bytes count content closing → IsRequestMessage (bytes ++ more) count content closing × (count ≤ length bytes)
message_more bytes content more count closing m =
    let text = print_request m.head in
    let size : length bytes ≡ length text + length m.rest = ap length m.begins.0.1 ∙ length-append text m.rest in (
      record {
        head = m.head;
        rest = m.rest ++ more;
        begins = BeginsWith-append bytes m.head m.rest more m.begins;
        served = m.served;
        whole = omega (arith, m.whole, length-append m.rest more);
        content_is = m.content_is ∙ sym (take-append-le (content_length m.head) m.rest more m.whole);
        count_is = m.count_is;
        closing_is = m.closing_is;
      },
      omega (arith, size, m.whole, m.count_is),
    )

reads_told : (seen kept' rest : List ℕ) (answer : HttpIn) → AnswersBy seen kept' (rest ≡ []) answer → Reads (Some (seen ++ rest)) (Some (kept' ++ rest)) answer
reads_told seen kept' rest (Request body closing) (count, message, kept) =
    let m = message_more seen body rest count closing message in
    (count, m.0, ap (λ k. k ++ rest) kept ∙ sym (drop-append-le count seen rest m.1))
reads_told seen kept' rest (Refused refusal) (refused, inl settled, kept) = ((IsRefusedBy-append seen refusal rest (settled, refused)).1, ap (λ k. k ++ rest) kept)
reads_told seen kept' rest (Refused refusal) (refused, inr none, kept) =
    (subst (λ s. IsRefused s refusal) (sym (append-nil seen) ∙ ap (λ r. seen ++ r) (sym none)) refused, ap (λ k. k ++ rest) kept)
reads_told seen kept' rest End (nothing, none, kept) = (ap₂ (λ s r. s ++ r) nothing none, ap₂ (λ s r. s ++ r) kept none)
reads_told seen kept' rest ReadFault (nothing, kept) = ap (λ k. k ++ rest) kept

pub reads_by : (left left' : Option (List ℕ)) (kept kept' : List ℕ) (answer : HttpIn) → Answers left left' kept kept' answer → Reads (prepend_known kept left) (prepend_known kept' left') answer
reads_by None left' kept kept' answer by = tt
reads_by (Some xs) None kept kept' answer by = absurd by.1
reads_by (Some xs) (Some ys) kept kept' answer (taken, is, by) =
    subst (λ stream. Reads (Some stream) (Some (kept' ++ ys)) answer) (append_assoc kept taken ys ∙ ap (λ l. kept ++ l) (sym is))
    (reads_told (kept ++ taken) kept' ys answer (all_before answer (kept ++ taken) kept' (taken ≡ xs) (ys ≡ []) none_left by))
  where
    none_left : taken ≡ xs → ys ≡ []
    none_left all = nil_from_length ys (omega (arith, ap length (all ∙ is), length-append taken ys))

-- what a failed call kept
pub keeps_by : (left left' : Option (List ℕ)) (kept kept' : List ℕ) → TakesMore left left' kept kept' → Keeps (prepend_known kept left) (prepend_known kept' left')
keeps_by None left' kept kept' takes = tt
keeps_by (Some xs) None kept kept' takes = absurd takes.1
keeps_by (Some xs) (Some ys) kept kept' (taken, is, now) = ap (λ k. k ++ ys) now ∙ append_assoc kept taken ys ∙ ap (λ l. kept ++ l) (sym is)
