-- Reading the next response.
use Rattle.std.proofs.Common.{◌≡◌, ◌≢◌, ℕ, ◌+◌, ◌-◌, ◌≤◌, ◌⊎◌, ◌==◌, Bool, true, false, if◌then◌else◌, List, [], ◌++◌, Option, None, Some, length, take, drop, inl, inr, sym, ◌∙◌, ap, ap₂, subst, arith, append_assoc, append-nil, length-append, refl}
use Rattle.std.proofs.Math.Seq.{drop-append_seam, drop-append-le}
use Rattle.std.proofs.lemmas.Bool.{eqb-true}
use Rattle.std.proofs.lemmas.Bool.Decides.{nat_tests}
use Rattle.std.proofs.lemmas.List.{take-append-le, nil_from_length}
use Rattle.std.specs.Prelude.{⊤}
use Rattle.std.specs.Io.KnownBytes.{prepend_known}
use Rattle.httparse.specs.Grammar.{print_response, HasNoResponse}
use Rattle.bosh_http.specs.Heading.{IsHeaded}
use Rattle.bosh_http.specs.Heads.{IsHeadless}
use Rattle.bosh_http.specs.Reader.{HasMessage, WantsContent, FrontBy, CameBy, CameOver}
use Rattle.bosh_http.specs.Reading.{IsAllOf}
use Rattle.bosh_http.specs.Response.{response_length, IsResponseMessage, IsBadStream, IsResponseBegun, EndsInResponse, EndsEarly}
use Rattle.bosh_http.specs.Responding.{FrontResponds, GivesNoResponse, RespondsBy, Responds, answered, front_response, response_of, ReadsBack}
use Rattle.bosh_http.specs.declared.reader.Came.{Came}
use Rattle.bosh_http.specs.declared.reader.Came.TheVariants as came
use Rattle.bosh_http.specs.declared.reader.Front.{Front}
use Rattle.bosh_http.specs.declared.reader.Front.TheVariants as front
use Rattle.bosh_http.specs.declared.responding.ResponseIn.{ResponseIn}
use Rattle.bosh_http.specs.declared.responding.ResponseIn.TheVariants.{Body, Status, Bad, End, ReadFault}
use Rattle.bosh_http.proofs.HeadingLemmas.{IsBadStream-append, BeginsWithResponse-append}

-- ---- a whole head, and its content

-- the rest of the bytes after the head
rest_of : (bytes : List ℕ) (start content status : ℕ) → (headed : IsHeaded bytes start content status) → (drop start bytes ≡ headed.rest) × (length bytes ≡ start + length headed.rest)
rest_of bytes start content status headed =
    let text = print_response headed.head in
    let parts : bytes ≡ text ++ headed.rest = headed.begins.0.1 in (
      ap₂ (λ n b. drop n b) headed.start_is parts ∙ drop-append_seam text headed.rest,
      ap length parts ∙ length-append text headed.rest ∙ ap (λ n. n + length headed.rest) (sym headed.start_is),
    )

-- the head is there
pub headed_is_there : (bytes : List ℕ) (start content status : ℕ) → IsHeaded bytes start content status → start ≤ length bytes
headed_is_there bytes start content status headed = omega (arith, (rest_of bytes start content status headed).1)

response_is : (bytes body : List ℕ) (start content status : ℕ) → IsHeaded bytes start content status → start + content ≤ length bytes → body ≡ take (start + content - start) (drop start bytes) → IsResponseMessage bytes (start + content) status body
response_is bytes body start content status headed whole body_is =
    let rest = rest_of bytes start content status headed in
    let size : start + content - start ≡ response_length headed.head = omega (arith, headed.content_is) in
    record {
      head = headed.head;
      rest = headed.rest;
      begins = headed.begins;
      good = headed.good;
      whole = omega (arith, whole, rest.1, headed.content_is);
      content_is = body_is ∙ ap₂ (λ n b. take n b) size rest.0;
      count_is = ap₂ (λ n m. n + m) headed.start_is headed.content_is;
      status_is = headed.status_is;
    }

-- ---- answers

all_before : (answer : ResponseIn) (seen kept' : List ℕ) (P Q : Type 0) → (P → Q) → RespondsBy seen kept' P answer → RespondsBy seen kept' Q answer
all_before (Body body) seen kept' P Q f by = by
all_before (Status status) seen kept' P Q f by = by
all_before Bad seen kept' P Q f by = by
all_before End seen kept' P Q f (early, all, kept) = (early, f all, kept)
all_before ReadFault seen kept' P Q f by = by

-- ---- what the reader of all kinds gives, as an answer

-- the stream ends inside the content
ends_inside : (bytes : List ℕ) → WantsContent IsHeaded bytes → EndsInResponse bytes
ends_inside bytes w =
    let rest = rest_of bytes w.start w.content w.said w.reads in
    (w.reads.head, w.reads.rest, w.reads.begins, w.reads.good, omega (arith, w.short, rest.1, w.reads.content_is))

pub gives_no_response : (is_all : Bool) (bytes : List ℕ) → IsHeadless HasNoResponse IsResponseBegun is_all bytes ⊎ WantsContent IsHeaded bytes → GivesNoResponse bytes
gives_no_response is_all bytes (inl headless) = inl (headless.short, headless.lacks)
gives_no_response is_all bytes (inr wants) = inr (ends_inside bytes wants)

pub ends_early : (bytes : List ℕ) → IsHeadless HasNoResponse IsResponseBegun true bytes ⊎ WantsContent IsHeaded bytes → EndsEarly bytes
ends_early bytes (inl headless) = inl (headless.short, headless.begins refl)
ends_early bytes (inr wants) = inr (ends_inside bytes wants)

message_by : (bytes body : List ℕ) (status : ℕ) (kept : List ℕ) (all : Type 0) → HasMessage IsHeaded bytes body status kept → RespondsBy bytes kept all (answered status body)
unfolding answered
message_by bytes body status kept all m = by_status (status == 200) refl
  where
    message : IsResponseMessage bytes (m.start + m.content) status body
    message = response_is bytes body m.start m.content status m.reads m.whole m.body_is

    by_status : (is_ok : Bool) → (status == 200) ≡ is_ok → RespondsBy bytes kept all (if is_ok then Body body else Status status)
    by_status true is = (m.start + m.content, subst (λ s. IsResponseMessage bytes (m.start + m.content) s body) (eqb-true status 200 is) message, m.kept_is)
    by_status false is = (λ ok. other status is ok, m.start + m.content, body, message, m.kept_is)
      where
        other : (n : ℕ) → (n == 200) ≡ false → n ≢ 200
        other n is ok = grind (arith, nat_tests)

pub responds_by : (seen kept : List ℕ) (all : Type 0) (what : Came ℕ ⊤) → CameBy IsHeaded (λ bytes fault. IsBadStream bytes) HasNoResponse IsResponseBegun seen kept all what → RespondsBy seen kept all (response_of what)
responds_by seen kept all (came.Message body status) by = message_by seen body status kept all by
responds_by seen kept all (came.Wrong fault) by = by
responds_by seen kept all came.Ended (ended, is, same) = (ends_early seen ended, is, same)
responds_by seen kept all came.Failed (failed, same) = (gives_no_response false seen failed, same)

pub responds_of : (left left' : Option (List ℕ)) (kept kept' : List ℕ) (what : Came ℕ ⊤) → CameOver IsHeaded (λ bytes fault. IsBadStream bytes) HasNoResponse IsResponseBegun left left' kept kept' what → Responds left left' kept kept' (response_of what)
responds_of left left' kept kept' what (taken, is, by) = (taken, is, responds_by (kept ++ taken) kept' (IsAllOf left taken) what by)

answered_is : (status : ℕ) (body : List ℕ) → answered status body ≢ ReadFault
unfolding answered
answered_is status body = by_status (status == 200)
  where
    by_status : (is_ok : Bool) → ¬ ((if is_ok then Body body else Status status) ≡ ReadFault)
    by_status true is = cc is
    by_status false is = cc is

pub front_responds : (seen kept : List ℕ) (what : Front ℕ ⊤) → FrontBy IsHeaded (λ bytes fault. IsBadStream bytes) (IsHeadless HasNoResponse IsResponseBegun false) seen kept what → FrontResponds seen kept (front_response what)
front_responds seen kept (front.Message body status) by = (message_by seen body status kept ⊥ by, answered_is status body)
front_responds seen kept (front.Wrong fault) by = (by, λ is. cc is)
front_responds seen kept front.More (wants, same) = (gives_no_response false seen wants, same)

-- only a failed link gives the answer that says so
pub response_fault : (what : Came ℕ ⊤) → response_of what ≡ ReadFault → what ≡ came.Failed
response_fault (came.Message body status) is = absurd (answered_is status body is)
response_fault (came.Wrong fault) is = cc is
response_fault came.Ended is = cc is
response_fault came.Failed is = refl

-- ---- the answer by the whole rest of the stream

pub response_more : (bytes content more : List ℕ) (count status : ℕ) → IsResponseMessage bytes count status content → IsResponseMessage (bytes ++ more) count status content × (count ≤ length bytes)
response_more bytes content more count status m =
    let text = print_response m.head in
    let size : length bytes ≡ length text + length m.rest = ap length m.begins.0.1 ∙ length-append text m.rest in (
      record {
        head = m.head;
        rest = m.rest ++ more;
        begins = BeginsWithResponse-append bytes m.head m.rest more m.begins;
        good = m.good;
        whole = omega (arith, m.whole, length-append m.rest more);
        content_is = m.content_is ∙ sym (take-append-le (response_length m.head) m.rest more m.whole);
        count_is = m.count_is;
        status_is = m.status_is;
      },
      omega (arith, size, m.whole, m.count_is),
    )

reads_told : (seen kept' rest : List ℕ) (answer : ResponseIn) → RespondsBy seen kept' (rest ≡ []) answer → ReadsBack (Some (seen ++ rest)) (Some (kept' ++ rest)) answer
reads_told seen kept' rest (Body body) (count, message, kept) =
    let m = response_more seen body rest count 200 message in
    (count, m.0, ap (λ k. k ++ rest) kept ∙ sym (drop-append-le count seen rest m.1))
reads_told seen kept' rest (Status status) (other, count, content, message, kept) =
    let m = response_more seen content rest count status message in
    (other, count, content, m.0, ap (λ k. k ++ rest) kept ∙ sym (drop-append-le count seen rest m.1))
reads_told seen kept' rest Bad (bad, kept) = (IsBadStream-append seen rest bad, ap (λ k. k ++ rest) kept)
reads_told seen kept' rest End (early, none, kept) =
    (subst EndsEarly (sym (append-nil seen) ∙ ap (λ r. seen ++ r) (sym none)) early, ap (λ k. k ++ rest) kept)
reads_told seen kept' rest ReadFault (nothing, kept) = ap (λ k. k ++ rest) kept

pub reads_back : (left left' : Option (List ℕ)) (kept kept' : List ℕ) (answer : ResponseIn) → Responds left left' kept kept' answer → ReadsBack (prepend_known kept left) (prepend_known kept' left') answer
reads_back None left' kept kept' answer by = tt
reads_back (Some xs) None kept kept' answer by = absurd by.1
reads_back (Some xs) (Some ys) kept kept' answer (taken, is, by) =
    subst (λ stream. ReadsBack (Some stream) (Some (kept' ++ ys)) answer) (append_assoc kept taken ys ∙ ap (λ l. kept ++ l) (sym is))
    (reads_told (kept ++ taken) kept' ys answer (all_before answer (kept ++ taken) kept' (taken ≡ xs) (ys ≡ []) none_left by))
  where
    none_left : taken ≡ xs → ys ≡ []
    none_left all = nil_from_length ys (omega (arith, ap length (all ∙ is), length-append taken ys))
