-- What the bytes at the front of a stream of responses tell.
use Rattle.std.proofs.Common.{◌≡◌, ℕ, ◌+◌, ◌*◌, ◌≤◌, nat_lt, List, [], ◌∷◌, ◌++◌, Bool, true, false, All, if◌then◌else◌, length, map, take, drop, inl, inr, refl, sym, ◌∙◌, ap, subst, arith, append_assoc, append-nil, length-append, flat_map, true≢false}
use Rattle.std.proofs.lemmas.Bool.Decides.{nat_tests}
use Rattle.std.proofs.lemmas.List.{take-append-le}
use Rattle.httparse.specs.Grammar.{IsField, print_end, print_field, print_section, ResponseHead, print_response, status_code, HasNoResponse, NeverHasResponse}
use Rattle.httparse.specs.Spans.{ResponseExceeds, IsResponseWithin, IsResponseOf, header_bytes}
use Rattle.httparse.specs.declared.spans.HeaderSpan.{HeaderSpan}
use Rattle.httparse.specs.declared.spans.ResponseSpans.{ResponseSpans}
use Rattle.httparse.proofs.GrammarLemmas.{ReadsResponse-append}
use Rattle.bosh_http.specs.Fields.{has_too_many, has_transfer, has_no_length, has_bad_length, lengths_of, first_length}
use Rattle.bosh_http.specs.Message.{longest_head, longest_content}
use Rattle.bosh_http.specs.Response.{is_one_so, is_bad, response_fields, BeginsWithResponse, IsBadStream, IsResponseBegun}
use Rattle.bosh_http.specs.Heading.{IsHeaded}
use Rattle.bosh_http.proofs.JudgingLemmas.{fields_size, longer}

-- ---- a whole head

abbrev AllFalse : List Bool → Type 0
AllFalse [] = Unit {0}
AllFalse (fault ∷ others) = (fault ≡ false) × AllFalse others

false_step : (fault others : Bool) → (if fault then true else others) ≡ false → (fault ≡ false) × (others ≡ false)
false_step true others is = absurd (true≢false is)
false_step false others is = (refl, is)

all_false : (faults : List Bool) → is_one_so faults ≡ false → AllFalse faults
all_false [] is = tt
all_false (fault ∷ others) is = let step = false_step fault (is_one_so others) is in (step.0, all_false others step.1)

-- a head that is read has a status, and one length that is short enough
pub good_head : (code : ℕ) (fields : List (List ℕ × List ℕ)) → is_bad code fields ≡ false → (100 ≤ code) × (has_bad_length fields ≡ false) × (first_length (lengths_of fields) ≤ longest_content)
unfolding is_bad
good_head code fields is =
    let off = all_false (has_too_many fields ∷ nat_lt code 100 ∷ has_transfer fields ∷ has_no_length fields ∷ has_bad_length fields ∷ nat_lt longest_content (first_length (lengths_of fields)) ∷ []) is in
    (at_least code off.1.0, off.1.1.1.1.0, at_most (first_length (lengths_of fields)) off.1.1.1.1.1.0)
  where
    at_least : (n : ℕ) → nat_lt n 100 ≡ false → 100 ≤ n
    at_least n is = grind (arith, nat_tests)

    at_most : (n : ℕ) → nat_lt longest_content n ≡ false → n ≤ longest_content
    at_most n is = grind (arith, nat_tests)

record IsHeadAt (front : List ℕ) (spans : ResponseSpans) (fields : List (List ℕ × List ℕ)) : Type 0 where
  pub head : ResponseHead
  pub begins : BeginsWithResponse front head (drop spans.len front)
  pub len : spans.len ≡ length (print_response head)
  pub code_is : spans.code ≡ status_code head
  pub fields_are : fields ≡ response_fields head

head_at : (front : List ℕ) (all headers : List HeaderSpan) (spans : ResponseSpans) → length front ≤ longest_head → IsResponseWithin front all spans → IsResponseOf front all spans → headers ≡ take spans.headers all
    → IsHeadAt front spans (map (header_bytes front) headers)
head_at front all headers spans short within (head, at) headers_are = record {
  head = head;
  begins = (at.reads, omega (arith, short, at.len, within.section.len_fits));
  len = at.len;
  code_is = at.code;
  fields_are = ap (map (header_bytes front)) headers_are ∙ at.fields;
}

pub whole_bad : (front : List ℕ) (all headers : List HeaderSpan) (spans : ResponseSpans) → length front ≤ longest_head → IsResponseWithin front all spans → IsResponseOf front all spans → headers ≡ take spans.headers all
    → is_bad spans.code (map (header_bytes front) headers) ≡ true → IsBadStream front
whole_bad front all headers spans short within whole headers_are bad =
    let h = head_at front all headers spans short within whole headers_are in
    inr (inr (h.head, drop spans.len front, h.begins, (λ i. is_bad (sym h.code_is i) (sym h.fields_are i)) ∙ bad))

pub whole_good : (front : List ℕ) (all headers : List HeaderSpan) (spans : ResponseSpans) (content status : ℕ) → length front ≤ longest_head → IsResponseWithin front all spans → IsResponseOf front all spans → headers ≡ take spans.headers all
    → is_bad spans.code (map (header_bytes front) headers) ≡ false → (has_bad_length (map (header_bytes front) headers) ≡ false → content ≡ first_length (lengths_of (map (header_bytes front) headers)))
    → status ≡ spans.code → IsHeaded front spans.len content status
whole_good front all headers spans content status short within whole headers_are good content_is status_is =
    let h = head_at front all headers spans short within whole headers_are in
    let g = good_head spans.code (map (header_bytes front) headers) good in
    record {
      head = h.head;
      rest = drop spans.len front;
      begins = h.begins;
      good = (λ i. is_bad (sym h.code_is i) (sym h.fields_are i)) ∙ good;
      start_is = h.len;
      content_is = content_is g.1 ∙ ap (λ f. first_length (lengths_of f)) h.fields_are;
      status_is = status_is ∙ h.code_is;
    }

pub headed_is_short : (bytes : List ℕ) (start content status : ℕ) → IsHeaded bytes start content status → start + content ≤ longest_head + longest_content
headed_is_short bytes start content status headed =
    let g = good_head (status_code headed.head) (response_fields headed.head) headed.good in
    omega (arith, headed.begins.1, headed.start_is, headed.content_is, g.2)

-- ---- no head of 8192 bytes has more fields than there is room for

head_size : (h : ResponseHead) → All IsField h.fields → 3 * length h.fields ≤ length (print_response h)
unfolding print_response
head_size h all =
    let part : length (print_section h.fields h.last) ≤ length (print_response h) = longer _ (print_section h.fields h.last) in
    omega (arith, fields_size h.fields all, length-append (flat_map print_field h.fields) (print_end h.last), part)

pub no_response_overflow : (front : List ℕ) → length front ≤ longest_head → ¬ (ResponseExceeds 2731 front)
no_response_overflow front short (begun, rest, is, head, reads, many) =
    let size : length begun + length rest ≤ longest_head = subst (λ n. n ≤ longest_head) (ap length is ∙ length-append begun rest) short in
    let text : length begun + 1 ≡ length (print_response head) = sym (length-append begun (10 ∷ [])) ∙ ap length (reads.1 ∙ append-nil (print_response head)) in
    absurd (omega (arith, size, text, many, head_size head reads.0.fields))

pub never_bad : (front : List ℕ) → length front ≤ longest_head → NeverHasResponse front → IsBadStream front
never_bad front short never = inl (front, [], sym (append-nil front), short, never)

-- ---- more bytes follow

pub BeginsWithResponse-append : (bytes : List ℕ) (head : ResponseHead) (rest more : List ℕ) → BeginsWithResponse bytes head rest → BeginsWithResponse (bytes ++ more) head (rest ++ more)
BeginsWithResponse-append bytes head rest more begins = (ReadsResponse-append bytes head rest more begins.0, begins.1)

pub IsHeaded-append : (bytes : List ℕ) (start content status : ℕ) (more : List ℕ) → IsHeaded bytes start content status → IsHeaded (bytes ++ more) start content status
IsHeaded-append bytes start content status more headed = record {
  head = headed.head;
  rest = headed.rest ++ more;
  begins = BeginsWithResponse-append bytes headed.head headed.rest more headed.begins;
  good = headed.good;
  start_is = headed.start_is;
  content_is = headed.content_is;
  status_is = headed.status_is;
}

pub IsBadStream-append : (bytes more : List ℕ) → IsBadStream bytes → IsBadStream (bytes ++ more)
IsBadStream-append bytes more (inl (front, rest, is, short, never)) = inl (front, rest ++ more, ap (λ b. b ++ more) is ∙ append_assoc front rest more, short, never)
IsBadStream-append bytes more (inr (inl (long, none))) = inr (inl (
  omega (arith, long, length-append bytes more),
  subst HasNoResponse (sym (take-append-le longest_head bytes more long)) none,
))
IsBadStream-append bytes more (inr (inr (head, rest, begins, bad))) = inr (inr (head, rest ++ more, BeginsWithResponse-append bytes head rest more begins, bad))

pub long_bad : (bytes : List ℕ) → longest_head ≤ length bytes → IsResponseBegun (take longest_head bytes) → IsBadStream bytes
long_bad bytes long begun = inr (inl (long, begun.0))
