-- What the bytes at the front of a stream tell.
use Rattle.std.proofs.Common.{◌≡◌, ℕ, ◌+◌, ◌*◌, ◌≤◌, nat_lt, List, [], ◌∷◌, ◌++◌, Bool, true, false, Option, Some, None, All, if◌then◌else◌, length, map, take, drop, inl, inr, refl, sym, ◌∙◌, ap, subst, arith, add-one, append_assoc, append-nil, length-append, flat_map}
use Rattle.std.proofs.lemmas.Bool.Decides.{nat_tests}
use Rattle.std.proofs.lemmas.List.{take-append-le}
use Rattle.std.proofs.lemmas.List.Elements.{All-head, All-tail}
use Rattle.httparse.specs.Grammar.{LineEnd, crlf, lf, print_end, Field, IsField, print_field, print_section, RequestHead, print_request, ReadsRequest, NeverHasRequest}
use Rattle.httparse.specs.Spans.{RequestExceeds, IsRequestWithin, IsRequestOf, header_bytes, span_bytes}
use Rattle.httparse.specs.declared.spans.HeaderSpan.{HeaderSpan}
use Rattle.httparse.specs.declared.spans.RequestSpans.{RequestSpans}
use Rattle.httparse.proofs.GrammarLemmas.{ReadsRequest-append}
use Rattle.bosh_http.specs.Fields.{has_bad_length, lengths_of, first_length, is_closing}
use Rattle.bosh_http.specs.Judging.{IsServed, IsRefusedBy}
use Rattle.bosh_http.specs.Message.{longest_head, longest_content, content_length, fields_of, first_reason, reasons_of, refusal_of, BeginsWith, HasRefusedHead, BeginsNoHead, IsHeadBegun}
use Rattle.bosh_http.specs.Target.{ends_in_target}
use Rattle.bosh_http.specs.declared.refusal.HttpRefusal.{HttpRefusal}
use Rattle.bosh_http.specs.declared.refusal.HttpRefusal.TheVariants.{Cut, Malformed, HeadTooLarge, BadHost, Get, Method, Path, Transfer, Encoding, NoLength, BadLength, TooLong}
use Rattle.bosh_http.proofs.TargetLemmas.{in_target, not_in_target}

-- ---- bytes that no bytes can follow to make a head

pub hopeless_begun : (front : List ℕ) → NeverHasRequest front → ends_in_target front ≡ true → IsHeadBegun front
hopeless_begun front never ends = (
  λ head rest reads. never [] head rest (subst (λ bytes. ReadsRequest bytes head rest) (sym (append-nil front)) reads),
  inr (in_target front ends),
)

pub hopeless_refused : (front : List ℕ) → length front ≤ longest_head → NeverHasRequest front → ends_in_target front ≡ false → IsRefusedBy front Malformed
hopeless_refused front short never ends = (tt, (front, [], sym (append-nil front), short, never, not_in_target front ends))

-- ---- the first reason that holds

abbrev AllReasons : (HttpRefusal → Type 0) → List (Bool × HttpRefusal) → Type 0
AllReasons P [] = Unit {0}
AllReasons P (reason ∷ others) = P reason.1 × AllReasons P others

reason_step : (P : HttpRefusal → Type 0) (here : Bool) (reason refusal : HttpRefusal) (others : Option HttpRefusal) → P reason → (others ≡ Some refusal → P refusal) → (if here then Some reason else others) ≡ Some refusal → P refusal
reason_step P true reason refusal others p rest is = subst P (some_same reason refusal is) p
  where
    some_same : (a b : HttpRefusal) → Some a ≡ Some b → a ≡ b
    some_same a b eq = cc eq
reason_step P false reason refusal others p rest is = rest is

none_some : (refusal : HttpRefusal) → ¬ (None ≡ Some refusal)
none_some refusal eq = cc eq

reason_has : (P : HttpRefusal → Type 0) (reasons : List (Bool × HttpRefusal)) (refusal : HttpRefusal) → AllReasons P reasons → first_reason reasons ≡ Some refusal → P refusal
reason_has P [] refusal all is = absurd (none_some refusal is)
reason_has P (reason ∷ others) refusal all is = reason_step P reason.0 reason.1 refusal (first_reason others) all.0 (reason_has P others refusal all.1) is

abbrev AllOff : List (Bool × HttpRefusal) → Type 0
AllOff [] = Unit {0}
AllOff (reason ∷ others) = (reason.0 ≡ false) × AllOff others

off_step : (here : Bool) (reason : HttpRefusal) (others : Option HttpRefusal) → (if here then Some reason else others) ≡ None → (here ≡ false) × (others ≡ None)
off_step true reason others is = absurd (none_some reason (sym is))
off_step false reason others is = (refl, is)

all_off : (reasons : List (Bool × HttpRefusal)) → first_reason reasons ≡ None → AllOff reasons
all_off [] is = tt
all_off (reason ∷ others) is = let step = off_step reason.0 reason.1 (first_reason others) is in (step.0, all_off others step.1)

-- a head that is served states one length
length_is_good : (minor : ℕ) (method target : List ℕ) (fields : List (List ℕ × List ℕ)) → refusal_of minor method target fields ≡ None → has_bad_length fields ≡ false
unfolding refusal_of
length_is_good minor method target fields is = let off = all_off (reasons_of minor method target fields) is in off.1.1.1.1.1.1.1.1.0

-- and that it is short enough
length_is_short : (minor : ℕ) (method target : List ℕ) (fields : List (List ℕ × List ℕ)) → refusal_of minor method target fields ≡ None → first_length (lengths_of fields) ≤ longest_content
unfolding refusal_of
length_is_short minor method target fields is =
    let off = all_off (reasons_of minor method target fields) is in
    nat_short (first_length (lengths_of fields)) off.1.1.1.1.1.1.1.1.1.0
  where
    nat_short : (n : ℕ) → nat_lt longest_content n ≡ false → n ≤ longest_content
    nat_short n is = grind (arith, nat_tests)

-- the refusal of a head
refused_by : (stream : List ℕ) (minor : ℕ) (method target : List ℕ) (fields : List (List ℕ × List ℕ)) (refusal : HttpRefusal) → refusal_of minor method target fields ≡ Some refusal → HasRefusedHead stream refusal → IsRefusedBy stream refusal
unfolding refusal_of
refused_by stream minor method target fields refusal is =
    reason_has (λ r. HasRefusedHead stream r → IsRefusedBy stream r) (reasons_of minor method target fields) refusal
    (λ x. (tt, inr x), (λ x. (tt, x), (λ x. (tt, x), (λ x. (tt, x), (λ x. (tt, x), (λ x. (tt, x), (λ x. (tt, x), (λ x. (tt, x), (λ x. (tt, x), (λ x. (tt, x), tt)))))))))) is

-- ---- a whole head

-- what a whole head is, where these are its parts
record IsHeadOf (front : List ℕ) (spans : RequestSpans) (method target : List ℕ) (fields : List (List ℕ × List ℕ)) : Type 0 where
  pub head : RequestHead
  pub begins : BeginsWith front head (drop spans.len front)
  pub len : spans.len ≡ length (print_request head)
  pub version : spans.version ≡ head.minor
  pub method_is : method ≡ head.method
  pub target_is : target ≡ head.target
  pub fields_are : fields ≡ map Rattle.httparse.specs.Spans.name_and_value head.fields

head_of : (front : List ℕ) (all headers : List HeaderSpan) (spans : RequestSpans) (method target : List ℕ) → length front ≤ longest_head → IsRequestWithin front all spans → IsRequestOf front all spans
    → headers ≡ take spans.headers all → method ≡ span_bytes front spans.method → target ≡ span_bytes front spans.path → IsHeadOf front spans method target (map (header_bytes front) headers)
head_of front all headers spans method target short within (head, at) headers_are method_is target_is = record {
  head = head;
  begins = (at.reads, omega (arith, short, at.len, within.section.len_fits));
  len = at.len;
  version = at.version;
  method_is = method_is ∙ at.method;
  target_is = target_is ∙ at.path;
  fields_are = ap (map (header_bytes front)) headers_are ∙ at.fields;
}

pub whole_refused : (front : List ℕ) (all headers : List HeaderSpan) (spans : RequestSpans) (method target : List ℕ) (refusal : HttpRefusal) → length front ≤ longest_head → IsRequestWithin front all spans → IsRequestOf front all spans
    → headers ≡ take spans.headers all → method ≡ span_bytes front spans.method → target ≡ span_bytes front spans.path → Some refusal ≡ refusal_of spans.version method target (map (header_bytes front) headers) → IsRefusedBy front refusal
whole_refused front all headers spans method target refusal short within whole headers_are method_is target_is refused =
    let h = head_of front all headers spans method target short within whole headers_are method_is target_is in
    refused_by front spans.version method target (map (header_bytes front) headers) refusal (sym refused)
    (h.head, drop spans.len front, h.begins, (λ i. refusal_of (sym h.version i) (sym h.method_is i) (sym h.target_is i) (sym h.fields_are i)) ∙ sym refused)

pub whole_served : (front : List ℕ) (all headers : List HeaderSpan) (spans : RequestSpans) (method target : List ℕ) (content : ℕ) (closing : Bool) → length front ≤ longest_head → IsRequestWithin front all spans → IsRequestOf front all spans
    → headers ≡ take spans.headers all → method ≡ span_bytes front spans.method → target ≡ span_bytes front spans.path → None ≡ refusal_of spans.version method target (map (header_bytes front) headers)
    → (has_bad_length (map (header_bytes front) headers) ≡ false → content ≡ first_length (lengths_of (map (header_bytes front) headers)))
    → closing ≡ is_closing spans.version (map (header_bytes front) headers) → IsServed front spans.len content closing
whole_served front all headers spans method target content closing short within whole headers_are method_is target_is served content_is closing_is =
    let h = head_of front all headers spans method target short within whole headers_are method_is target_is in
    record {
      head = h.head;
      rest = drop spans.len front;
      begins = h.begins;
      served = (λ i. refusal_of (sym h.version i) (sym h.method_is i) (sym h.target_is i) (sym h.fields_are i)) ∙ sym served;
      start_is = h.len;
      content_is = content_is (length_is_good spans.version method target (map (header_bytes front) headers) (sym served)) ∙ ap (λ f. first_length (lengths_of f)) h.fields_are;
      closing_is = closing_is ∙ (λ i. is_closing (h.version i) (h.fields_are i));
    }

-- ---- the first 8192 bytes of more

pub begun_too_long : (bytes : List ℕ) → longest_head ≤ length bytes → IsHeadBegun (take longest_head bytes) → IsRefusedBy bytes HeadTooLarge
begun_too_long bytes long begun = (tt, inl (long, begun))

-- ---- no head of 8192 bytes has more fields than there is room for

pub end_size : (end : LineEnd) → 1 ≤ length (print_end end)
end_size crlf = omega arith
end_size lf = omega arith

field_size : (f : Field) → IsField f → 3 ≤ length (print_field f)
field_size f is =
    let outer = length-append (f.name ++ 58 ∷ f.raw) (print_end f.end) in
    let inner = length-append f.name (58 ∷ f.raw) in
    omega (arith, is.name.0, outer, inner, end_size f.end, add-one (length f.raw))

pub fields_size : (fields : List Field) → All IsField fields → 3 * length fields ≤ length (flat_map print_field fields)
fields_size [] all = omega arith
fields_size (f ∷ fields) all =
    let first = field_size f (All-head IsField f fields all) in
    let others = fields_size fields (All-tail IsField f fields all) in
    omega (arith, first, others, length-append (print_field f) (flat_map print_field fields), add-one (length fields))

pub longer : (front rest : List ℕ) → length rest ≤ length (front ++ rest)
longer front rest = omega (arith, length-append front rest)

head_size : (h : RequestHead) → All IsField h.fields → 3 * length h.fields ≤ length (print_request h)
unfolding print_request
head_size h all =
    let part : length (print_section h.fields h.last) ≤ length (print_request h) = longer _ (print_section h.fields h.last) in
    omega (arith, fields_size h.fields all, length-append (flat_map print_field h.fields) (print_end h.last), part)

pub no_overflow : (front : List ℕ) → length front ≤ longest_head → ¬ (RequestExceeds 2731 front)
no_overflow front short (begun, rest, is, head, reads, many) =
    let size : length begun + length rest ≤ longest_head = subst (λ n. n ≤ longest_head) (ap length is ∙ length-append begun rest) short in
    let text : length begun + 1 ≡ length (print_request head) = sym (length-append begun (10 ∷ [])) ∙ ap length (reads.1 ∙ append-nil (print_request head)) in
    absurd (omega (arith, size, text, many, head_size head reads.0.fields))

-- ---- more bytes follow

pub BeginsWith-append : (bytes : List ℕ) (head : RequestHead) (rest more : List ℕ) → BeginsWith bytes head rest → BeginsWith (bytes ++ more) head (rest ++ more)
BeginsWith-append bytes head rest more begins = (ReadsRequest-append bytes head rest more begins.0, begins.1)

pub IsServed-append : (bytes : List ℕ) (start content : ℕ) (closing : Bool) (more : List ℕ) → IsServed bytes start content closing → IsServed (bytes ++ more) start content closing
IsServed-append bytes start content closing more served = record {
  head = served.head;
  rest = served.rest ++ more;
  begins = BeginsWith-append bytes served.head served.rest more served.begins;
  served = served.served;
  start_is = served.start_is;
  content_is = served.content_is;
  closing_is = served.closing_is;
}

refused_head : (bytes : List ℕ) (refusal : HttpRefusal) (more : List ℕ) → HasRefusedHead bytes refusal → HasRefusedHead (bytes ++ more) refusal
refused_head bytes refusal more (head, rest, begins, refused) = (head, rest ++ more, BeginsWith-append bytes head rest more begins, refused)

no_head : (bytes more : List ℕ) → BeginsNoHead bytes → BeginsNoHead (bytes ++ more)
no_head bytes more (front, rest, is, short, never, ends) = (front, rest ++ more, ap (λ b. b ++ more) is ∙ append_assoc front rest more, short, never, ends)

pub long_begun : (bytes more : List ℕ) → longest_head ≤ length bytes → IsHeadBegun (take longest_head bytes) → (longest_head ≤ length (bytes ++ more)) × IsHeadBegun (take longest_head (bytes ++ more))
long_begun bytes more long begun = (
  omega (arith, long, length-append bytes more),
  subst IsHeadBegun (sym (take-append-le longest_head bytes more long)) begun,
)

pub IsRefusedBy-append : (bytes : List ℕ) (refusal : HttpRefusal) (more : List ℕ) → IsRefusedBy bytes refusal → IsRefusedBy (bytes ++ more) refusal
IsRefusedBy-append bytes (Cut count) more (settled, refused) = absurd settled
IsRefusedBy-append bytes Malformed more (settled, refused) = (tt, no_head bytes more refused)
IsRefusedBy-append bytes HeadTooLarge more (settled, inl (long, begun)) = (tt, inl (long_begun bytes more long begun))
IsRefusedBy-append bytes HeadTooLarge more (settled, inr refused) = (tt, inr (refused_head bytes HeadTooLarge more refused))
IsRefusedBy-append bytes BadHost more (settled, refused) = (tt, refused_head bytes BadHost more refused)
IsRefusedBy-append bytes Get more (settled, refused) = (tt, refused_head bytes Get more refused)
IsRefusedBy-append bytes Method more (settled, refused) = (tt, refused_head bytes Method more refused)
IsRefusedBy-append bytes Path more (settled, refused) = (tt, refused_head bytes Path more refused)
IsRefusedBy-append bytes Transfer more (settled, refused) = (tt, refused_head bytes Transfer more refused)
IsRefusedBy-append bytes Encoding more (settled, refused) = (tt, refused_head bytes Encoding more refused)
IsRefusedBy-append bytes NoLength more (settled, refused) = (tt, refused_head bytes NoLength more refused)
IsRefusedBy-append bytes BadLength more (settled, refused) = (tt, refused_head bytes BadLength more refused)
IsRefusedBy-append bytes TooLong more (settled, refused) = (tt, refused_head bytes TooLong more refused)

-- a message that is served is short
pub served_is_short : (bytes : List ℕ) (start content : ℕ) (closing : Bool) → IsServed bytes start content closing → start + content ≤ longest_head + longest_content
served_is_short bytes start content closing served =
    let h = served.head in
    let short : content_length h ≤ longest_content = length_is_short h.minor h.method h.target (fields_of h) served.served in
    omega (arith, served.begins.1, served.start_is, served.content_is, short)
