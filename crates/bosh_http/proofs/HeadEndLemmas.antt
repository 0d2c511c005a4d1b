-- Each head ends with an empty line after a line.
use Rattle.std.proofs.Common.{◌≡◌, ℕ, ◌+◌, ◌-◌, ◌<◌, ◌≤◌, ◌⊎◌, ◌||◌, Bool, true, false, List, [], ◌∷◌, ◌++◌, length, take, drop, inl, inr, refl, sym, ◌∙◌, ap, ap₂, subst, arith, append_assoc, append-nil, length-append}
use Rattle.std.proofs.Math.Seq.{take-append_seam, drop-append_seam}
use Rattle.std.proofs.lemmas.Bool.{cases_order}
use Rattle.std.proofs.lemmas.List.{take-append-drop, take-take, drop-take}
use Rattle.std.specs.List.{flat_map}
use Rattle.httparse.specs.Grammar.{LineEnd, crlf, lf, print_end, Field, print_field, print_blank, print_version, print_reason, RequestHead, print_request, HasNoRequest, ResponseHead, print_response, HasNoResponse}
use Rattle.bosh_http.specs.Scanning.{is_text_byte, has_text, EndsHead, NoHeadEnds}

text_right : (xs ys : List ℕ) → has_text ys ≡ true → has_text (xs ++ ys) ≡ true
text_right [] ys h = h
text_right (x ∷ xs) ys h = or_true (is_text_byte x) _ (text_right xs ys h)
  where
    or_true : (c d : Bool) → d ≡ true → (c || d) ≡ true
    or_true true d h = refl
    or_true false d h = h

text_left : (xs ys : List ℕ) → has_text xs ≡ true → has_text (xs ++ ys) ≡ true
text_left [] ys h = absurd (never h)
  where
    never : false ≡ true → ⊥
    never e = cc
text_left (x ∷ xs) ys h = or_left (is_text_byte x) (has_text xs) _ (text_left xs ys) h
  where
    or_left : (c d e : Bool) → (d ≡ true → e ≡ true) → (c || d) ≡ true → (c || e) ≡ true
    or_left true d e f h = refl
    or_left false d e f h = f h

-- a line with some text
abbrev EndsLine : List ℕ → Type 0
EndsLine bytes = (front : List ℕ) × (bytes ≡ front ++ 10 ∷ []) × (has_text front ≡ true)

line_end : (front : List ℕ) (end : LineEnd) → has_text front ≡ true → EndsLine (front ++ print_end end)
line_end front lf h = (front, refl, h)
line_end front crlf h = (front ++ 13 ∷ [], sym (append_assoc front (13 ∷ []) (10 ∷ [])), text_left front (13 ∷ []) h)

line_text : (bytes : List ℕ) → EndsLine bytes → has_text bytes ≡ true
line_text bytes (front, is, h) = ap has_text is ∙ text_left front (10 ∷ []) h

line_field : (front : List ℕ) (f : Field) → EndsLine front → EndsLine (front ++ print_field f)
line_field front f line =
    let body = f.name ++ 58 ∷ f.raw in
    subst EndsLine (append_assoc front body (print_end f.end)) (line_end (front ++ body) f.end (text_left front body (line_text front line)))

line_fields : (fields : List Field) (front : List ℕ) → EndsLine front → EndsLine (front ++ flat_map print_field fields)
line_fields [] front line = subst EndsLine (sym (append-nil front)) line
line_fields (f ∷ fields) front line =
    subst EndsLine (append_assoc front (print_field f) (flat_map print_field fields)) (line_fields fields (front ++ print_field f) (line_field front f line))

head_end : (bytes : List ℕ) (last : LineEnd) → EndsLine bytes → EndsHead (bytes ++ print_end last)
head_end bytes lf (front, is, h) = (front, h, inl (ap (λ b. b ++ 10 ∷ []) is ∙ append_assoc front (10 ∷ []) (10 ∷ [])))
head_end bytes crlf (front, is, h) = (front, h, inr (ap (λ b. b ++ 13 ∷ 10 ∷ []) is ∙ append_assoc front (10 ∷ []) (13 ∷ 10 ∷ [])))

-- a first line with some text, fields, and an empty line
section_end : (front : List ℕ) (end last : LineEnd) (fields : List Field) → has_text front ≡ true → EndsHead ((front ++ print_end end) ++ (flat_map print_field fields ++ print_end last))
section_end front end last fields h =
    subst EndsHead (append_assoc (front ++ print_end end) (flat_map print_field fields) (print_end last))
    (head_end ((front ++ print_end end) ++ flat_map print_field fields) last (line_fields fields (front ++ print_end end) (line_end front end h)))

pub request_ends : (h : RequestHead) → EndsHead (print_request h)
unfolding print_request
request_ends h = section_end _ h.line_end h.last h.fields (text_right (print_blank h.blank ++ h.method ++ 32 ∷ h.target) (32 ∷ print_version h.minor) refl)

pub response_ends : (h : ResponseHead) → EndsHead (print_response h)
unfolding print_response
response_ends h = section_end _ h.line_end h.last h.fields (text_left (print_blank h.blank ++ print_version h.minor ++ 32 ∷ h.digits) (print_reason h.reason) (text_right (print_blank h.blank ++ print_version h.minor) (32 ∷ h.digits) refl))

-- the first bytes of a list, which begins with these
first_bytes : (n : ℕ) (front rest : List ℕ) → length front ≤ n → take n (front ++ rest) ≡ front ++ take (n - length front) rest
first_bytes n front rest short =
    ap (λ m. take m (front ++ rest)) parts ∙ front_more front rest (n - length front)
  where
    parts : n ≡ length front + (n - length front)
    parts = omega (arith, short)

    front_more : (xs ys : List ℕ) (m : ℕ) → take (length xs + m) (xs ++ ys) ≡ xs ++ take m ys
    front_more xs ys m = sym (take-append-drop (length xs) (take (length xs + m) (xs ++ ys))) ∙ ap₂ (λ a b. a ++ b) (take-take (length xs) (length xs + m) (xs ++ ys) (omega arith) ∙ take-append_seam xs ys) (drop-take (length xs) m (xs ++ ys) ∙ ap (take m) (drop-append_seam xs ys))

-- where no head is whole in the first bytes and none ends after them, none is whole
pub no_request : (seen : ℕ) (bytes : List ℕ) → HasNoRequest (take seen bytes) → NoHeadEnds seen (length bytes) bytes → HasNoRequest bytes
no_request seen bytes none later h rest (is, e) = cases (cases_order (length (print_request h)) seen)
  where
    here : length (print_request h) ≤ seen → ⊥
    here short = none h (take (seen - length (print_request h)) rest) (is, ap (take seen) e ∙ first_bytes seen (print_request h) rest short)

    cases : (length (print_request h) ≡ seen) ⊎ ((length (print_request h) < seen) ⊎ (seen < length (print_request h))) → ⊥
    cases (inl same) = here (omega (arith, same))
    cases (inr (inl less)) = here (omega (arith, less))
    cases (inr (inr more)) = later (print_request h) rest e more (omega (arith, ap length e, length-append (print_request h) rest)) (request_ends h)

pub no_response : (seen : ℕ) (bytes : List ℕ) → HasNoResponse (take seen bytes) → NoHeadEnds seen (length bytes) bytes → HasNoResponse bytes
no_response seen bytes none later h rest (is, e) = cases (cases_order (length (print_response h)) seen)
  where
    here : length (print_response h) ≤ seen → ⊥
    here short = none h (take (seen - length (print_response h)) rest) (is, ap (take seen) e ∙ first_bytes seen (print_response h) rest short)

    cases : (length (print_response h) ≡ seen) ⊎ ((length (print_response h) < seen) ⊎ (seen < length (print_response h))) → ⊥
    cases (inl same) = here (omega (arith, same))
    cases (inr (inl less)) = here (omega (arith, less))
    cases (inr (inr more)) = later (print_response h) rest e more (omega (arith, ap length e, length-append (print_response h) rest)) (response_ends h)

-- where none is whole, none is whole in the first bytes
pub no_request_before : (seen : ℕ) (bytes : List ℕ) → HasNoRequest bytes → HasNoRequest (take seen bytes)
no_request_before seen bytes none h rest (is, e) =
    none h (rest ++ drop seen bytes) (is, sym (take-append-drop seen bytes) ∙ ap (λ b. b ++ drop seen bytes) e ∙ append_assoc (print_request h) rest (drop seen bytes))

pub no_response_before : (seen : ℕ) (bytes : List ℕ) → HasNoResponse bytes → HasNoResponse (take seen bytes)
no_response_before seen bytes none h rest (is, e) =
    none h (rest ++ drop seen bytes) (is, sym (take-append-drop seen bytes) ∙ ap (λ b. b ++ drop seen bytes) e ∙ append_assoc (print_response h) rest (drop seen bytes))

-- no bytes have no head
pub no_request_at_all : HasNoRequest []
no_request_at_all h rest (is, e) = some (request_ends h) (nothing (print_request h) rest e)
  where
    nothing : (xs ys : List ℕ) → [] ≡ xs ++ ys → length xs ≡ 0
    nothing xs ys e = omega (arith, ap length e, length-append xs ys)

    some : EndsHead (print_request h) → length (print_request h) ≡ 0 → ⊥
    some (front, text, inl is) none = omega (arith, none, ap length is, length-append front (10 ∷ 10 ∷ []))
    some (front, text, inr is) none = omega (arith, none, ap length is, length-append front (10 ∷ 13 ∷ 10 ∷ []))

pub no_response_at_all : HasNoResponse []
no_response_at_all h rest (is, e) = some (response_ends h) (nothing (print_response h) rest e)
  where
    nothing : (xs ys : List ℕ) → [] ≡ xs ++ ys → length xs ≡ 0
    nothing xs ys e = omega (arith, ap length e, length-append xs ys)

    some : EndsHead (print_response h) → length (print_response h) ≡ 0 → ⊥
    some (front, text, inl is) none = omega (arith, none, ap length is, length-append front (10 ∷ 10 ∷ []))
    some (front, text, inr is) none = omega (arith, none, ap length is, length-append front (10 ∷ 13 ∷ 10 ∷ []))
