-- One stream is answered in one way.
use Rattle.std.proofs.Common.{◌≡◌, ℕ, ◌+◌, ◌-◌, ◌<◌, ◌≤◌, ◌⊎◌, List, [], ◌∷◌, ◌++◌, Bool, true, Some, None, length, take, inl, inr, refl, sym, ◌∙◌, ap, ap₂, subst, arith, append_assoc, append-nil}
use Rattle.std.proofs.Math.Seq.{take-append_seam, drop-append_seam}
use Rattle.std.proofs.lemmas.List.Elements.{All-nil, All-cons, All-take}
use Rattle.std.proofs.lemmas.List.{take-append-drop, take-take, drop-take}
use Rattle.std.proofs.lemmas.Str.{IsUtf8-from_ascii}
use Rattle.std.proofs.lemmas.Str.Ascii.{IsAscii-cons, IsAscii-nil}
use Rattle.httparse.specs.Grammar.{LineEnd, lf, print_blank, AllPass, is_uri_byte, IsToken, IsField, RequestHead, print_request, print_version, IsRequestHead, ReadsRequest, HasNoRequest, NeverHasRequest, EndsInTarget}
use Rattle.httparse.proofs.GrammarLemmas.{request_unique}
use Rattle.bosh_http.specs.Message.{longest_head, content_length, head_refusal, BeginsWith, BeginsNoHead, IsHeadBegun, EndsInContent, HasRefusedHead, IsRefused, IsRequestMessage}
use Rattle.bosh_http.specs.declared.refusal.HttpRefusal.{HttpRefusal}
use Rattle.bosh_http.specs.declared.refusal.HttpRefusal.TheVariants.{Cut, Malformed, HeadTooLarge, BadHost, Get, Method, Path, Transfer, Encoding, NoLength, BadLength, TooLong}
use Rattle.bosh_http.proofs.MessageLemmas.{one_refusal, served_or_refused}

-- one of two fronts of a list is a front of the other
abbrev Overlap : List ℕ → List ℕ → List ℕ → List ℕ → Type 0
Overlap a b c d = ((q : List ℕ) × (c ≡ a ++ q)) ⊎ ((q : List ℕ) × (a ≡ c ++ q) × (d ≡ q ++ b))

overlap_step : (x y : ℕ) (a b c d : List ℕ) → x ≡ y → Overlap a b c d → Overlap (x ∷ a) b (y ∷ c) d
overlap_step x y a b c d same (inl (q, is)) = inl (q, ap₂ (λ n l. n ∷ l) (sym same) is)
overlap_step x y a b c d same (inr (q, is, rest)) = inr (q, ap₂ (λ n l. n ∷ l) same is, rest)

cons_same : (x y : ℕ) (xs ys : List ℕ) → x ∷ xs ≡ y ∷ ys → (x ≡ y) × (xs ≡ ys)
cons_same x y xs ys eq = (cc eq, cc eq)

overlap : (a b c d : List ℕ) → a ++ b ≡ c ++ d → Overlap a b c d
overlap [] b c d is = inl (c, refl)
overlap (x ∷ a) b [] d is = inr (x ∷ a, refl, sym is)
overlap (x ∷ a) b (y ∷ c) d is =
    let same = cons_same x y (a ++ b) (c ++ d) is in
    overlap_step x y a b c d same.0 (overlap a b c d same.1)

-- what makes empty lines and a method a head
abbrev ending : List ℕ
ending = (32 ∷ 47 ∷ []) ++ ((32 ∷ print_version 1) ++ ((10 ∷ []) ++ (10 ∷ [])))

abbrev head_with : List LineEnd → List ℕ → RequestHead
head_with blank method = record { blank = blank; method = method; target = 47 ∷ []; minor = 1; line_end = lf; fields = []; last = lf }

is_head : (blank : List LineEnd) (method : List ℕ) → IsToken method → IsRequestHead (head_with blank method)
is_head blank method token = record {
  method = token;
  target = (omega arith, All-cons (λ b. is_uri_byte b ≡ true) 47 [] refl (All-nil _));
  target_text = IsUtf8-from_ascii _ (IsAscii-cons 47 [] (omega arith) IsAscii-nil);
  minor = omega arith;
  fields = All-nil IsField;
}

regroup : (p m a b c d : List ℕ) → p ++ m ++ a ++ b ++ c ++ d ≡ (p ++ m) ++ (a ++ (b ++ (c ++ d)))
regroup p m a b c d = simp append_assoc

text_of : (blank : List LineEnd) (method : List ℕ) → print_request (head_with blank method) ≡ (print_blank blank ++ method) ++ ending
unfolding print_request
text_of blank method = regroup (print_blank blank) method (32 ∷ 47 ∷ []) (32 ∷ print_version 1) (10 ∷ []) (10 ∷ [])

-- some bytes can follow to make it a head
abbrev Completes : List ℕ → Type 0
Completes front = (more : List ℕ) × (head : RequestHead) × ReadsRequest (front ++ more) head []

completed : (front q : List ℕ) (blank : List LineEnd) (method : List ℕ) → IsToken method → print_blank blank ++ method ≡ front ++ q → Completes front
completed front q blank method token is = (
  q ++ ending,
  head_with blank method,
  (
    is_head blank method token,
    sym (append_assoc front q ending) ∙ ap (λ l. l ++ ending) (sym is) ∙ sym (text_of blank method) ∙ sym (append-nil (print_request (head_with blank method))),
  ),
)

-- a front of bytes that end inside a target ends inside it too, or can become a head
target_front : (front rest : List ℕ) → EndsInTarget (front ++ rest) → EndsInTarget front ⊎ Completes front
target_front front rest (blank, method, target, token, pass, is) = cases (overlap front rest (print_blank blank ++ method) (32 ∷ target) is)
  where
    cases : Overlap front rest (print_blank blank ++ method) (32 ∷ target) → EndsInTarget front ⊎ Completes front
    cases (inl (q, before)) = inr (completed front q blank method token before)
    cases (inr ([], same, after)) = inr (completed front [] blank method token (sym (append-nil (print_blank blank ++ method)) ∙ sym same ∙ sym (append-nil front)))
    cases (inr (x ∷ q, same, after)) =
        let parts = cons_same 32 x target (q ++ rest) after in
        let prefix : AllPass is_uri_byte q = subst (AllPass is_uri_byte) (ap (take (length q)) parts.1 ∙ take-append_seam q rest) (All-take (λ b. is_uri_byte b ≡ true) (length q) target pass) in
        inl (blank, method, q, token, prefix, same ∙ ap (λ n. (print_blank blank ++ method) ++ n ∷ q) (sym parts.0))

-- what begins no head begins none with more
pub no_begun : (front rest : List ℕ) → NeverHasRequest front → ¬ (EndsInTarget front) → ¬ (IsHeadBegun (front ++ rest))
no_begun front rest never outside (none, inl (more, head, reads)) = never (rest ++ more) head [] (subst (λ b. ReadsRequest b head []) (append_assoc front rest more) reads)
no_begun front rest never outside (none, inr ends) = cases (target_front front rest ends)
  where
    cases : EndsInTarget front ⊎ Completes front → ⊥
    cases (inl inside) = outside inside
    cases (inr (more, head, reads)) = never more head [] reads

-- ---- the facts of which two never hold of one stream

-- the front of a stream within the limit
pub short_front : (front rest : List ℕ) → length front ≤ longest_head → (more : List ℕ) × (take longest_head (front ++ rest) ≡ front ++ more)
short_front front rest short = (
  take (longest_head - length front) rest,
  ap (λ n. take n (front ++ rest)) parts ∙ front_more front rest (longest_head - length front),
)
  where
    parts : longest_head ≡ length front + (longest_head - length front)
    parts = omega (arith, short)

    front_more : (xs ys : List ℕ) (n : ℕ) → take (length xs + n) (xs ++ ys) ≡ xs ++ take n ys
    front_more xs ys n = sym (take-append-drop (length xs) (take (length xs + n) (xs ++ ys))) ∙ ap₂ (λ a b. a ++ b) (take-take (length xs) (length xs + n) (xs ++ ys) (omega arith) ∙ take-append_seam xs ys) (drop-take (length xs) n (xs ++ ys) ∙ ap (take n) (drop-append_seam xs ys))

-- a head within the limit stands in the first bytes too
head_in_front : (stream : List ℕ) (head : RequestHead) (rest : List ℕ) → BeginsWith stream head rest → ¬ (HasNoRequest (take longest_head stream))
head_in_front stream head rest (reads, short) none =
    let front = short_front (print_request head) rest short in
    none head front.0 (reads.0, ap (take longest_head) reads.1 ∙ front.1)

-- what begins no head begins none
never_head : (stream : List ℕ) (head : RequestHead) (rest : List ℕ) → BeginsWith stream head rest → ¬ (BeginsNoHead stream)
never_head stream head rest begins (front, more, is, short, never, outside) = never more head rest (subst (λ b. ReadsRequest b head rest) is begins.0)

never_begun : (stream : List ℕ) → BeginsNoHead stream → ¬ (IsHeadBegun stream)
never_begun stream (front, rest, is, short, never, outside) begun = no_begun front rest never outside (subst IsHeadBegun is begun)

never_long : (stream : List ℕ) → BeginsNoHead stream → ¬ (IsHeadBegun (take longest_head stream))
never_long stream (front, rest, is, short, never, outside) begun =
    let more = short_front front rest short in
    no_begun front more.0 never outside (subst IsHeadBegun (ap (take longest_head) is ∙ more.1) begun)

-- ---- what a refusal tells

abbrev IsCutShort : List ℕ → Type 0
IsCutShort stream = ((length stream < longest_head) × IsHeadBegun stream) ⊎ EndsInContent stream

abbrev IsTooLong : List ℕ → Type 0
IsTooLong stream = (longest_head ≤ length stream) × IsHeadBegun (take longest_head stream)

abbrev Tells : List ℕ → HttpRefusal → Type 0
Tells stream refusal = ((refusal ≡ Cut (length stream)) × IsCutShort stream) ⊎ (((refusal ≡ Malformed) × BeginsNoHead stream) ⊎ (((refusal ≡ HeadTooLarge) × IsTooLong stream) ⊎ HasRefusedHead stream refusal))

cut_short : (stream : List ℕ) (count : ℕ) → ((count < longest_head) × IsHeadBegun stream) ⊎ EndsInContent stream → count ≡ length stream → IsCutShort stream
cut_short stream count (inl (short, begun)) is = inl (subst (λ n. n < longest_head) is short, begun)
cut_short stream count (inr ends) is = inr ends

tells : (stream : List ℕ) (refusal : HttpRefusal) → IsRefused stream refusal → Tells stream refusal
tells stream (Cut count) (is, some, cut) = inl (ap (λ n. Cut n) is, cut_short stream count cut is)
tells stream Malformed is = inr (inl (refl, is))
tells stream HeadTooLarge (inl long) = inr (inr (inl (refl, long)))
tells stream HeadTooLarge (inr refused) = inr (inr (inr refused))
tells stream BadHost is = inr (inr (inr is))
tells stream Get is = inr (inr (inr is))
tells stream Method is = inr (inr (inr is))
tells stream Path is = inr (inr (inr is))
tells stream Transfer is = inr (inr (inr is))
tells stream Encoding is = inr (inr (inr is))
tells stream NoLength is = inr (inr (inr is))
tells stream BadLength is = inr (inr (inr is))
tells stream TooLong is = inr (inr (inr is))

-- a head that is whole is in no other case
head_alone : (stream : List ℕ) (head : RequestHead) (rest : List ℕ) → BeginsWith stream head rest → ¬ (IsHeadBegun stream)
head_alone stream head rest begins begun = begun.0 head rest begins.0

cut_or_never : (stream : List ℕ) → IsCutShort stream → ¬ (BeginsNoHead stream)
cut_or_never stream (inl (short, begun)) never = never_begun stream never begun
cut_or_never stream (inr (head, rest, begins, served, short)) never = never_head stream head rest begins never

cut_or_long : (stream : List ℕ) → IsCutShort stream → ¬ (IsTooLong stream)
cut_or_long stream (inl (short, begun)) (long, more) = absurd (omega (arith, short, long))
cut_or_long stream (inr (head, rest, begins, served, short)) (long, more) = head_in_front stream head rest begins more.0

cut_or_refused : (stream : List ℕ) (refusal : HttpRefusal) → IsCutShort stream → ¬ (HasRefusedHead stream refusal)
cut_or_refused stream refusal (inl (short, begun)) (head, rest, begins, refused) = head_alone stream head rest begins begun
cut_or_refused stream refusal (inr (head, rest, begins, served, short)) (head', rest', begins', refused) =
    let same = request_unique stream head head' rest rest' begins.0 begins'.0 in
    none_some refusal (sym served ∙ ap head_refusal same.0 ∙ refused)
  where
    none_some : (a : HttpRefusal) → ¬ (None ≡ Some a)
    none_some a eq = cc eq

same_refusal : (stream : List ℕ) (a b : HttpRefusal) → Tells stream a → Tells stream b → a ≡ b
same_refusal stream a b (inl (x, cut)) (inl (y, cut')) = x ∙ sym y
same_refusal stream a b (inl (x, cut)) (inr (inl (y, never))) = absurd (cut_or_never stream cut never)
same_refusal stream a b (inl (x, cut)) (inr (inr (inl (y, long)))) = absurd (cut_or_long stream cut long)
same_refusal stream a b (inl (x, cut)) (inr (inr (inr refused))) = absurd (cut_or_refused stream b cut refused)
same_refusal stream a b (inr (inl (x, never))) (inl (y, cut)) = absurd (cut_or_never stream cut never)
same_refusal stream a b (inr (inl (x, never))) (inr (inl (y, never'))) = x ∙ sym y
same_refusal stream a b (inr (inl (x, never))) (inr (inr (inl (y, long)))) = absurd (never_long stream never long.1)
same_refusal stream a b (inr (inl (x, never))) (inr (inr (inr (head, rest, begins, refused)))) = absurd (never_head stream head rest begins never)
same_refusal stream a b (inr (inr (inl (x, long)))) (inl (y, cut)) = absurd (cut_or_long stream cut long)
same_refusal stream a b (inr (inr (inl (x, long)))) (inr (inl (y, never))) = absurd (never_long stream never long.1)
same_refusal stream a b (inr (inr (inl (x, long)))) (inr (inr (inl (y, long')))) = x ∙ sym y
same_refusal stream a b (inr (inr (inl (x, long)))) (inr (inr (inr (head, rest, begins, refused)))) = absurd (head_in_front stream head rest begins long.1.0)
same_refusal stream a b (inr (inr (inr refused))) (inl (y, cut)) = absurd (cut_or_refused stream a cut refused)
same_refusal stream a b (inr (inr (inr (head, rest, begins, refused)))) (inr (inl (y, never))) = absurd (never_head stream head rest begins never)
same_refusal stream a b (inr (inr (inr (head, rest, begins, refused)))) (inr (inr (inl (y, long)))) = absurd (head_in_front stream head rest begins long.1.0)
same_refusal stream a b (inr (inr (inr refused))) (inr (inr (inr refused'))) = one_refusal stream a b refused refused'

pub refused_once : (stream : List ℕ) (refusal refusal' : HttpRefusal) → IsRefused stream refusal → IsRefused stream refusal' → refusal ≡ refusal'
refused_once stream refusal refusal' x y = same_refusal stream refusal refusal' (tells stream refusal x) (tells stream refusal' y)

-- a message is not refused
message_tells : (stream content : List ℕ) (count : ℕ) (closing : Bool) (refusal : HttpRefusal) → IsRequestMessage stream count content closing → ¬ (Tells stream refusal)
message_tells stream content count closing refusal x (inl (is, inl (short, begun))) = head_alone stream x.head x.rest x.begins begun
message_tells stream content count closing refusal x (inl (is, inr (head, rest, begins, served, short))) =
    let same = request_unique stream x.head head x.rest rest x.begins.0 begins.0 in
    absurd (omega (arith, x.whole, short, ap content_length same.0, ap length same.1))
message_tells stream content count closing refusal x (inr (inl (is, never))) = never_head stream x.head x.rest x.begins never
message_tells stream content count closing refusal x (inr (inr (inl (is, long)))) = head_in_front stream x.head x.rest x.begins long.1.0
message_tells stream content count closing refusal x (inr (inr (inr refused))) = served_or_refused stream content count closing refusal x refused

pub message_or_refused : (stream content : List ℕ) (count : ℕ) (closing : Bool) (refusal : HttpRefusal) → IsRequestMessage stream count content closing → ¬ (IsRefused stream refusal)
message_or_refused stream content count closing refusal x refused = message_tells stream content count closing refusal x (tells stream refusal refused)
