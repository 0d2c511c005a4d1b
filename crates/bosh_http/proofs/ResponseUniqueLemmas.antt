-- One stream is read as one response, or is none in one way.
use Rattle.std.proofs.Common.{◌≡◌, ℕ, ◌+◌, List, [], ◌++◌, true, false, length, take, inl, inr, sym, ◌∙◌, ap, ap₂, subst, arith, append_assoc}
use Rattle.httparse.specs.Grammar.{ResponseHead, print_response, status_code, ReadsResponse, HasNoResponse}
use Rattle.httparse.proofs.GrammarLemmas.{response_unique}
use Rattle.bosh_http.specs.Message.{longest_head}
use Rattle.bosh_http.specs.Response.{is_bad, response_fields, response_length, BeginsWithResponse, IsResponseMessage, BeginsNoResponse, HasBadHead, IsBadStream, EndsEarly}
use Rattle.bosh_http.proofs.UniqueLemmas.{short_front}

true_false : ¬ (true ≡ false)
true_false eq = cc eq

-- the parts of two responses at the front of one stream
pub one_response : (stream content content' : List ℕ) (count count' status status' : ℕ) → IsResponseMessage stream count status content → IsResponseMessage stream count' status' content' → (count ≡ count') × (status ≡ status') × (content ≡ content')
one_response stream content content' count count' status status' x y =
    let same = response_unique stream x.head y.head x.rest y.rest x.begins.0 y.begins.0 in (
      x.count_is ∙ ap (λ h. length (print_response h) + response_length h) same.0 ∙ sym y.count_is,
      x.status_is ∙ ap status_code same.0 ∙ sym y.status_is,
      x.content_is ∙ ap₂ (λ h r. take (response_length h) r) same.0 same.1 ∙ sym y.content_is,
    )

-- a head within the limit stands in the first bytes too
head_in_front : (stream : List ℕ) (head : ResponseHead) (rest : List ℕ) → BeginsWithResponse stream head rest → ¬ (HasNoResponse (take longest_head stream))
head_in_front stream head rest (reads, short) none =
    let front = short_front (print_response head) rest short in
    none head front.0 (reads.0, ap (take longest_head) reads.1 ∙ front.1)

never_head : (stream : List ℕ) (head : ResponseHead) (rest : List ℕ) → BeginsWithResponse stream head rest → ¬ (BeginsNoResponse stream)
never_head stream head rest begins (front, more, is, short, never) = never more head rest (subst (λ b. ReadsResponse b head rest) is begins.0)

bad_head : (stream : List ℕ) (head : ResponseHead) (rest : List ℕ) → BeginsWithResponse stream head rest → is_bad (status_code head) (response_fields head) ≡ false → ¬ (HasBadHead stream)
bad_head stream head rest begins good (head', rest', begins', bad) =
    let same = response_unique stream head head' rest rest' begins.0 begins'.0 in
    true_false (sym bad ∙ ap (λ h. is_bad (status_code h) (response_fields h)) (sym same.0) ∙ good)

-- a good head is at the front of no bad stream
good_or_bad : (stream : List ℕ) (head : ResponseHead) (rest : List ℕ) → BeginsWithResponse stream head rest → is_bad (status_code head) (response_fields head) ≡ false → ¬ (IsBadStream stream)
good_or_bad stream head rest begins good (inl never) = never_head stream head rest begins never
good_or_bad stream head rest begins good (inr (inl (long, none))) = head_in_front stream head rest begins none
good_or_bad stream head rest begins good (inr (inr bad)) = bad_head stream head rest begins good bad

pub response_or_bad : (stream content : List ℕ) (count status : ℕ) → IsResponseMessage stream count status content → ¬ (IsBadStream stream)
response_or_bad stream content count status x bad = good_or_bad stream x.head x.rest x.begins x.good bad

pub response_or_early : (stream content : List ℕ) (count status : ℕ) → IsResponseMessage stream count status content → ¬ (EndsEarly stream)
response_or_early stream content count status x (inl (short, begun)) = begun.0 x.head x.rest x.begins.0
response_or_early stream content count status x (inr (head, rest, begins, good, short)) =
    let same = response_unique stream x.head head x.rest rest x.begins.0 begins.0 in
    absurd (omega (arith, x.whole, short, ap response_length same.0, ap length same.1))

pub bad_or_early : (stream : List ℕ) → IsBadStream stream → ¬ (EndsEarly stream)
bad_or_early stream bad (inr (head, rest, begins, good, short)) = good_or_bad stream head rest begins good bad
bad_or_early stream (inl (front, rest, is, short, never)) (inl (less, (none, (more, head, reads)))) =
    never (rest ++ more) head [] (subst (λ b. ReadsResponse b head []) (ap (λ s. s ++ more) is ∙ append_assoc front rest more) reads)
bad_or_early stream (inr (inl (long, none))) (inl (less, begun)) = absurd (omega (arith, long, less))
bad_or_early stream (inr (inr (head, rest, begins, bad))) (inl (less, begun)) = begun.0 head rest begins.0
