-- One stream has one message or one refusal at its front.
use Rattle.std.proofs.Common.{◌≡◌, ℕ, ◌+◌, List, Bool, None, Some, length, take, sym, ◌∙◌, ap, ap₂}
use Rattle.httparse.specs.Grammar.{print_request}
use Rattle.httparse.proofs.GrammarLemmas.{request_unique}
use Rattle.bosh_http.specs.Fields.{is_closing}
use Rattle.bosh_http.specs.Message.{IsRequestMessage, HasRefusedHead, head_refusal, content_length, fields_of}
use Rattle.bosh_http.specs.declared.refusal.HttpRefusal.{HttpRefusal}

-- the parts of two messages at the front of one stream
pub one_message : (stream content content' : List ℕ) (count count' : ℕ) (closing closing' : Bool) → IsRequestMessage stream count content closing → IsRequestMessage stream count' content' closing' → (count ≡ count') × (content ≡ content') × (closing ≡ closing')
one_message stream content content' count count' closing closing' x y =
    let same = request_unique stream x.head y.head x.rest y.rest x.begins.0 y.begins.0 in (
      x.count_is ∙ ap (λ h. length (print_request h) + content_length h) same.0 ∙ sym y.count_is,
      x.content_is ∙ ap₂ (λ h r. take (content_length h) r) same.0 same.1 ∙ sym y.content_is,
      x.closing_is ∙ ap (λ h. is_closing h.minor (fields_of h)) same.0 ∙ sym y.closing_is,
    )

-- two refusals of the head at the front of one stream
pub one_refusal : (stream : List ℕ) (refusal refusal' : HttpRefusal) → HasRefusedHead stream refusal → HasRefusedHead stream refusal' → refusal ≡ refusal'
one_refusal stream refusal refusal' (head, rest, begins, refused) (head', rest', begins', refused') =
    let same = request_unique stream head head' rest rest' begins.0 begins'.0 in
    some_same refusal refusal' (sym refused ∙ ap head_refusal same.0 ∙ refused')
  where
    some_same : (a b : HttpRefusal) → Some a ≡ Some b → a ≡ b
    some_same a b eq = cc eq

-- a message that is served has no refused head
pub served_or_refused : (stream content : List ℕ) (count : ℕ) (closing : Bool) (refusal : HttpRefusal) → IsRequestMessage stream count content closing → ¬ (HasRefusedHead stream refusal)
served_or_refused stream content count closing refusal x (head, rest, begins, refused) =
    let same = request_unique stream x.head head x.rest rest x.begins.0 begins.0 in
    none_some refusal (sym x.served ∙ ap head_refusal same.0 ∙ refused)
  where
    none_some : (a : HttpRefusal) → ¬ (None ≡ Some a)
    none_some a eq = cc eq
