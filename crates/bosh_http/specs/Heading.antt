-- What the bytes that have come of a stream of responses tell.
use Rattle.std.specs.Prelude.{◌≡◌, ℕ, false, List, length, ⊤}
use Rattle.httparse.specs.Grammar.{ResponseHead, print_response, status_code}
use Rattle.bosh_http.specs.Heads.{TellsOf}
use Rattle.bosh_http.specs.Response.{BeginsWithResponse, is_bad, response_fields, response_length, IsBadStream, IsResponseBegun}
use Rattle.bosh_http.specs.declared.heads.Judged.{Judged}

-- the bytes begin with the head of a response with this status, of so many bytes, and so many bytes of content follow it
pub record IsHeaded (bytes : List ℕ) (start content status : ℕ) : Type 0 where
  pub head : ResponseHead
  pub rest : List ℕ
  pub begins : BeginsWithResponse bytes head rest
  pub good : is_bad (status_code head) (response_fields head) ≡ false
  pub start_is : start ≡ length (print_response head)
  pub content_is : content ≡ response_length head
  pub status_is : status ≡ status_code head

-- what these bytes at the front of a stream tell
abbrev pub TellsResponse : List ℕ → Judged ℕ ⊤ → Type 0
TellsResponse = TellsOf IsHeaded (λ bytes fault. IsBadStream bytes) IsResponseBegun
