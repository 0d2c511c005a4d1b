-- What the bytes that have come of a stream tell.
use Rattle.std.specs.Prelude.{◌≡◌, ℕ, Bool, List, length, None}
use Rattle.httparse.specs.Grammar.{RequestHead, print_request}
use Rattle.bosh_http.specs.Fields.{is_closing}
use Rattle.bosh_http.specs.Message.{BeginsWith, head_refusal, content_length, fields_of, IsHeadBegun, IsRefused}
use Rattle.bosh_http.specs.declared.refusal.HttpRefusal.{HttpRefusal}
use Rattle.bosh_http.specs.declared.refusal.HttpRefusal.TheVariants.{Cut, Malformed, HeadTooLarge, BadHost, Get, Method, Path, Transfer, Encoding, NoLength, BadLength, TooLong}
use Rattle.bosh_http.specs.Heads.{TellsOf}
use Rattle.bosh_http.specs.declared.heads.Judged.{Judged}

-- the bytes begin with a head of so many bytes that is served, and so many bytes of content follow it
pub record IsServed (bytes : List ℕ) (start content : ℕ) (closing : Bool) : Type 0 where
  pub head : RequestHead
  pub rest : List ℕ
  pub begins : BeginsWith bytes head rest
  pub served : head_refusal head ≡ None
  pub start_is : start ≡ length (print_request head)
  pub content_is : content ≡ content_length head
  pub closing_is : closing ≡ is_closing head.minor (fields_of head)

-- whatever bytes follow, the refusal stays
abbrev pub IsSettled : HttpRefusal → Type 0
IsSettled (Cut count) = ⊥
IsSettled Malformed = Unit {0}
IsSettled HeadTooLarge = Unit {0}
IsSettled BadHost = Unit {0}
IsSettled Get = Unit {0}
IsSettled Method = Unit {0}
IsSettled Path = Unit {0}
IsSettled Transfer = Unit {0}
IsSettled Encoding = Unit {0}
IsSettled NoLength = Unit {0}
IsSettled BadLength = Unit {0}
IsSettled TooLong = Unit {0}

-- a stream that has this front is refused so, whatever follows
abbrev pub IsRefusedBy : List ℕ → HttpRefusal → Type 0
IsRefusedBy front refusal = IsSettled refusal × IsRefused front refusal

-- what these bytes at the front of a stream tell
abbrev pub TellsRequest : List ℕ → Judged Bool HttpRefusal → Type 0
TellsRequest = TellsOf IsServed IsRefusedBy IsHeadBegun
