-- What is answered to a request that is refused.
use Rattle.std.specs.Prelude.{ℕ}
use Rattle.bosh_http.specs.declared.refusal.HttpRefusal.{HttpRefusal}
use Rattle.bosh_http.specs.declared.refusal.HttpRefusal.TheVariants.{Cut, Malformed, HeadTooLarge, BadHost, Get, Method, Path, Transfer, Encoding, NoLength, BadLength, TooLong}

-- the status of each refusal (RFC 9110, section 15.5, and RFC 6585, section 5)
abbrev pub status_of : HttpRefusal → ℕ
status_of (Cut n) = 400
status_of Malformed = 400
status_of HeadTooLarge = 431
status_of BadHost = 400
status_of Get = 405
status_of Method = 405
status_of Path = 404
status_of Transfer = 501
status_of Encoding = 415
status_of NoLength = 411
status_of BadLength = 400
status_of TooLong = 413
