-- How the value of each attribute is read; none where it is out of form.
use Rattle.std.specs.Prelude.{ℕ, ◌+◌, ◌==◌, ◌&&◌, ◌||◌, nat_le, nat_lt, Bool, true, false, List, Option, None, Some, length, take, drop, codes, if◌then◌else◌}
use Rattle.std.specs.List.{position}
use Rattle.std.specs.Option.{option_zip}
use Rattle.std.specs.Str.{all_ascii_digits, bytes_eq}
use Rattle.bosh_types.specs.Decimal.{number_after}
use Rattle.bosh_types.specs.Rid.{rid_of}

-- the namespace of the body, XEP-0124 section 6
unfoldable pub is_httpbind : List ℕ → Bool
is_httpbind text = bytes_eq text (codes "http://jabber.org/protocol/httpbind")

-- whether the body says that it is in the namespace
abbrev pub says_httpbind : Option (List ℕ) → Bool
says_httpbind None = false
says_httpbind (Some text) = is_httpbind text

-- a number is 1 to 9 ASCII digits
abbrev pub is_number : List ℕ → Bool
is_number text = (nat_le 1 (length text) && nat_le (length text) 9) && all_ascii_digits text

-- `wait` and `hold`, XEP-0124 section 7.1
unfoldable pub number_of : List ℕ → Option ℕ
number_of text = if is_number text then Some (number_after 0 text) else None

abbrev pub unless_zero : Option ℕ → Option ℕ
unless_zero None = None
unless_zero (Some n) = if n == 0 then None else Some n

-- `pause`, XEP-0124 section 10: a number that isn't 0
unfoldable pub pause_of : List ℕ → Option ℕ
pause_of text = unless_zero (number_of text)

-- `ver`, XEP-0124 section 7.1: two numbers with a full stop between them
unfoldable pub version_of : List ℕ → Option (ℕ × ℕ)
version_of text = elim (position (λ byte. byte == 46) text) [ None ↦ None | Some i ↦ option_zip (number_of (take i text)) (number_of (drop (i + 1) text)) ]

-- `ack` of a creation, XEP-0124 section 9: it says that the client wants acknowledgements
unfoldable pub wish_of : List ℕ → Option Bool
wish_of text = if bytes_eq text (codes "1") then Some true else None

abbrev pub below : ℕ → Option ℕ → Option ℕ
below rid None = None
below rid (Some ack) = if nat_lt ack rid then Some ack else None

-- `ack` of a later request, XEP-0124 section 9: a request id lower than its own
unfoldable pub ack_of : ℕ → List ℕ → Option ℕ
ack_of rid text = below rid (rid_of text)

-- `type` of a later request, XEP-0124 section 13
unfoldable pub terminate_of : List ℕ → Option Bool
terminate_of text = if bytes_eq text (codes "terminate") then Some true else None

-- `type` of a creation: none is in form
abbrev pub no_type_of : List ℕ → Option Bool
no_type_of text = None

-- `xmpp:restart`, XEP-0206, with the four forms of a boolean of XML Schema
unfoldable pub flag_of : List ℕ → Option Bool
flag_of text =
    if bytes_eq text (codes "true") || bytes_eq text (codes "1") then Some true
    else if bytes_eq text (codes "false") || bytes_eq text (codes "0") then Some false
    else None
