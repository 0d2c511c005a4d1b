-- What the fields of a head say. A field is its name and its value without the white space around it.
use Rattle.std.specs.Prelude.{ℕ, ◌==◌, ◌&&◌, ◌||◌, not, nat_lt, nat_le, Bool, List, [], ◌∷◌, length, map, filter, codes}
use Rattle.std.specs.List.{list_all, list_any, slice_split}
use Rattle.std.specs.Char.{is_ascii_digit}
use Rattle.std.specs.Str.{str_eq_ignore_ascii_case}
use Rattle.std.specs.Str.Parse.{digits_value}
use Rattle.httparse.specs.Ascii.{comma}
use Rattle.httparse.specs.Grammar.{trim_ows}
use Rattle.httparse.specs.Spans.{header_bytes}
use Rattle.httparse.specs.declared.spans.HeaderSpan.{HeaderSpan}

-- the values of the fields of a name, which is compared without ASCII case (RFC 9110, section 5.1)
abbrev pub values_of : List ℕ → List (List ℕ × List ℕ) → List (List ℕ)
values_of name fields = map (λ field. field.1) (filter (λ field. str_eq_ignore_ascii_case name field.0) fields)

-- the same of fields that lie in these bytes
abbrev pub values_at : List ℕ → List ℕ → List HeaderSpan → List (List ℕ)
values_at bytes name headers = values_of name (map (header_bytes bytes) headers)

-- there are more fields than are read
abbrev pub has_too_many : List (List ℕ × List ℕ) → Bool
has_too_many fields = nat_lt 64 (length fields)

-- Host is missing in HTTP/1.1, or is there twice (RFC 9112, section 3.2)
abbrev pub has_bad_host : ℕ → List (List ℕ × List ℕ) → Bool
has_bad_host minor fields =
    let count = length (values_of (codes "host") fields) in
    (minor == 1 && count == 0) || nat_lt 1 count

-- the content comes in another framing (RFC 9112, section 6.1)
abbrev pub has_transfer : List (List ℕ × List ℕ) → Bool
has_transfer fields = nat_lt 0 (length (values_of (codes "transfer-encoding") fields))

-- the content is encoded (RFC 9110, section 8.4)
abbrev pub has_encoding : List (List ℕ × List ℕ) → Bool
has_encoding fields = list_any (λ value. not (str_eq_ignore_ascii_case (codes "identity") value)) (values_of (codes "content-encoding") fields)

-- the lengths that are stated (RFC 9110, section 8.6)
abbrev pub lengths_of : List (List ℕ × List ℕ) → List (List ℕ)
lengths_of fields = values_of (codes "content-length") fields

-- no length is stated
abbrev pub has_no_length : List (List ℕ × List ℕ) → Bool
has_no_length fields = length (lengths_of fields) == 0

-- 1 to 18 digits and nothing else
abbrev pub is_length : List ℕ → Bool
is_length value = nat_le 1 (length value) && nat_le (length value) 18 && list_all is_ascii_digit value

-- the number that the first one states
abbrev pub first_length : List (List ℕ) → ℕ
first_length [] = 0
first_length (value ∷ values) = digits_value 10 value

-- one isn't a number, or states another number than this
abbrev pub has_other_length : ℕ → List (List ℕ) → Bool
has_other_length number values = list_any (λ value. not (is_length value && digits_value 10 value == number)) values

-- one isn't a number, or two are not the same number (RFC 9112, section 6.3)
abbrev pub has_bad_length : List (List ℕ × List ℕ) → Bool
has_bad_length fields =
    let values = lengths_of fields in
    has_other_length (first_length values) values

-- the parts of a list (RFC 9110, section 5.6.1)
abbrev pub parts_of : List ℕ → List (List ℕ)
parts_of value = slice_split (λ byte. byte == comma) value

-- a list of words has this word, compared without ASCII case (RFC 9110, section 5.6.1)
abbrev pub has_word : List ℕ → List ℕ → Bool
has_word word value = list_any (λ part. str_eq_ignore_ascii_case word (trim_ows part)) (parts_of value)

-- the connection ends after the response (RFC 9112, section 9.3)
abbrev pub is_closing : ℕ → List (List ℕ × List ℕ) → Bool
is_closing minor fields = minor == 0 || list_any (has_word (codes "close")) (values_of (codes "connection") fields)
