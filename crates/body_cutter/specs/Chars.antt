-- The characters of a body (XML 1.0 section 2.2), and their bytes (RFC 3629 section 4), byte by byte.
use Rattle.std.specs.Prelude.{ℕ, Bool, true, false, ◌&&◌, ◌||◌, ◌==◌, nat_lt, nat_le, List, [], ◌∷◌, Option, None, Some, if◌then◌else◌}
use Rattle.body_cutter.specs.declared.place.Wide.{Wide}
use Rattle.body_cutter.specs.declared.place.Wide.TheVariants.{Whole, One, Two, Three, AfterE0, AfterEd, AfterEf, AfterEfBf, AfterF0, AfterF4}

-- white space: space, tab, LF or CR (XML 1.0 section 2.3)
unfoldable pub is_space : ℕ → Bool
is_space b = b == 32 || b == 9 || b == 10 || b == 13

-- an allowed character below U+0080 (XML 1.0 section 2.2)
unfoldable pub is_plain : ℕ → Bool
is_plain b = b == 9 || b == 10 || b == 13 || (nat_le 32 b && nat_lt b 128)

-- an ASCII letter
unfoldable pub is_letter : ℕ → Bool
is_letter b = (nat_le 65 b && nat_le b 90) || (nat_le 97 b && nat_le b 122)

-- an ASCII digit
unfoldable pub is_digit : ℕ → Bool
is_digit b = nat_le 48 b && nat_le b 57

-- an ASCII letter, `_` or `:`
unfoldable pub begins_name_plainly : ℕ → Bool
begins_name_plainly b = is_letter b || b == 95 || b == 58

-- one of these, an ASCII digit, `-` or `.`
unfoldable pub grows_name_plainly : ℕ → Bool
grows_name_plainly b = begins_name_plainly b || is_digit b || b == 45 || b == 46

-- an allowed character (XML 1.0 section 2.2)
unfoldable pub is_allowed : ℕ → Bool
is_allowed n = n == 9 || n == 10 || n == 13 || (nat_le 32 n && nat_lt n 0xd800) || (nat_le 0xe000 n && nat_le n 0xfffd) || (nat_le 0x10000 n && nat_le n 0x10ffff)

-- what is left of a character after its first byte
unfoldable pub wide_begin : ℕ → Option Wide
wide_begin b =
    if nat_lt b 0x80 then Some Whole
    else if nat_lt b 0xc2 then None else if nat_lt b 0xe0 then Some One
    else if b == 0xe0 then Some AfterE0 else if b == 0xed then Some AfterEd else if b == 0xef then Some AfterEf
    else if nat_lt b 0xf0 then Some Two
    else if b == 0xf0 then Some AfterF0 else if nat_lt b 0xf4 then Some Three
    else if b == 0xf4 then Some AfterF4 else None

abbrev pub after_tail : Bool → Wide → Option Wide
after_tail is_tail rest = if is_tail then Some rest else None

-- what is left of a character after one byte more; U+FFFE and U+FFFF are no allowed characters
unfoldable pub wide_next : Wide → ℕ → Option Wide
wide_next Whole b = wide_begin b
wide_next One b = after_tail (nat_le 0x80 b && nat_lt b 0xc0) Whole
wide_next Two b = after_tail (nat_le 0x80 b && nat_lt b 0xc0) One
wide_next Three b = after_tail (nat_le 0x80 b && nat_lt b 0xc0) Two
wide_next AfterE0 b = after_tail (nat_le 0xa0 b && nat_lt b 0xc0) One
wide_next AfterEd b = after_tail (nat_le 0x80 b && nat_lt b 0xa0) One
wide_next AfterEf b = if b == 0xbf then Some AfterEfBf else after_tail (nat_le 0x80 b && nat_lt b 0xbf) One
wide_next AfterEfBf b = after_tail (nat_le 0x80 b && nat_lt b 0xbe) Whole
wide_next AfterF0 b = after_tail (nat_le 0x90 b && nat_lt b 0xc0) Two
wide_next AfterF4 b = after_tail (nat_le 0x80 b && nat_lt b 0x90) Two

-- a byte of an allowed character
unfoldable pub is_char_byte : ℕ → Bool
is_char_byte b = is_plain b || nat_le 128 b

-- the first byte of a character that may begin a name
unfoldable pub is_name_start : ℕ → Bool
is_name_start b = begins_name_plainly b || nat_le 128 b

-- a byte of a character that a name may go on with
unfoldable pub is_name_byte : ℕ → Bool
is_name_byte b = grows_name_plainly b || nat_le 128 b

abbrev pub is_whole : Wide → Bool
is_whole Whole = true
is_whole _ = false

-- whether bytes, after what is left of a character, are whole allowed characters
unfoldable pub ends_whole : Wide → List ℕ → Bool
ends_whole wide [] = is_whole wide
ends_whole wide (b ∷ text) = elim (wide_next wide b) [ None ↦ false | Some next ↦ ends_whole next text ]
