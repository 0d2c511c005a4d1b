-- References (XML 1.0 sections 4.1 and 4.6), byte by byte.
use Rattle.std.specs.Prelude.{ℕ, Bool, ◌+◌, ◌*◌, ◌-◌, ◌&&◌, ◌==◌, nat_le, Option, None, Some, if◌then◌else◌}
use Rattle.body_cutter.specs.declared.place.Reference.{Reference}
use Rattle.body_cutter.specs.declared.place.Reference.TheVariants.{Begun, L, G, A, Am, Ap, Apo, Q, Qu, Quo, Named, Number, Decimal, HexMark, Hex}
use Rattle.body_cutter.specs.declared.place.ReferenceMove.{ReferenceMove}
use Rattle.body_cutter.specs.declared.place.ReferenceMove.TheVariants.{More, Done}
use Rattle.body_cutter.specs.Chars.{is_allowed}

-- one letter, and no other
unfoldable pub letter : ℕ → ℕ → Reference → Option ReferenceMove
letter b wanted after = if b == wanted then Some (More after) else None

-- after `&`
unfoldable pub begun_next : ℕ → Option ReferenceMove
begun_next b =
    if b == 35 then Some (More Number) else if b == 108 then Some (More L) else if b == 103 then Some (More G)
    else if b == 97 then Some (More A) else if b == 113 then Some (More Q) else None

-- after `&a`
unfoldable pub letter_a_next : ℕ → Option ReferenceMove
letter_a_next b = if b == 109 then Some (More Am) else if b == 112 then Some (More Ap) else None

unfoldable pub done_if : Bool → ℕ → Option ReferenceMove
done_if is_good value = if is_good then Some (Done value) else None

-- a number that ends here, if it is an allowed character
unfoldable pub done_number : ℕ → Option ReferenceMove
done_number value = if is_allowed value then Some (Done value) else None

-- a number so far doesn't pass the greatest code point
unfoldable pub decimal_more : ℕ → Option ReferenceMove
decimal_more value = if nat_le value 0x10ffff then Some (More (Decimal value)) else None

unfoldable pub hex_more : ℕ → Option ReferenceMove
hex_more value = if nat_le value 0x10ffff then Some (More (Hex value)) else None

-- what a hexadecimal digit stands for
unfoldable pub hex_digit : ℕ → Option ℕ
hex_digit b =
    if nat_le 48 b && nat_le b 57 then Some (b - 48) else if nat_le 97 b && nat_le b 102 then Some (b - 87)
    else if nat_le 65 b && nat_le b 70 then Some (b - 55) else None

-- one decimal digit more
unfoldable pub decimal_next : ℕ → ℕ → Option ReferenceMove
decimal_next value b = if nat_le 48 b && nat_le b 57 then decimal_more (value * 10 + (b - 48)) else None

abbrev pub hex_grown : ℕ → Option ℕ → Option ReferenceMove
hex_grown value None = None
hex_grown value (Some digit) = hex_more (value * 16 + digit)

-- one hexadecimal digit more
unfoldable pub hex_next : ℕ → ℕ → Option ReferenceMove
hex_next value b = hex_grown value (hex_digit b)

-- after `&#`
unfoldable pub number_next : ℕ → Option ReferenceMove
number_next b = if b == 120 then Some (More HexMark) else decimal_next 0 b

-- a `;` ends a reference to an allowed character
unfoldable pub decimal_or_end : ℕ → ℕ → Option ReferenceMove
decimal_or_end value b = if b == 59 then done_number value else decimal_next value b

unfoldable pub hex_or_end : ℕ → ℕ → Option ReferenceMove
hex_or_end value b = if b == 59 then done_number value else hex_next value b

-- what a byte makes of an unfinished reference
unfoldable pub reference_next : Reference → ℕ → Option ReferenceMove
reference_next Begun b = begun_next b
reference_next L b = letter b 116 (Named 60)
reference_next G b = letter b 116 (Named 62)
reference_next A b = letter_a_next b
reference_next Am b = letter b 112 (Named 38)
reference_next Ap b = letter b 111 Apo
reference_next Apo b = letter b 115 (Named 39)
reference_next Q b = letter b 117 Qu
reference_next Qu b = letter b 111 Quo
reference_next Quo b = letter b 116 (Named 34)
reference_next (Named value) b = done_if (b == 59) value
reference_next Number b = number_next b
reference_next (Decimal value) b = decimal_or_end value b
reference_next HexMark b = hex_next 0 b
reference_next (Hex value) b = hex_or_end value b
