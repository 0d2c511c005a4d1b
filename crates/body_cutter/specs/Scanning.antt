-- Runs of bytes that are read at once.
use Rattle.std.specs.Prelude.{◌≡◌, ℕ, ◌+◌, ◌≤◌, Bool, true, false, ◌&&◌, ◌==◌, not, nat_le, nat_lt, List, [], ◌∷◌, ◌++◌, length, take, drop, Option, None, Some}
use Rattle.std.specs.List.{list_all}
use Rattle.body_cutter.specs.declared.place.Wide.{Wide}
use Rattle.body_cutter.specs.declared.place.Run.{Run}
use Rattle.body_cutter.specs.declared.place.Run.TheVariants.{Data, Section, Value, Name, Zeros, Brackets}
use Rattle.body_cutter.specs.declared.place.Around.{Around}
use Rattle.body_cutter.specs.declared.place.Around.TheVariants.{Child}
use Rattle.body_cutter.specs.declared.place.Reference.{Reference}
use Rattle.body_cutter.specs.declared.place.Reference.TheVariants.{Decimal, Hex}
use Rattle.body_cutter.specs.Chars.{is_name_byte, wide_next}
use Rattle.body_cutter.specs.Reader.{State, with_value}
use Rattle.body_cutter.specs.Refusal.{reading}

-- what is left of the last character after these bytes, which are of allowed ones (RFC 3629 section 4)
unfoldable pub wide_rest : Wide → List ℕ → Option Wide
wide_rest wide [] = Some wide
wide_rest wide (b ∷ text) = elim (wide_next wide b) [ None ↦ None | Some next ↦ wide_rest next text ]

-- a byte of an allowed character that is no control and none of these
unfoldable pub is_text_byte : ℕ → ℕ → ℕ → ℕ → Bool
is_text_byte first second third b = nat_le 32 b && (not (b == first) && (not (b == second) && not (b == third)))

-- a byte that goes on with a run
unfoldable pub is_run_byte : Run → ℕ → Bool
is_run_byte Data b = is_text_byte 60 38 93 b
is_run_byte Section b = is_text_byte 93 93 93 b
is_run_byte (Value quote) b = is_text_byte quote 60 38 b
is_run_byte Name b = is_name_byte b
is_run_byte Zeros b = b == 48
is_run_byte Brackets b = b == 93

-- the three bytes that end a run of text, if it is one
abbrev pub stops_of : Run → Option (ℕ × ℕ × ℕ)
stops_of Data = Some (60, 38, 93)
stops_of Section = Some (93, 93, 93)
stops_of (Value quote) = Some (quote, 60, 38)
stops_of Name = None
stops_of Zeros = None
stops_of Brackets = None

-- a character of text below U+0080, and none of these
abbrev pub is_plain_byte : ℕ → ℕ → ℕ → ℕ → Bool
is_plain_byte first second third b = ((((nat_le 32 b && nat_lt b 128) && not (b == first)) && not (b == second)) && not (b == third))

-- so many bytes at the front go on with a run, and this is left of their last character
pub record IsRun (run : Run) (wide : Wide) (bytes : List ℕ) (count : ℕ) (left : Wide) : Type 0 where
  pub within : count ≤ length bytes
  pub each : list_all (is_run_byte run) (take count bytes) ≡ true
  pub whole : wide_rest wide (take count bytes) ≡ Some left

-- what bytes of a run do to what the reader keeps
abbrev pub with_run : Run → State → Wide → List ℕ → State
with_run Data s wide bytes = record s { wide = wide }
with_run Section s wide bytes = record s { wide = wide }
with_run (Value quote) s wide bytes = with_value (record s { wide = wide }) bytes
with_run Name s wide bytes = record s { wide = wide; name = s.name ++ bytes }
with_run Zeros s wide bytes = record s { wide = wide }
with_run Brackets s wide bytes = record s { wide = wide }

-- so many bytes at the front go on with a run, and are read so
pub record TakesRun (run : Run) (old : State) (bytes : List ℕ) (count : ℕ) (new : State) : Type 0 where
  pub takes : IsRun run old.wide bytes count new.wide
  pub after : new ≡ with_run run old new.wide (take count bytes)

-- so many bytes at the front lead from one state to another, wherever they lie
pub record ReadsFront (old : State) (bytes : List ℕ) (count : ℕ) (new : State) : Type 0 where
  pub within : count ≤ length bytes
  pub reads : (at : ℕ) → reading at old bytes ≡ reading (at + count) new (drop count bytes)

-- whether a child or a stanza is open
abbrev pub is_child : Around → Bool
is_child Child = true
is_child _ = false

-- whether a number has the value 0 so far
abbrev pub is_zero : Reference → Bool
is_zero (Decimal value) = value == 0
is_zero (Hex value) = value == 0
is_zero _ = false
