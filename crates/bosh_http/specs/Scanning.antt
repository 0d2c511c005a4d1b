-- The scan of a head, byte by byte, and what it knows of the bytes that it went over.
use Rattle.std.specs.Prelude.{◌≡◌, ℕ, ◌-◌, ◌<◌, ◌≤◌, ◌⊎◌, ◌==◌, ◌||◌, not, Bool, true, false, List, [], ◌∷◌, ◌++◌, length, take, if◌then◌else◌}
use Rattle.std.specs.List.{list_any}
use Rattle.httparse.specs.Grammar.{is_token_byte, is_uri_byte, is_value_byte}
use Rattle.bosh_http.specs.declared.scan.Place.{Place}
use Rattle.bosh_http.specs.declared.scan.Place.TheVariants.{Before, BeforeReturn, MethodStart, Method, Target, Line, LineStart, Name, Value, Return, Anywhere}

-- a byte that goes on as it may tells nothing
unfoldable pub fine : Bool → Place → Place × Bool
fine goes_on place = if goes_on then (place, false) else (Anywhere, true)

-- in a value
unfoldable pub value_step : ℕ → Place × Bool
value_step b = if b == 13 then (Return, false) else if b == 10 then (LineStart, false) else fine (is_value_byte b) Value

-- in the first line
unfoldable pub line_step : ℕ → ℕ → Place × Bool
line_step left b = if b == 10 then (LineStart, true) else if b == 13 then (Return, true) else if left == 0 then value_step b else (Line (left - 1), true)

-- from the first line on
unfoldable pub within_step : Place → ℕ → Place × Bool
within_step MethodStart b = fine (is_token_byte b) Method
within_step Method b = if b == 32 then (Target, false) else fine (is_token_byte b) Method
within_step Target b = if b == 32 then (Line 10, true) else fine (is_uri_byte b) Target
within_step (Line left) b = line_step left b
within_step LineStart b = fine (is_token_byte b) Name
within_step Name b = if b == 58 then (Value, false) else fine (is_token_byte b) Name
within_step Value b = value_step b
within_step Return b = fine (b == 10) LineStart
within_step _ b = (Anywhere, true)

-- where the byte after this one stands, where the first line begins so, and whether this one may tell something
unfoldable pub step_of : Place → Place → ℕ → Place × Bool
step_of first Before b = if b == 13 then (BeforeReturn, false) else if b == 10 then (Before, false) else within_step first b
step_of first BeforeReturn b = fine (b == 10) Before
step_of first place b = within_step place b

-- the first line has begun
abbrev pub is_within : Place → Bool
is_within Before = false
is_within BeforeReturn = false
is_within _ = true

-- a line has just ended, or each byte tells something
abbrev pub is_at_line : Place → Bool
is_at_line LineStart = true
is_at_line Anywhere = true
is_at_line _ = false

abbrev pub is_anywhere : Place → Bool
is_anywhere Anywhere = true
is_anywhere _ = false

-- a byte other than CR and LF is among these
abbrev pub is_text_byte : ℕ → Bool
is_text_byte b = not (b == 10 || b == 13)

abbrev pub has_text : List ℕ → Bool
has_text bytes = list_any is_text_byte bytes

-- the bytes end with an empty line that follows a line
abbrev pub EndsHead : List ℕ → Type 0
EndsHead bytes = (front : List ℕ) × (has_text front ≡ true) × ((bytes ≡ front ++ 10 ∷ 10 ∷ []) ⊎ (bytes ≡ front ++ 10 ∷ 13 ∷ 10 ∷ []))

-- the scan stands at this place after these bytes
pub record Went (bytes : List ℕ) (place : Place) : Type 0 where
  pub begun : has_text bytes ≡ true → is_within place ≡ true
  pub line : (front : List ℕ) → bytes ≡ front ++ 10 ∷ [] → has_text front ≡ true → is_at_line place ≡ true
  pub returns : (front : List ℕ) → bytes ≡ front ++ 10 ∷ 13 ∷ [] → has_text front ≡ true → is_anywhere place ≡ true

-- the scan went over so many of the bytes, and stands at this place
pub record Scans (seen : ℕ) (place : Place) (bytes : List ℕ) : Type 0 where
  pub within : seen ≤ length bytes
  pub went : Went (take seen bytes) place

-- no head ends after the first so many bytes and within so many
abbrev pub NoHeadEnds : ℕ → ℕ → List ℕ → Type 0
NoHeadEnds from to bytes = (front rest : List ℕ) → bytes ≡ front ++ rest → from < length front → length front ≤ to → EndsHead front → ⊥
