-- The lines of a text. A line ends with LF, and a last line without LF counts.
use Rattle.std.specs.Prelude.{ℕ, ◌≡◌, ◌<◌, ◌≤◌, ◌==◌, List, [], ◌∷◌, ◌++◌, Bool, true, false, nat_lt, Option, None, Some, length, if◌then◌else◌}
use Rattle.bosh_types.specs.Limits.{longest_line}
use Rattle.line_reader.specs.declared.lines.NextLine.{NextLine}
use Rattle.line_reader.specs.declared.lines.NextLine.TheVariants.{Line, TooLong, NoLine}

-- LF
abbrev pub line_feed : ℕ
line_feed = 10

-- the lines where this byte comes before them: LF ends an empty line, and any other byte begins the first
abbrev pub onto_lines : ℕ → List (List ℕ) → List (List ℕ)
onto_lines byte [] = (if byte == line_feed then [] else byte ∷ []) ∷ []
onto_lines byte (line ∷ others) = if byte == line_feed then [] ∷ line ∷ others else (byte ∷ line) ∷ others

-- the lines of a text, without their LFs
abbrev pub lines_of : List ℕ → List (List ℕ)
lines_of [] = []
lines_of (byte ∷ bytes) = onto_lines byte (lines_of bytes)

-- there is a first line, and it has more bytes than this
abbrev pub IsFirstLonger : ℕ → List (List ℕ) → Type 0
IsFirstLonger most [] = ⊥
IsFirstLonger most (line ∷ others) = most < length line

-- what reading the next line tells of the bytes that were left, and of those that are left then
abbrev pub Reads : Option (List ℕ) → Option (List ℕ) → NextLine → Type 0
Reads None new read = Unit {0}
Reads (Some bytes) None read = ⊥
Reads (Some bytes) (Some rest) (Line line) = (lines_of bytes ≡ line ∷ lines_of rest) × (length line ≤ longest_line)
Reads (Some bytes) (Some rest) TooLong = IsFirstLonger longest_line (lines_of bytes)
Reads (Some bytes) (Some rest) NoLine = lines_of bytes ≡ []

-- no LF is among these bytes
abbrev pub IsUnbroken : List ℕ → Type 0
IsUnbroken [] = Unit {0}
IsUnbroken (byte ∷ bytes) = ((byte == line_feed) ≡ false) × IsUnbroken bytes

-- all that was left was put on the line, and then none is left and there was no LF; or all up to the first LF
abbrev pub MovesPiece : Bool → List ℕ → List ℕ → List ℕ → List ℕ → Type 0
MovesPiece false left left' line line' = (left' ≡ []) × (line' ≡ line ++ left) × IsUnbroken left
MovesPiece true left left' line line' = (front : List ℕ) × (left ≡ front ++ line_feed ∷ left') × (line' ≡ line ++ front) × IsUnbroken front

-- what is read where the line is whole
abbrev pub ended_line_of : List ℕ → NextLine
ended_line_of line = if nat_lt longest_line (length line) then TooLong else Line line

-- what is read where nothing is left after this
abbrev pub last_line_of : List ℕ → NextLine
last_line_of line = if length line == 0 then NoLine else Line line
