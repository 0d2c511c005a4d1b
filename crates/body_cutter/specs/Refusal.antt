-- What a whole text is, by the reader: its parts, or the first refusal of the table that holds.
use Rattle.std.specs.Prelude.{ℕ, Bool, true, false, ◌+◌, ◌&&◌, ◌||◌, ◌==◌, nat_lt, nat_eq, List, [], ◌∷◌, length, take, codes, Option, None, Some, is_none, is_some, Result, Ok, Err, if◌then◌else◌}
use Rattle.std.specs.List.{list_any, ends_with}
use Rattle.body_cutter.specs.declared.place.Place.{Place}
use Rattle.body_cutter.specs.declared.place.Place.TheVariants.{Start, First, DeclarationWord, Declaration, Prolog, BodyWord, Content, Opened}
use Rattle.body_cutter.specs.declared.place.Kind.{Kind}
use Rattle.body_cutter.specs.declared.parts.Cut.{Cut}
use Rattle.body_cutter.specs.declared.parts.CutError.{CutError}
use Rattle.body_cutter.specs.declared.parts.CutRefusal.{CutRefusal}
use Rattle.body_cutter.specs.declared.parts.CutRefusal.TheVariants.{TooLong, NotUtf8, NotBody, Forbidden, Malformed, TooManyAttributes, TooManyChildren, TooDeep}
use Rattle.body_cutter.specs.Chars.{is_whole}
use Rattle.body_cutter.specs.Names.{is_empty}
use Rattle.body_cutter.specs.Reader.{State, step, first_state}

-- how far a text can be read: to its end, or to the place where no text goes on so, with the byte there
pub data Reading : Type 0 where
  Ended : State → Reading
  Stopped : ℕ → ℕ → State → Reading

-- the bytes from a place on, read from a state
unfoldable pub reading : ℕ → State → List ℕ → Reading
reading at s [] = Ended s
reading at s (b ∷ bytes) = elim (step s at b) [ None ↦ Stopped at b s | Some next ↦ reading (at + 1) next bytes ]

-- before the body's name has ended
unfoldable pub is_before_body : Place → Bool
is_before_body Start = true
is_before_body First = true
is_before_body (DeclarationWord count) = true
is_before_body (Declaration after_mark) = true
is_before_body Prolog = true
is_before_body (BodyWord count) = true
is_before_body _ = false

abbrev pub is_content : Place → Bool
is_content (Content brackets) = true
is_content _ = false

-- the whole text is there
unfoldable pub is_complete : State → Bool
is_complete s = is_content s.place && (is_whole s.wide && (is_none s.reference && is_empty s.elements))

-- `<!`, or a longer unfinished beginning of `<![CDATA[`
abbrev pub section_beginnings : List (List ℕ)
section_beginnings = codes "<!" ∷ codes "<![" ∷ codes "<![C" ∷ codes "<![CD" ∷ codes "<![CDA" ∷ codes "<![CDAT" ∷ codes "<![CDATA" ∷ []

-- bytes that end with one of these
unfoldable pub ends_in_section_start : List ℕ → Bool
ends_in_section_start bytes = list_any (λ beginning. ends_with nat_eq bytes beginning) section_beginnings

abbrev pub is_opened : Place → Bool
is_opened Opened = true
is_opened _ = false

-- the byte at the end of this prefix is forbidden: the prefix ends inside a reference, or with a `<` that `?` or `!` follows,
-- or like a CDATA section that has not begun
unfoldable pub is_forbidden : List ℕ → State → ℕ → Bool
is_forbidden before s b = is_some s.reference || ((is_opened s.place && (b == 63 || b == 33)) || ends_in_section_start before)

-- the refusal of a text that goes wrong at a place
unfoldable pub stopped_refusal : List ℕ → ℕ → ℕ → State → CutRefusal
stopped_refusal text at b s =
    if is_before_body s.place then NotBody else if is_forbidden (take at text) s b then Forbidden at else Malformed at

-- the first limit that a complete text passes
unfoldable pub limit_refusal : State → Option CutRefusal
limit_refusal s =
    if s.too_many_attributes then Some TooManyAttributes else if nat_lt 1024 (length s.children) then Some TooManyChildren
    else if s.too_deep then Some TooDeep else None

-- the refusal of a text that is read to its end, if it is incomplete or past a limit
unfoldable pub ended_refusal : ℕ → State → Option CutRefusal
ended_refusal len s =
    if is_before_body s.place then Some NotBody else if is_complete s then limit_refusal s else Some (Malformed len)

abbrev pub refusal_or : Option CutRefusal → Cut → Result Cut CutRefusal
refusal_or None cut = Ok cut
refusal_or (Some refusal) cut = Err refusal

-- what a reading gives
unfoldable pub read_answer : List ℕ → Reading → Result Cut CutRefusal
read_answer text (Ended s) = refusal_or (ended_refusal (length text) s) (record { attrs = s.attrs; children = s.children })
read_answer text (Stopped at b s) = Err (stopped_refusal text at b s)

-- what a text gives that is read from this place, with at most so many bytes
unfoldable pub text_answer : Kind → Place → ℕ → Bool → List ℕ → Result Cut CutRefusal
text_answer kind place longest is_utf8 text =
    if nat_lt longest (length text) then Err TooLong else if is_utf8 then read_answer text (reading 0 (first_state kind place) text) else Err NotUtf8

-- the same without the parts
abbrev pub unit_answer : Result Cut CutRefusal → Result (Unit {0}) CutRefusal
unit_answer (Ok cut) = Ok tt
unit_answer (Err refusal) = Err refusal

abbrev pub unit_result : Result Cut CutError → Result (Unit {0}) CutError
unit_result (Ok cut) = Ok tt
unit_result (Err error) = Err error

-- whether a reading ends with the whole text
abbrev pub is_accepted : Reading → Bool
is_accepted (Ended s) = is_complete s
is_accepted (Stopped at b s) = false
