-- What a text is cut into, and which texts are stanzas: functions that compute. The laws of this crate say that they are the
-- grammar's and the table's.
use Rattle.std.specs.Prelude.{◌≡◌, ℕ, Bool, List, Result, Ok, Err, is_ok}
use Rattle.std.specs.Str.{is_utf8}
use Rattle.body_cutter.specs.declared.place.Place.TheVariants.{Start, StanzaStart}
use Rattle.body_cutter.specs.declared.place.Kind.TheVariants as kinds
use Rattle.body_cutter.specs.declared.parts.Cut.{Cut}
use Rattle.body_cutter.specs.declared.parts.CutError.{CutError}
use Rattle.body_cutter.specs.declared.parts.CutError.TheVariants.{Memory, Refused}
use Rattle.body_cutter.specs.declared.parts.CutRefusal.{CutRefusal}
use Rattle.body_cutter.specs.Refusal.{text_answer, unit_answer}

-- the body that a text is cut into, or its refusal
unfoldable pub body_cut_of : List ℕ → Result Cut CutRefusal
body_cut_of text = text_answer kinds.Body Start 1048576 (is_utf8 text) text

-- whether a text may be read as a stanza by itself, or its refusal
unfoldable pub stanza_read_of : List ℕ → Result (Unit {0}) CutRefusal
stanza_read_of text = unit_answer (text_answer kinds.Stanza StanzaStart 1000000 (is_utf8 text) text)

-- a stanza by itself
unfoldable pub is_stanza : List ℕ → Bool
is_stanza text = is_ok (stanza_read_of text)

-- what was answered is this, unless memory ran out
abbrev pub Answers : {A : Type 0} → Result A CutError → Result A CutRefusal → Type 0
Answers (Ok x) answer = answer ≡ Ok x
Answers (Err Memory) answer = Unit {0}
Answers (Err (Refused refusal)) answer = answer ≡ Err refusal
