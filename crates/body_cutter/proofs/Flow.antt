-- The reader without its test of characters, and what it has kept when it has taken a text.
use Rattle.std.proofs.Common.{◌≡◌, ◌∙◌, ◌-◌, ◌≤◌, ℕ, Bool, List, [], ◌∷◌, length, ap, arith}
use Rattle.std.specs.Prelude.{Option, None, Some, if◌then◌else◌}
use Rattle.body_cutter.specs.declared.parts.Attr.{Attr}
use Rattle.body_cutter.specs.declared.parts.Span.{Span}
use Rattle.body_cutter.specs.declared.place.Place.{Place}
use Rattle.body_cutter.specs.declared.place.Kind.{Kind}
use Rattle.body_cutter.specs.declared.place.Reference.{Reference}
use Rattle.body_cutter.specs.declared.place.Wide.TheVariants.{Whole}
use Rattle.body_cutter.specs.Reader.{State, moved, next_move}
use Rattle.body_cutter.specs.Refusal.{is_complete}

-- the names that are read, and the names of a tag's attributes
pub record Words : Type 0 where
  pub name : List ℕ
  pub start : ℕ
  pub end : ℕ
  pub seen : List (List ℕ)

-- what stays of a text
pub record Kept : Type 0 where
  pub value : List ℕ
  pub attrs : List Attr
  pub child_start : ℕ
  pub children : List Span
  pub too_many_attributes : Bool
  pub too_deep : Bool

abbrev pub words : List ℕ → ℕ → ℕ → List (List ℕ) → Words
words name start end seen = record { name = name; start = start; end = end; seen = seen }

-- a state after a whole character
abbrev pub state : Kind → Place → Option Reference → List (List ℕ) → Words → Kept → State
state kind place reference elements w k = record {
  kind = kind;
  place = place;
  wide = Whole;
  reference = reference;
  elements = elements;
  name = w.name;
  name_start = w.start;
  name_end = w.end;
  seen = w.seen;
  value = k.value;
  attrs = k.attrs;
  child_start = k.child_start;
  children = k.children;
  too_many_attributes = k.too_many_attributes;
  too_deep = k.too_deep;
}

abbrev pub st : Kind → Place → List (List ℕ) → Words → Kept → State
st kind place elements w k = state kind place None elements w k

abbrev pub kept_of : State → Kept
kept_of s = record {
  value = s.value;
  attrs = s.attrs;
  child_start = s.child_start;
  children = s.children;
  too_many_attributes = s.too_many_attributes;
  too_deep = s.too_deep;
}

-- one step, whatever character the byte belongs to
unfoldable pub proceed : State → ℕ → ℕ → Option State
proceed s at b = moved (Some Whole) (next_move s b) s at b

abbrev pub ended : Bool → State → Option Kept
ended complete s = if complete then Some (kept_of s) else None

-- what is kept of a text of this length, of which this much is left
unfoldable pub flow : ℕ → State → List ℕ → Option Kept
flow len s [] = ended (is_complete s) s
flow len s (b ∷ text) = elim (proceed s (len - length (b ∷ text)) b) [ None ↦ None | Some next ↦ flow len next text ]

-- the rest of a text is taken, and this is kept
pub record Taken (len : ℕ) (s : State) (text : List ℕ) (k : Kept) : Type 0 where
  pub is : length text ≤ len → flow len s text ≡ Some k

abbrev onward : Option State → ℕ → List ℕ → Option Kept
onward o len text = elim o [ None ↦ None | Some next ↦ flow len next text ]

-- a byte that leads on, where its place counts
pub by_last_byte : {len : ℕ} {s next : State} {b : ℕ} {text : List ℕ} {k : Kept} → (length (b ∷ text) ≤ len → proceed s (len - length (b ∷ text)) b ≡ Some next) → Taken len next text k → Taken len s (b ∷ text) k
unfolding flow
by_last_byte {len} {s} {next} {b} {text} {k} e t = record { is = λ within. ap (λ (o : Option State). onward o len text) (e within) ∙ t.is (omega (arith, within)) }

-- a byte that leads on
pub by_byte : {len : ℕ} {s next : State} {b : ℕ} {text : List ℕ} {k : Kept} → proceed s (len - length (b ∷ text)) b ≡ Some next → Taken len next text k → Taken len s (b ∷ text) k
by_byte e t = by_last_byte (λ within. e) t
