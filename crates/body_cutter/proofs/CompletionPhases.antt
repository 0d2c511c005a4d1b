-- A run of the control from phase to phase.
use Rattle.std.proofs.Common.{◌≡◌, ◌∙◌, ◌+◌, ◌*◌, ◌-◌, ℕ, suc, zero, Bool, true, false, ◌&&◌, List, [], ◌∷◌, ◌++◌, refl, sym, ap, subst, arith}
use Rattle.std.specs.Prelude.{Option, None, Some, nat_le, slice_get, ◌==◌, if◌then◌else◌}
use Rattle.std.specs.List.{list_all}
use Rattle.std.proofs.lemmas.Bool.{eqb-true, and_parts, and_from}
use Rattle.std.proofs.lemmas.Bool.Decides.{nat_tests}
use Rattle.body_cutter.specs.declared.place.Place.{Place}
use Rattle.body_cutter.specs.declared.place.Kind.{Kind}
use Rattle.body_cutter.specs.declared.place.Reference.{Reference}
use Rattle.body_cutter.specs.declared.place.Reference.TheVariants.{Begun, L, G, A, Am, Ap, Apo, Q, Qu, Quo, Named, Number, Decimal, HexMark, Hex}
use Rattle.body_cutter.specs.declared.place.ReferenceMove.{ReferenceMove}
use Rattle.body_cutter.specs.declared.place.ReferenceMove.TheVariants.{More, Done}
use Rattle.body_cutter.specs.declared.place.Act.{Act}
use Rattle.body_cutter.specs.declared.place.Act.TheVariants.{Pass, Mark, BeginName, GrowName, OpenElement, EndAttrName, ValueByte, ValueChar, EndAttr, CloseElement}
use Rattle.body_cutter.specs.declared.place.Move.{Move}
use Rattle.body_cutter.specs.Chars.{is_allowed, is_name_byte}
use Rattle.body_cutter.specs.References.{letter, begun_next, letter_a_next, done_if, done_number, decimal_more, hex_more, hex_digit, decimal_next, hex_grown, hex_next, number_next, decimal_or_end, hex_or_end, reference_next}
use Rattle.body_cutter.specs.Names.{around, due, with_count, has_name, without_first}
use Rattle.body_cutter.specs.Reader.{move_of, matched, reference_moved}
use Rattle.body_cutter.proofs.Control.{Control, advance, done, led, goes_on}
use Rattle.body_cutter.proofs.CompletionNames.{lands, lands_on}
use Rattle.body_cutter.proofs.CompletionTurns.{Phase, Plain, Referring, place_phase, phase_of, Calm, Turn, Grows, Under, QuoteOf, Turns, dead, DueByte, place_turns}

-- what a byte tells of a reference
abbrev RefTells : ℕ → Option ReferenceMove → Type 0
RefTells b None = Unit {0}
RefTells b (Some (More reference)) = Calm b × ((b == 59) ≡ false)
RefTells b (Some (Done character)) = b ≡ 59

record Refers (b : ℕ) (o : Option ReferenceMove) : Type 0 where
  tells : RefTells b o

no_more : {b : ℕ} → Refers b None
no_more = record { tells = tt }

pick : {b : ℕ} (t : Bool) (x y : Option ReferenceMove) → (t ≡ true → Refers b x) → (t ≡ false → Refers b y) → Refers b (if t then x else y)
pick true x y f g = f refl
pick false x y f g = g refl

digit_calm : (b : ℕ) → (nat_le 48 b && nat_le b 57) ≡ true → Calm b × ((b == 59) ≡ false)
digit_calm b h = ((grind (arith, nat_tests), grind (arith, nat_tests)), grind (arith, nat_tests))

hex_calm : (b digit : ℕ) → hex_digit b ≡ Some digit → Calm b × ((b == 59) ≡ false)
unfolding hex_digit
hex_calm b digit h = ((grind (arith, nat_tests), grind (arith, nat_tests)), grind (arith, nat_tests))

module _ (b : ℕ) where
  more : (n : ℕ) (reference : Reference) → (n == 38) ≡ false → (n == 60) ≡ false → (n == 59) ≡ false → (b == n) ≡ true → Refers b (Some (More reference))
  more n reference f g h e =
      let s = eqb-true b n e in
      record { tells = ((ap (λ (x : ℕ). x == 38) s ∙ f, ap (λ (x : ℕ). x == 60) s ∙ g), ap (λ (x : ℕ). x == 59) s ∙ h) }

  one_letter : (n : ℕ) (reference : Reference) → (n == 38) ≡ false → (n == 60) ≡ false → (n == 59) ≡ false → Refers b (letter b n reference)
  unfolding letter
  one_letter n reference f g h = pick (b == n) _ _ (λ t. more n reference f g h t) (λ _. no_more)

  ends : (value : ℕ) → (b == 59) ≡ true → Refers b (done_number value)
  unfolding done_number
  ends value t = pick (is_allowed value) _ _ (λ _. record { tells = eqb-true b 59 t }) (λ _. no_more)

  decimal_digit : (value : ℕ) → Refers b (decimal_next value b)
  unfolding decimal_next decimal_more
  decimal_digit value =
      pick (nat_le 48 b && nat_le b 57) _ _
      (λ t. pick (nat_le (value * 10 + (b - 48)) 0x10ffff) _ _ (λ _. record { tells = digit_calm b t }) (λ _. no_more)) (λ _. no_more)

  hex_by : (value : ℕ) (o : Option ℕ) → hex_digit b ≡ o → Refers b (hex_grown value o)
  unfolding hex_more
  hex_by value None f = no_more
  hex_by value (Some digit) f = pick (nat_le (value * 16 + digit) 0x10ffff) _ _ (λ _. record { tells = hex_calm b digit f }) (λ _. no_more)

  hex_step : (value : ℕ) → Refers b (hex_next value b)
  unfolding hex_next
  hex_step value = hex_by value (hex_digit b) refl

  reference_tells : (reference : Reference) → Refers b (reference_next reference b)
  unfolding reference_next begun_next letter_a_next done_if number_next decimal_or_end hex_or_end
  reference_tells Begun =
      pick (b == 35) _ _ (λ t. more 35 Number refl refl refl t)
      (λ _. pick (b == 108) _ _ (λ t. more 108 L refl refl refl t)
      (λ _. pick (b == 103) _ _ (λ t. more 103 G refl refl refl t)
      (λ _. pick (b == 97) _ _ (λ t. more 97 A refl refl refl t)
      (λ _. pick (b == 113) _ _ (λ t. more 113 Q refl refl refl t) (λ _. no_more)))))
  reference_tells L = one_letter 116 (Named 60) refl refl refl
  reference_tells G = one_letter 116 (Named 62) refl refl refl
  reference_tells A =
      pick (b == 109) _ _ (λ t. more 109 Am refl refl refl t)
      (λ _. pick (b == 112) _ _ (λ t. more 112 Ap refl refl refl t) (λ _. no_more))
  reference_tells Am = one_letter 112 (Named 38) refl refl refl
  reference_tells Ap = one_letter 111 Apo refl refl refl
  reference_tells Apo = one_letter 115 (Named 39) refl refl refl
  reference_tells Q = one_letter 117 Qu refl refl refl
  reference_tells Qu = one_letter 111 Quo refl refl refl
  reference_tells Quo = one_letter 116 (Named 34) refl refl refl
  reference_tells (Named value) = pick (b == 59) _ _ (λ t. record { tells = eqb-true b 59 t }) (λ _. no_more)
  reference_tells Number = pick (b == 120) _ _ (λ t. more 120 HexMark refl refl refl t) (λ _. decimal_digit 0)
  reference_tells (Decimal value) = pick (b == 59) _ _ (λ t. ends value t) (λ _. decimal_digit value)
  reference_tells HexMark = hex_step 0
  reference_tells (Hex value) = pick (b == 59) _ _ (λ t. ends value t) (λ _. hex_step value)

  moved_turns : (place : Place) (o : Option ReferenceMove) → Refers b o → place_phase place ≡ Plain → QuoteOf place → Turns Referring b (reference_moved place o)
  moved_turns place None r p q = dead
  moved_turns place (Some (More reference)) r p q = record { tells = (r.tells, tt, p, q) }
  moved_turns place (Some (Done character)) r p q = record { tells = (subst (λ (x : Phase). Turn Referring b x) (sym p) r.tells, tt, tt, q) }

-- names of bytes of names
abbrev pub AllNames : List (List ℕ) → Type 0
AllNames [] = Unit {0}
AllNames (name ∷ outer) = (list_all is_name_byte name ≡ true) × AllNames outer

-- what holds of each state beside
pub record Tidy (c : Control) : Type 0 where
  pub names : AllNames c.elements
  pub name : list_all is_name_byte c.name ≡ true
  pub under : Under c.place c.reference
  pub quote : QuoteOf c.place

byte_of : (name : List ℕ) (count x : ℕ) → list_all is_name_byte name ≡ true → slice_get name count ≡ Some x → is_name_byte x ≡ true
byte_of [] zero x h e = absurd (cc)
byte_of [] (suc n) x h e = absurd (cc)
byte_of (b ∷ name) zero x h e =
    let same : b ≡ x = cc in
    ap is_name_byte (sym same) ∙ (and_parts (is_name_byte b) (list_all is_name_byte name) h).0
byte_of (b ∷ name) (suc n) x h e = byte_of name n x (and_parts (is_name_byte b) (list_all is_name_byte name) h).1 e

due_by : (b : ℕ) (name : List ℕ) (count : ℕ) (o : Option ℕ) → slice_get name count ≡ o → list_all is_name_byte name ≡ true → DueByte b (with_count count o)
due_by b name count None e h = tt
due_by b name count (Some x) e h = byte_of name count x h e

due_byte : (b : ℕ) (elements : List (List ℕ)) (count : ℕ) → AllNames elements → DueByte b (due elements count)
unfolding due
due_byte b [] count h = tt
due_byte b (name ∷ outer) count h = due_by b name count (slice_get name count) refl h.0

name_grows : (name : List ℕ) (b : ℕ) → list_all is_name_byte name ≡ true → is_name_byte b ≡ true → list_all is_name_byte (name ++ b ∷ []) ≡ true
name_grows [] b h e = and_from (is_name_byte b) true e refl
name_grows (x ∷ name) b h e = let p = and_parts (is_name_byte x) (list_all is_name_byte name) h in and_from (is_name_byte x) _ p.0 (name_grows name b p.1 e)

outer_names : (elements : List (List ℕ)) → AllNames elements → AllNames (without_first elements)
outer_names [] h = tt
outer_names (name ∷ outer) h = h.1

-- what is told of the next state
abbrev Told : Phase → ℕ → Option Control → Type 0
Told x b None = Unit {0}
Told x b (Some c) = Turn x b (phase_of c.place c.reference) × Tidy c

gated : (x : Phase) (b : ℕ) (move : Move) (t : Bool) (c : Control) → Told x b (led move (Some c)) → Told x b (led move (if t then None else Some c))
gated x b move true c h = tt
gated x b move false c h = h

led_told : (x : Phase) (b : ℕ) (place : Place) (reference : Option Reference) (act : Act) (c : Control) → Tidy c → Turn x b (phase_of place reference) → Grows act b → Under place reference → QuoteOf place → Told x b (led (record { place = place; reference = reference; act = act }) (done act c b))
unfolding done
led_told x b place reference Pass c h t g u q = (t, record { names = h.names; name = h.name; under = u; quote = q })
led_told x b place reference Mark c h t g u q = (t, record { names = h.names; name = h.name; under = u; quote = q })
led_told x b place reference BeginName c h t g u q = (t, record { names = h.names; name = and_from (is_name_byte b) true g refl; under = u; quote = q })
led_told x b place reference GrowName c h t g u q = (t, record { names = h.names; name = name_grows c.name b h.name g; under = u; quote = q })
led_told x b place reference OpenElement c h t g u q = (t, record { names = (h.name, h.names); name = refl; under = u; quote = q })
led_told x b place reference EndAttrName c h t g u q = gated x b (record { place = place; reference = reference; act = EndAttrName }) (has_name c.seen c.name) _ (t, record { names = h.names; name = refl; under = u; quote = q })
led_told x b place reference ValueByte c h t g u q = (t, record { names = h.names; name = h.name; under = u; quote = q })
led_told x b place reference (ValueChar character) c h t g u q = (t, record { names = h.names; name = h.name; under = u; quote = q })
led_told x b place reference EndAttr c h t g u q = (t, record { names = h.names; name = h.name; under = u; quote = q })
led_told x b place reference CloseElement c h t g u q = (t, record { names = outer_names c.elements h.names; name = h.name; under = u; quote = q })

move_told : (x : Phase) (b : ℕ) (o : Option Move) (c : Control) → Tidy c → Turns x b o → Told x b (goes_on o c b)
move_told x b None c h t = tt
move_told x b (Some move) c h t = led_told x b move.place move.reference move.act c h t.tells.0 t.tells.1 t.tells.2 t.tells.3

turns_of : (b : ℕ) (place : Place) (o : Option Reference) (kind : Kind) (elements : List (List ℕ)) → AllNames elements → Under place o → QuoteOf place → Turns (phase_of place o) b (move_of place o (around kind elements) (due elements (matched place)) b)
unfolding move_of
turns_of b place None kind elements h u q = place_turns b place (around kind elements) (due elements (matched place)) (due_byte b elements (matched place) h) q
turns_of b place (Some reference) kind elements h u q = moved_turns b place (reference_next reference b) (reference_tells b reference) u q

pub state_told : (kind : Kind) (c : Control) (b : ℕ) → Tidy c → Told (phase_of c.place c.reference) b (advance kind c b)
unfolding advance
state_told kind c b h = move_told (phase_of c.place c.reference) b (move_of c.place c.reference (around kind c.elements) (due c.elements (matched c.place)) b) c h (turns_of b c.place c.reference kind c.elements h.names h.under h.quote)

abbrev pub phase : Control → Phase
phase c = phase_of c.place c.reference

-- a run from phase to phase
pub data Run (kind : Kind) : Control → List ℕ → Control → Type 0 where
  stop : {c : Control} → Run kind c [] c
  go : {c next d : Control} {b : ℕ} {text : List ℕ} → advance kind c b ≡ Some next → Turn (phase c) b (phase next) → Run kind next text d → Run kind c (b ∷ text) d

run_by : (kind : Kind) (c d : Control) (b : ℕ) (text : List ℕ) (o : Option Control) → advance kind c b ≡ o → Told (phase c) b o → ((next : Control) → Tidy next → lands kind next text ≡ Some d → Run kind next text d) → lands_on kind o text ≡ Some d → Run kind c (b ∷ text) d
run_by kind c d b text None e t ih h = absurd (cc)
run_by kind c d b text (Some next) e t ih h = Run.go e t.0 (ih next t.1 h)

pub run_of : (kind : Kind) (text : List ℕ) (c d : Control) → Tidy c → lands kind c text ≡ Some d → Run kind c text d
unfolding lands
run_of kind [] c d t h = subst (λ (x : Control). Run kind c [] x) (same h) Run.stop
  where
    same : Some c ≡ Some d → c ≡ d
    same h = cc
run_of kind (b ∷ text) c d t h = run_by kind c d b text (advance kind c b) refl (state_told kind c b t) (λ next n k. run_of kind text next d n k) h

pub lands_of : {kind : Kind} {c d : Control} {text : List ℕ} → Run kind c text d → lands kind c text ≡ Some d
unfolding lands
lands_of Run.stop = refl
lands_of {kind} (Run.go {text = text} e t r) = ap (λ (o : Option Control). lands_on kind o text) e ∙ lands_of r

pub run_split : {kind : Kind} (xs : List ℕ) {ys : List ℕ} {c d : Control} → Run kind c (xs ++ ys) d → (e : Control) × Run kind c xs e × Run kind e ys d
run_split [] {c = c} r = (c, Run.stop, r)
run_split (x ∷ xs) (Run.go e t r) = let k = run_split xs r in (k.0, Run.go e t k.1, k.2)
