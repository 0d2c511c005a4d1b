-- Runs of bytes that are read at once.
use Rattle.std.proofs.Common.{◌≡◌, ◌∙◌, ◌+◌, ◌≤◌, ℕ, Bool, true, false, ◌&&◌, List, [], ◌∷◌, ◌++◌, length, take, drop, refl, sym, ap, subst, arith, append_assoc, append-nil, ◌<◌, get_or, inl, inr}
use Rattle.std.specs.Prelude.{◌⊎◌, ◌==◌, not, nat_le, nat_lt, Option, None, Some, Result, Ok, Err, IfOk, if◌then◌else◌}
use Rattle.std.specs.List.{list_all}
use Rattle.std.proofs.lemmas.Bool.{and_parts, and_from, eqb-true, leb-true, ltb-true}
use Rattle.std.proofs.lemmas.Bool.Decides.{nat_tests}
use Rattle.std.proofs.lemmas.List.{take-append-drop, take_more, length-take-le}
use Rattle.body_cutter.specs.declared.place.Place.{Place}
use Rattle.body_cutter.specs.declared.place.Place.TheVariants.{Content, Section as InSection, TagName, AttrName, Value as InValue}
use Rattle.body_cutter.specs.declared.place.Wide.{Wide}
use Rattle.body_cutter.specs.declared.place.Wide.TheVariants.{Whole}
use Rattle.body_cutter.specs.declared.place.Reference.{Reference}
use Rattle.body_cutter.specs.declared.place.Reference.TheVariants.{Begun, L, G, A, Am, Ap, Apo, Q, Qu, Quo, Named, Number, Decimal, HexMark, Hex}
use Rattle.body_cutter.specs.declared.place.ReferenceMove.TheVariants.{More}
use Rattle.body_cutter.specs.declared.place.Around.{Around}
use Rattle.body_cutter.specs.declared.place.Around.TheVariants.{NoBody, NoStanza, Body, Child}
use Rattle.body_cutter.specs.declared.place.Act.TheVariants.{Pass, GrowName, ValueByte}
use Rattle.body_cutter.specs.declared.place.Move.{Move}
use Rattle.body_cutter.specs.declared.place.Run.{Run}
use Rattle.body_cutter.specs.declared.place.Run.TheVariants.{Data, Section, Value, Name, Zeros, Brackets}
use Rattle.body_cutter.specs.Chars.{is_char_byte, is_plain, is_name_byte, grows_name_plainly, begins_name_plainly, is_letter, is_digit, is_whole, wide_next}
use Rattle.body_cutter.specs.Names.{around, due}
use Rattle.body_cutter.specs.References.{reference_next, decimal_or_end, decimal_next, decimal_more, hex_or_end, hex_next, hex_digit, hex_more}
use Rattle.body_cutter.specs.Tables.{goes, more_brackets, child_content_next, content_next, section_next, value_next, value_plain, tag_name_next, attr_name_next}
use Rattle.body_cutter.specs.Reader.{State, acted, is_body_tag, matched, move_of, next_move, place_next, placed, step, with_name_grown, with_value}
use Rattle.body_cutter.specs.Refusal.{Reading, Stopped, reading}
use Rattle.body_cutter.specs.Scanning.{IsRun, ReadsFront, TakesRun, is_child, is_plain_byte, is_run_byte, is_text_byte, is_zero, stops_of, wide_rest}
use Rattle.body_cutter.proofs.Taken.{byte_no_space}
use Rattle.body_cutter.proofs.Utf8Takes.{begins_one}
use Rattle.body_cutter.proofs.Utf8Pieces.{whole_is}

abbrev onward : Option State → ℕ → ℕ → State → List ℕ → Reading
onward o at x s text = elim o [ None ↦ Stopped at x s | Some next ↦ reading (at + 1) next text ]

none_some : {P : Type 0} {w : Wide} → None ≡ Some w → P
none_some h = absurd (cc)

some_same : {v w : Wide} → Some v ≡ Some w → v ≡ w
some_same h = cc

-- bytes of which each leads from one state of these to the next
module _ (good : ℕ → Bool) (after : Wide → List ℕ → State)
    (each : (taken : List ℕ) (w next : Wide) (at b : ℕ) → good b ≡ true → wide_next w b ≡ Some next → step (after w taken) at b ≡ Some (after next (taken ++ b ∷ []))) where
  read_run : (run rest taken : List ℕ) (w left : Wide) (at : ℕ) → list_all good run ≡ true → wide_rest w run ≡ Some left → reading at (after w taken) (run ++ rest) ≡ reading (at + length run) (after left (taken ++ run)) rest
  unfolding reading wide_rest
  read_run [] rest taken w left at g h =
      let n : at ≡ at + 0 = omega arith in
      ap (λ (k : ℕ). reading k (after w taken) rest) n
      ∙ ap (λ (v : Wide). reading (at + 0) (after v taken) rest) (some_same h)
      ∙ ap (λ (xs : List ℕ). reading (at + 0) (after left xs) rest) (sym (append-nil taken))
  read_run (b ∷ run) rest taken w left at g h =
      let p = and_parts (good b) (list_all good run) g in
      by (wide_next w b) refl p.0 (λ next k. read_run run rest (taken ++ b ∷ []) next left (at + 1) p.1 k) h
    where
      by : (o : Option Wide) → wide_next w b ≡ o → good b ≡ true →
          ((next : Wide) → wide_rest next run ≡ Some left → reading (at + 1) (after next (taken ++ b ∷ [])) (run ++ rest) ≡ reading (at + 1 + length run) (after left ((taken ++ b ∷ []) ++ run)) rest) →
          elim o [ None ↦ None | Some next ↦ wide_rest next run ] ≡ Some left → reading at (after w taken) (b ∷ (run ++ rest)) ≡ reading (at + length (b ∷ run)) (after left (taken ++ b ∷ run)) rest
      by None e g ih h = none_some h
      by (Some next) e g ih h =
          let n : at + 1 + length run ≡ at + length (b ∷ run) = omega arith in
          ap (λ (o : Option State). onward o at b (after w taken) (run ++ rest)) (each taken w next at b g e)
          ∙ ih next h
          ∙ ap (λ (k : ℕ). reading k (after left ((taken ++ b ∷ []) ++ run)) rest) n
          ∙ ap (λ (xs : List ℕ). reading (at + length (b ∷ run)) (after left xs) rest) (append_assoc taken (b ∷ []) run)

  pub front_by : (bytes : List ℕ) (count : ℕ) (w left : Wide) (s new : State) → s ≡ after w [] → new ≡ after left (take count bytes) → count ≤ length bytes → list_all good (take count bytes) ≡ true → wide_rest w (take count bytes) ≡ Some left → ReadsFront s bytes count new
  front_by bytes count w left s new e f within g h = record {
    within = within;
    reads = λ at.
        let n : at + length (take count bytes) ≡ at + count = omega (arith, length-take-le count bytes within) in
        ap (λ (t : State). reading at t bytes) e
        ∙ ap (reading at (after w [])) (sym (take-append-drop count bytes))
        ∙ read_run (take count bytes) (drop count bytes) [] w left at g h
        ∙ ap (λ (k : ℕ). reading k (after left (take count bytes)) (drop count bytes)) n
        ∙ ap (λ (t : State). reading (at + count) t (drop count bytes)) (sym f);
  }

-- a byte that leads to its place again
step_by : (t : State) (at b : ℕ) (next : Wide) (move : Move) → wide_next t.wide b ≡ Some next → next_move t b ≡ Some move → step t at b ≡ placed next move (acted move.act t at b)
unfolding step
step_by t at b next move e m = rw (e, m) refl

stays : (u : State) (move : Move) (next : Wide) → u.place ≡ move.place → u.reference ≡ move.reference → placed next move (Some u) ≡ Some (record u { wide = next })
stays u move next p r =
    ap (λ (q : Place). let t : Option State = Some (record u { place = q; reference = move.reference; wide = next }) in t) (sym p)
    ∙ ap (λ (q : Option Reference). let t : Option State = Some (record u { reference = q; wide = next }) in t) (sym r)

and_no : (t : Bool) → (t && false) ≡ false
and_no true = refl
and_no false = refl

not_so : (t : Bool) → not t ≡ true → t ≡ false
not_so true h = absurd (cc)
not_so false h = refl

record IsText (first second third b : ℕ) : Type 0 where
  least : 32 ≤ b
  one : (b == first) ≡ false
  two : (b == second) ≡ false
  three : (b == third) ≡ false

text_parts : (first second third b : ℕ) → is_text_byte first second third b ≡ true → IsText first second third b
unfolding is_text_byte
text_parts first second third b h =
    let p = and_parts (nat_le 32 b) _ h in
    let q = and_parts (not (b == first)) _ p.1 in
    let r = and_parts (not (b == second)) (not (b == third)) q.1 in
    record { least = leb-true 32 b p.0; one = not_so _ q.0; two = not_so _ r.0; three = not_so _ r.1 }

text_char : (b : ℕ) → 32 ≤ b → is_char_byte b ≡ true
unfolding is_char_byte is_plain
text_char b l = grind (arith, nat_tests)

data_next : (b : ℕ) → is_run_byte Data b ≡ true → child_content_next 0 b ≡ goes (Content 0) Pass
unfolding is_run_byte child_content_next
data_next b h = let t = text_parts 60 38 93 b h in rw (t.one, t.two, t.three, and_no (b == 62), text_char b t.least) refl

bracket_stays : (b : ℕ) → is_run_byte Brackets b ≡ true → child_content_next 2 b ≡ goes (Content 2) Pass
unfolding is_run_byte child_content_next more_brackets
bracket_stays b h = let e : b ≡ 93 = eqb-true b 93 h in rw e refl

section_stays : (b : ℕ) → is_run_byte Section b ≡ true → section_next 0 b ≡ goes (InSection 0) Pass
unfolding is_run_byte section_next
section_stays b h = let t = text_parts 93 93 93 b h in rw (t.one, and_no (b == 62), text_char b t.least) refl

no_control : (b n : ℕ) → 32 ≤ b → n < 32 → (b == n) ≡ false
no_control b n l k = grind (arith, nat_tests)

value_stays : (quote b : ℕ) → is_run_byte (Value quote) b ≡ true → value_next quote false b ≡ goes (InValue quote false) ValueByte
unfolding is_run_byte value_next value_plain
value_stays quote b h =
    let t = text_parts quote 60 38 b h in
    rw (t.one, t.two, t.three, and_no (b == 10), no_control b 13 t.least (omega arith), no_control b 10 t.least (omega arith), no_control b 9 t.least (omega arith), text_char b t.least) refl

name_stays : (b : ℕ) → is_run_byte Name b ≡ true → tag_name_next b ≡ goes TagName GrowName
unfolding is_run_byte tag_name_next
name_stays b h = rw h refl

name_no_equals : (b : ℕ) → is_name_byte b ≡ true → (b == 61) ≡ false
unfolding is_name_byte grows_name_plainly begins_name_plainly is_letter is_digit
name_no_equals b h = grind (arith, nat_tests)

attr_stays : (b : ℕ) → is_run_byte Name b ≡ true → attr_name_next b ≡ goes AttrName GrowName
unfolding is_run_byte attr_name_next
attr_stays b h = rw (name_no_equals b h, byte_no_space b h, h) refl

-- a zero more leaves a number of the value 0 as it is
zero_stays : (reference : Reference) (b : ℕ) → (reference ≡ Decimal 0) ⊎ (reference ≡ Hex 0) → is_run_byte Zeros b ≡ true → reference_next reference b ≡ Some (More reference)
unfolding is_run_byte reference_next decimal_or_end decimal_next decimal_more hex_or_end hex_next hex_digit hex_more
zero_stays reference b (inl e) h = rw (e, eqb-true b 48 h) refl
zero_stays reference b (inr e) h = rw (e, eqb-true b 48 h) refl

child_is : (a : Around) → is_child a ≡ true → a ≡ Child
child_is Child h = refl
child_is NoBody h = absurd (cc)
child_is NoStanza h = absurd (cc)
child_is Body h = absurd (cc)

pass_acts : (t : State) (at b : ℕ) → acted Pass t at b ≡ Some t
unfolding acted
pass_acts t at b = refl

name_acts : (t : State) (at b : ℕ) → acted GrowName t at b ≡ Some (record t { name = t.name ++ b ∷ [] })
unfolding acted with_name_grown
name_acts t at b = refl

-- the move of a byte at a place where no reference is open
place_moves : (t : State) (b : ℕ) (place : Place) (o : Option Move) → t.place ≡ place → t.reference ≡ None → place_next place (around t.kind t.elements) (due t.elements (matched place)) b ≡ o → next_move t b ≡ o
unfolding next_move move_of
place_moves t b place o p r h = rw (p, r) h

reference_moves : (t : State) (b : ℕ) (reference : Reference) → t.reference ≡ Some reference → reference_next reference b ≡ Some (More reference) → next_move t b ≡ Some (record { place = t.place; reference = Some reference; act = Pass })
unfolding next_move move_of
reference_moves t b reference r h = rw (r, h) refl

-- a byte that is passed over
passes : (t : State) (place : Place) (reference : Option Reference) (w : Wide) (at b : ℕ) → t.place ≡ place → t.reference ≡ reference → next_move t b ≡ Some (record { place = place; reference = reference; act = Pass }) → wide_next t.wide b ≡ Some w →
    step t at b ≡ Some (record t { wide = w })
passes t place reference w at b p r m e =
    let move : Move = record { place = place; reference = reference; act = Pass } in
    step_by t at b w move e m ∙ ap (placed w move) (pass_acts t at b) ∙ stays t move w p r

grows : (t : State) (place : Place) (w : Wide) (at b : ℕ) → t.place ≡ place → t.reference ≡ None → next_move t b ≡ goes place GrowName → wide_next t.wide b ≡ Some w →
    step t at b ≡ Some (record t { wide = w; name = t.name ++ b ∷ [] })
grows t place w at b p r m e =
    let move : Move = record { place = place; reference = None; act = GrowName } in
    step_by t at b w move e m ∙ ap (placed w move) (name_acts t at b) ∙ stays (record t { name = t.name ++ b ∷ [] }) move w p r

-- runs that are passed over
module _ (s : State) (run : Run) (bytes : List ℕ) (count : ℕ) (new : State) (x : IsRun run s.wide bytes count new.wide) (same : new ≡ record s { wide = new.wide }) where
  passed : ((w next : Wide) (at b : ℕ) → is_run_byte run b ≡ true → wide_next w b ≡ Some next → step (record s { wide = w }) at b ≡ Some (record s { wide = next })) → ReadsFront s bytes count new
  passed each = front_by (is_run_byte run) (λ w taken. record s { wide = w }) (λ taken w next at b g e. each w next at b g e) bytes count s.wide new.wide s new refl same x.within x.each x.whole

pub data_read : (s : State) (bytes : List ℕ) (count : ℕ) (new : State) → IsRun Data s.wide bytes count new.wide → new ≡ record s { wide = new.wide } → s.place ≡ Content 0 → s.reference ≡ None → is_child (around s.kind s.elements) ≡ true → ReadsFront s bytes count new
unfolding place_next content_next
data_read s bytes count new x same p r a =
    passed s Data bytes count new x same (λ w next at b g e.
    passes (record s { wide = w }) (Content 0) None next at b p r
    (place_moves (record s { wide = w }) b (Content 0) _ p r (rw (child_is _ a) (data_next b g))) e)

pub brackets_read : (s : State) (bytes : List ℕ) (count : ℕ) (new : State) → IsRun Brackets s.wide bytes count new.wide → new ≡ record s { wide = new.wide } → s.place ≡ Content 2 → s.reference ≡ None → is_child (around s.kind s.elements) ≡ true → ReadsFront s bytes count new
unfolding place_next content_next
brackets_read s bytes count new x same p r a =
    passed s Brackets bytes count new x same (λ w next at b g e.
    passes (record s { wide = w }) (Content 2) None next at b p r
    (place_moves (record s { wide = w }) b (Content 2) _ p r (rw (child_is _ a) (bracket_stays b g))) e)

pub section_read : (s : State) (bytes : List ℕ) (count : ℕ) (new : State) → IsRun Section s.wide bytes count new.wide → new ≡ record s { wide = new.wide } → s.place ≡ InSection 0 → s.reference ≡ None → ReadsFront s bytes count new
unfolding place_next
section_read s bytes count new x same p r =
    passed s Section bytes count new x same (λ w next at b g e.
    passes (record s { wide = w }) (InSection 0) None next at b p r (place_moves (record s { wide = w }) b (InSection 0) _ p r (section_stays b g)) e)

zero_is : (reference : Reference) → is_zero reference ≡ true → (reference ≡ Decimal 0) ⊎ (reference ≡ Hex 0)
zero_is (Decimal value) h = inl (ap Decimal (eqb-true value 0 h))
zero_is (Hex value) h = inr (ap Hex (eqb-true value 0 h))
zero_is Begun h = absurd (cc)
zero_is L h = absurd (cc)
zero_is G h = absurd (cc)
zero_is A h = absurd (cc)
zero_is Am h = absurd (cc)
zero_is Ap h = absurd (cc)
zero_is Apo h = absurd (cc)
zero_is Q h = absurd (cc)
zero_is Qu h = absurd (cc)
zero_is Quo h = absurd (cc)
zero_is (Named value) h = absurd (cc)
zero_is Number h = absurd (cc)
zero_is HexMark h = absurd (cc)

pub zeros_read : (s : State) (reference : Reference) (bytes : List ℕ) (count : ℕ) (new : State) → IsRun Zeros s.wide bytes count new.wide → new ≡ record s { wide = new.wide } → s.reference ≡ Some reference → is_zero reference ≡ true → ReadsFront s bytes count new
zeros_read s reference bytes count new x same r z =
    passed s Zeros bytes count new x same (λ w next at b g e.
    passes (record s { wide = w }) s.place (Some reference) next at b refl r (reference_moves (record s { wide = w }) b reference r (zero_stays reference b (zero_is reference z) g)) e)

-- a run of a name
name_read : (s : State) (place : Place) (bytes : List ℕ) (count : ℕ) (new : State) → TakesRun Name s bytes count new → s.place ≡ place → s.reference ≡ None →
    ((b : ℕ) → is_run_byte Name b ≡ true → place_next place (around s.kind s.elements) (due s.elements (matched place)) b ≡ goes place GrowName) → ReadsFront s bytes count new
name_read s place bytes count new x p r stay =
    front_by (is_run_byte Name) (λ w taken. record s { wide = w; name = s.name ++ taken })
    (λ taken w next at b g e.
    let t : State = record s { wide = w; name = s.name ++ taken } in
    grows t place next at b p r (place_moves t b place _ p r (stay b g)) e
    ∙ ap (λ (xs : List ℕ). let o : Option State = Some (record s { wide = next; name = xs }) in o) (append_assoc s.name taken (b ∷ [])))
    bytes count s.wide new.wide s new (ap (λ (xs : List ℕ). let t : State = record s { name = xs } in t) (sym (append-nil s.name))) x.after x.takes.within x.takes.each x.takes.whole

pub tag_name_read : (s : State) (bytes : List ℕ) (count : ℕ) (new : State) → TakesRun Name s bytes count new → s.place ≡ TagName → s.reference ≡ None → ReadsFront s bytes count new
unfolding place_next
tag_name_read s bytes count new x p r = name_read s TagName bytes count new x p r name_stays

pub attr_name_read : (s : State) (bytes : List ℕ) (count : ℕ) (new : State) → TakesRun Name s bytes count new → s.place ≡ AttrName → s.reference ≡ None → ReadsFront s bytes count new
unfolding place_next
attr_name_read s bytes count new x p r = name_read s AttrName bytes count new x p r attr_stays

-- a run of a value, which is kept where it is one of the body's
module _ (s : State) (quote : ℕ) (p : s.place ≡ InValue quote false) (r : s.reference ≡ None) where
  abbrev valued : Bool → Wide → List ℕ → State
  valued t w taken = if t then record s { wide = w; value = s.value ++ taken } else record s { wide = w }

  value_acts : (t : State) (v : Bool) (at b : ℕ) → is_body_tag (around t.kind t.elements) ≡ v → acted ValueByte t at b ≡ Some (if v then record t { value = t.value ++ b ∷ [] } else t)
  unfolding acted with_value
  value_acts t v at b e = rw e refl

  value_moves : (t : State) (b : ℕ) → t.place ≡ InValue quote false → t.reference ≡ None → is_run_byte (Value quote) b ≡ true → next_move t b ≡ goes (InValue quote false) ValueByte
  unfolding place_next
  value_moves t b p r g = place_moves t b (InValue quote false) _ p r (value_stays quote b g)

  value_each : (v : Bool) → is_body_tag (around s.kind s.elements) ≡ v → (taken : List ℕ) (w next : Wide) (at b : ℕ) → is_run_byte (Value quote) b ≡ true → wide_next w b ≡ Some next → step (valued v w taken) at b ≡ Some (valued v next (taken ++ b ∷ []))
  value_each true e taken w next at b g h =
      let t : State = record s { wide = w; value = s.value ++ taken } in
      let move : Move = record { place = InValue quote false; reference = None; act = ValueByte } in
      step_by t at b next move h (value_moves t b p r g)
      ∙ ap (placed next move) (value_acts t true at b e)
      ∙ stays (record t { value = t.value ++ b ∷ [] }) move next p r
      ∙ ap (λ (xs : List ℕ). let o : Option State = Some (record s { wide = next; value = xs }) in o) (append_assoc s.value taken (b ∷ []))
  value_each false e taken w next at b g h =
      let t : State = record s { wide = w } in
      let move : Move = record { place = InValue quote false; reference = None; act = ValueByte } in
      step_by t at b next move h (value_moves t b p r g) ∙ ap (placed next move) (value_acts t false at b e) ∙ stays t move next p r

  with_is : (v : Bool) (w : Wide) (taken : List ℕ) → is_body_tag (around s.kind s.elements) ≡ v → with_value (record s { wide = w }) taken ≡ valued v w taken
  unfolding with_value
  with_is v w taken e = rw e refl

  none_is : (v : Bool) → s ≡ valued v s.wide []
  none_is true = ap (λ (xs : List ℕ). let t : State = record s { value = xs } in t) (sym (append-nil s.value))
  none_is false = refl

  pub value_read : (bytes : List ℕ) (count : ℕ) (new : State) → TakesRun (Value quote) s bytes count new → ReadsFront s bytes count new
  value_read bytes count new x =
      let v = is_body_tag (around s.kind s.elements) in
      front_by (is_run_byte (Value quote)) (valued v) (value_each v refl) bytes count s.wide new.wide s new (none_is v) (x.after ∙ with_is v new.wide (take count bytes) refl) x.takes.within x.takes.each x.takes.whole

-- no bytes
pub none_read : (s : State) (bytes : List ℕ) → ReadsFront s bytes 0 s
none_read s bytes = record { within = omega arith; reads = λ at. let n : at ≡ at + 0 = omega arith in ap (λ (k : ℕ). reading k s bytes) n }

-- a run with a byte more
pub run_none : (run : Run) (wide : Wide) (bytes : List ℕ) → IsRun run wide bytes 0 wide
unfolding wide_rest
run_none run wide bytes = record { within = omega arith; each = refl; whole = refl }

wide_more : (bytes : List ℕ) (wide left next : Wide) (b : ℕ) → wide_rest wide bytes ≡ Some left → wide_next left b ≡ Some next → wide_rest wide (bytes ++ b ∷ []) ≡ Some next
unfolding wide_rest
wide_more [] wide left next b h e = ap (λ (v : Wide). elim (wide_next v b) [ None ↦ None | Some x ↦ wide_rest x [] ]) (some_same h) ∙ ap (λ (o : Option Wide). elim o [ None ↦ None | Some x ↦ wide_rest x [] ]) e
wide_more (c ∷ bytes) wide left next b h e = by (wide_next wide c) (λ x k. wide_more bytes x left next b k e) h
  where
    by : (o : Option Wide) → ((x : Wide) → wide_rest x bytes ≡ Some left → wide_rest x (bytes ++ b ∷ []) ≡ Some next) → elim o [ None ↦ None | Some x ↦ wide_rest x bytes ] ≡ Some left → elim o [ None ↦ None | Some x ↦ wide_rest x (bytes ++ b ∷ []) ] ≡ Some next
    by None ih h = none_some h
    by (Some x) ih h = ih x h

all_more : (good : ℕ → Bool) (bytes : List ℕ) (b : ℕ) → list_all good bytes ≡ true → good b ≡ true → list_all good (bytes ++ b ∷ []) ≡ true
all_more good [] b h g = ap (λ (t : Bool). t && true) g
all_more good (c ∷ bytes) b h g = let p = and_parts (good c) (list_all good bytes) h in and_from (good c) (list_all good (bytes ++ b ∷ [])) p.0 (all_more good bytes b p.1 g)

pub run_more : (run : Run) (wide : Wide) (bytes : List ℕ) (count : ℕ) (left next : Wide) (b : ℕ) → IsRun run wide bytes count left → count < length bytes → b ≡ get_or bytes count 0 → is_run_byte run b ≡ true → wide_next left b ≡ Some next → IsRun run wide bytes (count + 1) next
run_more run wide bytes count left next b x l e g h =
    let more : take (count + 1) bytes ≡ take count bytes ++ b ∷ [] = take_more bytes count 0 l ∙ ap (λ (c : ℕ). take count bytes ++ c ∷ []) (sym e) in
    record {
      within = omega (arith, l);
      each = ap (list_all (is_run_byte run)) more ∙ all_more (is_run_byte run) (take count bytes) b x.each g;
      whole = ap (wide_rest wide) more ∙ wide_more (take count bytes) wide left next b x.whole h;
    }

-- a run of a value that is taken
value_wide : (v : Bool) (s : State) (bytes : List ℕ) → is_body_tag (around s.kind s.elements) ≡ v → (with_value s bytes).wide ≡ s.wide
unfolding with_value
value_wide true s bytes e = rw e refl
value_wide false s bytes e = rw e refl

pub value_taken : (s new : State) (quote : ℕ) (bytes : List ℕ) (count : ℕ) (left : Wide) → IsRun (Value quote) s.wide bytes count left → new ≡ with_value (record s { wide = left }) (take count bytes) → TakesRun (Value quote) s bytes count new
value_taken s new quote bytes count left x e =
    let w : new.wide ≡ left = ap (λ (t : State). t.wide) e ∙ value_wide _ (record s { wide = left }) (take count bytes) refl in
    record {
      takes = subst (λ (v : Wide). IsRun (Value quote) s.wide bytes count v) (sym w) x;
      after = e ∙ ap (λ (v : Wide). with_value (record s { wide = v }) (take count bytes)) (sym w);
    }

-- what is told of a result
pub if_ok : {R E : Type 0} (r : Result R E) (Before After : R → Type 0) → ((x : R) → Before x → After x) → IfOk r Before → IfOk r After
if_ok (Ok x) Before After f h = f x h
if_ok (Err e) Before After f h = tt

pub all_append : (good : ℕ → Bool) (xs ys : List ℕ) → list_all good xs ≡ true → list_all good ys ≡ true → list_all good (xs ++ ys) ≡ true
all_append good [] ys h k = k
all_append good (x ∷ xs) ys h k = let p = and_parts (good x) (list_all good xs) h in and_from (good x) (list_all good (xs ++ ys)) p.0 (all_append good xs ys p.1 k)

-- bytes of plain text
record IsPlain (first second third b : ℕ) : Type 0 where
  text : is_text_byte first second third b ≡ true
  ascii : b < 128

plain_parts : (first second third b : ℕ) → is_plain_byte first second third b ≡ true → IsPlain first second third b
unfolding is_text_byte
plain_parts first second third b h =
    let p = and_parts _ (not (b == third)) h in
    let q = and_parts _ (not (b == second)) p.0 in
    let r = and_parts _ (not (b == first)) q.0 in
    let t = and_parts (nat_le 32 b) (nat_lt b 128) r.0 in
    record { text = rw (t.0, r.1, q.1, p.1) refl; ascii = ltb-true b 128 t.1 }

some_stops : {v w : ℕ × ℕ × ℕ} → Some v ≡ Some w → v ≡ w
some_stops h = cc

none_stops : {P : Type 0} {w : ℕ × ℕ × ℕ} → None ≡ Some w → P
none_stops h = absurd (cc)

plain_goes : (run : Run) (stops : ℕ × ℕ × ℕ) (b : ℕ) → stops_of run ≡ Some stops → IsPlain stops.0 stops.1 stops.2 b → is_run_byte run b ≡ true
unfolding is_run_byte
plain_goes Data stops b e h = subst (λ (s : ℕ × ℕ × ℕ). is_text_byte s.0 s.1 s.2 b ≡ true) (sym (some_stops e)) h.text
plain_goes Section stops b e h = subst (λ (s : ℕ × ℕ × ℕ). is_text_byte s.0 s.1 s.2 b ≡ true) (sym (some_stops e)) h.text
plain_goes (Value quote) stops b e h = subst (λ (s : ℕ × ℕ × ℕ). is_text_byte s.0 s.1 s.2 b ≡ true) (sym (some_stops e)) h.text
plain_goes Name stops b e h = none_stops e
plain_goes Zeros stops b e h = none_stops e
plain_goes Brackets stops b e h = none_stops e

plain_each : (run : Run) (stops : ℕ × ℕ × ℕ) (bytes : List ℕ) → stops_of run ≡ Some stops → list_all (is_plain_byte stops.0 stops.1 stops.2) bytes ≡ true → (list_all (is_run_byte run) bytes ≡ true) × (wide_rest Whole bytes ≡ Some Whole)
unfolding wide_rest
plain_each run stops [] e h = (refl, refl)
plain_each run stops (b ∷ bytes) e h =
    let p = and_parts (is_plain_byte stops.0 stops.1 stops.2 b) (list_all (is_plain_byte stops.0 stops.1 stops.2) bytes) h in
    let x = plain_parts stops.0 stops.1 stops.2 b p.0 in
    let r = plain_each run stops bytes e p.1 in
    (and_from (is_run_byte run b) (list_all (is_run_byte run) bytes) (plain_goes run stops b e x) r.0, ap (λ (o : Option Wide). elim o [ None ↦ None | Some w ↦ wide_rest w bytes ]) (begins_one b x.ascii) ∙ r.1)

pub plain_run : (run : Run) (stops : ℕ × ℕ × ℕ) (wide : Wide) (bytes : List ℕ) (count : ℕ) → is_whole wide ≡ true → stops_of run ≡ Some stops → count ≤ length bytes → list_all (is_plain_byte stops.0 stops.1 stops.2) (take count bytes) ≡ true → IsRun run wide bytes count wide
plain_run run stops wide bytes count w e within h =
    let r = plain_each run stops (take count bytes) e h in
    let v : wide ≡ Whole = whole_is wide w in
    record { within = within; each = r.0; whole = ap (λ (x : Wide). wide_rest x (take count bytes)) v ∙ r.1 ∙ ap Some (sym v) }
