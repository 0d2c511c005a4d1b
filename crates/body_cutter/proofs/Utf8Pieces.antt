-- UTF-8 byte by byte.
use Rattle.std.proofs.Common.{◌≡◌, ◌∙◌, ◌<◌, ◌≤◌, ℕ, Bool, true, false, ◌&&◌, List, [], ◌∷◌, ◌++◌, refl, sym, ap, subst, arith, append_assoc, append-nil, inl, inr}
use Rattle.std.specs.Char.{encode_utf8}
use Rattle.std.specs.Prelude.{◌⊎◌, nat_lt, nat_le, Option, None, Some, encode_utf8_all}
use Rattle.std.specs.Str.{is_utf8, IsUtf8}
use Rattle.std.proofs.Math.Utf8.{scalars}
use Rattle.std.proofs.lemmas.Bool.{lt-ltb, le-leb, ltb-true, leb-true, cases_lt, and_parts, and_from}
use Rattle.std.proofs.lemmas.Bool.Decides.{nat_tests}
use Rattle.std.proofs.lemmas.Str.{IsUtf8-append, IsUtf8-nil, IsUtf8-from_is_utf8, is_utf8-from_IsUtf8}
use Rattle.body_cutter.specs.declared.place.Wide.{Wide}
use Rattle.body_cutter.specs.declared.place.Wide.TheVariants.{Whole, One, Two, Three, AfterE0, AfterEd, AfterEf, AfterEfBf, AfterF0, AfterF4}
use Rattle.body_cutter.specs.Chars.{is_allowed, is_whole, after_tail, wide_begin, wide_next, ends_whole}
use Rattle.body_cutter.specs.Utf8.{is_tabled, is_utf8_end, rest_with, utf8_next, utf8_rest}
use Rattle.body_cutter.proofs.Utf8Takes.{characters_taken}
use Rattle.body_cutter.proofs.Utf8Allowed.{whole_is_utf8}

some_same : {x y : Wide} → Some x ≡ Some y → x ≡ y
some_same h = cc

none_some : {P : Type 0} {next : Wide} → None ≡ Some next → P
none_some h = absurd (cc)

in_range : (low high b : ℕ) → low ≤ b → b < high → (nat_le low b && nat_lt b high) ≡ true
in_range low high b l h = rw (le-leb low b l, lt-ltb b high h) refl

widened : (b : ℕ) (next : Wide) (t : Bool) → (nat_le 0x80 b && nat_lt b 0xbe) ≡ t → after_tail t Whole ≡ Some next → after_tail (nat_le 0x80 b && nat_lt b 0xc0) Whole ≡ Some next
widened b next false e h = none_some h
widened b next true e h =
    let p = and_parts (nat_le 0x80 b) (nat_lt b 0xbe) e in
    rw (in_range 0x80 0xc0 b (leb-true 0x80 b p.0) (omega (arith, ltb-true b 0xbe p.1))) h

-- where the table of the reader goes on, so does UTF-8
pub utf8_goes : (w : Wide) (b : ℕ) (next : Wide) → wide_next w b ≡ Some next → utf8_next w b ≡ Some next
unfolding utf8_next wide_next
utf8_goes Whole b next h = h
utf8_goes One b next h = h
utf8_goes Two b next h = h
utf8_goes Three b next h = h
utf8_goes AfterE0 b next h = h
utf8_goes AfterEd b next h = h
utf8_goes AfterEf b next h = h
utf8_goes AfterEfBf b next h = widened b next _ refl h
utf8_goes AfterF0 b next h = h
utf8_goes AfterF4 b next h = h

abbrev onward : Option Wide → List ℕ → Option Wide
onward o text = elim o [ None ↦ None | Some next ↦ utf8_rest next text ]

-- bytes are read piece by piece
pub rest_append : (text : List ℕ) (w : Wide) (more : List ℕ) → utf8_rest w (text ++ more) ≡ rest_with (utf8_rest w text) more
unfolding utf8_rest
rest_append [] w more = refl
rest_append (b ∷ text) w more = by (utf8_next w b) (λ next. rest_append text next more)
  where
    by : (o : Option Wide) → ((next : Wide) → utf8_rest next (text ++ more) ≡ rest_with (utf8_rest next text) more) → onward o (text ++ more) ≡ rest_with (onward o text) more
    by None ih = refl
    by (Some next) ih = ih next

pub whole_is : (w : Wide) → is_whole w ≡ true → w ≡ Whole
whole_is Whole h = refl
whole_is One h = absurd (cc)
whole_is Two h = absurd (cc)
whole_is Three h = absurd (cc)
whole_is AfterE0 h = absurd (cc)
whole_is AfterEd h = absurd (cc)
whole_is AfterEf h = absurd (cc)
whole_is AfterEfBf h = absurd (cc)
whole_is AfterF0 h = absurd (cc)
whole_is AfterF4 h = absurd (cc)

whole_rest : (text : List ℕ) (w : Wide) → ends_whole w text ≡ true → utf8_rest w text ≡ Some Whole
unfolding ends_whole utf8_rest
whole_rest [] w h = ap Some (whole_is w h)
whole_rest (b ∷ text) w h = by (wide_next w b) refl (λ next k. whole_rest text next k) h
  where
    by : (o : Option Wide) → wide_next w b ≡ o → ((next : Wide) → ends_whole next text ≡ true → utf8_rest next text ≡ Some Whole) → elim o [ None ↦ false | Some next ↦ ends_whole next text ] ≡ true → utf8_rest w (b ∷ text) ≡ Some Whole
    by None e ih h = absurd (cc)
    by (Some next) e ih h = ap (λ (o : Option Wide). onward o text) (utf8_goes w b next e) ∙ ih next h

-- a scalar value is in the reader's table, or one of the two that are no characters
scalar_cases : (n : ℕ) → scalars (n ∷ []) ≡ true → (n < 0xfffe) ⊎ (0xfffe ≤ n) → (n < 0x10000) ⊎ (0x10000 ≤ n) → (n ≡ 0xfffe) ⊎ ((n ≡ 0xffff) ⊎ (is_tabled n ≡ true))
unfolding is_allowed
scalar_cases n h (inl below) x = inr (inr (grind (arith, nat_tests)))
scalar_cases n h (inr above) (inl low) = by (cases_lt n 0xffff)
  where
    by : (n < 0xffff) ⊎ (0xffff ≤ n) → (n ≡ 0xfffe) ⊎ ((n ≡ 0xffff) ⊎ (is_tabled n ≡ true))
    by (inl l) = inl (omega (arith, above, l))
    by (inr l) = inr (inl (omega (arith, l, low)))
scalar_cases n h (inr above) (inr high) = inr (inr (grind (arith, nat_tests)))

first_noncharacter : utf8_rest Whole (encode_utf8 0xfffe) ≡ Some Whole
unfolding utf8_rest utf8_next wide_next wide_begin encode_utf8
first_noncharacter = refl

last_noncharacter : utf8_rest Whole (encode_utf8 0xffff) ≡ Some Whole
unfolding utf8_rest utf8_next wide_next wide_begin encode_utf8
last_noncharacter = refl

character_rest : (n : ℕ) → (n ≡ 0xfffe) ⊎ ((n ≡ 0xffff) ⊎ (is_tabled n ≡ true)) → utf8_rest Whole (encode_utf8 n) ≡ Some Whole
character_rest n (inl e) = ap (λ (m : ℕ). utf8_rest Whole (encode_utf8 m)) e ∙ first_noncharacter
character_rest n (inr (inl e)) = ap (λ (m : ℕ). utf8_rest Whole (encode_utf8 m)) e ∙ last_noncharacter
character_rest n (inr (inr t)) = ap (utf8_rest Whole) (sym (append-nil (encode_utf8 n))) ∙ whole_rest (encode_utf8 n ++ []) Whole ((characters_taken (n ∷ []) (rw t refl)).is)

characters_rest : (characters : List ℕ) → scalars characters ≡ true → utf8_rest Whole (encode_utf8_all characters) ≡ Some Whole
unfolding utf8_rest
characters_rest [] h = refl
characters_rest (c ∷ cs) h =
    let p = and_parts _ (scalars cs) h in
    rest_append (encode_utf8 c) Whole (encode_utf8_all cs)
    ∙ ap (λ (o : Option Wide). rest_with o (encode_utf8_all cs)) (character_rest c (scalar_cases c (and_from _ true p.0 refl) (cases_lt c 0xfffe) (cases_lt c 0x10000)))
    ∙ characters_rest cs p.1

utf8_ends : (text : List ℕ) → IsUtf8 text → utf8_rest Whole text ≡ Some Whole
utf8_ends text u = ap (utf8_rest Whole) (sym u.1.1) ∙ characters_rest u.0 u.1.0

-- the bytes of a character that is not whole, after which the table is here
record Leads (p : List ℕ) (w : Wide) : Type 0 where
  on : (more : List ℕ) → ends_whole w more ≡ true → ends_whole Whole (p ++ more) ≡ true

abbrev Begun : Wide → List ℕ → Type 0
Begun Whole p = p ≡ []
Begun AfterEf p = p ≡ 0xef ∷ []
Begun AfterEfBf p = p ≡ 0xef ∷ 0xbf ∷ []
Begun One p = Leads p One
Begun Two p = Leads p Two
Begun Three p = Leads p Three
Begun AfterE0 p = Leads p AfterE0
Begun AfterEd p = Leads p AfterEd
Begun AfterF0 p = Leads p AfterF0
Begun AfterF4 p = Leads p AfterF4

leads : (w : Wide) (p : List ℕ) → Begun w p → Leads p w
unfolding ends_whole wide_next wide_begin
leads Whole p e = record { on = λ more h. subst (λ (q : List ℕ). ends_whole Whole (q ++ more) ≡ true) (sym e) h }
leads AfterEf p e = record { on = λ more h. subst (λ (q : List ℕ). ends_whole Whole (q ++ more) ≡ true) (sym e) h }
leads AfterEfBf p e = record { on = λ more h. subst (λ (q : List ℕ). ends_whole Whole (q ++ more) ≡ true) (sym e) h }
leads One p e = e
leads Two p e = e
leads Three p e = e
leads AfterE0 p e = e
leads AfterEd p e = e
leads AfterF0 p e = e
leads AfterF4 p e = e

tail_is : (t : Bool) (rest next : Wide) → after_tail t rest ≡ Some next → rest ≡ next
tail_is true rest next h = some_same h
tail_is false rest next h = none_some h

-- the two places that only some bytes lead to
ef_only : (w : Wide) (b : ℕ) → wide_next w b ≡ Some AfterEf → b ≡ 0xef
unfolding wide_next wide_begin
ef_only Whole b h = grind (arith, nat_tests)
ef_only One b h = let e = tail_is _ _ _ h in absurd (cc)
ef_only Two b h = let e = tail_is _ _ _ h in absurd (cc)
ef_only Three b h = let e = tail_is _ _ _ h in absurd (cc)
ef_only AfterE0 b h = let e = tail_is _ _ _ h in absurd (cc)
ef_only AfterEd b h = let e = tail_is _ _ _ h in absurd (cc)
ef_only AfterEf b h = grind (arith, nat_tests)
ef_only AfterEfBf b h = let e = tail_is _ _ _ h in absurd (cc)
ef_only AfterF0 b h = let e = tail_is _ _ _ h in absurd (cc)
ef_only AfterF4 b h = let e = tail_is _ _ _ h in absurd (cc)

ef_whole : (w : Wide) (b : ℕ) → wide_next w b ≡ Some AfterEf → w ≡ Whole
unfolding wide_next wide_begin
ef_whole Whole b h = refl
ef_whole One b h = let e = tail_is _ _ _ h in absurd (cc)
ef_whole Two b h = let e = tail_is _ _ _ h in absurd (cc)
ef_whole Three b h = let e = tail_is _ _ _ h in absurd (cc)
ef_whole AfterE0 b h = let e = tail_is _ _ _ h in absurd (cc)
ef_whole AfterEd b h = let e = tail_is _ _ _ h in absurd (cc)
ef_whole AfterEf b h = absurd (grind (arith, nat_tests))
ef_whole AfterEfBf b h = let e = tail_is _ _ _ h in absurd (cc)
ef_whole AfterF0 b h = let e = tail_is _ _ _ h in absurd (cc)
ef_whole AfterF4 b h = let e = tail_is _ _ _ h in absurd (cc)

bf_only : (w : Wide) (b : ℕ) → wide_next w b ≡ Some AfterEfBf → (w ≡ AfterEf) × (b ≡ 0xbf)
unfolding wide_next wide_begin
bf_only Whole b h = absurd (grind (arith, nat_tests))
bf_only One b h = let e = tail_is _ _ _ h in absurd (cc)
bf_only Two b h = let e = tail_is _ _ _ h in absurd (cc)
bf_only Three b h = let e = tail_is _ _ _ h in absurd (cc)
bf_only AfterE0 b h = let e = tail_is _ _ _ h in absurd (cc)
bf_only AfterEd b h = let e = tail_is _ _ _ h in absurd (cc)
bf_only AfterEf b h = (refl, grind (arith, nat_tests))
bf_only AfterEfBf b h = let e = tail_is _ _ _ h in absurd (cc)
bf_only AfterF0 b h = let e = tail_is _ _ _ h in absurd (cc)
bf_only AfterF4 b h = let e = tail_is _ _ _ h in absurd (cc)

-- the bytes of a character with one more
led_on : (w next : Wide) (b : ℕ) (p : List ℕ) → wide_next w b ≡ Some next → Begun w p → Leads (p ++ b ∷ []) next
unfolding ends_whole
led_on w next b p e begun = record {
  on = λ more h.
      ap (ends_whole Whole) (append_assoc p (b ∷ []) more)
      ∙ (leads w p begun).on (b ∷ more) (ap (λ (o : Option Wide). elim o [ None ↦ false | Some next ↦ ends_whole next more ]) e ∙ h);
}

begun_on : (w next : Wide) (b : ℕ) (p : List ℕ) → wide_next w b ≡ Some next → Begun w p → (next ≡ Whole → ⊥) → Begun next (p ++ b ∷ [])
begun_on w Whole b p e begun n = absurd (n refl)
begun_on w AfterEf b p e begun n =
    let q : p ≡ [] = subst (λ (v : Wide). Begun v p) (ef_whole w b e) begun in
    ap (λ (xs : List ℕ). xs ++ b ∷ []) q ∙ ap (λ (x : ℕ). x ∷ []) (ef_only w b e)
begun_on w AfterEfBf b p e begun n =
    let k = bf_only w b e in
    let q : p ≡ 0xef ∷ [] = subst (λ (v : Wide). Begun v p) k.0 begun in
    ap (λ (xs : List ℕ). xs ++ b ∷ []) q ∙ ap (λ (x : ℕ). 0xef ∷ x ∷ []) k.1
begun_on w One b p e begun n = led_on w One b p e begun
begun_on w Two b p e begun n = led_on w Two b p e begun
begun_on w Three b p e begun n = led_on w Three b p e begun
begun_on w AfterE0 b p e begun n = led_on w AfterE0 b p e begun
begun_on w AfterEd b p e begun n = led_on w AfterEd b p e begun
begun_on w AfterF0 b p e begun n = led_on w AfterF0 b p e begun
begun_on w AfterF4 b p e begun n = led_on w AfterF4 b p e begun

-- a character that the table ends is UTF-8
whole_character : (w : Wide) (b : ℕ) (p : List ℕ) → wide_next w b ≡ Some Whole → Begun w p → IsUtf8 (p ++ b ∷ [])
unfolding ends_whole
whole_character w b p e begun = whole_is_utf8 (p ++ b ∷ []) (ap (ends_whole Whole) (sym (append-nil (p ++ b ∷ []))) ∙ (led_on w Whole b p e begun).on [] refl)

-- the last byte of U+FFFE, of U+FFFF, or of an allowed character
last_of_three : (b : ℕ) → (nat_le 0x80 b && nat_lt b 0xc0) ≡ true → (b < 0xbe) ⊎ (0xbe ≤ b) → IsUtf8 (0xef ∷ 0xbf ∷ b ∷ [])
unfolding wide_next encode_utf8
last_of_three b t (inl low) = whole_character AfterEfBf b (0xef ∷ 0xbf ∷ []) (rw (in_range 0x80 0xbe b (leb-true 0x80 b (and_parts (nat_le 0x80 b) (nat_lt b 0xc0) t).0) low) refl) refl
last_of_three b t (inr high) = by (cases_lt b 0xbf)
  where
    most : b < 0xc0
    most = ltb-true b 0xc0 (and_parts (nat_le 0x80 b) (nat_lt b 0xc0) t).1

    by : (b < 0xbf) ⊎ (0xbf ≤ b) → IsUtf8 (0xef ∷ 0xbf ∷ b ∷ [])
    by (inl l) = (0xfffe ∷ [], (refl, ap (λ (x : ℕ). 0xef ∷ 0xbf ∷ x ∷ []) (omega (arith, high, l))))
    by (inr l) = (0xffff ∷ [], (refl, ap (λ (x : ℕ). 0xef ∷ 0xbf ∷ x ∷ []) (omega (arith, l, most))))

range_from : (t : Bool) (next : Wide) → after_tail t Whole ≡ Some next → (t ≡ true) × (next ≡ Whole)
range_from true next h = (refl, sym (some_same h))
range_from false next h = none_some h

abbrev Sound : List ℕ → Type 0
Sound text = (w : Wide) (p : List ℕ) → Begun w p → utf8_rest w text ≡ Some Whole → IsUtf8 (p ++ text)

-- a whole character, and a text after it
after_whole : (b : ℕ) (p text : List ℕ) → Sound text → IsUtf8 (p ++ b ∷ []) → utf8_rest Whole text ≡ Some Whole → IsUtf8 (p ++ b ∷ text)
after_whole b p text ih u h = subst (λ (xs : List ℕ). IsUtf8 xs) (append_assoc p (b ∷ []) text) (IsUtf8-append (p ++ b ∷ []) text u (ih Whole [] refl h))

is_it_whole : (w : Wide) → (w ≡ Whole) ⊎ (w ≡ Whole → ⊥)
is_it_whole Whole = inl refl
is_it_whole One = inr (λ e. absurd (cc))
is_it_whole Two = inr (λ e. absurd (cc))
is_it_whole Three = inr (λ e. absurd (cc))
is_it_whole AfterE0 = inr (λ e. absurd (cc))
is_it_whole AfterEd = inr (λ e. absurd (cc))
is_it_whole AfterEf = inr (λ e. absurd (cc))
is_it_whole AfterEfBf = inr (λ e. absurd (cc))
is_it_whole AfterF0 = inr (λ e. absurd (cc))
is_it_whole AfterF4 = inr (λ e. absurd (cc))

sound_on : (w next : Wide) (b : ℕ) (p text : List ℕ) → Sound text → wide_next w b ≡ Some next → Begun w p → utf8_rest next text ≡ Some Whole → (next ≡ Whole) ⊎ (next ≡ Whole → ⊥) → IsUtf8 (p ++ b ∷ text)
sound_on w next b p text ih e begun h (inl k) =
    after_whole b p text ih (whole_character w b p (e ∙ ap Some k) begun) (ap (λ (v : Wide). utf8_rest v text) (sym k) ∙ h)
sound_on w next b p text ih e begun h (inr n) = subst (λ (xs : List ℕ). IsUtf8 xs) (append_assoc p (b ∷ []) text) (ih next (p ++ b ∷ []) (begun_on w next b p e begun n) h)

-- the byte after EF BF
sound_last : (b : ℕ) (p text : List ℕ) (next : Wide) → Sound text → p ≡ 0xef ∷ 0xbf ∷ [] → after_tail (nat_le 0x80 b && nat_lt b 0xc0) Whole ≡ Some next → utf8_rest next text ≡ Some Whole → IsUtf8 (p ++ b ∷ text)
sound_last b p text next ih q e h =
    let r = range_from _ next e in
    after_whole b p text ih (subst (λ (xs : List ℕ). IsUtf8 (xs ++ b ∷ [])) (sym q) (last_of_three b r.0 (cases_lt b 0xbe))) (ap (λ (v : Wide). utf8_rest v text) (sym r.1) ∙ h)

sound_byte : (w next : Wide) (b : ℕ) (p text : List ℕ) → Sound text → utf8_next w b ≡ Some next → Begun w p → utf8_rest next text ≡ Some Whole → IsUtf8 (p ++ b ∷ text)
unfolding utf8_next
sound_byte AfterEfBf next b p text ih e begun h = sound_last b p text next ih begun e h
sound_byte Whole next b p text ih e begun h = sound_on Whole next b p text ih e begun h (is_it_whole next)
sound_byte One next b p text ih e begun h = sound_on One next b p text ih e begun h (is_it_whole next)
sound_byte Two next b p text ih e begun h = sound_on Two next b p text ih e begun h (is_it_whole next)
sound_byte Three next b p text ih e begun h = sound_on Three next b p text ih e begun h (is_it_whole next)
sound_byte AfterE0 next b p text ih e begun h = sound_on AfterE0 next b p text ih e begun h (is_it_whole next)
sound_byte AfterEd next b p text ih e begun h = sound_on AfterEd next b p text ih e begun h (is_it_whole next)
sound_byte AfterEf next b p text ih e begun h = sound_on AfterEf next b p text ih e begun h (is_it_whole next)
sound_byte AfterF0 next b p text ih e begun h = sound_on AfterF0 next b p text ih e begun h (is_it_whole next)
sound_byte AfterF4 next b p text ih e begun h = sound_on AfterF4 next b p text ih e begun h (is_it_whole next)

sound : (text : List ℕ) → Sound text
unfolding utf8_rest
sound [] w p begun h =
    let q : p ≡ [] = subst (λ (v : Wide). Begun v p) (some_same h) begun in
    subst (λ (xs : List ℕ). IsUtf8 (xs ++ [])) (sym q) IsUtf8-nil
sound (b ∷ text) w p begun h = by (utf8_next w b) refl (sound text) h
  where
    by : (o : Option Wide) → utf8_next w b ≡ o → Sound text → onward o text ≡ Some Whole → IsUtf8 (p ++ b ∷ text)
    by None e ih k = none_some k
    by (Some next) e ih k = sound_byte w next b p text ih e begun k

test_of : (text : List ℕ) (t : Bool) (o : Option Wide) → is_utf8 text ≡ t → utf8_rest Whole text ≡ o → t ≡ is_utf8_end o
test_of text true o e f = sym (ap is_utf8_end (sym f ∙ utf8_ends text (IsUtf8-from_is_utf8 text e)))
test_of text false None e f = refl
test_of text false (Some w) e f = by (is_whole w) refl
  where
    by : (t : Bool) → is_whole w ≡ t → false ≡ is_whole w
    by false k = sym k
    by true k = sym e ∙ is_utf8-from_IsUtf8 text (sound text Whole [] refl (f ∙ ap Some (whole_is w k))) ∙ sym k

-- a text is UTF-8 exactly where its last character is whole
pub utf8_is : (text : List ℕ) → is_utf8 text ≡ is_utf8_end (utf8_rest Whole text)
utf8_is text = test_of text (is_utf8 text) (utf8_rest Whole text) refl refl
