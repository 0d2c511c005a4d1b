-- What completes a state outside a reference.
use Rattle.std.proofs.Common.{◌≡◌, ◌∙◌, ◌<◌, ◌≤◌, ℕ, suc, zero, Bool, true, false, ◌&&◌, ◌||◌, List, [], ◌∷◌, ◌++◌, length, refl, sym, ap, subst, arith, append_assoc, append-nil, drop}
use Rattle.std.specs.Prelude.{Some, ◌==◌, map, codes, if◌then◌else◌}
use Rattle.std.specs.List.{concat}
use Rattle.std.specs.Str.{bytes_eq}
use Rattle.std.proofs.lemmas.Map.Text.{is_eq-slice_cmp}
use Rattle.std.proofs.lemmas.List.{length-append, length-map}
use Rattle.std.proofs.lemmas.Bool.{eq-eqb, ne_eqb, le-ltb, lt-ltb}
use Rattle.std.proofs.lemmas.Bool.Decides.{nat_tests}
use Rattle.body_cutter.specs.declared.place.Place.{Place}
use Rattle.body_cutter.specs.declared.place.Place.TheVariants.{Start, First, DeclarationWord, Declaration, Prolog, BodyWord, StanzaStart, Content as InContent, Opened, SectionWord, Section as InSection, EndName, EndSpace, TagName, TagSpace, TagSlash, AttrName, AttrEquals, AttrQuote, Value as InValue, AfterValue}
use Rattle.body_cutter.specs.declared.place.Wide.{Wide}
use Rattle.body_cutter.specs.declared.place.Wide.TheVariants.{Whole}
use Rattle.body_cutter.specs.declared.place.Kind.{Kind}
use Rattle.body_cutter.specs.declared.place.Around.{Around}
use Rattle.body_cutter.specs.declared.place.Around.TheVariants.{NoBody, NoStanza, Body, Child}
use Rattle.body_cutter.specs.Chars.{wide_begin, wide_next, is_space, is_plain, is_char_byte, is_letter, is_digit, begins_name_plainly, grows_name_plainly, is_name_start, is_name_byte}
use Rattle.body_cutter.specs.Names.{around, due, has_name, with_name, without_first}
use Rattle.body_cutter.specs.Tables.{start_next, first_next, declaration_word_next, xml_letter, declaration_next, prolog_next, body_word_next, body_letter, name_ended, stanza_start_next, content_next, child_content_next, more_brackets, opened_next, opened_in_body, opened_in_child, section_word_next, section_letter, section_next, end_name_next, end_space_next, tag_name_next, tag_space_next, tag_slash_next, attr_name_next, attr_equals_next, attr_quote_next, value_next, value_plain, after_value_next}
use Rattle.body_cutter.specs.Reader.{place_next, move_of, matched}
use Rattle.body_cutter.specs.Completion.{wide_rest, end_tags, fresh_letters, place_rest, end_name_rest, character_rest, ends_innermost}
use Rattle.body_cutter.proofs.Control.{Control, advance, done}
use Rattle.body_cutter.proofs.Leads.{ctl}
use Rattle.body_cutter.proofs.CompletionTools.{Finishes, by_both, wide_finishes, AllWhole, Closes, end_name_finishes, tags_finish}
use Rattle.body_cutter.proofs.CompletionStates.{Here, InChild, Due}

-- a byte from 128 on is one of a name and of a character, and none with a meaning of its own
high_name : (b : ℕ) → 128 ≤ b → is_name_byte b ≡ true
unfolding is_name_byte grows_name_plainly begins_name_plainly is_letter is_digit
high_name b h = grind (arith, nat_tests)

high_char : (b : ℕ) → 128 ≤ b → is_char_byte b ≡ true
unfolding is_char_byte is_plain
high_char b h = grind (arith, nat_tests)

high_no_space : (b : ℕ) → 128 ≤ b → is_space b ≡ false
unfolding is_space
high_no_space b h = grind (arith, nat_tests)

differs : (b n : ℕ) → 128 ≤ b → n < 128 → (b == n) ≡ false
differs b n h l = ne_eqb b n (λ e. omega (arith, h, l, e))

-- a name that is longer than all of these is none of them
other_length : (xs ys : List ℕ) → length ys < length xs → bytes_eq xs ys ≡ false
other_length [] ys h = absurd (omega (arith, h))
other_length (x ∷ xs) [] h = refl
other_length (x ∷ xs) (y ∷ ys) h = and_right_false (x == y) _ (other_length xs ys (omega (arith, h)))
  where
    and_right_false : (s t : Bool) → t ≡ false → (s && t) ≡ false
    and_right_false true t e = e
    and_right_false false t e = refl

or_false : (s t : Bool) → s ≡ false → t ≡ false → (s || t) ≡ false
or_false s t e f = ap (λ (x : Bool). x || t) e ∙ f

longer_is_new : (names : List (List ℕ)) (name : List ℕ) → length (concat names) < length name → has_name names name ≡ false
unfolding has_name
longer_is_new [] name h = refl
longer_is_new (other ∷ names) name h =
    let l = length-append other (concat names) in
    or_false _ _ (is_eq-slice_cmp name other ∙ other_length name other (omega (arith, h, l)))
    (longer_is_new names name (omega (arith, h, l)))

none_left : (n : ℕ) → let none : List ℕ = [] in drop n none ≡ []
none_left zero = refl
none_left (suc n) = refl

-- after whole characters
at_whole : {kind : Kind} {c : Control} {w : Wide} {text : List ℕ} → w ≡ Whole → Finishes kind c Whole text → Finishes kind c w (wide_rest w ++ text)
unfolding wide_rest
at_whole {kind} {c} {w} {text} e t = subst (λ (x : Wide). Finishes kind c x (wide_rest x ++ text)) (sym e) t

module _ (kind : Kind) (elements : List (List ℕ)) {text : List ℕ} (t : Closes kind elements text) where
  -- a body that has not begun, from its name on
  body_named : (count : ℕ) → 4 ≤ count → (name : List ℕ) (seen : List (List ℕ)) → Finishes kind (ctl (BodyWord count) elements name seen) Whole (codes "/>" ++ text)
  unfolding advance move_of place_next body_word_next name_ended tag_slash_next done wide_next wide_begin
  body_named count h name seen = by_both {next = ctl TagSlash (name ∷ elements) [] []} (rw (le-ltb count 4 h) refl) refl (by_both refl refl (t 0 [] []))

  body_third : (name : List ℕ) (seen : List (List ℕ)) → Finishes kind (ctl (BodyWord 3) elements name seen) Whole (codes "y/>" ++ text)
  unfolding advance move_of place_next body_word_next body_letter done wide_next wide_begin
  body_third name seen = by_both refl refl (body_named 4 (omega arith) (name ++ 121 ∷ []) seen)

  body_second : (name : List ℕ) (seen : List (List ℕ)) → Finishes kind (ctl (BodyWord 2) elements name seen) Whole (codes "dy/>" ++ text)
  unfolding advance move_of place_next body_word_next body_letter done wide_next wide_begin
  body_second name seen = by_both refl refl (body_third (name ++ 100 ∷ []) seen)

  body_first : (name : List ℕ) (seen : List (List ℕ)) → Finishes kind (ctl (BodyWord 1) elements name seen) Whole (codes "ody/>" ++ text)
  unfolding advance move_of place_next body_word_next body_letter done wide_next wide_begin
  body_first name seen = by_both refl refl (body_second (name ++ 111 ∷ []) seen)

  body_open : (name : List ℕ) (seen : List (List ℕ)) → Finishes kind (ctl (BodyWord 0) elements name seen) Whole (codes "body/>" ++ text)
  unfolding advance move_of place_next body_word_next body_letter done wide_next wide_begin
  body_open name seen = by_both refl refl (body_first (name ++ 98 ∷ []) seen)

  body_finishes : (count : ℕ) (name : List ℕ) (seen : List (List ℕ)) → Finishes kind (ctl (BodyWord count) elements name seen) Whole ((drop count (codes "body") ++ codes "/>") ++ text)
  body_finishes zero name seen = body_open name seen
  body_finishes (suc zero) name seen = body_first name seen
  body_finishes (suc (suc zero)) name seen = body_second name seen
  body_finishes (suc (suc (suc zero))) name seen = body_third name seen
  body_finishes (suc (suc (suc (suc n)))) name seen =
      subst (λ (xs : List ℕ). Finishes kind (ctl (BodyWord (suc (suc (suc (suc n))))) elements name seen) Whole ((xs ++ codes "/>") ++ text)) (sym (none_left n))
      (body_named (suc (suc (suc (suc n)))) (omega arith) name seen)

  body_begins : (name : List ℕ) (seen : List (List ℕ)) → Finishes kind (ctl Prolog elements name seen) Whole (codes "<body/>" ++ text)
  unfolding advance move_of place_next prolog_next done wide_next wide_begin
  body_begins name seen = by_both refl refl (body_open name seen)

  -- the declaration
  declaration_finishes : (name : List ℕ) (seen : List (List ℕ)) (after_mark : Bool) → Finishes kind (ctl (Declaration after_mark) elements name seen) Whole (codes "?><body/>" ++ text)
  unfolding advance move_of place_next declaration_next done wide_next wide_begin is_char_byte is_plain
  declaration_finishes name seen true = by_both refl refl (by_both refl refl (body_begins name seen))
  declaration_finishes name seen false = by_both refl refl (by_both refl refl (body_begins name seen))

  in_declaration : (name : List ℕ) (seen : List (List ℕ)) (w : Wide) (after_mark : Bool) → Finishes kind (ctl (Declaration after_mark) elements name seen) w (wide_rest w ++ (codes "?><body/>" ++ text))
  unfolding advance move_of place_next declaration_next done
  in_declaration name seen w after_mark = wide_finishes kind (λ (m : Bool). ctl (Declaration m) elements name seen) step (declaration_finishes name seen) w after_mark
    where
      step : (m : Bool) (b : ℕ) → 128 ≤ b → (n : Bool) × (advance kind (ctl (Declaration m) elements name seen) b ≡ Some (ctl (Declaration n) elements name seen))
      step true b h = (false, rw (differs b 62 h (omega arith), differs b 63 h (omega arith), high_char b h) refl)
      step false b h = (false, rw (differs b 63 h (omega arith), high_char b h) refl)

  word_ended : (count : ℕ) → 3 ≤ count → (name : List ℕ) (seen : List (List ℕ)) → Finishes kind (ctl (DeclarationWord count) elements name seen) Whole (codes " ?><body/>" ++ text)
  unfolding advance move_of place_next declaration_word_next done wide_next wide_begin is_space
  word_ended count h name seen = by_both {next = ctl (Declaration false) elements name seen} (rw (le-ltb count 3 h) refl) refl (declaration_finishes name seen false)

  word_second : (name : List ℕ) (seen : List (List ℕ)) → Finishes kind (ctl (DeclarationWord 2) elements name seen) Whole (codes "l ?><body/>" ++ text)
  unfolding advance move_of place_next declaration_word_next xml_letter done wide_next wide_begin
  word_second name seen = by_both refl refl (word_ended 3 (omega arith) name seen)

  word_first : (name : List ℕ) (seen : List (List ℕ)) → Finishes kind (ctl (DeclarationWord 1) elements name seen) Whole (codes "ml ?><body/>" ++ text)
  unfolding advance move_of place_next declaration_word_next xml_letter done wide_next wide_begin
  word_first name seen = by_both refl refl (word_second name seen)

  word_open : (name : List ℕ) (seen : List (List ℕ)) → Finishes kind (ctl (DeclarationWord 0) elements name seen) Whole (codes "xml ?><body/>" ++ text)
  unfolding advance move_of place_next declaration_word_next xml_letter done wide_next wide_begin
  word_open name seen = by_both refl refl (word_first name seen)

  word_finishes : (count : ℕ) (name : List ℕ) (seen : List (List ℕ)) → Finishes kind (ctl (DeclarationWord count) elements name seen) Whole ((drop count (codes "xml") ++ codes " ?><body/>") ++ text)
  word_finishes zero name seen = word_open name seen
  word_finishes (suc zero) name seen = word_first name seen
  word_finishes (suc (suc zero)) name seen = word_second name seen
  word_finishes (suc (suc (suc n))) name seen =
      subst (λ (xs : List ℕ). Finishes kind (ctl (DeclarationWord (suc (suc (suc n)))) elements name seen) Whole ((xs ++ codes " ?><body/>") ++ text)) (sym (none_left n))
      (word_ended (suc (suc (suc n))) (omega arith) name seen)

  start_finishes : (name : List ℕ) (seen : List (List ℕ)) → Finishes kind (ctl Start elements name seen) Whole (codes "<body/>" ++ text)
  unfolding advance move_of place_next start_next first_next done wide_next wide_begin
  start_finishes name seen = by_both refl refl (by_both refl refl (body_first (name ++ 98 ∷ []) seen))

  first_finishes : (name : List ℕ) (seen : List (List ℕ)) → Finishes kind (ctl First elements name seen) Whole (codes "body/>" ++ text)
  unfolding advance move_of place_next first_next done wide_next wide_begin
  first_finishes name seen = by_both refl refl (body_first (name ++ 98 ∷ []) seen)

  -- a tag's name
  tag_name_finishes : (seen : List (List ℕ)) (name : List ℕ) → Finishes kind (ctl TagName elements name seen) Whole (codes "/>" ++ text)
  unfolding advance move_of place_next tag_name_next name_ended tag_slash_next done wide_next wide_begin is_name_byte grows_name_plainly begins_name_plainly is_letter is_digit
  tag_name_finishes seen name = by_both refl refl (by_both refl refl (t 0 [] []))

  in_tag_name : (seen : List (List ℕ)) (w : Wide) (name : List ℕ) → Finishes kind (ctl TagName elements name seen) w (wide_rest w ++ (codes "/>" ++ text))
  unfolding advance move_of place_next tag_name_next done
  in_tag_name seen w name = wide_finishes kind (λ (n : List ℕ). ctl TagName elements n seen) step (tag_name_finishes seen) w name
    where
      step : (n : List ℕ) (b : ℕ) → 128 ≤ b → (m : List ℕ) × (advance kind (ctl TagName elements n seen) b ≡ Some (ctl TagName elements m seen))
      step n b h = (n ++ b ∷ [], rw (high_name b h) refl)

  opened_by : (a : Around) → around kind elements ≡ a → (name : List ℕ) (seen : List (List ℕ)) → Finishes kind (ctl Opened elements name seen) Whole (codes "a/>" ++ text)
  unfolding advance move_of place_next opened_next opened_in_body opened_in_child done wide_next wide_begin is_name_start begins_name_plainly is_letter
  opened_by NoBody e name seen = by_both {next = ctl TagName elements (97 ∷ []) seen} (rw e refl) refl (tag_name_finishes seen (97 ∷ []))
  opened_by NoStanza e name seen = by_both {next = ctl TagName elements (97 ∷ []) seen} (rw e refl) refl (tag_name_finishes seen (97 ∷ []))
  opened_by Body e name seen = by_both {next = ctl TagName elements (97 ∷ []) seen} (rw e refl) refl (tag_name_finishes seen (97 ∷ []))
  opened_by Child e name seen = by_both {next = ctl TagName elements (97 ∷ []) seen} (rw e refl) refl (tag_name_finishes seen (97 ∷ []))

  stanza_begins : (name : List ℕ) (seen : List (List ℕ)) → Finishes kind (ctl StanzaStart elements name seen) Whole (codes "<a/>" ++ text)
  unfolding advance move_of place_next stanza_start_next done wide_next wide_begin
  stanza_begins name seen = by_both refl refl (opened_by (around kind elements) refl name seen)

  -- a CDATA section
  section_finishes : (name : List ℕ) (seen : List (List ℕ)) (count : ℕ) → Finishes kind (ctl (InSection count) elements name seen) Whole (codes "]]>" ++ text)
  unfolding advance move_of place_next section_next more_brackets done wide_next wide_begin
  section_finishes name seen zero = by_both refl refl (by_both refl refl (by_both refl refl (t 0 name seen)))
  section_finishes name seen (suc n) = by_both {next = ctl (InSection 2) elements name seen} (rw (ne_eqb (suc n) 0 (λ e. omega (arith, e))) refl) refl (by_both refl refl (by_both refl refl (t 0 name seen)))

  in_section : (name : List ℕ) (seen : List (List ℕ)) (w : Wide) (count : ℕ) → Finishes kind (ctl (InSection count) elements name seen) w (wide_rest w ++ (codes "]]>" ++ text))
  unfolding advance move_of place_next section_next done
  in_section name seen w count = wide_finishes kind (λ (n : ℕ). ctl (InSection n) elements name seen) step (section_finishes name seen) w count
    where
      step : (n b : ℕ) → 128 ≤ b → (m : ℕ) × (advance kind (ctl (InSection n) elements name seen) b ≡ Some (ctl (InSection m) elements name seen))
      step n b h = (0, rw (differs b 93 h (omega arith), differs b 62 h (omega arith), high_char b h) refl)

  section_opened : (count : ℕ) → 6 ≤ count → (name : List ℕ) (seen : List (List ℕ)) → Finishes kind (ctl (SectionWord count) elements name seen) Whole (codes "[]]>" ++ text)
  unfolding advance move_of place_next section_word_next section_letter done wide_next wide_begin
  section_opened count h name seen = by_both {next = ctl (InSection 0) elements name seen} (rw (le-ltb count 6 h) refl) refl (section_finishes name seen 0)

  section_fifth : (name : List ℕ) (seen : List (List ℕ)) → Finishes kind (ctl (SectionWord 5) elements name seen) Whole (codes "A[]]>" ++ text)
  unfolding advance move_of place_next section_word_next section_letter done wide_next wide_begin
  section_fifth name seen = by_both refl refl (section_opened 6 (omega arith) name seen)

  section_fourth : (name : List ℕ) (seen : List (List ℕ)) → Finishes kind (ctl (SectionWord 4) elements name seen) Whole (codes "TA[]]>" ++ text)
  unfolding advance move_of place_next section_word_next section_letter done wide_next wide_begin
  section_fourth name seen = by_both refl refl (section_fifth name seen)

  section_third : (name : List ℕ) (seen : List (List ℕ)) → Finishes kind (ctl (SectionWord 3) elements name seen) Whole (codes "ATA[]]>" ++ text)
  unfolding advance move_of place_next section_word_next section_letter done wide_next wide_begin
  section_third name seen = by_both refl refl (section_fourth name seen)

  section_second : (name : List ℕ) (seen : List (List ℕ)) → Finishes kind (ctl (SectionWord 2) elements name seen) Whole (codes "DATA[]]>" ++ text)
  unfolding advance move_of place_next section_word_next section_letter done wide_next wide_begin
  section_second name seen = by_both refl refl (section_third name seen)

  section_first : (name : List ℕ) (seen : List (List ℕ)) → Finishes kind (ctl (SectionWord 1) elements name seen) Whole (codes "CDATA[]]>" ++ text)
  unfolding advance move_of place_next section_word_next section_letter done wide_next wide_begin
  section_first name seen = by_both refl refl (section_second name seen)

  section_open : (name : List ℕ) (seen : List (List ℕ)) → Finishes kind (ctl (SectionWord 0) elements name seen) Whole (codes "[CDATA[]]>" ++ text)
  unfolding advance move_of place_next section_word_next section_letter done wide_next wide_begin
  section_open name seen = by_both refl refl (section_first name seen)

  section_word_finishes : (count : ℕ) (name : List ℕ) (seen : List (List ℕ)) → Finishes kind (ctl (SectionWord count) elements name seen) Whole ((drop count (codes "[CDATA") ++ codes "[]]>") ++ text)
  section_word_finishes zero name seen = section_open name seen
  section_word_finishes (suc zero) name seen = section_first name seen
  section_word_finishes (suc (suc zero)) name seen = section_second name seen
  section_word_finishes (suc (suc (suc zero))) name seen = section_third name seen
  section_word_finishes (suc (suc (suc (suc zero)))) name seen = section_fourth name seen
  section_word_finishes (suc (suc (suc (suc (suc zero))))) name seen = section_fifth name seen
  section_word_finishes (suc (suc (suc (suc (suc (suc n)))))) name seen =
      subst (λ (xs : List ℕ). Finishes kind (ctl (SectionWord (suc (suc (suc (suc (suc (suc n))))))) elements name seen) Whole ((xs ++ codes "[]]>") ++ text)) (sym (none_left n))
      (section_opened (suc (suc (suc (suc (suc (suc n)))))) (omega arith) name seen)

  -- between tags
  in_child : around kind elements ≡ Child → (name : List ℕ) (seen : List (List ℕ)) (w : Wide) (count : ℕ) → Finishes kind (ctl (InContent count) elements name seen) w (wide_rest w ++ text)
  unfolding advance move_of place_next content_next child_content_next done
  in_child e name seen w count = wide_finishes kind (λ (n : ℕ). ctl (InContent n) elements name seen) step (λ n. t n name seen) w count
    where
      step : (n b : ℕ) → 128 ≤ b → (m : ℕ) × (advance kind (ctl (InContent n) elements name seen) b ≡ Some (ctl (InContent m) elements name seen))
      step n b h = (0, rw (e, differs b 60 h (omega arith), differs b 38 h (omega arith), differs b 93 h (omega arith), differs b 62 h (omega arith), high_char b h) refl)

  in_content : (a : Around) → around kind elements ≡ a → (name : List ℕ) (seen : List (List ℕ)) (w : Wide) → InChild a w → (count : ℕ) → Finishes kind (ctl (InContent count) elements name seen) w (wide_rest w ++ text)
  in_content NoBody e name seen w h count = at_whole h (t count name seen)
  in_content NoStanza e name seen w h count = at_whole h (t count name seen)
  in_content Body e name seen w h count = at_whole h (t count name seen)
  in_content Child e name seen w h count = in_child e name seen w count

module _ (kind : Kind) (elements : List (List ℕ)) {text : List ℕ} (t : Closes kind (without_first elements) text) (seen : List (List ℕ)) where
  -- the end of a tag that has begun with its name
  slash_finishes : (name : List ℕ) (seen : List (List ℕ)) → Finishes kind (ctl TagSlash elements name seen) Whole (codes ">" ++ text)
  unfolding advance move_of place_next tag_slash_next done wide_next wide_begin
  slash_finishes name seen = by_both refl refl (t 0 name seen)

  space_finishes : (name : List ℕ) (seen : List (List ℕ)) → Finishes kind (ctl TagSpace elements name seen) Whole (codes "/>" ++ text)
  unfolding advance move_of place_next tag_space_next done wide_next wide_begin
  space_finishes name seen = by_both refl refl (slash_finishes name seen)

  after_value_finishes : (name : List ℕ) (seen : List (List ℕ)) → Finishes kind (ctl AfterValue elements name seen) Whole (codes "/>" ++ text)
  unfolding advance move_of place_next after_value_next done wide_next wide_begin
  after_value_finishes name seen = by_both refl refl (slash_finishes name seen)

  value_finishes : (quote : ℕ) → quote < 128 → (name : List ℕ) (seen : List (List ℕ)) (after_cr : Bool) → Finishes kind (ctl (InValue quote after_cr) elements name seen) Whole (quote ∷ codes "/>" ++ text)
  unfolding advance move_of place_next value_next done wide_next wide_begin
  value_finishes quote h name seen after_cr = by_both {next = ctl AfterValue elements name seen} {v = Whole} (rw (eq-eqb quote quote refl) refl) (rw (lt-ltb quote 128 h) refl) (after_value_finishes name seen)

  in_value : (quote : ℕ) → quote < 128 → (name : List ℕ) (seen : List (List ℕ)) (w : Wide) (after_cr : Bool) → Finishes kind (ctl (InValue quote after_cr) elements name seen) w (wide_rest w ++ (quote ∷ codes "/>" ++ text))
  unfolding advance move_of place_next value_next value_plain done
  in_value quote l name seen w after_cr = wide_finishes kind (λ (m : Bool). ctl (InValue quote m) elements name seen) step (value_finishes quote l name seen) w after_cr
    where
      step : (m : Bool) (b : ℕ) → 128 ≤ b → (n : Bool) × (advance kind (ctl (InValue quote m) elements name seen) b ≡ Some (ctl (InValue quote n) elements name seen))
      step m b h = (false, rw (differs b quote h l, differs b 60 h (omega arith), differs b 38 h (omega arith), differs b 10 h (omega arith), differs b 13 h (omega arith), differs b 9 h (omega arith), high_char b h) refl)

  quote_finishes : (name : List ℕ) (seen : List (List ℕ)) → Finishes kind (ctl AttrQuote elements name seen) Whole (codes "''/>" ++ text)
  unfolding advance move_of place_next attr_quote_next done wide_next wide_begin
  quote_finishes name seen = by_both refl refl (value_finishes 39 (omega arith) name seen false)

  equals_finishes : (name : List ℕ) (seen : List (List ℕ)) → Finishes kind (ctl AttrEquals elements name seen) Whole (codes "=''/>" ++ text)
  unfolding advance move_of place_next attr_equals_next done wide_next wide_begin
  equals_finishes name seen = by_both refl refl (quote_finishes name seen)

  -- an attribute's name that no other has
  name_ends : (name : List ℕ) → has_name seen name ≡ false → Finishes kind (ctl AttrName elements name seen) Whole (codes "=''/>" ++ text)
  unfolding advance move_of place_next attr_name_next done wide_next wide_begin
  name_ends name fresh = by_both {next = ctl AttrQuote elements [] (with_name seen name)} (rw fresh refl) refl (quote_finishes [] (with_name seen name))

  letters_finish : (xs name : List ℕ) → has_name seen (name ++ map (λ (_ : ℕ). 97) xs) ≡ false → Finishes kind (ctl AttrName elements name seen) Whole (map (λ (_ : ℕ). 97) xs ++ (codes "=''/>" ++ text))
  unfolding advance move_of place_next attr_name_next done wide_next wide_begin is_space is_name_byte grows_name_plainly begins_name_plainly is_letter is_digit
  letters_finish [] name fresh = name_ends name (ap (has_name seen) (sym (append-nil name)) ∙ fresh)
  letters_finish (x ∷ xs) name fresh =
      by_both {next = ctl AttrName elements (name ++ 97 ∷ []) seen} refl refl
      (letters_finish xs (name ++ 97 ∷ []) (ap (has_name seen) (append_assoc name (97 ∷ []) (map (λ (_ : ℕ). 97) xs)) ∙ fresh))

  attr_name_finishes : (name : List ℕ) → Finishes kind (ctl AttrName elements name seen) Whole ((fresh_letters seen ++ codes "=''/>") ++ text)
  unfolding fresh_letters
  attr_name_finishes name =
      let longer : length (concat seen) < length (name ++ map (λ (_ : ℕ). 97) (0 ∷ concat seen)) = omega (arith, length-append name (map (λ (_ : ℕ). 97) (0 ∷ concat seen)), length-map {A = ℕ} {B = ℕ} (0 ∷ concat seen) (λ (_ : ℕ). 97)) in
      subst (λ (xs : List ℕ). Finishes kind (ctl AttrName elements name seen) Whole xs) (sym (append_assoc (map (λ (_ : ℕ). 97) (0 ∷ concat seen)) (codes "=''/>") text))
      (letters_finish (0 ∷ concat seen) name (longer_is_new seen (name ++ map (λ (_ : ℕ). 97) (0 ∷ concat seen)) longer))

  in_attr_name : (w : Wide) (name : List ℕ) → Finishes kind (ctl AttrName elements name seen) w (wide_rest w ++ ((fresh_letters seen ++ codes "=''/>") ++ text))
  unfolding advance move_of place_next attr_name_next done
  in_attr_name w name = wide_finishes kind (λ (n : List ℕ). ctl AttrName elements n seen) step attr_name_finishes w name
    where
      step : (n : List ℕ) (b : ℕ) → 128 ≤ b → (m : List ℕ) × (advance kind (ctl AttrName elements n seen) b ≡ Some (ctl AttrName elements m seen))
      step n b h = (n ++ b ∷ [], rw (differs b 61 h (omega arith), high_no_space b h, high_name b h) refl)

  end_space_finishes : (name : List ℕ) (seen : List (List ℕ)) → Finishes kind (ctl EndSpace elements name seen) Whole (codes ">" ++ text)
  unfolding advance move_of place_next end_space_next done wide_next wide_begin
  end_space_finishes name seen = by_both refl refl (t 0 name seen)

-- the rest of the name of an end tag
in_end_name : (kind : Kind) (elements : List (List ℕ)) {text : List ℕ} → Closes kind (without_first elements) text → (count : ℕ) (w : Wide) → Due elements count w → (name : List ℕ) (seen : List (List ℕ)) →
    Finishes kind (ctl (EndName count) elements name seen) w ((end_name_rest elements count ++ codes ">") ++ text)
unfolding advance move_of place_next end_name_next end_space_next due matched done wide_next wide_begin end_name_rest
in_end_name kind [] {text} t count w h name seen =
    subst (λ (x : Wide). Finishes kind (ctl (EndName count) [] name seen) x (62 ∷ text)) (sym h) (by_both {next = ctl (InContent 0) [] name seen} refl refl (t 0 name seen))
in_end_name kind (element ∷ outer) {text} t count w h name seen =
    subst (λ (xs : List ℕ). Finishes kind (ctl (EndName count) (element ∷ outer) name seen) w xs) (sym (append_assoc (drop count element) (codes ">") text))
    (end_name_finishes kind element outer name seen count w h t)

outer_whole : (elements : List (List ℕ)) → AllWhole elements → AllWhole (without_first elements)
outer_whole [] h = tt
outer_whole (name ∷ outer) h = h.1

-- the rest of what has begun at a place, and the end tags
abbrev pub rest_at : Place → Wide → List (List ℕ) → List (List ℕ) → List ℕ
rest_at place w elements seen = character_rest place w ++ (place_rest place elements seen ++ end_tags (if ends_innermost place then without_first elements else elements))

pub place_finishes : (place : Place) (kind : Kind) (w : Wide) (elements : List (List ℕ)) (name : List ℕ) (seen : List (List ℕ)) → AllWhole elements → Here place kind w elements name → Finishes kind (ctl place elements name seen) w (rest_at place w elements seen)
unfolding place_rest
place_finishes Start kind w elements name seen a h = at_whole h.0 (start_finishes kind elements (tags_finish kind elements a) name seen)
place_finishes First kind w elements name seen a h = at_whole h.0 (first_finishes kind elements (tags_finish kind elements a) name seen)
place_finishes (DeclarationWord count) kind w elements name seen a h = at_whole h.0 (word_finishes kind elements (tags_finish kind elements a) count name seen)
place_finishes (Declaration after_mark) kind w elements name seen a h = in_declaration kind elements (tags_finish kind elements a) name seen w after_mark
place_finishes Prolog kind w elements name seen a h = at_whole h.0 (body_begins kind elements (tags_finish kind elements a) name seen)
place_finishes (BodyWord count) kind w elements name seen a h = at_whole h.0 (body_finishes kind elements (tags_finish kind elements a) count name seen)
place_finishes StanzaStart kind w elements name seen a h = at_whole h (stanza_begins kind elements (tags_finish kind elements a) name seen)
place_finishes (InContent count) kind w elements name seen a h = in_content kind elements (tags_finish kind elements a) (around kind elements) refl name seen w h count
place_finishes Opened kind w elements name seen a h = at_whole h (opened_by kind elements (tags_finish kind elements a) (around kind elements) refl name seen)
place_finishes (SectionWord count) kind w elements name seen a h = at_whole h (section_word_finishes kind elements (tags_finish kind elements a) count name seen)
place_finishes (InSection count) kind w elements name seen a h = in_section kind elements (tags_finish kind elements a) name seen w count
place_finishes (EndName count) kind w elements name seen a h = in_end_name kind elements (tags_finish kind (without_first elements) (outer_whole elements a)) count w h name seen
place_finishes EndSpace kind w elements name seen a h = at_whole h (end_space_finishes kind elements (tags_finish kind (without_first elements) (outer_whole elements a)) seen name seen)
place_finishes TagName kind w elements name seen a h = in_tag_name kind elements (tags_finish kind elements a) seen w name
place_finishes TagSpace kind w elements name seen a h = at_whole h (space_finishes kind elements (tags_finish kind (without_first elements) (outer_whole elements a)) seen name seen)
place_finishes TagSlash kind w elements name seen a h = at_whole h (slash_finishes kind elements (tags_finish kind (without_first elements) (outer_whole elements a)) seen name seen)
place_finishes AttrName kind w elements name seen a h = in_attr_name kind elements (tags_finish kind (without_first elements) (outer_whole elements a)) seen w name
place_finishes AttrEquals kind w elements name seen a h = at_whole h (equals_finishes kind elements (tags_finish kind (without_first elements) (outer_whole elements a)) seen name seen)
place_finishes AttrQuote kind w elements name seen a h = at_whole h (quote_finishes kind elements (tags_finish kind (without_first elements) (outer_whole elements a)) seen name seen)
place_finishes (InValue quote after_cr) kind w elements name seen a h = in_value kind elements (tags_finish kind (without_first elements) (outer_whole elements a)) seen quote h name seen w after_cr
place_finishes AfterValue kind w elements name seen a h = at_whole h (after_value_finishes kind elements (tags_finish kind (without_first elements) (outer_whole elements a)) seen name seen)
