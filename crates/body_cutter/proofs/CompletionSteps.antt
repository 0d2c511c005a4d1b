-- What holds of each state holds after a byte outside a reference.
use Rattle.std.proofs.Common.{◌≡◌, ◌∙◌, ◌+◌, ◌<◌, ℕ, suc, zero, Bool, true, false, ◌&&◌, ◌||◌, List, [], ◌∷◌, ◌++◌, refl, sym, ap, subst, arith, add-one, drop}
use Rattle.std.specs.Prelude.{Option, None, Some, ◌==◌, nat_lt, slice_get, if◌then◌else◌}
use Rattle.std.proofs.lemmas.Bool.{eqb-true, and_parts}
use Rattle.body_cutter.specs.declared.place.Place.{Place}
use Rattle.body_cutter.specs.declared.place.Place.TheVariants.{Start, First, DeclarationWord, Declaration, Prolog, BodyWord, StanzaStart, Content as InContent, Opened, SectionWord, Section as InSection, EndName, EndSpace, TagName, TagSpace, TagSlash, AttrName, AttrEquals, AttrQuote, Value as InValue, AfterValue}
use Rattle.body_cutter.specs.declared.place.Wide.{Wide}
use Rattle.body_cutter.specs.declared.place.Wide.TheVariants.{Whole}
use Rattle.body_cutter.specs.declared.place.Kind.{Kind}
use Rattle.body_cutter.specs.declared.place.Around.{Around}
use Rattle.body_cutter.specs.declared.place.Around.TheVariants.{NoBody, NoStanza, Body, Child}
use Rattle.body_cutter.specs.declared.place.Act.{Act}
use Rattle.body_cutter.specs.declared.place.Act.TheVariants.{Pass, Mark, BeginName, GrowName, OpenElement, EndAttrName, ValueByte, ValueChar, EndAttr, CloseElement}
use Rattle.body_cutter.specs.Chars.{is_space, is_char_byte, is_name_start, is_name_byte, wide_next, ends_whole}
use Rattle.body_cutter.specs.Names.{around, due, with_count, has_name, without_first}
use Rattle.body_cutter.specs.Tables.{goes, begins_reference, start_next, first_next, declaration_word_next, xml_letter, declaration_next, prolog_next, body_word_next, body_letter, name_ended, stanza_start_next, content_next, body_content_next, child_content_next, more_brackets, opened_next, opened_in_body, opened_in_child, section_word_next, section_letter, section_next, end_name_next, end_space_next, tag_name_next, tag_space_next, tag_slash_next, attr_name_next, attr_equals_next, attr_quote_next, value_next, value_plain, after_value_next}
use Rattle.body_cutter.specs.Reader.{place_next, matched}
use Rattle.body_cutter.proofs.Control.{done}
use Rattle.body_cutter.proofs.Leads.{ctl}
use Rattle.body_cutter.proofs.CompletionTools.{AllWhole}
use Rattle.body_cutter.proofs.CompletionStates.{Here, InChild, Due, Lacks}
use Rattle.body_cutter.proofs.CompletionKept.{Leads, split, only, dead, ascii, byte_below, space_below, in_whole_at, no_bytes, one_byte, grown, whole_name, outer_whole, gated, wide_step}

xml_below : (count : ℕ) → xml_letter count < 128
unfolding xml_letter
xml_below count = by (count == 0) (count == 1)
  where
    by : (s t : Bool) → (if s then 120 else if t then 109 else 108) < 128
    by true t = omega arith
    by false true = omega arith
    by false false = omega arith

body_below : (count : ℕ) → body_letter count < 128
unfolding body_letter
body_below count = by (count == 0) (count == 1) (count == 2)
  where
    by : (s t u : Bool) → (if s then 98 else if t then 111 else if u then 100 else 121) < 128
    by true t u = omega arith
    by false true u = omega arith
    by false false true = omega arith
    by false false false = omega arith

section_below : (count : ℕ) → section_letter count < 128
unfolding section_letter
section_below count = by (count == 1) (count == 2) (count == 3) (count == 4) (count == 5)
  where
    by : (s t u v w : Bool) → (if s then 67 else if t then 68 else if u then 65 else if v then 84 else if w then 65 else 91) < 128
    by true t u v w = omega arith
    by false true u v w = omega arith
    by false false true v w = omega arith
    by false false false true w = omega arith
    by false false false false true = omega arith
    by false false false false false = omega arith

module _ (kind : Kind) (w v : Wide) (elements : List (List ℕ)) (name : List ℕ) (seen : List (List ℕ)) (b : ℕ) (a : AllWhole elements) (e : wide_next w b ≡ Some v) where
  -- from a place by a move
  abbrev Onto : Place → Place → Act → Type 0
  Onto place next act = Leads kind v (ctl place elements name seen) b (goes next act)

  passes : (place next : Place) → Here next kind v elements name → Onto place next Pass
  unfolding done
  passes place next h = record { kept = record { names = a; here = h; reference = tt } }

  -- an ASCII byte
  at : (n : ℕ) → n < 128 → (b == n) ≡ true → v ≡ Whole
  at n l t = (ascii b w v (byte_below b n l t) e).1

  before : (n : ℕ) → n < 128 → (b == n) ≡ true → w ≡ Whole
  before n l t = (ascii b w v (byte_below b n l t) e).0

  at_space : is_space b ≡ true → v ≡ Whole
  at_space t = (ascii b w v (space_below b t) e).1

  before_space : is_space b ≡ true → w ≡ Whole
  before_space t = (ascii b w v (space_below b t) e).0

  from_start : (w ≡ Whole) × (name ≡ []) → Leads kind v (ctl Start elements name seen) b (start_next b)
  unfolding start_next
  from_start h =
      split (b == 60) _ _ (λ t. passes Start First (at 60 (omega arith) t, h.1))
      (λ _. only (is_space b) Prolog Pass (λ t. passes Start Prolog (at_space t, h.1)))

  grows : (place next : Place) → Here next kind v elements (name ++ b ∷ []) → Onto place next GrowName
  unfolding done
  grows place next h = record { kept = record { names = a; here = h; reference = tt } }

  from_first : (w ≡ Whole) × (name ≡ []) → Leads kind v (ctl First elements name seen) b (first_next b)
  unfolding first_next
  from_first h =
      split (b == 63) _ _ (λ t. passes First (DeclarationWord 0) (at 63 (omega arith) t, h.1))
      (λ _. only (b == 98) (BodyWord 1) GrowName (λ t. grows First (BodyWord 1) (at 98 (omega arith) t, grown b w v name (subst (λ (n : List ℕ). Lacks n w) (sym h.1) (no_bytes w h.0)) e)))

  from_declaration_word : (count : ℕ) → (w ≡ Whole) × (name ≡ []) → Leads kind v (ctl (DeclarationWord count) elements name seen) b (declaration_word_next count b)
  unfolding declaration_word_next
  from_declaration_word count h =
      split (nat_lt count 3) _ _
      (λ _. only (b == xml_letter count) (DeclarationWord (count + 1)) Pass (λ t. passes (DeclarationWord count) (DeclarationWord (count + 1)) (at (xml_letter count) (xml_below count) t, h.1)))
      (λ _. only (is_space b) (Declaration false) Pass (λ t. passes (DeclarationWord count) (Declaration false) h.1))

  from_declaration : (after_mark : Bool) → name ≡ [] → Leads kind v (ctl (Declaration after_mark) elements name seen) b (declaration_next after_mark b)
  unfolding declaration_next
  from_declaration after_mark h =
      split (after_mark && b == 62) _ _ (λ t. passes (Declaration after_mark) Prolog (at 62 (omega arith) (and_parts after_mark (b == 62) t).1, h))
      (λ _. only (is_char_byte b) (Declaration (b == 63)) Pass (λ t. passes (Declaration after_mark) (Declaration (b == 63)) h))

  from_prolog : (w ≡ Whole) × (name ≡ []) → Leads kind v (ctl Prolog elements name seen) b (prolog_next b)
  unfolding prolog_next
  from_prolog h =
      split (b == 60) _ _ (λ t. passes Prolog (BodyWord 0) (at 60 (omega arith) t, subst (λ (n : List ℕ). Lacks n v) (sym h.1) (no_bytes v (at 60 (omega arith) t))))
      (λ _. only (is_space b) Prolog Pass (λ t. passes Prolog Prolog (at_space t, h.1)))

  -- after the name of a start tag
  opens : (place next : Place) → w ≡ Whole → Lacks name w → Here next kind v (name ∷ elements) [] → Onto place next OpenElement
  unfolding done
  opens place next s l h = record { kept = record { names = (whole_name w name s l, a); here = h; reference = tt } }

  from_name_end : (place : Place) → Lacks name w → Leads kind v (ctl place elements name seen) b (name_ended b)
  unfolding name_ended
  from_name_end place l =
      split (b == 47) _ _ (λ t. opens place TagSlash (before 47 (omega arith) t) l (at 47 (omega arith) t))
      (λ _. split (b == 62) _ _ (λ t. opens place (InContent 0) (before 62 (omega arith) t) l (in_whole_at (around kind (name ∷ elements)) v (at 62 (omega arith) t)))
      (λ _. only (is_space b) TagSpace OpenElement (λ t. opens place TagSpace (before_space t) l (at_space t))))

  from_body_word : (count : ℕ) → (w ≡ Whole) × Lacks name w → Leads kind v (ctl (BodyWord count) elements name seen) b (body_word_next count b)
  unfolding body_word_next
  from_body_word count h =
      split (nat_lt count 4) _ _
      (λ _. only (b == body_letter count) (BodyWord (count + 1)) GrowName (λ t. grows (BodyWord count) (BodyWord (count + 1)) (at (body_letter count) (body_below count) t, grown b w v name h.1 e)))
      (λ _. from_name_end (BodyWord count) h.1)

  from_stanza_start : Leads kind v (ctl StanzaStart elements name seen) b (stanza_start_next b)
  unfolding stanza_start_next
  from_stanza_start = only (b == 60) Opened Pass (λ t. passes StanzaStart Opened (at 60 (omega arith) t))

  -- between tags
  marks : (place next : Place) → Here next kind v elements name → Onto place next Mark
  unfolding done
  marks place next h = record { kept = record { names = a; here = h; reference = tt } }

  refers : (place next : Place) → v ≡ Whole → Here next kind v elements name → Leads kind v (ctl place elements name seen) b (begins_reference next)
  unfolding done
  refers place next s h = record { kept = record { names = a; here = h; reference = (s, tt) } }

  from_content : (count : ℕ) (x : Around) → around kind elements ≡ x → Leads kind v (ctl (InContent count) elements name seen) b (content_next x count b)
  unfolding content_next body_content_next child_content_next
  from_content count NoBody f = only (is_space b) (InContent 0) Pass (λ t. passes (InContent count) (InContent 0) (in_whole_at (around kind elements) v (at_space t)))
  from_content count NoStanza f = dead
  from_content count Body f =
      split (b == 60) _ _ (λ t. marks (InContent count) Opened (at 60 (omega arith) t))
      (λ _. only (is_space b) (InContent 0) Pass (λ t. passes (InContent count) (InContent 0) (in_whole_at (around kind elements) v (at_space t))))
  from_content count Child f =
      split (b == 60) _ _ (λ t. passes (InContent count) Opened (at 60 (omega arith) t))
      (λ _. split (b == 38) _ _ (λ t. refers (InContent count) (InContent 0) (at 38 (omega arith) t) (in_whole_at (around kind elements) v (at 38 (omega arith) t)))
      (λ _. split (b == 93) _ _ (λ t. passes (InContent count) (InContent (more_brackets count)) (in_whole_at (around kind elements) v (at 93 (omega arith) t)))
      (λ _. split (b == 62 && count == 2) _ _ (λ _. dead)
      (λ _. only (is_char_byte b) (InContent 0) Pass (λ t. passes (InContent count) (InContent 0) (subst (λ (y : Around). InChild y v) (sym f) tt))))))

  -- after a `<`
  begins : (place next : Place) → Here next kind v elements (b ∷ []) → Onto place next BeginName
  unfolding done
  begins place next h = record { kept = record { names = a; here = h; reference = tt } }

  due_begins : (elements : List (List ℕ)) → AllWhole elements → v ≡ Whole → Due elements 0 v
  due_begins [] h s = s
  due_begins (element ∷ outer) h s = ap (λ (x : Wide). ends_whole x element) s ∙ h.0

  from_opened_in_body : w ≡ Whole → Leads kind v (ctl Opened elements name seen) b (opened_in_body b)
  unfolding opened_in_body
  from_opened_in_body h =
      split (b == 47) _ _ (λ t. passes Opened (EndName 0) (due_begins elements a (at 47 (omega arith) t)))
      (λ _. only (is_name_start b) TagName BeginName (λ t. begins Opened TagName (one_byte b w v h e)))

  from_opened : (x : Around) → w ≡ Whole → Leads kind v (ctl Opened elements name seen) b (opened_next x b)
  unfolding opened_next opened_in_child
  from_opened NoBody h = only (is_name_start b) TagName BeginName (λ t. begins Opened TagName (one_byte b w v h e))
  from_opened NoStanza h = only (is_name_start b) TagName BeginName (λ t. begins Opened TagName (one_byte b w v h e))
  from_opened Body h = from_opened_in_body h
  from_opened Child h = split (b == 33) _ _ (λ t. passes Opened (SectionWord 0) (at 33 (omega arith) t)) (λ _. from_opened_in_body h)

  from_section_word : (count : ℕ) → Leads kind v (ctl (SectionWord count) elements name seen) b (section_word_next count b)
  unfolding section_word_next
  from_section_word count =
      split (nat_lt count 6) _ _
      (λ _. only (b == section_letter count) (SectionWord (count + 1)) Pass (λ t. passes (SectionWord count) (SectionWord (count + 1)) (at (section_letter count) (section_below count) t)))
      (λ _. only (b == 91) (InSection 0) Pass (λ t. passes (SectionWord count) (InSection 0) tt))

  from_section : (count : ℕ) → Leads kind v (ctl (InSection count) elements name seen) b (section_next count b)
  unfolding section_next
  from_section count =
      split (b == 93) _ _ (λ t. passes (InSection count) (InSection (more_brackets count)) tt)
      (λ _. split (b == 62 && count == 2) _ _ (λ t. passes (InSection count) (InContent 0) (in_whole_at (around kind elements) v (at 62 (omega arith) (and_parts (b == 62) (count == 2) t).0)))
      (λ _. only (is_char_byte b) (InSection 0) Pass (λ t. passes (InSection count) (InSection 0) tt)))

  -- end tags
  closes : (place next : Place) → Here next kind v (without_first elements) name → Onto place next CloseElement
  unfolding done
  closes place next h = record { kept = record { names = outer_whole elements a; here = h; reference = tt } }

  from_end_space : (place : Place) → Leads kind v (ctl place elements name seen) b (end_space_next b)
  unfolding end_space_next
  from_end_space place =
      split (b == 62) _ _ (λ t. closes place (InContent 0) (in_whole_at (around kind (without_first elements)) v (at 62 (omega arith) t)))
      (λ _. only (is_space b) EndSpace Pass (λ t. passes place EndSpace (at_space t)))

  -- in a start tag
  from_tag_name : Lacks name w → Leads kind v (ctl TagName elements name seen) b (tag_name_next b)
  unfolding tag_name_next
  from_tag_name l = split (is_name_byte b) _ _ (λ t. grows TagName TagName (grown b w v name l e)) (λ _. from_name_end TagName l)

  from_tag_space : Leads kind v (ctl TagSpace elements name seen) b (tag_space_next b)
  unfolding tag_space_next
  from_tag_space =
      split (b == 47) _ _ (λ t. passes TagSpace TagSlash (at 47 (omega arith) t))
      (λ _. split (b == 62) _ _ (λ t. passes TagSpace (InContent 0) (in_whole_at (around kind elements) v (at 62 (omega arith) t)))
      (λ _. split (is_space b) _ _ (λ t. passes TagSpace TagSpace (at_space t))
      (λ _. only (is_name_start b) AttrName BeginName (λ t. begins TagSpace AttrName tt))))

  from_tag_slash : Leads kind v (ctl TagSlash elements name seen) b (tag_slash_next b)
  unfolding tag_slash_next
  from_tag_slash = only (b == 62) (InContent 0) CloseElement (λ t. closes TagSlash (InContent 0) (in_whole_at (around kind (without_first elements)) v (at 62 (omega arith) t)))

  names_attr : (place next : Place) → Here next kind v elements [] → Onto place next EndAttrName
  unfolding done
  names_attr place next h = record { kept = gated (has_name seen name) (record { place = next; reference = None; act = EndAttrName }) _ (record { names = a; here = h; reference = tt }) }

  from_attr_name : Leads kind v (ctl AttrName elements name seen) b (attr_name_next b)
  unfolding attr_name_next
  from_attr_name =
      split (b == 61) _ _ (λ t. names_attr AttrName AttrQuote (at 61 (omega arith) t))
      (λ _. split (is_space b) _ _ (λ t. names_attr AttrName AttrEquals (at_space t))
      (λ _. only (is_name_byte b) AttrName GrowName (λ t. grows AttrName AttrName tt)))

  from_attr_equals : Leads kind v (ctl AttrEquals elements name seen) b (attr_equals_next b)
  unfolding attr_equals_next
  from_attr_equals =
      split (b == 61) _ _ (λ t. passes AttrEquals AttrQuote (at 61 (omega arith) t))
      (λ _. only (is_space b) AttrEquals Pass (λ t. passes AttrEquals AttrEquals (at_space t)))

  from_attr_quote : Leads kind v (ctl AttrQuote elements name seen) b (attr_quote_next b)
  unfolding attr_quote_next
  from_attr_quote =
      split (b == 39) _ _ (λ t. passes AttrQuote (InValue 39 false) (omega arith))
      (λ _. split (b == 34) _ _ (λ t. passes AttrQuote (InValue 34 false) (omega arith))
      (λ _. only (is_space b) AttrQuote Pass (λ t. passes AttrQuote AttrQuote (at_space t))))

  ends_attr : (place next : Place) → Here next kind v elements name → Onto place next EndAttr
  unfolding done
  ends_attr place next h = record { kept = record { names = a; here = h; reference = tt } }

  takes_byte : (place next : Place) → Here next kind v elements name → Onto place next ValueByte
  unfolding done
  takes_byte place next h = record { kept = record { names = a; here = h; reference = tt } }

  takes_char : (place next : Place) (character : ℕ) → Here next kind v elements name → Onto place next (ValueChar character)
  unfolding done
  takes_char place next character h = record { kept = record { names = a; here = h; reference = tt } }

  from_value : (quote : ℕ) (after_cr : Bool) → quote < 128 → Leads kind v (ctl (InValue quote after_cr) elements name seen) b (value_next quote after_cr b)
  unfolding value_next value_plain
  from_value quote after_cr l =
      split (b == quote) _ _ (λ t. ends_attr (InValue quote after_cr) AfterValue (at quote l t))
      (λ _. split (b == 60) _ _ (λ _. dead)
      (λ _. split (b == 38) _ _ (λ t. refers (InValue quote after_cr) (InValue quote false) (at 38 (omega arith) t) l)
      (λ _. split (b == 10 && after_cr) _ _ (λ _. passes (InValue quote after_cr) (InValue quote false) l)
      (λ _. split (b == 13) _ _ (λ _. takes_char (InValue quote after_cr) (InValue quote true) 32 l)
      (λ _. split (b == 10 || b == 9) _ _ (λ _. takes_char (InValue quote after_cr) (InValue quote false) 32 l)
      (λ _. only (is_char_byte b) (InValue quote false) ValueByte (λ _. takes_byte (InValue quote after_cr) (InValue quote false) l)))))))

  from_after_value : Leads kind v (ctl AfterValue elements name seen) b (after_value_next b)
  unfolding after_value_next
  from_after_value =
      split (b == 47) _ _ (λ t. passes AfterValue TagSlash (at 47 (omega arith) t))
      (λ _. split (b == 62) _ _ (λ t. passes AfterValue (InContent 0) (in_whole_at (around kind elements) v (at 62 (omega arith) t)))
      (λ _. only (is_space b) TagSpace Pass (λ t. passes AfterValue TagSpace (at_space t))))

-- in the name of an end tag
due_first : (name : List ℕ) (count : ℕ) (x : ℕ) → slice_get name count ≡ Some x → drop count name ≡ x ∷ drop (suc count) name
due_first [] zero x h = absurd (cc)
due_first [] (suc n) x h = absurd (cc)
due_first (b ∷ name) zero x h = cc
due_first (b ∷ name) (suc n) x h = due_first name n x h

due_goes : (name : List ℕ) (count : ℕ) (x : ℕ) → slice_get name count ≡ Some x → drop count name ≡ x ∷ drop (count + 1) name
due_goes name count x h = due_first name count x h ∙ ap (λ (n : ℕ). x ∷ drop n name) (sym (add-one count))

from_end_name : (kind : Kind) (w v : Wide) (elements : List (List ℕ)) (name : List ℕ) (seen : List (List ℕ)) (b : ℕ) → AllWhole elements → wide_next w b ≡ Some v → (count : ℕ) → Due elements count w →
    Leads kind v (ctl (EndName count) elements name seen) b (end_name_next (due elements count) b)
unfolding due end_name_next
from_end_name kind w v [] name seen b a e count h = from_end_space kind w v [] name seen b a e (EndName count)
from_end_name kind w v (element ∷ outer) name seen b a e count h = by (slice_get element count) refl
  where
    by : (o : Option ℕ) → slice_get element count ≡ o → Leads kind v (ctl (EndName count) (element ∷ outer) name seen) b (end_name_next (with_count count o) b)
    by None f = from_end_space kind w v (element ∷ outer) name seen b a e (EndName count)
    by (Some x) f =
        only (b == x) (EndName (count + 1)) Pass (λ t.
        passes kind w v (element ∷ outer) name seen b a e (EndName count) (EndName (count + 1))
        (sym (wide_step b w v (drop (count + 1) element) e) ∙ sym (ap (ends_whole w) (due_goes element count x f ∙ ap (λ (y : ℕ). y ∷ drop (count + 1) element) (sym (eqb-true b x t)))) ∙ h))

pub place_keeps : (place : Place) (kind : Kind) (w v : Wide) (elements : List (List ℕ)) (name : List ℕ) (seen : List (List ℕ)) (b : ℕ) → AllWhole elements → Here place kind w elements name → wide_next w b ≡ Some v →
    Leads kind v (ctl place elements name seen) b (place_next place (around kind elements) (due elements (matched place)) b)
unfolding place_next matched
place_keeps Start kind w v elements name seen b a h e = from_start kind w v elements name seen b a e h
place_keeps First kind w v elements name seen b a h e = from_first kind w v elements name seen b a e h
place_keeps (DeclarationWord count) kind w v elements name seen b a h e = from_declaration_word kind w v elements name seen b a e count h
place_keeps (Declaration after_mark) kind w v elements name seen b a h e = from_declaration kind w v elements name seen b a e after_mark h
place_keeps Prolog kind w v elements name seen b a h e = from_prolog kind w v elements name seen b a e h
place_keeps (BodyWord count) kind w v elements name seen b a h e = from_body_word kind w v elements name seen b a e count h
place_keeps StanzaStart kind w v elements name seen b a h e = from_stanza_start kind w v elements name seen b a e
place_keeps (InContent count) kind w v elements name seen b a h e = from_content kind w v elements name seen b a e count (around kind elements) refl
place_keeps Opened kind w v elements name seen b a h e = from_opened kind w v elements name seen b a e (around kind elements) h
place_keeps (SectionWord count) kind w v elements name seen b a h e = from_section_word kind w v elements name seen b a e count
place_keeps (InSection count) kind w v elements name seen b a h e = from_section kind w v elements name seen b a e count
place_keeps (EndName count) kind w v elements name seen b a h e = from_end_name kind w v elements name seen b a e count h
place_keeps EndSpace kind w v elements name seen b a h e = from_end_space kind w v elements name seen b a e EndSpace
place_keeps TagName kind w v elements name seen b a h e = from_tag_name kind w v elements name seen b a e h
place_keeps TagSpace kind w v elements name seen b a h e = from_tag_space kind w v elements name seen b a e
place_keeps TagSlash kind w v elements name seen b a h e = from_tag_slash kind w v elements name seen b a e
place_keeps AttrName kind w v elements name seen b a h e = from_attr_name kind w v elements name seen b a e
place_keeps AttrEquals kind w v elements name seen b a h e = from_attr_equals kind w v elements name seen b a e
place_keeps AttrQuote kind w v elements name seen b a h e = from_attr_quote kind w v elements name seen b a e
place_keeps (InValue quote after_cr) kind w v elements name seen b a h e = from_value kind w v elements name seen b a e quote after_cr h
place_keeps AfterValue kind w v elements name seen b a h e = from_after_value kind w v elements name seen b a e
