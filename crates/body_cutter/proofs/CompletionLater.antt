-- The reader never comes back to a place before the body.
use Rattle.std.proofs.Common.{◌≡◌, ◌∙◌, ℕ, Bool, true, false, ◌&&◌, ◌||◌, refl, sym, ap}
use Rattle.std.specs.Prelude.{Option, None, Some, nat_lt, ◌==◌, if◌then◌else◌}
use Rattle.body_cutter.specs.declared.place.Place.{Place}
use Rattle.body_cutter.specs.declared.place.Place.TheVariants.{Start, First, DeclarationWord, Declaration, Prolog, BodyWord, StanzaStart, Content as InContent, Opened, SectionWord, Section as InSection, EndName, EndSpace, TagName, TagSpace, TagSlash, AttrName, AttrEquals, AttrQuote, Value as InValue, AfterValue}
use Rattle.body_cutter.specs.declared.place.Kind.{Kind}
use Rattle.body_cutter.specs.declared.place.Around.{Around}
use Rattle.body_cutter.specs.declared.place.Around.TheVariants.{NoBody, NoStanza, Body, Child}
use Rattle.body_cutter.specs.declared.place.Reference.{Reference}
use Rattle.body_cutter.specs.declared.place.ReferenceMove.{ReferenceMove}
use Rattle.body_cutter.specs.declared.place.ReferenceMove.TheVariants.{More, Done}
use Rattle.body_cutter.specs.declared.place.Act.{Act}
use Rattle.body_cutter.specs.declared.place.Move.{Move}
use Rattle.body_cutter.specs.Chars.{is_space, is_char_byte, is_name_start, is_name_byte}
use Rattle.body_cutter.specs.References.{reference_next}
use Rattle.body_cutter.specs.Names.{around, due}
use Rattle.body_cutter.specs.Tables.{goes, goes_if, begins_reference, name_ended, stanza_start_next, content_next, body_content_next, child_content_next, opened_next, opened_in_body, opened_in_child, section_word_next, section_letter, section_next, end_name_next, end_space_next, tag_name_next, tag_space_next, tag_slash_next, attr_name_next, attr_equals_next, attr_quote_next, value_next, value_plain, after_value_next}
use Rattle.body_cutter.specs.Reader.{place_next, move_of, matched, reference_moved}
use Rattle.body_cutter.specs.Refusal.{is_before_body}
use Rattle.body_cutter.proofs.Control.{Control, advance, done, led, goes_on}

abbrev After : Option Move → Type 0
After None = Unit {0}
After (Some move) = is_before_body move.place ≡ false

-- the move leads past the places before the body
record Later (o : Option Move) : Type 0 where
  after : After o

split : (t : Bool) {x y : Option Move} → Later x → Later y → Later (if t then x else y)
split true f g = f
split false f g = g

dead : Later None
dead = record { after = tt }

to : {place : Place} {act : Act} → is_before_body place ≡ false → Later (goes place act)
to h = record { after = h }

only : (t : Bool) (place : Place) (act : Act) → is_before_body place ≡ false → Later (goes_if t place act)
only true place act h = to h
only false place act h = dead

refers : {place : Place} → is_before_body place ≡ false → Later (begins_reference place)
refers h = record { after = h }

module _ (b : ℕ) where
  name_later : Later (name_ended b)
  unfolding name_ended is_before_body
  name_later = split (b == 47) (to refl) (split (b == 62) (to refl) (only (is_space b) _ _ refl))

  content_later : (count : ℕ) (a : Around) → Later (content_next a count b)
  unfolding content_next body_content_next child_content_next is_before_body
  content_later count NoBody = only (is_space b) _ _ refl
  content_later count NoStanza = dead
  content_later count Body = split (b == 60) (to refl) (only (is_space b) _ _ refl)
  content_later count Child = split (b == 60) (to refl) (split (b == 38) (refers refl) (split (b == 93) (to refl) (split (b == 62 && count == 2) dead (only (is_char_byte b) _ _ refl))))

  opened_later : (a : Around) → Later (opened_next a b)
  unfolding opened_next opened_in_body opened_in_child is_before_body
  opened_later NoBody = only (is_name_start b) _ _ refl
  opened_later NoStanza = only (is_name_start b) _ _ refl
  opened_later Body = split (b == 47) (to refl) (only (is_name_start b) _ _ refl)
  opened_later Child = split (b == 33) (to refl) (split (b == 47) (to refl) (only (is_name_start b) _ _ refl))

  end_space_later : Later (end_space_next b)
  unfolding end_space_next is_before_body
  end_space_later = split (b == 62) (to refl) (only (is_space b) _ _ refl)

  end_name_later : (o : Option (ℕ × ℕ)) → Later (end_name_next o b)
  unfolding end_name_next is_before_body
  end_name_later None = end_space_later
  end_name_later (Some next) = only (b == next.0) _ _ refl

  value_later : (quote : ℕ) (after_cr : Bool) → Later (value_next quote after_cr b)
  unfolding value_next value_plain is_before_body
  value_later quote after_cr =
      split (b == quote) (to refl) (split (b == 60) dead (split (b == 38) (refers refl) (split (b == 10 && after_cr) (to refl)
      (split (b == 13) (to refl) (split (b == 10 || b == 9) (to refl) (only (is_char_byte b) _ _ refl))))))

  place_later : (place : Place) (a : Around) (o : Option (ℕ × ℕ)) → is_before_body place ≡ false → Later (place_next place a o b)
  unfolding place_next stanza_start_next section_word_next section_next tag_name_next tag_space_next tag_slash_next attr_name_next attr_equals_next attr_quote_next after_value_next is_before_body
  place_later Start a o h = absurd (cc)
  place_later First a o h = absurd (cc)
  place_later (DeclarationWord count) a o h = absurd (cc)
  place_later (Declaration after_mark) a o h = absurd (cc)
  place_later Prolog a o h = absurd (cc)
  place_later (BodyWord count) a o h = absurd (cc)
  place_later StanzaStart a o h = only (b == 60) _ _ refl
  place_later (InContent count) a o h = content_later count a
  place_later Opened a o h = opened_later a
  place_later (SectionWord count) a o h = split (nat_lt count 6) (only (b == section_letter count) _ _ refl) (only (b == 91) _ _ refl)
  place_later (InSection count) a o h = split (b == 93) (to refl) (split (b == 62 && count == 2) (to refl) (only (is_char_byte b) _ _ refl))
  place_later (EndName count) a o h = end_name_later o
  place_later EndSpace a o h = end_space_later
  place_later TagName a o h = split (is_name_byte b) (to refl) name_later
  place_later TagSpace a o h = split (b == 47) (to refl) (split (b == 62) (to refl) (split (is_space b) (to refl) (only (is_name_start b) _ _ refl)))
  place_later TagSlash a o h = only (b == 62) _ _ refl
  place_later AttrName a o h = split (b == 61) (to refl) (split (is_space b) (to refl) (only (is_name_byte b) _ _ refl))
  place_later AttrEquals a o h = split (b == 61) (to refl) (only (is_space b) _ _ refl)
  place_later AttrQuote a o h = split (b == 39) (to refl) (split (b == 34) (to refl) (only (is_space b) _ _ refl))
  place_later (InValue quote after_cr) a o h = value_later quote after_cr
  place_later AfterValue a o h = split (b == 47) (to refl) (split (b == 62) (to refl) (only (is_space b) _ _ refl))

  reference_later : (place : Place) (o : Option ReferenceMove) → is_before_body place ≡ false → Later (reference_moved place o)
  reference_later place None h = dead
  reference_later place (Some (More reference)) h = record { after = h }
  reference_later place (Some (Done character)) h = record { after = h }

  move_later : (place : Place) (r : Option Reference) (a : Around) (o : Option (ℕ × ℕ)) → is_before_body place ≡ false → Later (move_of place r a o b)
  unfolding move_of
  move_later place None a o h = place_later place a o h
  move_later place (Some reference) a o h = reference_later place (reference_next reference b) h

  led_later : (move : Move) (o : Option Control) (next : Control) → is_before_body move.place ≡ false → led move o ≡ Some next → is_before_body next.place ≡ false
  led_later move None next h e = absurd (cc)
  led_later move (Some c) next h e = sym (ap is_before_body (same _ _ e)) ∙ h
    where
      same : (x y : Control) → Some x ≡ Some y → x.place ≡ y.place
      same x y e = cc

  goes_later : (o : Option Move) (c next : Control) → Later o → goes_on o c b ≡ Some next → is_before_body next.place ≡ false
  goes_later None c next h e = absurd (cc)
  goes_later (Some move) c next h e = led_later move (done move.act c b) next h.after e

-- after a byte the place is past those before the body, where it was so before
pub stays_later : (kind : Kind) (c next : Control) (b : ℕ) → is_before_body c.place ≡ false → advance kind c b ≡ Some next → is_before_body next.place ≡ false
unfolding advance
stays_later kind c next b h e = goes_later b (move_of c.place c.reference (around kind c.elements) (due c.elements (matched c.place)) b) c next (move_later b c.place c.reference (around kind c.elements) (due c.elements (matched c.place)) h) e
