-- What the control takes to its end is in the grammar.
use Rattle.std.proofs.Common.{◌≡◌, ℕ, Bool, true, false, ◌&&◌, List, [], ◌∷◌, refl}
use Rattle.std.specs.Prelude.{Option, None, Some}
use Rattle.body_cutter.specs.declared.place.Place.{Place}
use Rattle.body_cutter.specs.declared.place.Place.TheVariants.{Start, First, DeclarationWord, Declaration, Prolog, BodyWord, StanzaStart, Content as InContent, Opened, SectionWord, Section as InSection, EndName, EndSpace, TagName, TagSpace, TagSlash, AttrName, AttrEquals, AttrQuote, Value as InValue, AfterValue}
use Rattle.body_cutter.specs.declared.place.Reference.{Reference}
use Rattle.body_cutter.specs.declared.place.Kind.{Kind}
use Rattle.body_cutter.specs.declared.place.Kind.TheVariants as kinds
use Rattle.body_cutter.specs.Names.{around, due, is_empty}
use Rattle.body_cutter.specs.Refusal.{is_content}
use Rattle.body_cutter.specs.Reader.{place_next, move_of, matched}
use Rattle.body_cutter.specs.Grammar.{Spaces}
use Rattle.body_cutter.proofs.Control.{advance, accepts, is_final}
use Rattle.body_cutter.proofs.Completes.{At, Completes}
use Rattle.body_cutter.proofs.Leads.{Goes, Known, ctl, runs}
use Rattle.body_cutter.proofs.SoundTags.{from_tag_name, from_tag_space, from_tag_slash, from_attr_name, from_attr_equals, from_attr_quote, from_value, from_after_value}
use Rattle.body_cutter.proofs.SoundProlog.{from_start, from_first, from_declaration_word, from_declaration, from_prolog, from_body_word}
use Rattle.body_cutter.proofs.SoundContent.{from_content}
use Rattle.body_cutter.proofs.SoundMarkup.{from_opened, from_stanza_start, from_section_word, from_section, from_end_name, from_end_space}
use Rattle.body_cutter.proofs.SoundReferences.{from_reference}

-- a text that is at its end
at_end : (place : Place) (kind : Kind) (elements : List (List ℕ)) (name : List ℕ) (seen : List (List ℕ)) → is_final (ctl place elements name seen) ≡ true → At place kind elements name seen []
unfolding is_final
at_end (InContent count) kinds.Body [] name seen h = Spaces.none
at_end (InContent count) kinds.Stanza [] name seen h = refl
at_end (InContent count) kind (inner ∷ outer) name seen h = absurd (cc)
at_end Start kind elements name seen h = absurd (cc)
at_end First kind elements name seen h = absurd (cc)
at_end (DeclarationWord count) kind elements name seen h = absurd (cc)
at_end (Declaration after_mark) kind elements name seen h = absurd (cc)
at_end Prolog kind elements name seen h = absurd (cc)
at_end (BodyWord count) kind elements name seen h = absurd (cc)
at_end StanzaStart kind elements name seen h = absurd (cc)
at_end Opened kind elements name seen h = absurd (cc)
at_end (SectionWord count) kind elements name seen h = absurd (cc)
at_end (InSection brackets) kind elements name seen h = absurd (cc)
at_end (EndName count) kind elements name seen h = absurd (cc)
at_end EndSpace kind elements name seen h = absurd (cc)
at_end TagName kind elements name seen h = absurd (cc)
at_end TagSpace kind elements name seen h = absurd (cc)
at_end TagSlash kind elements name seen h = absurd (cc)
at_end AttrName kind elements name seen h = absurd (cc)
at_end AttrEquals kind elements name seen h = absurd (cc)
at_end AttrQuote kind elements name seen h = absurd (cc)
at_end (InValue quote after_cr) kind elements name seen h = absurd (cc)
at_end AfterValue kind elements name seen h = absurd (cc)

-- one byte more
at_byte : (place : Place) (kind : Kind) (elements : List (List ℕ)) (name : List ℕ) (seen : List (List ℕ)) (b : ℕ) (text : List ℕ) → Known kind text → Goes kind (ctl place elements name seen) b text (place_next place (around kind elements) (due elements (matched place)) b) → At place kind elements name seen (b ∷ text)
unfolding place_next matched
at_byte Start kind elements name seen b text known h = from_start kind elements name seen b text known h
at_byte First kind elements name seen b text known h = from_first kind elements name seen b text known h
at_byte (DeclarationWord count) kind elements name seen b text known h = from_declaration_word count kind elements name seen b text known h
at_byte (Declaration after_mark) kind elements name seen b text known h = from_declaration after_mark kind elements name seen b text known h
at_byte Prolog kind elements name seen b text known h = from_prolog kind elements name seen b text known h
at_byte (BodyWord count) kind elements name seen b text known h = from_body_word count kind elements name seen b text known h
at_byte StanzaStart kind elements name seen b text known h = from_stanza_start kind elements name seen b text known h
at_byte (InContent count) kind elements name seen b text known h = from_content count kind elements name seen b text known h
at_byte Opened kind elements name seen b text known h = from_opened kind elements name seen b text known h
at_byte (SectionWord count) kind elements name seen b text known h = from_section_word count kind elements name seen b text known h
at_byte (InSection count) kind elements name seen b text known h = from_section count kind elements name seen b text known h
at_byte (EndName count) kind elements name seen b text known h = from_end_name count kind elements name seen b text known h
at_byte EndSpace kind elements name seen b text known h = from_end_space kind elements name seen b text known h
at_byte TagName kind elements name seen b text known h = from_tag_name kind elements name seen b text known h
at_byte TagSpace kind elements name seen b text known h = from_tag_space kind elements name seen b text known h
at_byte TagSlash kind elements name seen b text known h = from_tag_slash kind elements name seen b text known h
at_byte AttrName kind elements name seen b text known h = from_attr_name kind elements name seen b text known h
at_byte AttrEquals kind elements name seen b text known h = from_attr_equals kind elements name seen b text known h
at_byte AttrQuote kind elements name seen b text known h = from_attr_quote kind elements name seen b text known h
at_byte (InValue quote after_cr) kind elements name seen b text known h = from_value quote after_cr kind elements name seen b text known h
at_byte AfterValue kind elements name seen b text known h = from_after_value kind elements name seen b text known h

step_of : (place : Place) (o : Option Reference) (kind : Kind) (elements : List (List ℕ)) (name : List ℕ) (seen : List (List ℕ)) (b : ℕ) (text : List ℕ) → Known kind text →
    runs kind (advance kind (record { place = place; reference = o; elements = elements; name = name; seen = seen }) b) text ≡ true →
    Completes kind (record { place = place; reference = o; elements = elements; name = name; seen = seen }) (b ∷ text)
unfolding advance move_of
step_of place None kind elements name seen b text known h = at_byte place kind elements name seen b text known (record { run = h })
step_of place (Some reference) kind elements name seen b text known h = from_reference kind place reference elements name seen b text known reference (record { goes = record { run = h } })

never_both : (a c : Bool) → (a && (false && c)) ≡ true → ⊥
never_both true c h = cc
never_both false c h = cc

end_of : (place : Place) (o : Option Reference) (kind : Kind) (elements : List (List ℕ)) (name : List ℕ) (seen : List (List ℕ)) →
    is_final (record { place = place; reference = o; elements = elements; name = name; seen = seen }) ≡ true →
    Completes kind (record { place = place; reference = o; elements = elements; name = name; seen = seen }) []
unfolding is_final
end_of place None kind elements name seen h = at_end place kind elements name seen h
end_of place (Some reference) kind elements name seen h = absurd (never_both (is_content place) (is_empty elements) h)

-- what is taken completes the state
pub completes : (kind : Kind) (text : List ℕ) → Known kind text
unfolding accepts
completes kind [] c h = end_of c.place c.reference kind c.elements c.name c.seen h
completes kind (b ∷ text) c h = step_of c.place c.reference kind c.elements c.name c.seen b text (completes kind text) h
