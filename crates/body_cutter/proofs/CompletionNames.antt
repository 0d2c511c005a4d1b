-- Where the reader has left the places before the body, the name of the body is ended.
use Rattle.std.proofs.Common.{◌≡◌, ℕ, suc, zero, Bool, true, false, ◌||◌, List, [], ◌∷◌, refl, sym, subst, arith}
use Rattle.std.specs.Prelude.{Option, None, Some, nat_lt, ◌==◌, if◌then◌else◌}
use Rattle.std.proofs.lemmas.Bool.{eqb-true, ltb-true}
use Rattle.body_cutter.specs.declared.place.Place.{Place}
use Rattle.body_cutter.specs.declared.place.Place.TheVariants.{Start, First, DeclarationWord, Declaration, Prolog, BodyWord, StanzaStart, Content as InContent, Opened, SectionWord, Section as InSection, EndName, EndSpace, TagName, TagSpace, TagSlash, AttrName, AttrEquals, AttrQuote, Value as InValue, AfterValue}
use Rattle.body_cutter.specs.declared.place.Kind.{Kind}
use Rattle.body_cutter.specs.declared.place.Reference.{Reference}
use Rattle.body_cutter.specs.declared.place.Act.{Act}
use Rattle.body_cutter.specs.declared.place.Move.{Move}
use Rattle.body_cutter.specs.Chars.{is_space, is_char_byte, is_plain}
use Rattle.body_cutter.specs.Names.{around, due}
use Rattle.body_cutter.specs.Tables.{goes, goes_if, start_next, first_next, declaration_word_next, xml_letter, declaration_next, prolog_next, body_word_next, body_letter, name_ended}
use Rattle.body_cutter.specs.Reader.{place_next, move_of, matched}
use Rattle.body_cutter.specs.Refusal.{is_before_body}
use Rattle.body_cutter.specs.Grammar.{Spaces, DeclarationRest}
use Rattle.body_cutter.specs.Viable.{SpacedName, NamesBody}
use Rattle.body_cutter.proofs.Control.{Control, advance, done, goes_on}
use Rattle.body_cutter.proofs.Leads.{ctl}
use Rattle.body_cutter.proofs.Completes.{mark}

-- the control after the bytes
unfoldable pub lands : Kind → Control → List ℕ → Option Control
lands kind c [] = Some c
lands kind c (b ∷ text) = elim (advance kind c b) [ None ↦ None | Some next ↦ lands kind next text ]

abbrev pub lands_on : Kind → Option Control → List ℕ → Option Control
lands_on kind o text = elim o [ None ↦ None | Some next ↦ lands kind next text ]

-- this move by b leads to a state from where the text leads to the other
record Goes (kind : Kind) (c : Control) (b : ℕ) (text : List ℕ) (d : Control) (o : Option Move) : Type 0 where
  run : lands_on kind (goes_on o c b) text ≡ Some d

split : {P : Type 0} {kind : Kind} {c d : Control} {b : ℕ} {text : List ℕ} (t : Bool) (x y : Option Move) → Goes kind c b text d (if t then x else y) → (t ≡ true → Goes kind c b text d x → P) → (t ≡ false → Goes kind c b text d y → P) → P
split true x y h f g = f refl h
split false x y h f g = g refl h

none_some : {P : Type 0} {d : Control} → None ≡ Some d → P
none_some h = absurd (cc)

only : {kind : Kind} {c d : Control} {b : ℕ} {text : List ℕ} (t : Bool) (place : Place) (act : Act) → Goes kind c b text d (goes_if t place act) → (t ≡ true) × Goes kind c b text d (goes place act)
only true place act h = (refl, h)
only false place act h = none_some h.run

-- what is said of the rest of a text after `<?` and letters of `xml`, and after `<` and letters of `body`
abbrev WordRest : ℕ → List ℕ → Type 0
WordRest zero text = NamesBody (60 ∷ 63 ∷ text)
WordRest (suc zero) text = NamesBody (60 ∷ 63 ∷ 120 ∷ text)
WordRest (suc (suc zero)) text = NamesBody (60 ∷ 63 ∷ 120 ∷ 109 ∷ text)
WordRest (suc (suc (suc n))) text = NamesBody (60 ∷ 63 ∷ 120 ∷ 109 ∷ 108 ∷ text)

abbrev NameRest : ℕ → List ℕ → Type 0
NameRest zero text = SpacedName (60 ∷ text)
NameRest (suc zero) text = SpacedName (60 ∷ 98 ∷ text)
NameRest (suc (suc zero)) text = SpacedName (60 ∷ 98 ∷ 111 ∷ text)
NameRest (suc (suc (suc zero))) text = SpacedName (60 ∷ 98 ∷ 111 ∷ 100 ∷ text)
NameRest (suc (suc (suc (suc n)))) text = SpacedName (60 ∷ 98 ∷ 111 ∷ 100 ∷ 121 ∷ text)

-- of a text that ends the name from a place on
abbrev Rest : Place → List ℕ → Type 0
Rest Start text = NamesBody text
Rest First text = NamesBody (60 ∷ text)
Rest (DeclarationWord count) text = WordRest count text
Rest (Declaration after_mark) text = (after : List ℕ) × DeclarationRest (mark after_mark text) after × SpacedName after
Rest Prolog text = SpacedName text
Rest (BodyWord count) text = NameRest count text
Rest _ text = Unit {0}

abbrev RestBy : Option Reference → Place → List ℕ → Type 0
RestBy None place text = Rest place text
RestBy (Some reference) place text = Unit {0}

abbrev RestOf : Control → List ℕ → Type 0
RestOf c text = RestBy c.reference c.place text

abbrev Known : Kind → Control → List ℕ → Type 0
Known kind d text = (c : Control) → lands kind c text ≡ Some d → RestOf c text

spaced_more : {b : ℕ} {text : List ℕ} → is_space b ≡ true → SpacedName text → SpacedName (b ∷ text)
spaced_more e (SpacedName.named s n) = SpacedName.named (Spaces.more e s) n

module _ (kind : Kind) (elements : List (List ℕ)) (name : List ℕ) (seen : List (List ℕ)) (b : ℕ) (text : List ℕ) (d : Control) (known : Known kind d text) where
  from_start : Goes kind (ctl Start elements name seen) b text d (start_next b) → NamesBody (b ∷ text)
  unfolding start_next done
  from_start h =
      split (b == 60) _ _ h (λ t g. rw (eqb-true b 60 t) (known _ g.run))
      (λ _ g. let o = only (is_space b) _ _ g in NamesBody.plain (spaced_more o.0 (known _ o.1.run)))

  from_first : Goes kind (ctl First elements name seen) b text d (first_next b) → NamesBody (60 ∷ b ∷ text)
  unfolding first_next done
  from_first h =
      split (b == 63) _ _ h (λ t g. rw (eqb-true b 63 t) (known _ g.run))
      (λ _ g. let o = only (b == 98) _ _ g in rw (eqb-true b 98 o.0) (NamesBody.plain (known _ o.1.run)))

  from_declaration_word : (count : ℕ) → Goes kind (ctl (DeclarationWord count) elements name seen) b text d (declaration_word_next count b) → WordRest count (b ∷ text)
  unfolding declaration_word_next xml_letter done
  from_declaration_word zero h = let o = only (b == 120) _ _ h in rw (eqb-true b 120 o.0) (known _ o.1.run)
  from_declaration_word (suc zero) h = let o = only (b == 109) _ _ h in rw (eqb-true b 109 o.0) (known _ o.1.run)
  from_declaration_word (suc (suc zero)) h = let o = only (b == 108) _ _ h in rw (eqb-true b 108 o.0) (known _ o.1.run)
  from_declaration_word (suc (suc (suc n))) h =
      split (nat_lt (suc (suc (suc n))) 3) _ _ h
      (λ t _. absurd (omega (arith, ltb-true (suc (suc (suc n))) 3 t)))
      (λ _ g. let o = only (is_space b) _ _ g in let r = known _ o.1.run in NamesBody.declared o.0 r.1 r.2)

  declared_char : {after : List ℕ} (t : Bool) → (b == 63) ≡ t → is_char_byte b ≡ true → DeclarationRest (mark t text) after → DeclarationRest (b ∷ text) after
  declared_char true e c r = rw (eqb-true b 63 e) r
  declared_char false e c r = DeclarationRest.char c (rw e refl) r

  from_declaration : (after_mark : Bool) → Goes kind (ctl (Declaration after_mark) elements name seen) b text d (declaration_next after_mark b) → (after : List ℕ) × DeclarationRest (mark after_mark (b ∷ text)) after × SpacedName after
  unfolding declaration_next done is_char_byte is_plain
  from_declaration false h =
      let o = only (is_char_byte b) _ _ h in
      let r = known _ o.1.run in
      (r.0, declared_char (b == 63) refl o.0 r.1, r.2)
  from_declaration true h =
      split (b == 62) _ _ h
      (λ t g. (text, rw (eqb-true b 62 t) DeclarationRest.ends, known _ g.run))
      (λ t g. let o = only (is_char_byte b) _ _ g in
      let r = known _ o.1.run in
      (r.0, DeclarationRest.char refl (rw t refl) (declared_char (b == 63) refl o.0 r.1), r.2))

  from_prolog : Goes kind (ctl Prolog elements name seen) b text d (prolog_next b) → SpacedName (b ∷ text)
  unfolding prolog_next done
  from_prolog h =
      split (b == 60) _ _ h (λ t g. rw (eqb-true b 60 t) (known _ g.run))
      (λ _ g. let o = only (is_space b) _ _ g in spaced_more o.0 (known _ o.1.run))

  name_end : (c : Control) (s t u : Bool) (x y : Option Move) (place : Place) (act : Act) → Goes kind c b text d (if t then x else if u then y else goes_if s place act) → (s || (t || u)) ≡ true
  name_end c true t u x y place act h = refl
  name_end c false true u x y place act h = refl
  name_end c false false true x y place act h = refl
  name_end c false false false x y place act h = none_some h.run

  from_body_word : (count : ℕ) → Goes kind (ctl (BodyWord count) elements name seen) b text d (body_word_next count b) → NameRest count (b ∷ text)
  unfolding body_word_next body_letter name_ended done
  from_body_word zero h = let o = only (b == 98) _ _ h in rw (eqb-true b 98 o.0) (known _ o.1.run)
  from_body_word (suc zero) h = let o = only (b == 111) _ _ h in rw (eqb-true b 111 o.0) (known _ o.1.run)
  from_body_word (suc (suc zero)) h = let o = only (b == 100) _ _ h in rw (eqb-true b 100 o.0) (known _ o.1.run)
  from_body_word (suc (suc (suc zero))) h = let o = only (b == 121) _ _ h in rw (eqb-true b 121 o.0) (known _ o.1.run)
  from_body_word (suc (suc (suc (suc n)))) h =
      split (nat_lt (suc (suc (suc (suc n)))) 4) _ _ h
      (λ t _. absurd (omega (arith, ltb-true (suc (suc (suc (suc n)))) 4 t)))
      (λ _ g. SpacedName.named Spaces.none (name_end _ (is_space b) (b == 47) (b == 62) _ _ _ _ g))

  rest_of : (place : Place) → Goes kind (ctl place elements name seen) b text d (place_next place (around kind elements) (due elements (matched place)) b) → Rest place (b ∷ text)
  unfolding place_next matched
  rest_of Start h = from_start h
  rest_of First h = from_first h
  rest_of (DeclarationWord count) h = from_declaration_word count h
  rest_of (Declaration after_mark) h = from_declaration after_mark h
  rest_of Prolog h = from_prolog h
  rest_of (BodyWord count) h = from_body_word count h
  rest_of StanzaStart h = tt
  rest_of (InContent count) h = tt
  rest_of Opened h = tt
  rest_of (SectionWord count) h = tt
  rest_of (InSection count) h = tt
  rest_of (EndName count) h = tt
  rest_of EndSpace h = tt
  rest_of TagName h = tt
  rest_of TagSpace h = tt
  rest_of TagSlash h = tt
  rest_of AttrName h = tt
  rest_of AttrEquals h = tt
  rest_of AttrQuote h = tt
  rest_of (InValue quote after_cr) h = tt
  rest_of AfterValue h = tt

at_end : (place : Place) → is_before_body place ≡ false → Rest place []
unfolding is_before_body
at_end Start h = absurd (cc)
at_end First h = absurd (cc)
at_end (DeclarationWord count) h = absurd (cc)
at_end (Declaration after_mark) h = absurd (cc)
at_end Prolog h = absurd (cc)
at_end (BodyWord count) h = absurd (cc)
at_end StanzaStart h = tt
at_end (InContent count) h = tt
at_end Opened h = tt
at_end (SectionWord count) h = tt
at_end (InSection count) h = tt
at_end (EndName count) h = tt
at_end EndSpace h = tt
at_end TagName h = tt
at_end TagSpace h = tt
at_end TagSlash h = tt
at_end AttrName h = tt
at_end AttrEquals h = tt
at_end AttrQuote h = tt
at_end (InValue quote after_cr) h = tt
at_end AfterValue h = tt

ended : (place : Place) (o : Option Reference) → is_before_body place ≡ false → RestBy o place []
ended place None h = at_end place h
ended place (Some reference) h = tt

by_byte : (place : Place) (o : Option Reference) (kind : Kind) (elements : List (List ℕ)) (name : List ℕ) (seen : List (List ℕ)) (b : ℕ) (text : List ℕ) (d : Control) → Known kind d text →
    lands_on kind (advance kind (record { place = place; reference = o; elements = elements; name = name; seen = seen }) b) text ≡ Some d → RestBy o place (b ∷ text)
unfolding advance move_of
by_byte place None kind elements name seen b text d known h = rest_of kind elements name seen b text d known place (record { run = h })
by_byte place (Some reference) kind elements name seen b text d known h = tt

-- what leads past the places before the body ends the name
pub names_rest : (kind : Kind) (d : Control) → is_before_body d.place ≡ false → (text : List ℕ) → Known kind d text
unfolding lands
names_rest kind d later [] c h =
    let same : c ≡ d = cc in
    subst (λ (x : Control). RestOf x []) (sym same) (ended d.place d.reference later)
names_rest kind d later (b ∷ text) c h = by_byte c.place c.reference kind c.elements c.name c.seen b text d (names_rest kind d later text) h
