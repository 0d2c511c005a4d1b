-- Elements of the grammar are taken.
use Rattle.std.proofs.Common.{◌≡◌, ◌+◌, ◌-◌, ℕ, suc, zero, Bool, true, false, ◌&&◌, List, [], ◌∷◌, length, refl, sym, subst, add-one}
use Rattle.std.specs.Prelude.{None, Some, ◌==◌, not, slice_get}
use Rattle.std.proofs.lemmas.Bool.{eqb-true, eq-eqb}
use Rattle.body_cutter.specs.declared.place.Place.TheVariants.{Content as InContent, Opened, SectionWord, Section as InSection, EndName, EndSpace, TagName}
use Rattle.body_cutter.specs.declared.place.Around.{Around}
use Rattle.body_cutter.specs.declared.place.Around.TheVariants.{NoBody, NoStanza, Body, Child}
use Rattle.body_cutter.specs.declared.place.Kind.{Kind}
use Rattle.body_cutter.specs.declared.place.Kind.TheVariants as kinds
use Rattle.body_cutter.specs.Chars.{is_space, is_name_start, is_char_byte, begins_name_plainly, is_letter}
use Rattle.body_cutter.specs.Names.{around, due}
use Rattle.body_cutter.specs.Tables.{content_next, child_content_next, more_brackets, opened_next, opened_in_body, opened_in_child, section_word_next, section_letter, section_next, end_name_next, end_space_next}
use Rattle.body_cutter.specs.Reader.{place_next, move_of, next_move, acted, matched, is_body_tag, with_name_begun}
use Rattle.body_cutter.specs.Grammar.{Spaces, Name, ReferenceRest, TagRest, Section, EndTag, Exactly, Element, Content, ends_section}
use Rattle.body_cutter.proofs.Completes.{left}
use Rattle.body_cutter.proofs.Leads.{both}
use Rattle.body_cutter.proofs.Flow.{Words, Kept, Taken, by_byte, by_last_byte, proceed, st, words}
use Rattle.body_cutter.proofs.Folds.{closed, deepened, tag_kept, element_kept, content_kept}
use Rattle.body_cutter.proofs.Taken.{start_differs, space_differs, spaces_taken, not_of, child_added}
use Rattle.body_cutter.proofs.TakenReferences.{reference_taken}
use Rattle.body_cutter.proofs.TakenTags.{OnwardFrom, Closed, after_byte, named_taken, tag_name_taken}

left_over : (name : List ℕ) (count : ℕ) → left count name ≡ [] → slice_get name count ≡ None
left_over [] zero e = refl
left_over [] (suc n) e = refl
left_over (b ∷ name) zero e = absurd (cc)
left_over (b ∷ name) (suc n) e = left_over name n e

left_is : (name : List ℕ) (count b : ℕ) (bytes : List ℕ) → left count name ≡ b ∷ bytes → (slice_get name count ≡ Some b) × (left (suc count) name ≡ bytes)
left_is [] zero b bytes e = absurd (cc)
left_is [] (suc n) b bytes e = absurd (cc)
left_is (x ∷ name) zero b bytes e = (cc, cc)
left_is (x ∷ name) (suc n) b bytes e = left_is name n b bytes e

module _ (len : ℕ) (kind : Kind) (element : List ℕ) (outer : List (List ℕ)) (child : Bool) (parent : is_body_tag (around kind outer) ≡ child) (w : Words) (k end : Kept) where
  end_space_taken : {text rest : List ℕ} → Spaces text (62 ∷ rest) → Closed len kind outer child k rest end → Taken len (st kind EndSpace (element ∷ outer) w k) text end
  unfolding proceed next_move acted move_of place_next end_space_next is_space
  end_space_taken {rest = rest} s t =
      spaces_taken (λ at b e. rw (space_differs b 62 e refl, e) refl) s
      (by_last_byte {next = st kind (InContent 0) outer w (closed child (len - length rest) k)}
      (λ within. rw (child_added kind EndSpace _ (element ∷ outer) w k child parent (len - length (62 ∷ rest)), after_byte len 62 rest within) refl) (t w))

  after_name_taken : {text rest : List ℕ} (count : ℕ) → slice_get element count ≡ None → Spaces text (62 ∷ rest) → Closed len kind outer child k rest end → Taken len (st kind (EndName count) (element ∷ outer) w k) text end
  unfolding proceed next_move acted move_of place_next end_name_next end_space_next due matched is_space
  after_name_taken {rest = rest} count e Spaces.none t =
      by_last_byte {next = st kind (InContent 0) outer w (closed child (len - length rest) k)}
      (λ within. rw (e, child_added kind (EndName count) _ (element ∷ outer) w k child parent (len - length (62 ∷ rest)), after_byte len 62 rest within) refl) (t w)
  after_name_taken count e (Spaces.more {b = b} f s) t = by_byte {next = st kind EndSpace (element ∷ outer) w k} (rw (e, space_differs b 62 f refl, f) refl) (end_space_taken s t)

  exactly_taken : {bytes text after rest : List ℕ} → Exactly bytes text after → (count : ℕ) → left count element ≡ bytes → Spaces after (62 ∷ rest) → Closed len kind outer child k rest end → Taken len (st kind (EndName count) (element ∷ outer) w k) text end
  unfolding proceed next_move acted move_of place_next end_name_next due matched
  exactly_taken Exactly.none count e s t = after_name_taken count (left_over element count e) s t
  exactly_taken (Exactly.more {b = b} {bytes = bytes} x) count e s t =
      let f = left_is element count b bytes e in
      by_byte {next = st kind (EndName (count + 1)) (element ∷ outer) w k} (rw (f.0, eq-eqb b b refl) refl)
      (exactly_taken x (count + 1) (subst (λ (n : ℕ). left n element ≡ bytes) (sym (add-one count)) f.1) s t)

  pub end_tag_taken : {text rest : List ℕ} → EndTag element text rest → Closed len kind outer child k rest end → Taken len (st kind (EndName 0) (element ∷ outer) w k) text end
  end_tag_taken (EndTag.ends x s) t = exactly_taken x 0 refl s t

-- what so many `]` say of the text after them
abbrev Fits : ℕ → List ℕ → Type 0
Fits zero text = Unit {0}
Fits (suc zero) text = ends_section (93 ∷ text) ≡ false
Fits (suc (suc zero)) text = (ends_section (93 ∷ 93 ∷ text) ≡ false) × (ends_section (93 ∷ text) ≡ false)
Fits (suc (suc (suc n))) text = ⊥

fits_more : (count b : ℕ) (text : List ℕ) → (b == 93) ≡ true → ends_section (b ∷ text) ≡ false → Fits count (b ∷ text) → Fits (more_brackets count) text
unfolding more_brackets
fits_more zero b text t e f = subst (λ (x : ℕ). ends_section (x ∷ text) ≡ false) (eqb-true b 93 t) e
fits_more (suc zero) b text t e f = (subst (λ (x : ℕ). ends_section (93 ∷ x ∷ text) ≡ false) (eqb-true b 93 t) f, subst (λ (x : ℕ). ends_section (x ∷ text) ≡ false) (eqb-true b 93 t) e)
fits_more (suc (suc zero)) b text t e f = (subst (λ (x : ℕ). ends_section (93 ∷ x ∷ text) ≡ false) (eqb-true b 93 t) f.1, subst (λ (x : ℕ). ends_section (x ∷ text) ≡ false) (eqb-true b 93 t) e)
fits_more (suc (suc (suc n))) b text t e f = absurd f

no_end_at : (b : ℕ) (text : List ℕ) (t : Bool) → (b == 62) ≡ t → ends_section (93 ∷ 93 ∷ b ∷ text) ≡ false → (t && true) ≡ false
no_end_at b text true e f = absurd (absurd_of (subst (λ (x : ℕ). ends_section (93 ∷ 93 ∷ x ∷ text) ≡ false) (eqb-true b 62 e) f))
  where
    absurd_of : true ≡ false → ⊥
    absurd_of h = cc
no_end_at b text false e f = refl

and_false : (t : Bool) → (t && false) ≡ false
and_false true = refl
and_false false = refl

fits_no_end : (count b : ℕ) (text : List ℕ) → Fits count (b ∷ text) → (b == 62 && count == 2) ≡ false
fits_no_end zero b text f = and_false (b == 62)
fits_no_end (suc zero) b text f = and_false (b == 62)
fits_no_end (suc (suc zero)) b text f = no_end_at b text (b == 62) refl f.0
fits_no_end (suc (suc (suc n))) b text f = absurd f

module _ (len : ℕ) (kind : Kind) (elements : List (List ℕ)) (w : Words) (k end : Kept) where
  section_char : (count b : ℕ) {text : List ℕ} (t : Bool) → (b == 93) ≡ t → is_char_byte b ≡ true → ends_section (b ∷ text) ≡ false → Fits count (b ∷ text) →
      ((count : ℕ) → Fits count text → Taken len (st kind (InSection count) elements w k) text end) → Taken len (st kind (InSection count) elements w k) (b ∷ text) end
  unfolding proceed next_move acted move_of place_next section_next
  section_char count b {text} true t c e f h = by_byte {next = st kind (InSection (more_brackets count)) elements w k} (rw t refl) (h (more_brackets count) (fits_more count b text t e f))
  section_char count b {text} false t c e f h = by_byte {next = st kind (InSection 0) elements w k} (rw (t, fits_no_end count b text f, c) refl) (h 0 tt)

  section_taken : {text rest : List ℕ} → Section text rest → Taken len (st kind (InContent 0) elements w k) rest end → (count : ℕ) → Fits count text → Taken len (st kind (InSection count) elements w k) text end
  unfolding proceed next_move acted move_of place_next section_next more_brackets
  section_taken Section.ends t zero f = by_byte refl (by_byte refl (by_byte refl t))
  section_taken Section.ends t (suc zero) f = by_byte refl (by_byte refl (by_byte refl t))
  section_taken Section.ends t (suc (suc zero)) f = by_byte refl (by_byte refl (by_byte refl t))
  section_taken Section.ends t (suc (suc (suc n))) f = absurd f
  section_taken (Section.char {b = b} c e s) t count f = section_char count b (b == 93) refl c e f (λ n g. section_taken s t n g)

-- what is no body's tag
no_body_tag : (kind : Kind) (elements : List (List ℕ)) → around kind elements ≡ Child → is_body_tag (around kind elements) ≡ false
unfolding is_body_tag
no_body_tag kind elements inside = rw inside refl

-- a byte of character data
module _ (len : ℕ) (kind : Kind) (elements : List (List ℕ)) (inside : around kind elements ≡ Child) (w : Words) (k end : Kept) where
  data_taken : (count b : ℕ) {text : List ℕ} (t : Bool) → (b == 93) ≡ t → is_char_byte b ≡ true → (b == 60) ≡ false → (b == 38) ≡ false → ends_section (b ∷ text) ≡ false → Fits count (b ∷ text) →
      ((count : ℕ) → Fits count text → Taken len (st kind (InContent count) elements w k) text end) → Taken len (st kind (InContent count) elements w k) (b ∷ text) end
  unfolding proceed next_move acted move_of place_next content_next child_content_next
  data_taken count b {text} true t c l a e f h = by_byte {next = st kind (InContent (more_brackets count)) elements w k} (rw (inside, l, a, t) refl) (h (more_brackets count) (fits_more count b text t e f))
  data_taken count b {text} false t c l a e f h = by_byte {next = st kind (InContent 0) elements w k} (rw (inside, l, a, t, fits_no_end count b text f, c) refl) (h 0 tt)

  reference_step : (count : ℕ) {text after : List ℕ} → ReferenceRest text after → Taken len (st kind (InContent 0) elements w k) after end → Taken len (st kind (InContent count) elements w k) (38 ∷ text) end
  unfolding proceed next_move acted move_of place_next content_next child_content_next
  reference_step count r t = by_byte (rw inside refl) (reference_taken len kind (InContent 0) elements w k false (no_body_tag kind elements inside) end r t)

  less_step : (count : ℕ) {text : List ℕ} → Taken len (st kind Opened elements w k) text end → Taken len (st kind (InContent count) elements w k) (60 ∷ text) end
  unfolding proceed next_move acted move_of place_next content_next child_content_next
  less_step count t = by_byte {next = st kind Opened elements w k} (rw inside refl) t

  section_step : (count : ℕ) {text after : List ℕ} → Section text after → Taken len (st kind (InContent 0) elements w k) after end → Taken len (st kind (InContent count) elements w k) (60 ∷ 33 ∷ 91 ∷ 67 ∷ 68 ∷ 65 ∷ 84 ∷ 65 ∷ 91 ∷ text) end
  unfolding proceed next_move acted move_of place_next opened_next opened_in_child section_word_next section_letter
  section_step count s t =
      less_step count (by_byte {next = st kind (SectionWord 0) elements w k} (rw inside refl)
      (by_byte refl (by_byte refl (by_byte refl (by_byte refl (by_byte refl (by_byte refl (by_byte refl (section_taken len kind elements w k end s t 0 tt)))))))))

  close_step : (count : ℕ) {text : List ℕ} → Taken len (st kind (EndName 0) elements w k) text end → Taken len (st kind (InContent count) elements w k) (60 ∷ 47 ∷ text) end
  unfolding proceed next_move acted move_of place_next opened_next opened_in_child opened_in_body
  close_step count t = less_step count (by_byte {next = st kind (EndName 0) elements w k} (rw inside refl) t)

-- the first byte of a name, after a `<`
name_begins : (len : ℕ) (kind : Kind) (elements : List (List ℕ)) (around_is : Around) → around kind elements ≡ around_is → (w : Words) (k end : Kept) (b : ℕ) {text : List ℕ} → is_name_start b ≡ true →
    Taken len (st kind TagName elements (words (b ∷ []) (len - length (b ∷ text)) w.end w.seen) k) text end → Taken len (st kind Opened elements w k) (b ∷ text) end
unfolding proceed next_move acted move_of place_next opened_next opened_in_child opened_in_body with_name_begun is_name_start begins_name_plainly is_letter
name_begins len kind elements NoBody e w k end b {text} s t = by_byte {next = st kind TagName elements (words (b ∷ []) (len - length (b ∷ text)) w.end w.seen) k} (rw (e, s) refl) t
name_begins len kind elements NoStanza e w k end b {text} s t = by_byte {next = st kind TagName elements (words (b ∷ []) (len - length (b ∷ text)) w.end w.seen) k} (rw (e, s) refl) t
name_begins len kind elements Body e w k end b {text} s t = by_byte {next = st kind TagName elements (words (b ∷ []) (len - length (b ∷ text)) w.end w.seen) k} (rw (e, start_differs b 47 s refl, s) refl) t
name_begins len kind elements Child e w k end b {text} s t = by_byte {next = st kind TagName elements (words (b ∷ []) (len - length (b ∷ text)) w.end w.seen) k} (rw (e, start_differs b 33 s refl, start_differs b 47 s refl, s) refl) t

-- the first tag of an element
tag_taken : (len : ℕ) (kind : Kind) (outer : List (List ℕ)) (child : Bool) → is_body_tag (around kind outer) ≡ child → ((element : List ℕ) → around kind (element ∷ outer) ≡ Child) → (w : Words) (k end : Kept) {element text after rest : List ℕ} {is_empty : Bool} →
    Name element text after → (r : TagRest [] false is_empty after rest) → OnwardFrom len kind element outer child is_empty (tag_kept false len r (deepened kind (element ∷ outer) k)) rest end → Taken len (st kind Opened outer w k) text end
tag_taken len kind outer child parent inside w k end (Name.begins {b = b} {name = more} e n) r t =
    name_begins len kind outer (around kind outer) refl w k end b e
    (tag_name_taken len kind outer _ w.end w.seen k end (b ∷ []) n
    (named_taken len kind (b ∷ more) outer child parent end false (no_body_tag kind _ (inside (b ∷ more))) r k t _ w.end w.seen))

-- what opens in a child is a child
deeper : (kind : Kind) (element : List ℕ) (outer : List (List ℕ)) → ((element : List ℕ) → around kind (element ∷ outer) ≡ Child) → (inner : List ℕ) → around kind (inner ∷ element ∷ outer) ≡ Child
unfolding around
deeper kinds.Body element outer inside inner = refl
deeper kinds.Stanza element outer inside inner = refl

mutual
  unfolding element_kept content_kept

  -- an element, where what opens in it is a child
  pub element_taken : {text rest : List ℕ} (x : Element text rest) (len : ℕ) (kind : Kind) (outer : List (List ℕ)) (child : Bool) → is_body_tag (around kind outer) ≡ child → ((element : List ℕ) → around kind (element ∷ outer) ≡ Child) → (w : Words) (k end : Kept) →
      Closed len kind outer child (element_kept x kind len outer k) rest end → Taken len (st kind Opened outer w k) text end
  element_taken (Element.empty_element n r) len kind outer child parent inside w k end t = tag_taken len kind outer child parent inside w k end n r t
  element_taken (Element.full_element {name = element} n r c e) len kind outer child parent inside w k end t =
      tag_taken len kind outer child parent inside w k end n r
      (λ w. content_taken c len kind (element ∷ outer) (inside element) (deeper kind element outer inside) refl w _ end (λ w. end_tag_taken len kind element outer child parent w _ end e t) 0 tt)

  -- content up to an end tag
  content_taken : {text rest : List ℕ} (c : Content text rest) (len : ℕ) (kind : Kind) (elements : List (List ℕ)) → around kind elements ≡ Child → ((element : List ℕ) → around kind (element ∷ elements) ≡ Child) → {close : List ℕ} → rest ≡ 60 ∷ 47 ∷ close → (w : Words) (k end : Kept) →
      ((w : Words) → Taken len (st kind (EndName 0) elements w (content_kept c kind len elements k)) close end) → (count : ℕ) → Fits count text → Taken len (st kind (InContent count) elements w k) text end
  content_taken Content.no_content len kind elements inside deep e w k end t count f = subst (λ (x : List ℕ). Taken len (st kind (InContent count) elements w k) x end) (sym e) (close_step len kind elements inside w k end count (t w))
  content_taken (Content.child_element x c) len kind elements inside deep e w k end t count f =
      less_step len kind elements inside w k end count (element_taken x len kind elements false (no_body_tag kind elements inside) deep w k end (λ w. content_taken c len kind elements inside deep e w _ end t 0 tt))
  content_taken (Content.reference r c) len kind elements inside deep e w k end t count f =
      reference_step len kind elements inside w k end count r (content_taken c len kind elements inside deep e w k end t 0 tt)
  content_taken (Content.char {b = b} d x c) len kind elements inside deep e w k end t count f =
      let p = both (is_char_byte b) _ d in
      let q = both (not (b == 60)) _ p.1 in
      data_taken len kind elements inside w k end count b (b == 93) refl p.0 (not_of (b == 60) q.0) (not_of (b == 38) q.1) x f (λ n g. content_taken c len kind elements inside deep e w k end t n g)
  content_taken (Content.section s c) len kind elements inside deep e w k end t count f =
      section_step len kind elements inside w k end count s (content_taken c len kind elements inside deep e w k end t 0 tt)
