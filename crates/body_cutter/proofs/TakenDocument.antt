-- Whole texts of the grammar are taken.
use Rattle.std.proofs.Common.{◌≡◌, ◌-◌, ℕ, Bool, true, false, List, [], ◌∷◌, length, refl, sym, subst}
use Rattle.std.specs.Prelude.{◌==◌}
use Rattle.std.proofs.lemmas.Bool.{eqb-true}
use Rattle.body_cutter.specs.declared.place.Place.TheVariants.{Start, Declaration, Prolog, BodyWord, StanzaStart, Content as InContent, Opened, EndName, TagSpace}
use Rattle.body_cutter.specs.declared.place.Around.TheVariants.{Child}
use Rattle.body_cutter.specs.declared.place.Kind.TheVariants as kinds
use Rattle.body_cutter.specs.Chars.{is_space, is_plain, is_char_byte}
use Rattle.body_cutter.specs.Names.{around}
use Rattle.body_cutter.specs.Tables.{start_next, first_next, declaration_word_next, xml_letter, declaration_next, prolog_next, body_word_next, body_letter, name_ended, stanza_start_next, content_next, body_content_next, opened_next, opened_in_body}
use Rattle.body_cutter.specs.Reader.{place_next, move_of, next_move, acted, first_state, is_body_tag, with_name_grown, with_element}
use Rattle.body_cutter.specs.Refusal.{is_complete}
use Rattle.body_cutter.specs.Grammar.{Spaces, TagRest, Children, BodyRest, DeclarationRest, SpacedBody, Document, Single, ends_declaration}
use Rattle.body_cutter.proofs.Flow.{Words, Kept, Taken, by_byte, proceed, flow, st, words}
use Rattle.body_cutter.proofs.Folds.{deepened, marked, tag_kept, element_kept, children_kept}
use Rattle.body_cutter.proofs.Taken.{space_differs, spaces_taken}
use Rattle.body_cutter.proofs.TakenTags.{Onward, OnwardFrom, slash_taken, tag_rest_taken}
use Rattle.body_cutter.proofs.TakenContent.{element_taken, end_tag_taken}

-- the name of the body
abbrev pub body : List ℕ
body = 98 ∷ 111 ∷ 100 ∷ 121 ∷ []

-- a child of the body is a child
is_child : (element : List ℕ) → around kinds.Body (element ∷ body ∷ []) ≡ Child
unfolding around
is_child element = refl

is_stanza : (element : List ℕ) → around kinds.Stanza (element ∷ []) ≡ Child
unfolding around
is_stanza element = refl

-- whose tag is the body's
in_body : is_body_tag (around kinds.Body (body ∷ [])) ≡ true
unfolding is_body_tag around
in_body = refl

no_body : is_body_tag (around kinds.Body []) ≡ false
unfolding is_body_tag around
no_body = refl

no_stanza : is_body_tag (around kinds.Stanza []) ≡ false
unfolding is_body_tag around
no_stanza = refl

-- what the reader keeps of a body
unfoldable pub body_kept : ℕ → {text rest : List ℕ} → BodyRest text rest → Kept → Kept
body_kept len (BodyRest.empty r) k = tag_kept true len r (deepened kinds.Body (body ∷ []) k)
body_kept len (BodyRest.full {close = close} r c e) k = marked (len - length (60 ∷ 47 ∷ close)) (children_kept kinds.Body len (body ∷ []) c (tag_kept true len r (deepened kinds.Body (body ∷ []) k)))

module _ (len : ℕ) (end : Kept) where
  children_taken : {text rest close : List ℕ} (c : Children text rest) → rest ≡ 60 ∷ 47 ∷ close → (w : Words) (k : Kept) →
      ((w : Words) → Taken len (st kinds.Body (EndName 0) (body ∷ []) w (marked (len - length (60 ∷ 47 ∷ close)) (children_kept kinds.Body len (body ∷ []) c k))) close end) → Taken len (st kinds.Body (InContent 0) (body ∷ []) w k) text end
  unfolding proceed next_move acted move_of place_next content_next body_content_next opened_next opened_in_body around is_space children_kept
  children_taken {close = close} Children.none e w k t =
      subst (λ (x : List ℕ). Taken len (st kinds.Body (InContent 0) (body ∷ []) w k) x end) (sym e)
      (by_byte {next = st kinds.Body Opened (body ∷ []) w (marked (len - length (60 ∷ 47 ∷ close)) k)} refl (by_byte refl (t w)))
  children_taken (Children.space {b = b} s c) e w k t = by_byte {next = st kinds.Body (InContent 0) (body ∷ []) w k} (rw (space_differs b 60 s refl, s) refl) (children_taken c e w k t)
  children_taken (Children.child {text = text} x c) e w k t =
      by_byte {next = st kinds.Body Opened (body ∷ []) w (marked (len - length (60 ∷ text)) k)} refl
      (element_taken x len kinds.Body (body ∷ []) true in_body is_child w _ end (λ w. children_taken c e w _ t))

  -- after the body
  trailing : {text : List ℕ} → Spaces text [] → Onward len kinds.Body [] end text end
  unfolding proceed next_move acted move_of place_next content_next around flow is_complete
  trailing s w = spaces_taken (λ at b e. rw e refl) s (record { is = λ within. refl })

  body_tag_taken : {is_empty : Bool} {text rest : List ℕ} (r : TagRest [] false is_empty text rest) (k : Kept) → OnwardFrom len kinds.Body body [] false is_empty (tag_kept true len r (deepened kinds.Body (body ∷ []) k)) rest end →
      (start stop : ℕ) (seen : List (List ℕ)) → Taken len (st kinds.Body (BodyWord 4) [] (words body start stop seen) k) text end
  unfolding proceed next_move acted move_of place_next body_word_next name_ended with_element is_space tag_kept
  body_tag_taken TagRest.empty k t start stop seen = by_byte refl (slash_taken len kinds.Body body [] false no_body end (words [] start stop []) (deepened kinds.Body (body ∷ []) k) t)
  body_tag_taken TagRest.opens k t start stop seen = by_byte refl (t (words [] start stop []))
  body_tag_taken (TagRest.space {b = b} e r) k t start stop seen =
      by_byte {next = st kinds.Body TagSpace (body ∷ []) (words [] start stop []) (deepened kinds.Body (body ∷ []) k)} (rw (space_differs b 47 e refl, space_differs b 62 e refl, e) refl)
      (tag_rest_taken len kinds.Body body [] false no_body end true in_body r _ t [] start stop)

-- the body after its name
body_taken : {text rest : List ℕ} (len : ℕ) (r : BodyRest text rest) (k : Kept) → Spaces rest [] → (start stop : ℕ) (seen : List (List ℕ)) → Taken len (st kinds.Body (BodyWord 4) [] (words body start stop seen) k) text (body_kept len r k)
unfolding body_kept
body_taken len (BodyRest.empty r) k s start stop seen = body_tag_taken len _ r k (trailing len _ s) start stop seen
body_taken len (BodyRest.full r c e) k s start stop seen =
    body_tag_taken len _ r k (λ w. children_taken len _ c refl w _ (λ w. end_tag_taken len kinds.Body body [] false no_body w _ _ e (trailing len _ s))) start stop seen

spaced_taken : {len : ℕ} {k end : Kept} {text inner : List ℕ} → Spaces text (60 ∷ 98 ∷ 111 ∷ 100 ∷ 121 ∷ inner) → Taken len (st kinds.Body (BodyWord 4) [] (words body 0 0 []) k) inner end → Taken len (st kinds.Body Prolog [] (words [] 0 0 []) k) text end
unfolding proceed next_move acted move_of place_next prolog_next body_word_next body_letter with_name_grown is_space
spaced_taken s t = spaces_taken (λ at b e. rw (space_differs b 60 e refl, e) refl) s (by_byte refl (by_byte refl (by_byte refl (by_byte refl (by_byte refl t)))))

started_taken : {len : ℕ} {k end : Kept} {text inner : List ℕ} → Spaces text (60 ∷ 98 ∷ 111 ∷ 100 ∷ 121 ∷ inner) → Taken len (st kinds.Body (BodyWord 4) [] (words body 0 0 []) k) inner end → Taken len (st kinds.Body Start [] (words [] 0 0 []) k) text end
unfolding proceed next_move acted move_of place_next start_next first_next body_word_next body_letter with_name_grown is_space
started_taken Spaces.none t = by_byte refl (by_byte refl (by_byte refl (by_byte refl (by_byte refl t))))
started_taken {k = k} (Spaces.more {b = b} e s) t = by_byte {next = st kinds.Body Prolog [] (words [] 0 0 []) k} (rw (space_differs b 60 e refl, e) refl) (spaced_taken s t)

-- a text that a `?` may stand before
abbrev Marked : Bool → List ℕ → Type 0
Marked true text = ends_declaration (63 ∷ text) ≡ false
Marked false text = Unit {0}

mark_more : (b : ℕ) (text : List ℕ) (t : Bool) → (b == 63) ≡ t → ends_declaration (b ∷ text) ≡ false → Marked t text
mark_more b text true e f = subst (λ (x : ℕ). ends_declaration (x ∷ text) ≡ false) (eqb-true b 63 e) f
mark_more b text false e f = tt

no_mark_end : (b : ℕ) (text : List ℕ) (t : Bool) → (b == 62) ≡ t → ends_declaration (63 ∷ b ∷ text) ≡ false → t ≡ false
no_mark_end b text true e f = subst (λ (x : ℕ). ends_declaration (63 ∷ x ∷ text) ≡ false) (eqb-true b 62 e) f
no_mark_end b text false e f = refl

declaration_taken : {len : ℕ} {k end : Kept} {text rest : List ℕ} → DeclarationRest text rest → Taken len (st kinds.Body Prolog [] (words [] 0 0 []) k) rest end → (after_mark : Bool) → Marked after_mark text → Taken len (st kinds.Body (Declaration after_mark) [] (words [] 0 0 []) k) text end
unfolding proceed next_move acted move_of place_next declaration_next is_char_byte is_plain
declaration_taken DeclarationRest.ends t true m = by_byte refl (by_byte refl t)
declaration_taken DeclarationRest.ends t false m = by_byte refl (by_byte refl t)
declaration_taken {k = k} (DeclarationRest.char {b = b} {text = text} c e d) t true m =
    by_byte {next = st kinds.Body (Declaration (b == 63)) [] (words [] 0 0 []) k} (rw (no_mark_end b text (b == 62) refl m, c) refl) (declaration_taken d t (b == 63) (mark_more b text (b == 63) refl e))
declaration_taken {k = k} (DeclarationRest.char {b = b} {text = text} c e d) t false m =
    by_byte {next = st kinds.Body (Declaration (b == 63)) [] (words [] 0 0 []) k} (rw c refl) (declaration_taken d t (b == 63) (mark_more b text (b == 63) refl e))

-- nothing is kept yet
abbrev pub nothing : Kept
nothing = record { value = []; attrs = []; child_start = 0; children = []; too_many_attributes = false; too_deep = false }

unfoldable pub document_kept : ℕ → {text : List ℕ} → Document text → Kept
document_kept len (Document.plain (SpacedBody.spaced s b e)) = body_kept len b nothing
document_kept len (Document.declared f d (SpacedBody.spaced s b e)) = body_kept len b nothing

-- the structure of a body's text is taken
pub document_taken : {text : List ℕ} (len : ℕ) (d : Document text) → Taken len (first_state kinds.Body Start) text (document_kept len d)
unfolding proceed next_move acted move_of place_next start_next first_next declaration_word_next xml_letter first_state document_kept
document_taken len (Document.plain (SpacedBody.spaced s b e)) = started_taken s (body_taken len b _ e 0 0 [])
document_taken len (Document.declared e d (SpacedBody.spaced s b f)) =
    by_byte refl (by_byte refl (by_byte refl (by_byte refl (by_byte refl (by_byte {next = st kinds.Body (Declaration false) [] (words [] 0 0 []) nothing} (rw e refl)
    (declaration_taken d (spaced_taken s (body_taken len b _ f 0 0 [])) false tt))))))

unfoldable pub single_kept : ℕ → {text : List ℕ} → Single text → Kept
single_kept len (Single.single x) = element_kept x kinds.Stanza len [] nothing

-- and that of a stanza
pub single_taken : {text : List ℕ} (len : ℕ) (x : Single text) → Taken len (first_state kinds.Stanza StanzaStart) text (single_kept len x)
unfolding proceed next_move acted move_of place_next stanza_start_next first_state single_kept flow is_complete
single_taken len (Single.single x) =
    by_byte {next = st kinds.Stanza Opened [] (words [] 0 0 []) nothing} refl (element_taken x len kinds.Stanza [] false no_stanza is_stanza (words [] 0 0 []) nothing _ (λ w. record { is = λ within. refl }))
