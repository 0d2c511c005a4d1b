-- What completes a state: its bytes are taken, and end whole characters.
use Rattle.std.proofs.Common.{◌≡◌, ◌∙◌, ◌+◌, ◌≤◌, ℕ, suc, zero, true, false, List, [], ◌∷◌, ◌++◌, refl, sym, ap, subst, arith, add-one, drop}
use Rattle.std.specs.Prelude.{Option, None, Some, slice_get}
use Rattle.std.proofs.lemmas.Bool.{eq-eqb}
use Rattle.body_cutter.specs.declared.place.Place.TheVariants.{Content as InContent, Opened, EndName}
use Rattle.body_cutter.specs.declared.place.Wide.{Wide}
use Rattle.body_cutter.specs.declared.place.Wide.TheVariants.{Whole, One, Two, Three, AfterE0, AfterEd, AfterEf, AfterEfBf, AfterF0, AfterF4}
use Rattle.body_cutter.specs.declared.place.Kind.{Kind}
use Rattle.body_cutter.specs.declared.place.Kind.TheVariants as kinds
use Rattle.body_cutter.specs.Chars.{wide_begin, wide_next, ends_whole, is_whole}
use Rattle.body_cutter.specs.Names.{around, due}
use Rattle.body_cutter.specs.Tables.{content_next, body_content_next, child_content_next, opened_next, opened_in_body, opened_in_child, end_name_next, end_space_next}
use Rattle.body_cutter.specs.Reader.{place_next, move_of, matched}
use Rattle.body_cutter.specs.Completion.{wide_rest, end_tags}
use Rattle.body_cutter.proofs.Control.{Control, advance, accepts, is_final, done}
use Rattle.body_cutter.proofs.Leads.{ctl, runs}
use Rattle.body_cutter.proofs.Utf8Takes.{Takes, byte_taken}

-- the text is read to its end from here
pub record Accepted (kind : Kind) (c : Control) (text : List ℕ) : Type 0 where
  pub is : accepts kind c text ≡ true

accepted_byte : {kind : Kind} {c next : Control} {b : ℕ} {text : List ℕ} → advance kind c b ≡ Some next → Accepted kind next text → Accepted kind c (b ∷ text)
unfolding accepts
accepted_byte {kind} {c} {next} {b} {text} e t = record { is = ap (λ (o : Option Control). runs kind o text) e ∙ t.is }

-- the text completes the state
pub record Finishes (kind : Kind) (c : Control) (w : Wide) (text : List ℕ) : Type 0 where
  pub taken : Accepted kind c text
  pub whole : Takes w text

-- a byte that leads on
pub by_both : {kind : Kind} {c next : Control} {w v : Wide} {b : ℕ} {text : List ℕ} → advance kind c b ≡ Some next → wide_next w b ≡ Some v → Finishes kind next v text → Finishes kind c w (b ∷ text)
by_both e f t = record { taken = accepted_byte e t.taken; whole = byte_taken f t.whole }

-- the rest of a character, where each byte from 128 on leads on
pub wide_finishes : {I : Type 0} (kind : Kind) (at : I → Control) → ((i : I) (b : ℕ) → 128 ≤ b → (j : I) × (advance kind (at i) b ≡ Some (at j))) → {text : List ℕ} → ((i : I) → Finishes kind (at i) Whole text) → (w : Wide) (i : I) → Finishes kind (at i) w (wide_rest w ++ text)
unfolding wide_rest wide_next wide_begin
wide_finishes kind at step t Whole i = t i
wide_finishes kind at step t One i = let j = step i 0x80 (omega arith) in by_both j.1 refl (t j.0)
wide_finishes kind at step t Two i =
    let j = step i 0x80 (omega arith) in let k = step j.0 0x80 (omega arith) in by_both j.1 refl (by_both k.1 refl (t k.0))
wide_finishes kind at step t Three i =
    let j = step i 0x80 (omega arith) in let k = step j.0 0x80 (omega arith) in let l = step k.0 0x80 (omega arith) in by_both j.1 refl (by_both k.1 refl (by_both l.1 refl (t l.0)))
wide_finishes kind at step t AfterE0 i =
    let j = step i 0xa0 (omega arith) in let k = step j.0 0x80 (omega arith) in by_both j.1 refl (by_both k.1 refl (t k.0))
wide_finishes kind at step t AfterEd i =
    let j = step i 0x80 (omega arith) in let k = step j.0 0x80 (omega arith) in by_both j.1 refl (by_both k.1 refl (t k.0))
wide_finishes kind at step t AfterEf i =
    let j = step i 0x80 (omega arith) in let k = step j.0 0x80 (omega arith) in by_both j.1 refl (by_both k.1 refl (t k.0))
wide_finishes kind at step t AfterEfBf i = let j = step i 0x80 (omega arith) in by_both j.1 refl (t j.0)
wide_finishes kind at step t AfterF0 i =
    let j = step i 0x90 (omega arith) in let k = step j.0 0x80 (omega arith) in let l = step k.0 0x80 (omega arith) in by_both j.1 refl (by_both k.1 refl (by_both l.1 refl (t l.0)))
wide_finishes kind at step t AfterF4 i =
    let j = step i 0x80 (omega arith) in let k = step j.0 0x80 (omega arith) in let l = step k.0 0x80 (omega arith) in by_both j.1 refl (by_both k.1 refl (by_both l.1 refl (t l.0)))

-- the names end whole characters
abbrev pub AllWhole : List (List ℕ) → Type 0
AllWhole [] = Unit {0}
AllWhole (name ∷ outer) = (ends_whole Whole name ≡ true) × AllWhole outer

pub is_whole_is : (w : Wide) → is_whole w ≡ true → w ≡ Whole
is_whole_is Whole h = refl
is_whole_is One h = absurd (cc)
is_whole_is Two h = absurd (cc)
is_whole_is Three h = absurd (cc)
is_whole_is AfterE0 h = absurd (cc)
is_whole_is AfterEd h = absurd (cc)
is_whole_is AfterEf h = absurd (cc)
is_whole_is AfterEfBf h = absurd (cc)
is_whole_is AfterF0 h = absurd (cc)
is_whole_is AfterF4 h = absurd (cc)

-- where a byte of whole characters leads
next_at : (w : Wide) (b : ℕ) (text : List ℕ) (o : Option Wide) → wide_next w b ≡ o → ends_whole w (b ∷ text) ≡ true → (v : Wide) × (wide_next w b ≡ Some v) × (ends_whole v text ≡ true)
unfolding ends_whole
next_at w b text None e h = absurd (never (sym (ap (λ (o : Option Wide). elim o [ None ↦ false | Some next ↦ ends_whole next text ]) e) ∙ h))
  where
    never : false ≡ true → ⊥
    never h = cc
next_at w b text (Some v) e h = (v, e, sym (ap (λ (o : Option Wide). elim o [ None ↦ false | Some next ↦ ends_whole next text ]) e) ∙ h)

pub next_of : (w : Wide) (b : ℕ) (text : List ℕ) → ends_whole w (b ∷ text) ≡ true → (v : Wide) × (wide_next w b ≡ Some v) × (ends_whole v text ≡ true)
next_of w b text h = next_at w b text (wide_next w b) refl h

-- a name without so many bytes
pub dropped_none : (name : List ℕ) (count : ℕ) → drop count name ≡ [] → slice_get name count ≡ None
dropped_none [] zero e = refl
dropped_none [] (suc n) e = refl
dropped_none (b ∷ name) zero e = absurd (cc)
dropped_none (b ∷ name) (suc n) e = dropped_none name n e

pub dropped_some : (name : List ℕ) (count b : ℕ) (bytes : List ℕ) → drop count name ≡ b ∷ bytes → (slice_get name count ≡ Some b) × (drop (suc count) name ≡ bytes)
dropped_some [] zero b bytes e = absurd (cc)
dropped_some [] (suc n) b bytes e = absurd (cc)
dropped_some (x ∷ name) zero b bytes e = (cc, cc)
dropped_some (x ∷ name) (suc n) b bytes e = dropped_some name n b bytes e

-- what completes the text between tags, whatever names were read
abbrev pub Closes : Kind → List (List ℕ) → List ℕ → Type 0
Closes kind elements text = (count : ℕ) (name : List ℕ) (seen : List (List ℕ)) → Finishes kind (ctl (InContent count) elements name seen) Whole text

module _ (kind : Kind) (element : List ℕ) (outer : List (List ℕ)) (name : List ℕ) (seen : List (List ℕ)) where
  -- the rest of an end tag
  bytes_finish : {text : List ℕ} → Closes kind outer text → (bytes : List ℕ) (count : ℕ) (w : Wide) → drop count element ≡ bytes → ends_whole w bytes ≡ true → Finishes kind (ctl (EndName count) (element ∷ outer) name seen) w (bytes ++ (62 ∷ text))
  unfolding advance move_of place_next end_name_next end_space_next done due matched ends_whole wide_next wide_begin
  bytes_finish {text} t [] count w e h =
      subst (λ (x : Wide). Finishes kind (ctl (EndName count) (element ∷ outer) name seen) x (62 ∷ text)) (sym (is_whole_is w h))
      (by_both {next = ctl (InContent 0) outer name seen} (rw (dropped_none element count e) refl) refl (t 0 name seen))
  bytes_finish {text} t (b ∷ bytes) count w e h =
      let f = dropped_some element count b bytes e in
      let n = next_of w b bytes h in
      by_both {next = ctl (EndName (count + 1)) (element ∷ outer) name seen} (rw (f.0, eq-eqb b b refl) refl) n.1
      (bytes_finish t bytes (count + 1) n.0 (ap (λ (x : ℕ). drop x element) (add-one count) ∙ f.1) n.2)

  pub end_name_finishes : {text : List ℕ} (count : ℕ) (w : Wide) → ends_whole w (drop count element) ≡ true → Closes kind outer text → Finishes kind (ctl (EndName count) (element ∷ outer) name seen) w (drop count element ++ (62 ∷ text))
  end_name_finishes count w h t = bytes_finish t (drop count element) count w refl h

-- the `</` of an end tag
opens_end : (kind : Kind) (element : List ℕ) (outer : List (List ℕ)) {text : List ℕ} (count : ℕ) (name : List ℕ) (seen : List (List ℕ)) → Finishes kind (ctl (EndName 0) (element ∷ outer) name seen) Whole text → Finishes kind (ctl (InContent count) (element ∷ outer) name seen) Whole (60 ∷ 47 ∷ text)
unfolding advance move_of place_next around content_next body_content_next child_content_next opened_next opened_in_body opened_in_child done wide_next wide_begin
opens_end kinds.Body element [] count name seen t = by_both {next = ctl Opened (element ∷ []) name seen} refl refl (by_both refl refl t)
opens_end kinds.Body element (other ∷ others) count name seen t = by_both {next = ctl Opened (element ∷ other ∷ others) name seen} refl refl (by_both refl refl t)
opens_end kinds.Stanza element outer count name seen t = by_both {next = ctl Opened (element ∷ outer) name seen} refl refl (by_both refl refl t)

-- the end tags of the open elements
pub tags_finish : (kind : Kind) (elements : List (List ℕ)) → AllWhole elements → Closes kind elements (end_tags elements)
unfolding end_tags accepts is_final ends_whole
tags_finish kind [] h count name seen = record { taken = record { is = refl }; whole = record { is = refl } }
tags_finish kind (element ∷ outer) h count name seen =
    opens_end kind element outer count name seen (end_name_finishes kind element outer name seen 0 Whole h.0 (tags_finish kind outer h.1))
