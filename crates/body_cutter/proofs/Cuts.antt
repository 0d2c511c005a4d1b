-- What a text is cut into is the grammar's and the table's, both ways.
use Rattle.std.proofs.Common.{◌≡◌, ◌∙◌, ◌<◌, ◌≤◌, ℕ, true, false, List, ◌∷◌, ◌++◌, length, take, refl, sym, ap, subst, arith, inl, inr}
use Rattle.std.specs.Prelude.{◌↔◌, None, Some, Result, Ok, Err, nat_lt, is_ok, IsTrue}
use Rattle.std.specs.Str.{IsUtf8}
use Rattle.std.proofs.lemmas.Bool.{lt-ltb, cases_order}
use Rattle.std.proofs.lemmas.Bool.Decides.{nat_tests}
use Rattle.body_cutter.specs.declared.parts.Cut.{Cut}
use Rattle.body_cutter.specs.declared.parts.CutRefusal.{CutRefusal}
use Rattle.body_cutter.specs.declared.parts.CutRefusal.TheVariants.{TooLong, NotUtf8, NotBody, Forbidden, Malformed, TooManyAttributes, TooManyChildren, TooDeep}
use Rattle.body_cutter.specs.Refusal.{unit_answer}
use Rattle.body_cutter.specs.Parts.{Parts}
use Rattle.body_cutter.specs.BodyText.{IsBodyText, IsElementText, HasBodyParts, HasElementParts, IsWithinLimits, IsBody, IsStanza, IsReadable, RefusalTells, limit_passed}
use Rattle.body_cutter.specs.Viable.{IsLongestViable, IsForbiddenAfter, Row, NamesBody, Anything, is_for_place}
use Rattle.body_cutter.specs.Cutting.{body_cut_of, stanza_read_of, is_stanza}
use Rattle.body_cutter.specs.Table.{IsRefusedWith, IsBodyRefusal, IsStanzaRefusal}
use Rattle.body_cutter.proofs.Bodies.{AnswerTells, body_tells, stanza_tells}
use Rattle.body_cutter.proofs.Readings.{body_answer, stanza_answer, one_body, one_element}
use Rattle.body_cutter.proofs.CompletionTable.{body_row, stanza_row}

at_most : (limit n : ℕ) → n ≤ limit → nat_lt limit n ≡ false
at_most limit n h = grind (arith, nat_tests, h)

-- parts within the limits pass none
passes_none : (parts : Parts) → IsWithinLimits parts → limit_passed parts ≡ None
unfolding limit_passed
passes_none parts h = rw (at_most 32 _ h.attributes, at_most 1024 _ h.children, at_most 64 _ h.depth) refl

passes_attributes : (parts : Parts) → 32 < parts.most_attributes → limit_passed parts ≡ Some TooManyAttributes
unfolding limit_passed
passes_attributes parts h = rw (lt-ltb 32 _ h) refl

passes_children : (parts : Parts) → parts.most_attributes ≤ 32 → 1024 < length parts.children → limit_passed parts ≡ Some TooManyChildren
unfolding limit_passed
passes_children parts a h = rw (at_most 32 _ a, lt-ltb 1024 _ h) refl

passes_depth : (parts : Parts) → parts.most_attributes ≤ 32 → length parts.children ≤ 1024 → 64 < parts.depth → limit_passed parts ≡ Some TooDeep
unfolding limit_passed
passes_depth parts a c h = rw (at_most 32 _ a, at_most 1024 _ c, lt-ltb 64 _ h) refl

some_same : {r s : CutRefusal} → Some r ≡ Some s → r ≡ s
some_same e = cc

some_none : {r : CutRefusal} → Some r ≡ None → ⊥
some_none e = cc

-- a text that is none of P has one row
module _ (P Fits : List ℕ → Type 0) (text : List ℕ) where
  one_place : (n m : ℕ) → IsLongestViable P n text → IsLongestViable P m text → n ≡ m
  one_place n m a b = elim (cases_order n m) [ inl e ↦ e | inr (inl l) ↦ absurd (a.longest m l b.within b.viable) | inr (inr l) ↦ absurd (b.longest n l a.within a.viable) ]

  fits_there : (n m : ℕ) → IsLongestViable P n text → IsLongestViable P m text → Fits (take n text) → Fits (take m text)
  fits_there n m a b f = subst (λ (at : ℕ). Fits (take at text)) (one_place n m a b) f

  forbids_there : (n m b : ℕ) (rest : List ℕ) → IsLongestViable P n text → IsLongestViable P m text → text ≡ take n text ++ (b ∷ rest) → IsForbiddenAfter Fits (take n text) b →
      ((c : ℕ) (more : List ℕ) → text ≡ take m text ++ (c ∷ more) → IsForbiddenAfter Fits (take m text) c → ⊥) → ⊥
  forbids_there n m b rest l k t g h =
      let e = one_place n m l k in
      h b rest (subst (λ (at : ℕ). text ≡ take at text ++ (b ∷ rest)) e t) (subst (λ (at : ℕ). IsForbiddenAfter Fits (take at text) b) e g)

  one_row : {r s : CutRefusal} → Row P Fits text r → Row P Fits text s → r ≡ s
  one_row (Row.no_body l n) (Row.no_body m k) = refl
  one_row (Row.no_body {place = p} l n) (Row.forbidden {place = q} c more m f u h) = absurd (n (fits_there q p m l f))
  one_row (Row.no_body {place = p} l n) (Row.malformed {place = q} m f h) = absurd (n (fits_there q p m l f))
  one_row (Row.forbidden {place = p} b rest l f t g) (Row.no_body {place = q} m n) = absurd (n (fits_there p q l m f))
  one_row (Row.forbidden {place = p} b rest l f t g) (Row.forbidden {place = q} c more m k u h) = ap Forbidden (one_place p q l m)
  one_row (Row.forbidden {place = p} b rest l f t g) (Row.malformed {place = q} m k h) = absurd (forbids_there p q b rest l m t g h)
  one_row (Row.malformed {place = p} l f g) (Row.no_body {place = q} m n) = absurd (n (fits_there p q l m f))
  one_row (Row.malformed {place = p} l f g) (Row.forbidden {place = q} c more m k u h) = absurd (forbids_there q p c more m l u h g)
  one_row (Row.malformed {place = p} l f g) (Row.malformed {place = q} m k h) = ap Malformed (one_place p q l m)

-- where P are the texts of a grammar, of UTF-8, and Has tells their parts
module _ (P : List ℕ → Type 0) (Has : List ℕ → Parts → Type 0) (Fits : List ℕ → Type 0) (longest : ℕ) (text : List ℕ) (is_text : P text → IsUtf8 text) (in_grammar : (parts : Parts) → Has text parts → P text)
    (one_limit : (p q : Parts) → Has text p → Has text q → limit_passed p ≡ limit_passed q) where
  -- the four kinds of refusals
  data Kind (r : CutRefusal) : Type 0 where
    long : longest < length text → r ≡ TooLong → Kind r
    garbled : length text ≤ longest → (IsUtf8 text → ⊥) → r ≡ NotUtf8 → Kind r
    placed : IsReadable longest text → (P text → ⊥) → Row P Fits text r → Kind r
    limited : length text ≤ longest → (parts : Parts) → Has text parts → limit_passed parts ≡ Some r → Kind r

  kind_of : (r : CutRefusal) → IsRefusedWith P Has Fits longest text r → Kind r
  kind_of TooLong h = long h.tells refl
  kind_of NotUtf8 h = garbled h.tells.0 h.tells.1 refl
  kind_of NotBody h = placed h.tells.0 h.tells.1 (h.row refl)
  kind_of (Forbidden place) h = placed h.tells.0 h.tells.1 (h.row refl)
  kind_of (Malformed place) h = placed h.tells.0 h.tells.1 (h.row refl)
  kind_of TooManyAttributes h = let t = h.tells.1 in limited h.tells.0 t.0 t.1 (passes_attributes t.0 t.2)
  kind_of TooManyChildren h = let t = h.tells.1 in limited h.tells.0 t.0 t.1 (passes_children t.0 t.2.0 t.2.1)
  kind_of TooDeep h = let t = h.tells.1 in limited h.tells.0 t.0 t.1 (passes_depth t.0 t.2.0 t.2.1 t.2.2)

  too_long : longest < length text → length text ≤ longest → ⊥
  too_long l n = omega (arith, l, n)

  one_kind : (r s : CutRefusal) → Kind r → Kind s → r ≡ s
  one_kind r s (long l e) (long m f) = e ∙ sym f
  one_kind r s (long l e) (garbled n u f) = absurd (too_long l n)
  one_kind r s (long l e) (placed n g w) = absurd (too_long l n.0)
  one_kind r s (long l e) (limited n parts h f) = absurd (too_long l n)
  one_kind r s (garbled n u e) (long l f) = absurd (too_long l n)
  one_kind r s (garbled n u e) (garbled m v f) = e ∙ sym f
  one_kind r s (garbled n u e) (placed m g w) = absurd (u m.1)
  one_kind r s (garbled n u e) (limited m parts h f) = absurd (u (is_text (in_grammar parts h)))
  one_kind r s (placed n g w) (long l f) = absurd (too_long l n.0)
  one_kind r s (placed n g w) (garbled m u f) = absurd (u n.1)
  one_kind r s (placed n g w) (placed m k x) = one_row P Fits text w x
  one_kind r s (placed n g w) (limited m parts h f) = absurd (g (in_grammar parts h))
  one_kind r s (limited n parts h e) (long l f) = absurd (too_long l n)
  one_kind r s (limited n parts h e) (garbled m u f) = absurd (u (is_text (in_grammar parts h)))
  one_kind r s (limited n parts h e) (placed m g w) = absurd (g (in_grammar parts h))
  one_kind r s (limited n parts h e) (limited m others k f) = some_same (sym e ∙ one_limit parts others h k ∙ f)

  -- a text within the limits is not refused
  never_kind : (r : CutRefusal) (parts : Parts) → length text ≤ longest → Has text parts → IsWithinLimits parts → Kind r → ⊥
  never_kind r parts n h w (long l e) = too_long l n
  never_kind r parts n h w (garbled m u e) = u (is_text (in_grammar parts h))
  never_kind r parts n h w (placed m g x) = g (in_grammar parts h)
  never_kind r parts n h w (limited m others k e) = some_none (sym e ∙ one_limit others parts k h ∙ passes_none parts w)

  pub refusal_is : (Cuts : Cut → Type 0) (answer : Result Cut CutRefusal) → ((cut : Cut) → Cuts cut → (parts : Parts) × (length text ≤ longest) × Has text parts × IsWithinLimits parts) →
      AnswerTells P Has longest text Cuts answer → ((r : CutRefusal) → answer ≡ Err r → is_for_place r ≡ true → Row P Fits text r) → (r : CutRefusal) → IsRefusedWith P Has Fits longest text r → answer ≡ Err r
  refusal_is Cuts (Ok cut) parts_of t w r h = let p = parts_of cut t in absurd (never_kind r p.0 p.1 p.2 p.3 (kind_of r h))
  refusal_is Cuts (Err s) parts_of t w r h = ap Err (one_kind s r (kind_of s (record { tells = t; row = w s refl })) (kind_of r h))

err_tells : (P : List ℕ → Type 0) (Has : List ℕ → Parts → Type 0) (longest : ℕ) (text : List ℕ) (Cuts : Cut → Type 0) (answer : Result Cut CutRefusal) (r : CutRefusal) → answer ≡ Err r → AnswerTells P Has longest text Cuts answer → RefusalTells P Has longest r text
err_tells P Has longest text Cuts answer r e t = let Q : Result Cut CutRefusal → Type 0 = AnswerTells P Has longest text Cuts in subst Q e t

ok_tells : (P : List ℕ → Type 0) (Has : List ℕ → Parts → Type 0) (longest : ℕ) (text : List ℕ) (Cuts : Cut → Type 0) (answer : Result Cut CutRefusal) (cut : Cut) → answer ≡ Ok cut → AnswerTells P Has longest text Cuts answer → Cuts cut
ok_tells P Has longest text Cuts answer cut e t = let Q : Result Cut CutRefusal → Type 0 = AnswerTells P Has longest text Cuts in subst Q e t

pub body_cut : (text : List ℕ) (cut : Cut) → (body_cut_of text ≡ Ok cut) ↔ IsBody text cut
unfolding body_cut_of
body_cut text cut = (
  λ e. ok_tells IsBodyText HasBodyParts 1048576 text (IsBody text) _ cut e (body_tells text),
  λ is. body_answer text is.1 is.2 is.0 ∙ rw (passes_none is.1 is.3, is.4) refl,
)

pub body_refusal : (text : List ℕ) (refusal : CutRefusal) → (body_cut_of text ≡ Err refusal) ↔ IsBodyRefusal text refusal
unfolding body_cut_of
body_refusal text refusal = (
  λ e. record { tells = err_tells IsBodyText HasBodyParts 1048576 text (IsBody text) _ refusal e (body_tells text); row = body_row text refusal e },
  λ h. refusal_is IsBodyText HasBodyParts NamesBody 1048576 text (λ is. is.0.0) (λ parts has. (has.0, has.1)) (λ p q a b. (one_body text p q a b).2)
      (IsBody text) _ (λ cut is. (is.1, is.0, is.2, is.3)) (body_tells text) (body_row text) refusal h,
)

ok_is : (P : List ℕ → Type 0) (Has : List ℕ → Parts → Type 0) (longest : ℕ) (text : List ℕ) (Q : Type 0) (answer : Result Cut CutRefusal) → is_ok (unit_answer answer) ≡ true → AnswerTells P Has longest text (λ _. Q) answer → Q
ok_is P Has longest text Q (Ok cut) h t = t
ok_is P Has longest text Q (Err r) h t = absurd (never h)
  where
    never : false ≡ true → ⊥
    never e = cc

unit_err : (answer : Result Cut CutRefusal) (r : CutRefusal) → unit_answer answer ≡ Err r → answer ≡ Err r
unit_err (Ok cut) r e = let h : true ≡ false = ap is_ok e in absurd (cc)
unit_err (Err s) r e = let h : s ≡ r = cc in ap Err h

pub stanza_is : (text : List ℕ) → IsTrue (is_stanza text) ↔ IsStanza text
unfolding is_stanza stanza_read_of
stanza_is text = (
  λ e. ok_is IsElementText HasElementParts 1000000 text (IsStanza text) _ e (stanza_tells text),
  λ is. ap (λ (answer : Result Cut CutRefusal). is_ok (unit_answer answer)) (stanza_answer text is.1 is.2 is.0) ∙ rw (passes_none is.1 is.3) refl,
)

pub stanza_refusal : (text : List ℕ) (refusal : CutRefusal) → (stanza_read_of text ≡ Err refusal) ↔ IsStanzaRefusal text refusal
unfolding stanza_read_of
stanza_refusal text refusal = (
  λ e. let f = unit_err _ refusal e in
      record { tells = err_tells IsElementText HasElementParts 1000000 text (λ _. IsStanza text) _ refusal f (stanza_tells text); row = stanza_row text refusal f },
  λ h. ap unit_answer (refusal_is IsElementText HasElementParts Anything 1000000 text (λ is. is.0.0) (λ parts has. (has.0, has.1)) (λ p q a b. one_element text p q a b)
      (λ _. IsStanza text) _ (λ cut is. (is.1, is.0, is.2, is.3)) (stanza_tells text) (stanza_row text) refusal h),
)
