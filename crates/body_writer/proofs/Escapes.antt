-- What is written with references spells the text, and is a text itself.
use Rattle.std.proofs.Common.{◌≡◌, ◌∙◌, ℕ, ◌<◌, ◌≤◌, Bool, true, false, List, [], ◌∷◌, ◌++◌, refl, sym, subst, arith}
use Rattle.std.specs.Prelude.{Option, None, Some, nat_le, ◌==◌}
use Rattle.std.specs.List.{list_all}
use Rattle.std.proofs.lemmas.Bool.{eqb-true}
use Rattle.std.proofs.lemmas.Bool.Decides.{nat_tests}
use Rattle.body_cutter.specs.declared.place.Wide.{Wide}
use Rattle.body_cutter.specs.declared.place.Wide.TheVariants.{Whole, One, Two, Three, AfterE0, AfterEd, AfterEf, AfterEfBf, AfterF0, AfterF4}
use Rattle.body_cutter.specs.Chars.{is_char_byte, wide_begin, wide_next, ends_whole}
use Rattle.body_cutter.specs.Grammar.{is_value_byte}
use Rattle.body_cutter.specs.BodyText.{IsText}
use Rattle.body_cutter.specs.Built.{Spells}
use Rattle.body_cutter.proofs.Spelling.{spells_nothing, spells_itself, spells_ampersand, spells_less, spells_apostrophe, spells_tab, spells_lf, spells_cr}
use Rattle.body_writer.specs.Attribute.{escaped, escaped_byte}
use Rattle.body_cutter.proofs.Utf8Allowed.{whole_is_utf8}
use Rattle.body_cutter.proofs.Leads.{both}
use Rattle.body_writer.proofs.Texts.{goes_on}

-- the byte, by what it is
module _ (P : ℕ → Type 0) (amp : P 38) (less : P 60) (apostrophe : P 39) (tab : P 9) (lf : P 10) (cr : P 13) (b : ℕ)
    (itself : (b == 38) ≡ false → (b == 60) ≡ false → (b == 39) ≡ false → (b == 9) ≡ false → (b == 10) ≡ false → (b == 13) ≡ false → P b) where
  at : (c : ℕ) → (b == c) ≡ true → P c → P b
  at c e p = subst P (sym (eqb-true b c e)) p

  each : (a l q t n r : Bool) → (b == 38) ≡ a → (b == 60) ≡ l → (b == 39) ≡ q → (b == 9) ≡ t → (b == 10) ≡ n → (b == 13) ≡ r → P b
  each true l q t n r ea el eq et en er = at 38 ea amp
  each false true q t n r ea el eq et en er = at 60 el less
  each false false true t n r ea el eq et en er = at 39 eq apostrophe
  each false false false true n r ea el eq et en er = at 9 et tab
  each false false false false true r ea el eq et en er = at 10 en lf
  each false false false false false true ea el eq et en er = at 13 er cr
  each false false false false false false ea el eq et en er = itself ea el eq et en er

  by_byte : P b
  by_byte = each (b == 38) (b == 60) (b == 39) (b == 9) (b == 10) (b == 13) refl refl refl refl refl refl

escaped_itself : (b : ℕ) → (b == 38) ≡ false → (b == 60) ≡ false → (b == 39) ≡ false → (b == 9) ≡ false → (b == 10) ≡ false → (b == 13) ≡ false → b ∷ [] ≡ escaped_byte b
unfolding escaped_byte
escaped_itself b a l q t n r = rw (a, l, q, t, n, r) refl

value_byte : (b : ℕ) → is_char_byte b ≡ true → (b == 38) ≡ false → (b == 60) ≡ false → (b == 39) ≡ false → is_value_byte 39 b ≡ true
value_byte b c a l q = rw (c, a, l, q) refl

spells_byte : (b : ℕ) (spelling value : List ℕ) → is_char_byte b ≡ true → Spells spelling value → Spells (escaped_byte b ++ spelling) (b ∷ value)
unfolding escaped_byte
spells_byte b spelling value c k =
    by_byte (λ x. Spells (escaped_byte x ++ spelling) (x ∷ value))
    (spells_ampersand spelling value k) (spells_less spelling value k) (spells_apostrophe spelling value k)
    (spells_tab spelling value k) (spells_lf spelling value k) (spells_cr spelling value k) b
    (λ a l q t n r. subst (λ (bytes : List ℕ). Spells (bytes ++ spelling) (b ∷ value)) (escaped_itself b a l q t n r)
    (spells_itself spelling value b (value_byte b c a l q) t n r k))

-- it spells the text
pub escaped_spells : (text : List ℕ) → list_all is_char_byte text ≡ true → Spells (escaped text) text
escaped_spells [] are = spells_nothing
escaped_spells (b ∷ text) are =
    let k = both (is_char_byte b) (list_all is_char_byte text) are in
    spells_byte b (escaped text) text k.0 (escaped_spells text k.1)

-- no character goes on with an ASCII byte
module _ (c : ℕ) (small : c < 128) where
  low : (n : ℕ) → 128 ≤ n → nat_le n c ≡ false
  low n h = grind (arith, nat_tests, small, h)

  other : (n : ℕ) → 128 ≤ n → (c == n) ≡ false
  other n h = grind (arith, nat_tests, small, h)

  never : (text : List ℕ) (o : Option Wide) → o ≡ None → (elim o [ None ↦ false | Some next ↦ ends_whole next text ]) ≡ true → ⊥
  never text o e h = cc

  begins : (text : List ℕ) (wide : Wide) → ends_whole wide (c ∷ text) ≡ true → wide ≡ Whole
  unfolding ends_whole wide_next
  begins text Whole e = refl
  begins text One e = absurd (never text _ (rw (low 0x80 (omega arith)) refl) e)
  begins text Two e = absurd (never text _ (rw (low 0x80 (omega arith)) refl) e)
  begins text Three e = absurd (never text _ (rw (low 0x80 (omega arith)) refl) e)
  begins text AfterE0 e = absurd (never text _ (rw (low 0xa0 (omega arith)) refl) e)
  begins text AfterEd e = absurd (never text _ (rw (low 0x80 (omega arith)) refl) e)
  begins text AfterEf e = absurd (never text _ (rw (other 0xbf (omega arith), low 0x80 (omega arith)) refl) e)
  begins text AfterEfBf e = absurd (never text _ (rw (low 0x80 (omega arith)) refl) e)
  begins text AfterF0 e = absurd (never text _ (rw (low 0x90 (omega arith)) refl) e)
  begins text AfterF4 e = absurd (never text _ (rw (low 0x80 (omega arith)) refl) e)

  -- in place of this byte stand ASCII bytes
  replaced : (text rest : List ℕ) (wide : Wide) → (ends_whole Whole (c ∷ text) ≡ ends_whole Whole text) → (ends_whole Whole (escaped_byte c ++ rest) ≡ ends_whole Whole rest) →
      (ends_whole Whole text ≡ true → ends_whole Whole rest ≡ true) → ends_whole wide (c ∷ text) ≡ true → ends_whole wide (escaped_byte c ++ rest) ≡ true
  replaced text rest wide one more k e =
      let w = begins text wide e in
      let start : ends_whole Whole (c ∷ text) ≡ true = subst (λ (x : Wide). ends_whole x (c ∷ text) ≡ true) w e in
      subst (λ (x : Wide). ends_whole x (escaped_byte c ++ rest) ≡ true) (sym w) (more ∙ k (sym one ∙ start))

ends_byte : (b : ℕ) (text rest : List ℕ) (wide : Wide) → ((next : Wide) → ends_whole next text ≡ true → ends_whole next rest ≡ true) → ends_whole wide (b ∷ text) ≡ true → ends_whole wide (escaped_byte b ++ rest) ≡ true
unfolding ends_whole wide_next wide_begin escaped_byte
ends_byte b text rest wide k =
    by_byte (λ x. ends_whole wide (x ∷ text) ≡ true → ends_whole wide (escaped_byte x ++ rest) ≡ true)
    (λ e. replaced 38 (omega arith) text rest wide refl refl (k Whole) e)
    (λ e. replaced 60 (omega arith) text rest wide refl refl (k Whole) e)
    (λ e. replaced 39 (omega arith) text rest wide refl refl (k Whole) e)
    (λ e. replaced 9 (omega arith) text rest wide refl refl (k Whole) e)
    (λ e. replaced 10 (omega arith) text rest wide refl refl (k Whole) e)
    (λ e. replaced 13 (omega arith) text rest wide refl refl (k Whole) e)
    b
    (λ a l q t n r e. subst (λ (bytes : List ℕ). ends_whole wide (bytes ++ rest) ≡ true) (escaped_itself b a l q t n r)
    (goes_on (wide_next wide b) text rest e k))

escaped_ends : (text : List ℕ) (wide : Wide) → ends_whole wide text ≡ true → ends_whole wide (escaped text) ≡ true
escaped_ends [] wide e = e
escaped_ends (b ∷ text) wide e = ends_byte b text (escaped text) wide (λ next. escaped_ends text next) e

-- and is a text
pub escaped_text : (text : List ℕ) → ends_whole Whole text ≡ true → IsText (escaped text)
escaped_text text is =
    let ends = escaped_ends text Whole is in
    (whole_is_utf8 (escaped text) ends, ends)
