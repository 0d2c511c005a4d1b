-- What is heard with one byte more.
use Rattle.std.proofs.Common.{◌≡◌, ℕ, Bool, true, false, List, ◌∷◌, refl, sym, subst, arith}
use Rattle.std.specs.Prelude.{◌&&◌, ◌||◌, ◌==◌}
use Rattle.std.proofs.lemmas.Bool.Decides.{nat_tests}
use Rattle.stop_net.specs.declared.heard.Heard.{Heard}
use Rattle.stop_net.specs.Heard.{ends_line, has_head, asked_by}

-- the same by the tests of the byte and what stands behind it
abbrev asked : Bool → Bool → Bool → Bool → Bool → Bool → Bool
asked is_asked is_empty is_lf is_cr ends has = is_asked || ((is_empty && (is_lf || (is_cr && ends))) || ((is_lf && ends) || has))

of_lf : (is_empty is_cr ends has : Bool) → (is_empty || ((true && ends) || has)) ≡ asked false is_empty true is_cr ends has
of_lf true is_cr ends has = refl
of_lf false is_cr ends has = refl

of_other : (is_asked is_empty ends has : Bool) → (is_asked || ((false && ends) || has)) ≡ asked is_asked is_empty false false ends has
of_other is_asked true ends has = refl
of_other is_asked false ends has = refl

is_equal : (byte n : ℕ) → byte ≡ n → (byte == n) ≡ true
is_equal byte n e = grind (arith, nat_tests)

is_other : (byte n : ℕ) → (byte ≡ n → ⊥) → (byte == n) ≡ false
is_other byte n e = grind (arith, nat_tests)

pub after_lf : (s : Heard) (byte : ℕ) → s.is_asked ≡ false → byte ≡ 10 → (more : List ℕ) →
    (s.is_empty || ((true && ends_line more) || has_head more)) ≡ asked_by s (byte ∷ more)
unfolding ends_line has_head
after_lf s byte a t more =
    subst (λ is_asked. (s.is_empty || ((true && ends_line more) || has_head more)) ≡ asked is_asked s.is_empty (byte == 10) (byte == 13) (ends_line more) (has_head more)) (sym a)
    (subst (λ is_lf. (s.is_empty || ((true && ends_line more) || has_head more)) ≡ asked false s.is_empty is_lf (byte == 13) (ends_line more) (has_head more)) (sym (is_equal byte 10 t))
    (of_lf s.is_empty (byte == 13) (ends_line more) (has_head more)))

pub after_cr : (s : Heard) (byte : ℕ) → (byte ≡ 10 → ⊥) → byte ≡ 13 → (more : List ℕ) → asked_by s more ≡ asked_by s (byte ∷ more)
unfolding ends_line has_head
after_cr s byte f t more =
    subst (λ is_lf. asked_by s more ≡ asked s.is_asked s.is_empty is_lf (byte == 13) (ends_line more) (has_head more)) (sym (is_other byte 10 f))
    (subst (λ is_cr. asked_by s more ≡ asked s.is_asked s.is_empty false is_cr (ends_line more) (has_head more)) (sym (is_equal byte 13 t)) refl)

pub after_other : (s : Heard) (byte : ℕ) → (byte ≡ 10 → ⊥) → (byte ≡ 13 → ⊥) → (more : List ℕ) →
    (s.is_asked || ((false && ends_line more) || has_head more)) ≡ asked_by s (byte ∷ more)
unfolding ends_line has_head
after_other s byte f g more =
    subst (λ is_lf. (s.is_asked || ((false && ends_line more) || has_head more)) ≡ asked s.is_asked s.is_empty is_lf (byte == 13) (ends_line more) (has_head more)) (sym (is_other byte 10 f))
    (subst (λ is_cr. (s.is_asked || ((false && ends_line more) || has_head more)) ≡ asked s.is_asked s.is_empty false is_cr (ends_line more) (has_head more)) (sym (is_other byte 13 g))
    (of_other s.is_asked s.is_empty (ends_line more) (has_head more)))
