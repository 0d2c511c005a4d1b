-- How a name is put together.
use Rattle.std.proofs.Common.{◌≡◌, ℕ, List, [], ◌∷◌, ◌++◌, Bool, true, false, length, length-append, refl, ◌∙◌, arith}
use Rattle.std.proofs.lemmas.List.Folds.{list_all-append}
use Rattle.std.specs.List.{list_all}
use Rattle.std.specs.Char.{is_ascii_digit}
use Rattle.server_ports.specs.Names.{IsNamePart, is_name_byte, last_is_digit}

-- one more byte
pub allowed_more : (bytes : List ℕ) (byte : ℕ) → list_all is_name_byte bytes ≡ true → is_name_byte byte ≡ true → list_all is_name_byte (bytes ++ byte ∷ []) ≡ true
allowed_more bytes byte before here = list_all-append is_name_byte bytes (byte ∷ []) ∙ rw (before, here) refl

last_is : (before : Bool) (bytes : List ℕ) (last : ℕ) → last_is_digit before (bytes ++ last ∷ []) ≡ is_ascii_digit last
last_is before [] last = refl
last_is before (byte ∷ bytes) last = last_is (is_ascii_digit byte) bytes last

-- sixteen bytes and a dash
pub named : (bytes : List ℕ) → length bytes ≡ 16 → list_all is_name_byte bytes ≡ true → IsNamePart (bytes ++ 45 ∷ [])
named bytes long allowed = record {
  some = omega (arith, length-append bytes (45 ∷ []));
  few = omega (arith, length-append bytes (45 ∷ []));
  allowed = allowed_more bytes 45 allowed refl;
  unnumbered = last_is false bytes 45;
}
