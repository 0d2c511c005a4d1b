-- How the name of a server stands before that of a session.
use Rattle.std.proofs.Common.{◌≡◌, ◌≤◌, ◌-◌, ◌&&◌, ◌||◌, ◌==◌, nat_le, ℕ, List, [], ◌∷◌, ◌++◌, Bool, true, false, Result, Ok, Err, IfOk, drop, length, length-append, refl, subst, sym, ◌∙◌, arith, suc, zero}
use Rattle.std.proofs.lemmas.List.{length-drop}
use Rattle.std.proofs.lemmas.Bool.{leb-true}
use Rattle.std.proofs.lemmas.List.Folds.{list_all-append}
use Rattle.std.specs.List.{list_all}
use Rattle.std.specs.Char.{is_ascii_alphabetic, is_ascii_digit}
use Rattle.std.specs.Int.{is_in_range}
use Rattle.server_ports.specs.Names.{IsNamePart, is_name_byte, last_is_digit}
use Rattle.server_name.specs.Names.{begins_as_name, is_server_name, last_of}

last_from : (before : Bool) (text : List ℕ) → last_is_digit before text ≡ false → last_is_digit false text ≡ false
last_from before [] is = refl
last_from before (byte ∷ text) is = is

last_rest : (n : ℕ) (text : List ℕ) → last_is_digit false text ≡ false → last_is_digit false (drop n text) ≡ false
last_rest zero text is = is
last_rest (suc n) [] is = refl
last_rest (suc n) (byte ∷ text) is = last_rest n text (last_from (is_ascii_digit byte) text is)

last_behind : (before : Bool) (name rest : List ℕ) → last_is_digit before (name ++ 45 ∷ rest) ≡ last_is_digit false rest
last_behind before [] rest = refl
last_behind before (byte ∷ name) rest = last_behind (is_ascii_digit byte) name rest

false_true : false ≡ true → ⊥
false_true eq = cc eq

and_left : (a b : Bool) → a && b ≡ true → a ≡ true
and_left true b is = refl
and_left false b is = is

and_right : (a b : Bool) → a && b ≡ true → b ≡ true
and_right true b is = is
and_right false b is = absurd (false_true is)

allowed_rest : (n : ℕ) (text : List ℕ) → list_all is_name_byte text ≡ true → list_all is_name_byte (drop n text) ≡ true
allowed_rest zero text is = is
allowed_rest (suc n) [] is = refl
allowed_rest (suc n) (byte ∷ text) is = allowed_rest n text (and_right (is_name_byte byte) (list_all is_name_byte text) is)

letter_is : (d u l e : Bool) → (u || l) ≡ true → (((d || u) || l) || e) ≡ true
letter_is true u l e is = refl
letter_is false true l e is = refl
letter_is false false true e is = refl
letter_is false false false e is = absurd (false_true is)

letter : (byte : ℕ) → is_ascii_alphabetic byte ≡ true → is_name_byte byte ≡ true
letter byte is = letter_is (is_in_range 48 57 byte) (is_in_range 65 90 byte) (is_in_range 97 122 byte) (byte == 45) is

both : (a b : Bool) → a ≡ true → b ≡ true → (a && b) ≡ true
both true b first second = second
both false b first second = first

begins_allowed : (name : List ℕ) → begins_as_name name ≡ true → list_all is_name_byte name ≡ true
begins_allowed [] is = refl
begins_allowed (first ∷ others) is =
    both (is_name_byte first) (list_all is_name_byte others)
    (letter first (and_left (is_ascii_alphabetic first) (list_all is_name_byte others) is))
    (and_right (is_ascii_alphabetic first) (list_all is_name_byte others) is)

begins_some : (name : List ℕ) → begins_as_name name ≡ true → 1 ≤ length name
begins_some [] is = absurd (false_true is)
begins_some (first ∷ others) is = omega (arith)

-- what is drawn behind a server's name and `-` is the first part of a session's name
pub part_behind : (name drawn made : List ℕ) → is_server_name name ≡ true → IsNamePart drawn → made ≡ name ++ 45 ∷ last_of (31 - length name) drawn → IsNamePart made
part_behind name drawn made is part is_made =
    let few : length name ≤ 14 = leb-true (length name) 14 (and_left (nat_le (length name) 14) (begins_as_name name) is) in
    let begins : begins_as_name name ≡ true = and_right (nat_le (length name) 14) (begins_as_name name) is in
    let start : ℕ = length drawn - (31 - length name) in
    let rest : List ℕ = drop start drawn in
    let short : length rest ≡ length drawn - start = length-drop start drawn in
    let is_part : IsNamePart (name ++ 45 ∷ rest) = record {
      some = omega (arith, length-append name (45 ∷ rest));
      few = omega (arith, length-append name (45 ∷ rest), short, few);
      allowed = list_all-append is_name_byte name (45 ∷ rest) ∙ both (list_all is_name_byte name) (list_all is_name_byte (45 ∷ rest)) (begins_allowed name begins) (allowed_rest start drawn part.allowed);
      unnumbered = last_behind false name rest ∙ last_rest start drawn part.unnumbered;
    } in
    subst IsNamePart (sym is_made) is_part

pub part_where : {E : Type 0} (result : Result (List ℕ) E) (name drawn : List ℕ) → is_server_name name ≡ true → IsNamePart drawn
    → IfOk result (λ made. made ≡ name ++ 45 ∷ last_of (31 - length name) drawn) → IfOk result IsNamePart
part_where (Ok made) name drawn is part is_made = part_behind name drawn made is part is_made
part_where (Err error) name drawn is part is_made = tt
