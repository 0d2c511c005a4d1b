-- Bytes that end inside a target: the test says just what the grammar says.
use Rattle.std.proofs.Common.{◌≡◌, ℕ, ◌<◌, ◌==◌, ◌&&◌, List, [], ◌∷◌, ◌++◌, Bool, true, false, length, refl, sym, ◌∙◌, ap, ap₂, subst, arith, add-one, append_assoc, if◌then◌else◌, true≢false}
use Rattle.std.proofs.lemmas.Bool.{eqb-true}
use Rattle.std.proofs.lemmas.List.Elements.{All-nil, All-cons, All-head, All-tail}
use Rattle.std.proofs.lemmas.List.Sums.{AllPass-from_list_all, list_all-from_AllPass}
use Rattle.std.specs.List.{list_all}
use Rattle.httparse.specs.Grammar.{LineEnd, crlf, lf, print_blank, is_token_byte, is_uri_byte, IsToken, AllPass, EndsInTarget}
use Rattle.bosh_http.specs.Target.{after_blank, after_token, begins_token, is_begun_target, ends_in_target}

both : (a b : Bool) → (a && b) ≡ true → (a ≡ true) × (b ≡ true)
both true true is = (refl, refl)
both true false is = absurd (true≢false (sym is))
both false b is = absurd (true≢false (sym is))

-- empty lines, and then the bytes after them
abbrev HasBlank : List ℕ → List ℕ → Type 0
HasBlank bytes rest = (blank : List LineEnd) × (bytes ≡ print_blank blank ++ rest)

no_blank : (bytes : List ℕ) → HasBlank bytes bytes
no_blank bytes = ([], refl)

feed_before : (bytes rest : List ℕ) → HasBlank bytes rest → HasBlank (10 ∷ bytes) rest
feed_before bytes rest (blank, is) = (lf ∷ blank, ap (λ b. 10 ∷ b) is)

return_before : (bytes rest : List ℕ) → HasBlank bytes rest → HasBlank (13 ∷ 10 ∷ bytes) rest
return_before bytes rest (blank, is) = (crlf ∷ blank, ap (λ b. 13 ∷ 10 ∷ b) is)

one_byte : (a : ℕ) (t : Bool) → (a == 10) ≡ t → HasBlank (a ∷ []) (if t then [] else a ∷ [])
one_byte a true is = subst (λ n. HasBlank (n ∷ []) []) (sym (eqb-true a 10 is)) (feed_before [] [] (no_blank []))
one_byte a false is = no_blank (a ∷ [])

two_bytes : (a b : ℕ) (rest : List ℕ) (t s : Bool) → (a == 10) ≡ t → (a == 13 && b == 10) ≡ s → HasBlank (b ∷ rest) (after_blank (b ∷ rest)) → HasBlank rest (after_blank rest)
    → HasBlank (a ∷ b ∷ rest) (if t then after_blank (b ∷ rest) else (if s then after_blank rest else a ∷ b ∷ rest))
two_bytes a b rest true s is is' one two = subst (λ n. HasBlank (n ∷ b ∷ rest) (after_blank (b ∷ rest))) (sym (eqb-true a 10 is)) (feed_before (b ∷ rest) (after_blank (b ∷ rest)) one)
two_bytes a b rest false true is is' one two =
    let first : a ≡ 13 = eqb-true a 13 ((both (a == 13) (b == 10) is').0) in
    let second : b ≡ 10 = eqb-true b 10 ((both (a == 13) (b == 10) is').1) in
    subst (λ bytes. HasBlank bytes (after_blank rest)) (sym (ap₂ (λ n m. n ∷ m ∷ rest) first second)) (return_before rest (after_blank rest) two)
two_bytes a b rest false false is is' one two = no_blank (a ∷ b ∷ rest)

-- what stands before the rest is empty lines
blank_before : (bytes : List ℕ) → HasBlank bytes (after_blank bytes)
blank_before [] = no_blank []
blank_before (a ∷ []) = one_byte a (a == 10) refl
blank_before (a ∷ b ∷ rest) = two_bytes a b rest (a == 10) (a == 13 && b == 10) refl refl (blank_before (b ∷ rest)) (blank_before rest)

feed_first : (bytes : List ℕ) → after_blank (10 ∷ bytes) ≡ after_blank bytes
feed_first [] = refl
feed_first (b ∷ rest) = refl

-- empty lines are passed over
over_blank : (blank : List LineEnd) (bytes : List ℕ) → after_blank (print_blank blank ++ bytes) ≡ after_blank bytes
over_blank [] bytes = refl
over_blank (crlf ∷ blank) bytes = over_blank blank bytes
over_blank (lf ∷ blank) bytes = feed_first (print_blank blank ++ bytes) ∙ over_blank blank bytes

is_other : (a n : ℕ) (t : Bool) → (a == n) ≡ t → is_token_byte a ≡ true → is_token_byte n ≡ false → (a == n) ≡ false
is_other a n true same token other = absurd (true≢false (sym token ∙ ap is_token_byte (eqb-true a n same) ∙ other))
is_other a n false same token other = same

no_feed : is_token_byte 10 ≡ false
unfolding is_token_byte
no_feed = refl

no_return : is_token_byte 13 ≡ false
unfolding is_token_byte
no_return = refl

no_space : is_token_byte 32 ≡ false
unfolding is_token_byte
no_space = refl

-- a token is no empty line
at_token : (a : ℕ) (rest : List ℕ) → is_token_byte a ≡ true → after_blank (a ∷ rest) ≡ a ∷ rest
at_token a [] token = ap (λ t. if t then [] else a ∷ []) (is_other a 10 (a == 10) refl token no_feed)
at_token a (b ∷ rest) token =
    ap₂ (λ t s. if t then after_blank (b ∷ rest) else (if s && b == 10 then after_blank rest else a ∷ b ∷ rest))
    (is_other a 10 (a == 10) refl token no_feed) (is_other a 13 (a == 13) refl token no_return)

-- a token, and then the bytes after it
abbrev HasToken : List ℕ → List ℕ → Type 0
HasToken bytes rest = (token : List ℕ) × AllPass is_token_byte token × (bytes ≡ token ++ rest)

byte_before : (a : ℕ) (bytes rest : List ℕ) (t : Bool) → is_token_byte a ≡ t → HasToken bytes rest → HasToken (a ∷ bytes) (if t then rest else a ∷ bytes)
byte_before a bytes rest true is (token, pass, same) = (a ∷ token, All-cons (λ b. is_token_byte b ≡ true) a token is pass, ap (λ b. a ∷ b) same)
byte_before a bytes rest false is has = ([], All-nil (λ b. is_token_byte b ≡ true), refl)

token_before : (bytes : List ℕ) → HasToken bytes (after_token bytes)
token_before [] = ([], All-nil (λ b. is_token_byte b ≡ true), refl)
token_before (a ∷ bytes) = byte_before a bytes (after_token bytes) (is_token_byte a) refl (token_before bytes)

-- a token is passed over up to the space
over_token : (token rest : List ℕ) → AllPass is_token_byte token → after_token (token ++ 32 ∷ rest) ≡ 32 ∷ rest
over_token [] rest pass = ap (λ t. if t then after_token rest else 32 ∷ rest) no_space
over_token (a ∷ token) rest pass =
    ap (λ t. if t then after_token (token ++ 32 ∷ rest) else a ∷ token ++ 32 ∷ rest) (All-head (λ b. is_token_byte b ≡ true) a token pass)
    ∙ over_token token rest (All-tail (λ b. is_token_byte b ≡ true) a token pass)

-- a begun target is a space and bytes of a target
target_after : (bytes : List ℕ) → is_begun_target bytes ≡ true → (target : List ℕ) × AllPass is_uri_byte target × (bytes ≡ 32 ∷ target)
target_after [] is = absurd (true≢false (sym is))
target_after (a ∷ target) is = (
  target,
  AllPass-from_list_all is_uri_byte target ((both (a == 32) (list_all is_uri_byte target) is).1),
  ap (λ n. n ∷ target) (eqb-true a 32 ((both (a == 32) (list_all is_uri_byte target) is).0)),
)

-- a line that begins with a token has a method
some_token : (bytes token target : List ℕ) → begins_token bytes ≡ true → bytes ≡ token ++ 32 ∷ target → 0 < length token
some_token bytes [] target begins is = absurd (true≢false (sym begins ∙ ap begins_token is ∙ no_space))
some_token bytes (a ∷ token) target begins is = omega (arith, add-one (length token))

-- where the test says so, the bytes end inside a target
pub in_target : (bytes : List ℕ) → ends_in_target bytes ≡ true → EndsInTarget bytes
in_target bytes is =
    let line = after_blank bytes in
    let begins : begins_token line ≡ true = (both (begins_token line) (is_begun_target (after_token line)) is).0 in
    let begun : is_begun_target (after_token line) ≡ true = (both (begins_token line) (is_begun_target (after_token line)) is).1 in
    let blank = blank_before bytes in
    let token = token_before line in
    let target = target_after (after_token line) begun in
    let parts : line ≡ token.0 ++ 32 ∷ target.0 = token.2 ∙ ap (λ rest. token.0 ++ rest) target.2 in (
      blank.0,
      token.0,
      target.0,
      (some_token line token.0 target.0 begins parts, token.1),
      target.1,
      blank.1 ∙ ap (λ rest. print_blank blank.0 ++ rest) parts ∙ sym (append_assoc (print_blank blank.0) token.0 (32 ∷ target.0)),
    )

line_is : (method target : List ℕ) → IsToken method → AllPass is_uri_byte target → (after_blank (method ++ 32 ∷ target) ≡ method ++ 32 ∷ target) × (ends_in_target (method ++ 32 ∷ target) ≡ true)
line_is [] target token pass = absurd (omega (arith, token.0))
line_is (a ∷ method) target token pass =
    let first : is_token_byte a ≡ true = All-head (λ b. is_token_byte b ≡ true) a method token.1 in
    let at : after_blank (a ∷ method ++ 32 ∷ target) ≡ a ∷ method ++ 32 ∷ target = at_token a (method ++ 32 ∷ target) first in (
      at,
      ap (λ line. begins_token line && is_begun_target (after_token line)) at
          ∙ ap₂ (λ b rest. b && is_begun_target rest) first (over_token (a ∷ method) target token.1)
          ∙ list_all-from_AllPass is_uri_byte target pass,
    )

-- where the bytes end inside a target, the test says so
pub target_told : (bytes : List ℕ) → EndsInTarget bytes → ends_in_target bytes ≡ true
target_told bytes (blank, method, target, token, pass, is) =
    let line = line_is method target token pass in
    let after : after_blank bytes ≡ after_blank (method ++ 32 ∷ target) = ap after_blank (is ∙ append_assoc (print_blank blank) method (32 ∷ target)) ∙ over_blank blank (method ++ 32 ∷ target) in
    ap (λ l. begins_token l && is_begun_target (after_token l)) after ∙ line.1

-- where the test says no, they do not
pub not_in_target : (bytes : List ℕ) → ends_in_target bytes ≡ false → ¬ (EndsInTarget bytes)
not_in_target bytes is ends = true≢false (sym (target_told bytes ends) ∙ is)
