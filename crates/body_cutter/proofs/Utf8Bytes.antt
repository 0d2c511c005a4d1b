-- What the table of bytes takes is the UTF-8 of characters.
use Rattle.std.proofs.Common.{◌≡◌, ◌∙◌, ◌<◌, ◌≤◌, ℕ, Bool, true, false, ◌&&◌, List, [], ◌∷◌, refl, sym, ap, subst, arith, inl, inr}
use Rattle.std.specs.Prelude.{◌⊎◌, ◌==◌, nat_lt, nat_le, Option, None, Some, if◌then◌else◌}
use Rattle.std.proofs.lemmas.Bool.{ltb-true, ltb-false, leb-true, eqb-true, eqb-false, cases_lt}
use Rattle.body_cutter.specs.declared.place.Wide.{Wide}
use Rattle.body_cutter.specs.declared.place.Wide.TheVariants.{Whole, One, Two, Three, AfterE0, AfterEd, AfterEf, AfterEfBf, AfterF0, AfterF4}
use Rattle.body_cutter.specs.Chars.{wide_begin, wide_next, after_tail, ends_whole}
use Rattle.body_cutter.specs.Utf8.{is_tabled}
use Rattle.body_cutter.proofs.Utf8Codes.{Tabled, with_character, encode_one, tabled_ascii, tabled_low, tabled_middle, two_bytes, three_bytes, four_bytes, code_three, code_four}

-- a byte of a range, and what follows it
pub record Tail (low high : ℕ) (P : List ℕ → Type 0) (text : List ℕ) : Type 0 where
  pub b : ℕ
  pub rest : List ℕ
  pub is : text ≡ b ∷ rest
  pub least : low ≤ b
  pub most : b < high
  pub after : P rest

-- the rest of a character and of a text
abbrev One_ : List ℕ → Type 0
One_ text = Tail 0x80 0xc0 Tabled text

abbrev Two_ : List ℕ → Type 0
Two_ text = Tail 0x80 0xc0 One_ text

abbrev From : Wide → List ℕ → Type 0
From Whole text = Tabled text
From One text = One_ text
From Two text = Two_ text
From Three text = Tail 0x80 0xc0 Two_ text
From AfterE0 text = Tail 0xa0 0xc0 One_ text
From AfterEd text = Tail 0x80 0xa0 One_ text
From AfterEf text = Tail 0xbf 0xc0 (Tail 0x80 0xbe Tabled) text ⊎ Tail 0x80 0xbf One_ text
From AfterEfBf text = Tail 0x80 0xbe Tabled text
From AfterF0 text = Tail 0x90 0xc0 Two_ text
From AfterF4 text = Tail 0x80 0x90 Two_ text

pick : {P : Type 0} (t : Bool) (x y : Option Wide) (next : Wide) → (if t then x else y) ≡ Some next → (t ≡ true → x ≡ Some next → P) → (t ≡ false → y ≡ Some next → P) → P
pick true x y next e f g = f refl e
pick false x y next e f g = g refl e

none_some : {P : Type 0} {next : Wide} → None ≡ Some next → P
none_some h = absurd (cc)

some_same : {x y : Wide} → Some x ≡ Some y → x ≡ y
some_same h = cc

both_tests : (s t : Bool) → (s && t) ≡ true → (s ≡ true) × (t ≡ true)
both_tests true t h = (refl, h)
both_tests false t h = absurd (cc)

-- a byte that passes the test of a range
tail_of : (low high b : ℕ) (rest next : Wide) (text : List ℕ) → after_tail (nat_le low b && nat_lt b high) rest ≡ Some next → From next text → Tail low high (From rest) (b ∷ text)
tail_of low high b rest next text e k =
    pick (nat_le low b && nat_lt b high) (Some rest) None next e
    (λ t same. let p = both_tests (nat_le low b) (nat_lt b high) t in
    record { b = b; rest = text; is = refl; least = leb-true low b p.0; most = ltb-true b high p.1; after = subst (λ (w : Wide). From w text) (sym (some_same same)) k })
    (λ t never. none_some never)

-- a whole character that begins with b
after_one : (b : ℕ) (text : List ℕ) → 0xc2 ≤ b → b < 0xe0 → One_ text → Tabled (b ∷ text)
after_one b text low high t = subst (λ (xs : List ℕ). Tabled (b ∷ xs)) (sym t.is) (two_bytes b t.b low high t.least t.most t.after)

after_two : (b low high : ℕ) (text : List ℕ) → 0xe0 ≤ b → b < 0xf0 → 0x80 ≤ low → high ≤ 0xc0 → ((c d : ℕ) → low ≤ c → c < high → 0x80 ≤ d → d < 0xc0 → (0x800 ≤ code_three b c d) × (is_tabled (code_three b c d) ≡ true)) → Tail low high One_ text → Tabled (b ∷ text)
after_two b low high text l h p q good t =
    let u = t.after in
    let g = good t.b u.b t.least t.most u.least u.most in
    subst (λ (xs : List ℕ). Tabled (b ∷ xs)) (sym (t.is ∙ ap (λ (xs : List ℕ). t.b ∷ xs) u.is))
    (three_bytes b t.b u.b l h (omega (arith, t.least, p)) (omega (arith, t.most, q)) u.least u.most g.0 g.1 u.after)

after_three : (b low high : ℕ) (text : List ℕ) → 0xf0 ≤ b → b < 0xf5 → 0x80 ≤ low → high ≤ 0xc0 → ((c d e : ℕ) → low ≤ c → c < high → 0x80 ≤ d → d < 0xc0 → 0x80 ≤ e → e < 0xc0 → (0x10000 ≤ code_four b c d e) × (code_four b c d e ≤ 0x10ffff)) → Tail low high Two_ text → Tabled (b ∷ text)
after_three b low high text l h p q good t =
    let u = t.after in
    let v = u.after in
    let g = good t.b u.b v.b t.least t.most u.least u.most v.least v.most in
    subst (λ (xs : List ℕ). Tabled (b ∷ xs)) (sym (t.is ∙ ap (λ (xs : List ℕ). t.b ∷ xs) (u.is ∙ ap (λ (xs : List ℕ). u.b ∷ xs) v.is)))
    (four_bytes b t.b u.b v.b l h (omega (arith, t.least, p)) (omega (arith, t.most, q)) u.least u.most v.least v.most g.0 g.1 v.after)

after_ef : (text : List ℕ) → Tail 0xbf 0xc0 (Tail 0x80 0xbe Tabled) text ⊎ Tail 0x80 0xbf One_ text → Tabled (0xef ∷ text)
after_ef text (inr t) =
    after_two 0xef 0x80 0xbf text (omega arith) (omega arith) (omega arith) (omega arith)
    (λ c d l h m k. (omega arith, tabled_middle (code_three 0xef c d) (omega arith) (omega arith))) t
after_ef text (inl t) =
    let u = t.after in
    subst (λ (xs : List ℕ). Tabled (0xef ∷ xs)) (sym (t.is ∙ ap (λ (xs : List ℕ). t.b ∷ xs) u.is))
    (three_bytes 0xef t.b u.b (omega arith) (omega arith) (omega (arith, t.least)) t.most u.least (omega (arith, u.most))
    (omega (arith, t.least)) (tabled_middle (code_three 0xef t.b u.b) (omega (arith, t.least, u.least)) (omega (arith, t.least, t.most, u.least, u.most))) u.after)

one_byte : (b : ℕ) {text : List ℕ} → b < 128 → Tabled text → Tabled (b ∷ text)
one_byte b h s = with_character b (tabled_ascii b h) (encode_one b h) s

from_e0 : (b : ℕ) (text : List ℕ) → (b == 0xe0) ≡ true → Tail 0xa0 0xc0 One_ text → Tabled (b ∷ text)
from_e0 b text t k =
    subst (λ (x : ℕ). Tabled (x ∷ text)) (sym (eqb-true b 0xe0 t))
    (after_two 0xe0 0xa0 0xc0 text (omega arith) (omega arith) (omega arith) (omega arith)
    (λ c d l h m k. (omega arith, tabled_low (code_three 0xe0 c d) (omega arith) (omega arith))) k)

from_ed : (b : ℕ) (text : List ℕ) → (b == 0xed) ≡ true → Tail 0x80 0xa0 One_ text → Tabled (b ∷ text)
from_ed b text t k =
    subst (λ (x : ℕ). Tabled (x ∷ text)) (sym (eqb-true b 0xed t))
    (after_two 0xed 0x80 0xa0 text (omega arith) (omega arith) (omega arith) (omega arith)
    (λ c d l h m k. (omega arith, tabled_low (code_three 0xed c d) (omega arith) (omega arith))) k)

from_ef : (b : ℕ) (text : List ℕ) → (b == 0xef) ≡ true → From AfterEf text → Tabled (b ∷ text)
from_ef b text t k = subst (λ (x : ℕ). Tabled (x ∷ text)) (sym (eqb-true b 0xef t)) (after_ef text k)

-- the other first bytes of three
three_code : (b c d : ℕ) → 0xe0 ≤ b → b < 0xf0 → (b ≡ 0xe0 → ⊥) → (b ≡ 0xed → ⊥) → (b ≡ 0xef → ⊥) → 0x80 ≤ c → c < 0xc0 → 0x80 ≤ d → d < 0xc0 → (b < 0xed) ⊎ (0xed ≤ b) → is_tabled (code_three b c d) ≡ true
three_code b c d low high p q r l h m k (inl e) = tabled_low (code_three b c d) (omega arith) (omega arith)
three_code b c d low high p q r l h m k (inr e) = tabled_middle (code_three b c d) (omega arith) (omega arith)

from_three : (b : ℕ) (text : List ℕ) → 0xe0 ≤ b → b < 0xf0 → (b ≡ 0xe0 → ⊥) → (b ≡ 0xed → ⊥) → (b ≡ 0xef → ⊥) → Two_ text → Tabled (b ∷ text)
from_three b text low high p q r k =
    after_two b 0x80 0xc0 text low high (omega arith) (omega arith)
    (λ c d l h m k. (omega arith, three_code b c d low high p q r l h m k (cases_lt b 0xed))) k

from_f0 : (b : ℕ) (text : List ℕ) → (b == 0xf0) ≡ true → Tail 0x90 0xc0 Two_ text → Tabled (b ∷ text)
from_f0 b text t k =
    subst (λ (x : ℕ). Tabled (x ∷ text)) (sym (eqb-true b 0xf0 t))
    (after_three 0xf0 0x90 0xc0 text (omega arith) (omega arith) (omega arith) (omega arith)
    (λ c d e l h m k n o. (omega arith, omega arith)) k)

from_four : (b : ℕ) (text : List ℕ) → 0xf0 ≤ b → b < 0xf4 → (b ≡ 0xf0 → ⊥) → Tail 0x80 0xc0 Two_ text → Tabled (b ∷ text)
from_four b text low high p k =
    after_three b 0x80 0xc0 text low (omega arith) (omega arith) (omega arith)
    (λ c d e l h m k n o. (omega arith, omega arith)) k

from_f4 : (b : ℕ) (text : List ℕ) → (b == 0xf4) ≡ true → Tail 0x80 0x90 Two_ text → Tabled (b ∷ text)
from_f4 b text t k =
    subst (λ (x : ℕ). Tabled (x ∷ text)) (sym (eqb-true b 0xf4 t))
    (after_three 0xf4 0x80 0x90 text (omega arith) (omega arith) (omega arith) (omega arith)
    (λ c d e l h m k n o. (omega arith, omega arith)) k)

-- the first byte of a character
begins : (b : ℕ) (text : List ℕ) (next : Wide) → wide_begin b ≡ Some next → From next text → Tabled (b ∷ text)
unfolding wide_begin
begins b text next e k =
    pick (nat_lt b 0x80) _ _ next e
    (λ t f. one_byte b (ltb-true b 0x80 t) (subst (λ (w : Wide). From w text) (sym (some_same f)) k))
    (λ _ e. pick (nat_lt b 0xc2) _ _ next e (λ t f. none_some f)
    (λ c2 e. pick (nat_lt b 0xe0) _ _ next e
    (λ t f. after_one b text (ltb-false b 0xc2 c2) (ltb-true b 0xe0 t) (subst (λ (w : Wide). From w text) (sym (some_same f)) k))
    (λ e0 e. pick (b == 0xe0) _ _ next e
    (λ t f. from_e0 b text t (subst (λ (w : Wide). From w text) (sym (some_same f)) k))
    (λ not_e0 e. pick (b == 0xed) _ _ next e
    (λ t f. from_ed b text t (subst (λ (w : Wide). From w text) (sym (some_same f)) k))
    (λ not_ed e. pick (b == 0xef) _ _ next e
    (λ t f. from_ef b text t (subst (λ (w : Wide). From w text) (sym (some_same f)) k))
    (λ not_ef e. pick (nat_lt b 0xf0) _ _ next e
    (λ t f. from_three b text (ltb-false b 0xe0 e0) (ltb-true b 0xf0 t) (eqb-false b 0xe0 not_e0) (eqb-false b 0xed not_ed) (eqb-false b 0xef not_ef) (subst (λ (w : Wide). From w text) (sym (some_same f)) k))
    (λ f0 e. pick (b == 0xf0) _ _ next e
    (λ t f. from_f0 b text t (subst (λ (w : Wide). From w text) (sym (some_same f)) k))
    (λ not_f0 e. pick (nat_lt b 0xf4) _ _ next e
    (λ t f. from_four b text (ltb-false b 0xf0 f0) (ltb-true b 0xf4 t) (eqb-false b 0xf0 not_f0) (subst (λ (w : Wide). From w text) (sym (some_same f)) k))
    (λ f4 e. pick (b == 0xf4) _ _ next e
    (λ t f. from_f4 b text t (subst (λ (w : Wide). From w text) (sym (some_same f)) k))
    (λ _ f. none_some f))))))))))

from_wide : (w : Wide) (b : ℕ) (text : List ℕ) (next : Wide) → wide_next w b ≡ Some next → From next text → From w (b ∷ text)
unfolding wide_next
from_wide Whole b text next e k = begins b text next e k
from_wide One b text next e k = tail_of 0x80 0xc0 b Whole next text e k
from_wide Two b text next e k = tail_of 0x80 0xc0 b One next text e k
from_wide Three b text next e k = tail_of 0x80 0xc0 b Two next text e k
from_wide AfterE0 b text next e k = tail_of 0xa0 0xc0 b One next text e k
from_wide AfterEd b text next e k = tail_of 0x80 0xa0 b One next text e k
from_wide AfterEf b text next e k =
    pick (b == 0xbf) (Some AfterEfBf) (after_tail (nat_le 0x80 b && nat_lt b 0xbf) One) next e
    (λ t same. inl (record { b = b; rest = text; is = refl; least = omega (arith, eqb-true b 0xbf t); most = omega (arith, eqb-true b 0xbf t); after = subst (λ (w : Wide). From w text) (sym (some_same same)) k }))
    (λ t f. inr (tail_of 0x80 0xbf b One next text f k))
from_wide AfterEfBf b text next e k = tail_of 0x80 0xbe b Whole next text e k
from_wide AfterF0 b text next e k = tail_of 0x90 0xc0 b Two next text e k
from_wide AfterF4 b text next e k = tail_of 0x80 0x90 b Two next text e k

from_byte : (b : ℕ) (text : List ℕ) (w : Wide) (o : Option Wide) → wide_next w b ≡ o → ((next : Wide) → ends_whole next text ≡ true → From next text) → elim o [ None ↦ false | Some next ↦ ends_whole next text ] ≡ true → From w (b ∷ text)
from_byte b text w None e ih h = absurd (cc)
from_byte b text w (Some next) e ih h = from_wide w b text next e (ih next h)

pub from_ends : (text : List ℕ) (w : Wide) → ends_whole w text ≡ true → From w text
unfolding ends_whole
from_ends [] Whole h = record { characters = []; pass = refl; spell = refl }
from_ends [] One h = absurd (cc)
from_ends [] Two h = absurd (cc)
from_ends [] Three h = absurd (cc)
from_ends [] AfterE0 h = absurd (cc)
from_ends [] AfterEd h = absurd (cc)
from_ends [] AfterEf h = absurd (cc)
from_ends [] AfterEfBf h = absurd (cc)
from_ends [] AfterF0 h = absurd (cc)
from_ends [] AfterF4 h = absurd (cc)
from_ends (b ∷ text) w h = from_byte b text w (wide_next w b) refl (λ next k. from_ends text next k) h
