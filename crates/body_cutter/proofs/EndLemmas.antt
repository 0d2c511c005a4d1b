-- The end of a text.
use Rattle.std.proofs.Common.{◌≡◌, ◌∙◌, ◌+◌, ◌-◌, ◌≤◌, ℕ, Bool, ◌||◌, List, ◌++◌, length, drop, refl, sym, ap, arith, length-append, length-drop}
use Rattle.std.specs.Prelude.{nat_eq, codes}
use Rattle.std.specs.List.{ends_with}
use Rattle.std.specs.Cmp.Lexicographic.{pointwise}
use Rattle.std.proofs.lemmas.List.{drop-drop, drop-append-le}
use Rattle.body_cutter.specs.Ends.{last_bytes}
use Rattle.body_cutter.specs.Refusal.{ends_in_section_start}

-- the end of the last bytes is that of all
tail_same : (n : ℕ) (bytes : List ℕ) → n ≤ 8 → drop (length (last_bytes bytes) - n) (last_bytes bytes) ≡ drop (length bytes - n) bytes
tail_same n bytes within =
    drop-drop (length (last_bytes bytes) - n) (length bytes - 8) bytes
    ∙ ap (λ (k : ℕ). drop k bytes) (by (length bytes) (length (last_bytes bytes)) (length-drop (length bytes - 8) bytes))
  where
    by : (l k : ℕ) → k ≡ l - (l - 8) → (l - 8) + (k - n) ≡ l - n
    by l k e = omega (arith, within, e)

-- with more after them
pub last_append : (bytes more : List ℕ) → last_bytes (last_bytes bytes ++ more) ≡ last_bytes (bytes ++ more)
last_append bytes more =
    let k = length bytes - 8 in
    let joined : last_bytes bytes ++ more ≡ drop k (bytes ++ more) = sym (drop-append-le k bytes more (omega arith)) in
    ap last_bytes joined
    ∙ drop-drop (length (drop k (bytes ++ more)) - 8) k (bytes ++ more)
    ∙ ap (λ (n : ℕ). drop n (bytes ++ more)) (by (length bytes) (length more) (length (drop k (bytes ++ more))) (length-drop k (bytes ++ more) ∙ ap (λ (n : ℕ). n - k) (length-append bytes more)))
    ∙ ap (λ (n : ℕ). drop (n - 8) (bytes ++ more)) (sym (length-append bytes more))
  where
    by : (l m n : ℕ) → n ≡ (l + m) - (l - 8) → (l - 8) + (n - 8) ≡ (l + m) - 8
    by l m n e = omega (arith, e)

short_same : (bytes beginning : List ℕ) → length beginning ≤ 8 → ends_with nat_eq (last_bytes bytes) beginning ≡ ends_with nat_eq bytes beginning
short_same bytes beginning within = ap (λ (xs : List ℕ). pointwise nat_eq beginning xs) (tail_same (length beginning) bytes within)

or_same : {a b c d : Bool} → a ≡ b → c ≡ d → (a || c) ≡ (b || d)
or_same e f = cc

-- whether a text ends like an unfinished beginning of a CDATA section is told by its last bytes
pub section_start_same : (bytes : List ℕ) → ends_in_section_start (last_bytes bytes) ≡ ends_in_section_start bytes
unfolding ends_in_section_start
section_start_same bytes =
    or_same (short_same bytes (codes "<!") (omega arith))
    (or_same (short_same bytes (codes "<![") (omega arith))
    (or_same (short_same bytes (codes "<![C") (omega arith))
    (or_same (short_same bytes (codes "<![CD") (omega arith))
    (or_same (short_same bytes (codes "<![CDA") (omega arith))
    (or_same (short_same bytes (codes "<![CDAT") (omega arith))
    (or_same (short_same bytes (codes "<![CDATA") (omega arith)) refl))))))
