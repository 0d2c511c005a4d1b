-- Ids one after the other.
use Rattle.std.proofs.Common.{◌≡◌, ℕ, zero, suc, ◌+◌, ◌-◌, ◌≤◌, List, [], ◌∷◌, ◌++◌, refl, ◌∙◌, ap, arith}
use Rattle.client_run.specs.Working.{ids_between, ids_from}

ids-append : (rid a b : ℕ) → ids_from rid a ++ ids_from (rid + a) b ≡ ids_from rid (a + b)
ids-append rid zero b =
    let same : rid + 0 ≡ rid = omega arith in
    let all : b ≡ 0 + b = omega arith in
    ap (λ n. ids_from n b) same ∙ ap (ids_from rid) all
ids-append rid (suc a) b =
    let same : rid + suc a ≡ rid + 1 + a = omega arith in
    let all : suc (a + b) ≡ suc a + b = omega arith in
    ap (λ n. rid ∷ (ids_from (rid + 1) a ++ ids_from n b)) same ∙ ap (λ ids. rid ∷ ids) (ids-append (rid + 1) a b) ∙ ap (ids_from rid) all

pub ids_join : (first rid last : ℕ) → first ≤ rid → rid ≤ last → ids_between first rid ++ ids_between (rid + 1) last ≡ ids_between first last
ids_join first rid last low high =
    let next : rid + 1 ≡ first + (rid + 1 - first) = omega (arith, low) in
    let count : rid + 1 - first + (last + 1 - (rid + 1)) ≡ last + 1 - first = omega (arith, low, high) in
    ap (λ n. ids_between first rid ++ ids_from n (last + 1 - (rid + 1))) next ∙ ids-append first (rid + 1 - first) (last + 1 - (rid + 1)) ∙ ap (ids_from first) count

pub ids_first : (rid last : ℕ) → rid ≤ last → ids_between rid last ≡ rid ∷ ids_between (rid + 1) last
ids_first rid last within =
    let count : last + 1 - rid ≡ suc (last + 1 - (rid + 1)) = omega (arith, within) in
    ap (ids_from rid) count

pub ids_none : (next last : ℕ) → (next ≤ last → ⊥) → ids_between next last ≡ []
ids_none next last past =
    let count : last + 1 - next ≡ 0 = omega (arith, past) in
    ap (ids_from next) count
