-- Where a reading stops, it stops whatever follows.
use Rattle.std.proofs.Common.{◌≡◌, ◌∙◌, ◌+◌, ℕ, true, false, List, [], ◌∷◌, ◌++◌, length, take, refl, sym, ap, arith, append_assoc}
use Rattle.std.proofs.Math.Seq.{take-append-add}
use Rattle.std.specs.Prelude.{Option, None, Some}
use Rattle.body_cutter.specs.Reader.{State, step}
use Rattle.body_cutter.specs.Refusal.{Reading, Stopped, reading, is_accepted}

-- the text has b at this place, and no text that goes so far goes on
abbrev pub StopsAt : List ℕ → ℕ → State → ℕ → ℕ → State → Type 0
StopsAt text at s place b end = (front rest : List ℕ) × (text ≡ front ++ b ∷ rest) × (at + length front ≡ place) × ((more : List ℕ) → reading at s (front ++ b ∷ more) ≡ Stopped place b end)

-- what a step makes of a reading
abbrev onward : Option State → ℕ → ℕ → State → List ℕ → Reading
onward o at x s text = elim o [ None ↦ Stopped at x s | Some next ↦ reading (at + 1) next text ]

stop_here : (at x : ℕ) (s : State) (text : List ℕ) (place b : ℕ) (end : State) → step s at x ≡ None → at ≡ place → x ≡ b → Stopped at x s ≡ Stopped place b end → StopsAt (x ∷ text) at s place b end
unfolding reading
stop_here at x s text place b end e p q h =
    ([], text, ap (λ (y : ℕ). y ∷ text) q, omega arith, λ more. ap (λ (y : ℕ). reading at s (y ∷ more)) (sym q) ∙ ap (λ (o : Option State). onward o at x s more) e ∙ h)

stop_later : (at x : ℕ) (s next : State) (text : List ℕ) (place b : ℕ) (end : State) → step s at x ≡ Some next → StopsAt text (at + 1) next place b end → StopsAt (x ∷ text) at s place b end
unfolding reading
stop_later at x s next text place b end e k =
    (x ∷ k.0, k.1, ap (λ (t : List ℕ). x ∷ t) k.2, omega (arith, k.3), λ more. ap (λ (o : Option State). onward o at x s (k.0 ++ b ∷ more)) e ∙ k.4 more)

stops_after : (x : ℕ) (text : List ℕ) (at : ℕ) (s : State) (place b : ℕ) (end : State) (o : Option State) → step s at x ≡ o →
    ((next : State) → reading (at + 1) next text ≡ Stopped place b end → StopsAt text (at + 1) next place b end) →
    onward o at x s text ≡ Stopped place b end → StopsAt (x ∷ text) at s place b end
stops_after x text at s place b end None e later h = stop_here at x s text place b end e (cc) (cc) h
stops_after x text at s place b end (Some next) e later h = stop_later at x s next text place b end e (later next h)

pub stops : (text : List ℕ) (at : ℕ) (s : State) (place b : ℕ) (end : State) → reading at s text ≡ Stopped place b end → StopsAt text at s place b end
unfolding reading
stops [] at s place b end h = absurd (cc)
stops (x ∷ text) at s place b end h = stops_after x text at s place b end (step s at x) refl (λ next k. stops text (at + 1) next place b end k) h

-- no text that begins so is accepted
pub never_on : (text : List ℕ) (s : State) (place b : ℕ) (end : State) → reading 0 s text ≡ Stopped place b end → (more : List ℕ) → is_accepted (reading 0 s (take (place + 1) text ++ more)) ≡ true → ⊥
never_on text s place b end h more t =
    let k = stops text 0 s place b end h in
    let len : place + 1 ≡ length k.0 + 1 = omega (arith, k.3) in
    let front : take (place + 1) text ≡ k.0 ++ b ∷ [] = ap (λ (n : ℕ). take n text) len ∙ ap (λ (t : List ℕ). take (length k.0 + 1) t) k.2 ∙ take-append-add k.0 (b ∷ k.1) 1 in
    let whole : take (place + 1) text ++ more ≡ k.0 ++ b ∷ more = ap (λ (t : List ℕ). t ++ more) front ∙ append_assoc k.0 (b ∷ []) more in
    never (sym (ap (λ (t : List ℕ). is_accepted (reading 0 s t)) whole ∙ ap is_accepted (k.4 more)) ∙ t)
  where
    never : false ≡ true → ⊥
    never e = cc
