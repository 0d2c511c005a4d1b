-- What is done to the line of one wire.
use Rattle.std.proofs.Common.{◌≡◌, ◌≢◌, ◌<◌, ◌⊎◌, ◌∙◌, inl, inr, ℕ, Bool, List, length, get_or, set, refl, sym, ap, subst, arith, Result, Ok, Err, OnOk}
use Rattle.std.specs.Prelude.{All}
use Rattle.std.proofs.lemmas.Bool.{cases_eq}
use Rattle.std.proofs.lemmas.List.{get_or-set_other, get_or-set_same, get_or_default, length-set}
use Rattle.stream_backend.specs.Lines.{Line}
use Rattle.stream_backend.specs.Serving.{AreApart, Hears, OnWire}

module _ (xs : List Line) (at wire : ℕ) (R : Line → Line → Type 0) (line line' : Line) where
  pub on_wire_at : AreApart xs → at < length xs → ((d : Line) → (get_or xs at d).wire ≡ wire) → line ≡ get_or xs at line → R line line' → OnWire wire R xs (set xs at line')
  on_wire_at apart within named is done = record {
    count = length-set xs at line';
    here = λ k d n w. by_place k d (apart k at d n within (w ∙ sym (named d)));
    others = λ k d n w. get_or-set_other xs at k line' d (other k d w);
  }
    where
      by_place : (k : ℕ) (d : Line) → k ≡ at → R (get_or xs k d) (get_or (set xs at line') k d)
      by_place k d e =
          subst (λ (j : ℕ). R (get_or xs j d) (get_or (set xs at line') j d)) (sym e)
          (subst (λ (t : Line). R (get_or xs at d) t) (sym (get_or-set_same xs at line' d within))
          (subst (λ (t : Line). R t line') (is ∙ get_or_default xs at line d within) done))

      other : (k : ℕ) (d : Line) → (get_or xs k d).wire ≢ wire → k ≢ at
      other k d w e = w (ap (λ (j : ℕ). (get_or xs j d).wire) e ∙ named d)

  pub on_wire_done : {E : Type 0} (r : Result (Unit {0}) E) → AreApart xs → at < length xs → ((d : Line) → (get_or xs at d).wire ≡ wire) → line ≡ get_or xs at line → OnOk r (R line line') → OnOk r (OnWire wire R xs (set xs at line'))
  on_wire_done {E} (Ok x) apart within named is done = on_wire_at apart within named is done
  on_wire_done {E} (Err e) apart within named is done = tt

pub on_no_wire : (xs : List Line) (wire : ℕ) (R : Line → Line → Type 0) → All (λ (line : Line). line.wire ≢ wire) xs → OnWire wire R xs xs
on_no_wire xs wire R none = record { count = refl; here = λ k d n w. absurd (none k d n w); others = λ k d n w. refl }

-- one more was heard of, or wasn't
pub hears_more : (xs ys : List Line) (i : ℕ) (line line' : Line) → Hears xs ys → i < length ys → line ≡ get_or ys i line → line' ≡ record line { noisy = line'.noisy } → Hears xs (set ys i line')
hears_more xs ys i line line' h within is to = record {
  count = length-set ys i line' ∙ h.count;
  each = λ k d n. by_place k d n (cases_eq k i);
}
  where
    by_place : (k : ℕ) (d : Line) → k < length xs → (k ≡ i) ⊎ (k ≡ i → ⊥) → get_or (set ys i line') k d ≡ record (get_or xs k d) { noisy = (get_or (set ys i line') k d).noisy }
    by_place k d n (inr apart) =
        subst (λ (t : Line). t ≡ record (get_or xs k d) { noisy = t.noisy }) (sym (get_or-set_other ys i k line' d apart)) (h.each k d n)
    by_place k d n (inl e) =
        let new : get_or (set ys i line') k d ≡ line' = ap (λ (j : ℕ). get_or (set ys i line') j d) e ∙ get_or-set_same ys i line' d within in
        let old : line ≡ get_or ys k d = is ∙ get_or_default ys i line d within ∙ ap (λ (j : ℕ). get_or ys j d) (sym e) in
        subst (λ (t : Line). t ≡ record (get_or xs k d) { noisy = t.noisy }) (sym new)
        (to ∙ ap (λ (t : Line). record t { noisy = line'.noisy }) (old ∙ h.each k d n))
