-- A gate begins with the rule.
use Rattle.std.proofs.Common.{◌≡◌, ℕ, zero, suc, ◌<◌, List, [], ◌∷◌, length, All, Some, None, refl, sym, subst, arith}
use mathlib.Core.Option.{some, some-ne-none, some-injective}
use lib.ListN.{get_elem?}
use Rattle.atomic_table.specs.Table.{opening}
use Rattle.parked_gate.specs.declared.view.View.{View}
use Rattle.parked_gate.specs.Histories.{calls_of}
use Rattle.parked_gate.specs.Rule.{first_view, Fits, Kept}
use Rattle.parked_gate.proofs.Lists.{Some-injective, None-ne-Some, begins_itself, calls_all}

module _ {O E : Type 0} (history : O → List E) (caller_of : E → ℕ) where
  pub opens : (x : O) → All (λ e. caller_of e ≡ 0) (history x)
      → Kept history caller_of (opening (length (history x) ∷ 0 ∷ 0 ∷ 1 ∷ []) (Some x ∷ []) (first_view (history x)))
  opens x own =
      record {
        log = log;
        drawn = 0;
        serving = 0;
        numbers = 1;
        turns = nobodys;
        owners = nobodys;
        out = None;
        words = refl;
        queue = refl;
        room = omega arith;
        place = (x, refl, refl);
        callers = λ j d within. (let first = own j d within in omega arith);
        fits = one;
      }
    where
      log : List E
      log = history x

      nobodys : ℕ → ℕ
      nobodys n = 0

      one : (seat : ℕ) (v : View E) → get_elem? (first_view (history x) ∷ []) seat ≡ some v → Fits caller_of (history x) 0 0 1 nobodys nobodys None seat v
      one zero v e =
          subst (Fits caller_of (history x) 0 0 1 nobodys nobodys None 0) (some-injective (first_view (history x)) v e)
          (record {
            turn = λ t has. absurd (None-ne-Some t has);
            held = λ l has. absurd (None-ne-Some l has);
            number = λ n has. subst (λ (m : ℕ). (m < 1) × (nobodys m ≡ 0) × (calls_of caller_of m (history x) ≡ history x)) (Some-injective 0 n has)
                (omega arith, refl, calls_all caller_of 0 (history x) own);
            gift = λ n has. absurd (None-ne-Some n has);
            seen = begins_itself (history x);
            met = λ m has. absurd (None-ne-Some m has);
          })
      one (suc seat) v e = absurd (some-ne-none v (sym e))
